-- Laws of readers that refuse: what stands at the place of a refusal, and what before it.
use mathlib.Core.Path.{◌≡◌, refl, ◌∙◌}
use mathlib.Core.List.{List, ◌++◌, append_assoc}
use mathlib.Core.Bool.{Bool, true, false}
use Prim.Native.Nat.{ℕ, ◌+◌}
use native.Mathlib.Omega.{arith}
use lib.ListN.{length, length-append}
use Rattle.parse.specs.Reader.{CursorOf, AnswerOf, ReaderOf, refused, seen, and_then, check}
use Rattle.parse.proofs.Answers.{Reads, not-ok, ok}

-- An answer that, where it refuses, names the place of some x, after u from the cursor c and before `rest`, of which F holds.
pub data Blames {E A : Type 0} (c : CursorOf E) (F : (u x rest : List E) → ℕ → Type 0) : AnswerOf E A → Type 0 where
  fine : {a : A} {c' : CursorOf E} → Blames c F (seen a c')
  blames : {n p : ℕ} (u x rest : List E) → c.left ≡ u ++ (x ++ rest) → p ≡ c.at + length u → F u x rest n → Blames c F (refused n p)

module _ {E A : Type 0} {c : CursorOf E} {F : (u x rest : List E) → ℕ → Type 0} where
  pub blames-then : {B : Type 0} {Q : B → List E → Type 0} {here : CursorOf E} {m : AnswerOf E B} {f : B → ReaderOf E A} → Reads here Q m → Blames c F m
      → ((b : B) (c' : CursorOf E) (u : List E) → m ≡ seen b c' → here.left ≡ u ++ c'.left → c'.at ≡ here.at + length u → Q b u → Blames c F (f b c'))
      → Blames c F (and_then m f)
  unfolding and_then
  blames-then not-ok (blames u x rest l k q) h = blames u x rest l k q
  blames-then (ok {a = b} {c'} u l k q) w h = h b c' u refl l k q

  pub blames-check : (b : Bool) (n p : ℕ) (c' : CursorOf E) (f : Unit {0} → ReaderOf E A) → (b ≡ false → Blames {A = A} c F (refused n p))
      → (b ≡ true → Blames c F (f tt c')) → Blames c F (and_then (check b n p c') f)
  unfolding and_then check
  blames-check true n p c' f g h = h refl
  blames-check false n p c' f g h = g refl

  -- Of an answer from further on.
  pub blames-on : {G : (u x rest : List E) → ℕ → Type 0} {c' : CursorOf E} {m : AnswerOf E A} (y : List E) → c.left ≡ y ++ c'.left → c'.at ≡ c.at + length y
      → Blames c' G m → ((u x rest : List E) (n : ℕ) → c'.left ≡ u ++ (x ++ rest) → G u x rest n → F (y ++ u) x rest n) → Blames c F m
  blames-on y l k fine h = fine
  blames-on y l k (blames {n} {p} u x rest l' k' q) h = blames {p = p} (y ++ u) x rest (l ∙ rw (l', append_assoc)) (simp length-append (omega arith)) (h u x rest n l' q)

  pub blames-map : {B : Type 0} {m : AnswerOf E B} {f : B → ReaderOf E A} → Blames c F m → ((b : B) (c' : CursorOf E) → Blames c F (f b c')) → Blames c F (and_then m f)
  unfolding and_then
  blames-map fine h = h _ _
  blames-map (blames u x rest l k q) h = blames u x rest l k q

-- The fault of an answer that refuses.
pub blames-end : {E A : Type 0} {c : CursorOf E} {F : (u x rest : List E) → ℕ → Type 0} {m : AnswerOf E A} {n p : ℕ} → Blames c F m → m ≡ refused n p
    → (u : List E) × (x : List E) × (rest : List E) × (c.left ≡ u ++ (x ++ rest)) × (p ≡ c.at + length u) × F u x rest n
blames-end {E} {A} {c} {F} {n} {p} b e = go (rw e at b)
  where
    go : Blames {A = A} c F (refused n p) → (u : List E) × (x : List E) × (rest : List E) × (c.left ≡ u ++ (x ++ rest)) × (p ≡ c.at + length u) × F u x rest n
    go (blames u x rest l k q) = (u, x, rest, l, k, q)
