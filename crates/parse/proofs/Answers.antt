-- Laws of readers: what holds of an answer that may accept, and of one that does.
use mathlib.Core.Path.{◌≡◌, refl, ◌∙◌}
use mathlib.Core.List.{List, [], ◌++◌, append_assoc}
use mathlib.Core.Bool.{Bool, true, false}
use Prim.Native.Nat.{ℕ, ◌+◌}
use native.Mathlib.Omega.{arith}
use lib.ListN.{length, length-append}
use Rattle.wire.proofs.Cases.{differ}
use Rattle.parse.specs.Reader.{CursorOf, AnswerOf, Accepted, ReaderOf, refused, seen, and_then, check}

-- What holds of an answer that accepts.
pub data Seen {E A : Type 0} (P : A → CursorOf E → Type 0) : AnswerOf E A → Type 0 where
  nothing : {n p : ℕ} → Seen P (refused n p)
  value : {a : A} {c : CursorOf E} → P a c → Seen P (seen a c)

module _ {E A : Type 0} {P : A → CursorOf E → Type 0} where
  pub seen-then : {B : Type 0} (m : AnswerOf E B) {f : B → ReaderOf E A} → ((b : B) (c : CursorOf E) → m ≡ seen b c → Seen P (f b c)) → Seen P (and_then m f)
  unfolding and_then
  seen-then (refused n p) h = nothing
  seen-then (seen b c) h = h b c refl

pub check_true : {E : Type 0} (b : Bool) (n p : ℕ) (c : CursorOf E) {u : Unit {0}} {c' : CursorOf E} → check b n p c ≡ seen u c' → b ≡ true
unfolding check
check_true true n p c e = refl
check_true false n p c e = cc

-- An answer that, where it accepts, has passed over some bytes u from the cursor c, and R holds of what was read and of u.
pub data Reads {E A : Type 0} (c : CursorOf E) (R : A → List E → Type 0) : AnswerOf E A → Type 0 where
  not-ok : {n p : ℕ} → Reads c R (refused n p)
  ok : {a : A} {c' : CursorOf E} (u : List E) → c.left ≡ u ++ c'.left → c'.at ≡ c.at + length u → R a u → Reads c R (seen a c')

module _ {E A : Type 0} {R : A → List E → Type 0} where
  pub stay : {c : CursorOf E} {a : A} → R a [] → Reads c R (seen a c)
  stay {c} r = ok {c' = c} [] refl (omega arith) r

  pub reads_then : {B : Type 0} {Q : B → List E → Type 0} {c : CursorOf E} {m : AnswerOf E B} {f : B → ReaderOf E A} → Reads c Q m
      → ((b : B) (c' : CursorOf E) (u : List E) → Q b u → Reads c' (λ a u'. R a (u ++ u')) (f b c')) → Reads c R (and_then m f)
  unfolding and_then
  reads_then not-ok h = not-ok
  reads_then {c} {f} (ok {a = b} {c'} u l k q) h = go (f b c') (h b c' u q)
    where
      go : (m : AnswerOf E A) → Reads c' (λ a u'. R a (u ++ u')) m → Reads c R m
      go m not-ok = not-ok
      go m (ok {c' = c''} u' l' k' r) = ok {c' = c''} (u ++ u') (l ∙ rw (append_assoc, l')) (simp length-append (omega arith)) r

  pub reads-check : (b : Bool) (n p : ℕ) (c : CursorOf E) (f : Unit {0} → ReaderOf E A) → (b ≡ true → Reads c R (f tt c)) → Reads c R (and_then (check b n p c) f)
  unfolding and_then check
  reads-check true n p c f h = h refl
  reads-check false n p c f h = not-ok

pub reads-map : {E A : Type 0} {c : CursorOf E} {R Q : A → List E → Type 0} {m : AnswerOf E A} → Reads c R m → ((a : A) (u : List E) → R a u → Q a u) → Reads c Q m
reads-map not-ok h = not-ok
reads-map (ok {a} u l k r) h = ok u l k (h a u r)

-- An answer that accepts, and of what it has Q holds.
pub data Yields {E A : Type 0} (Q : A → CursorOf E → Type 0) : AnswerOf E A → Type 0 where
  gives : {a : A} {c : CursorOf E} → Q a c → Yields Q (seen a c)

module _ {E A B : Type 0} {R : B → CursorOf E → Type 0} where
  pub yields-then : {Q : A → CursorOf E → Type 0} {m : AnswerOf E A} {f : A → ReaderOf E B} → Yields Q m → ((a : A) (c : CursorOf E) → Q a c → Yields R (f a c)) → Yields R (and_then m f)
  unfolding and_then
  yields-then (gives {a} {c} q) h = h a c q

  -- A step whose answer is known.
  pub goes : {m : AnswerOf E A} {a : A} {c : CursorOf E} (f : A → ReaderOf E B) → m ≡ seen a c → Yields R (f a c) → Yields R (and_then m f)
  unfolding and_then
  goes f e y = rw e y

pub passes : {E : Type 0} (b : Bool) (n p : ℕ) (c : CursorOf E) → b ≡ true → check b n p c ≡ seen tt c
unfolding check
passes b n p c e = rw e

-- The bytes that an accepting answer passed over.
pub reads_end : {E A : Type 0} {c c' : CursorOf E} {R : A → List E → Type 0} {m : AnswerOf E A} {a : A} → Reads c R m → m ≡ seen a c'
    → (u : List E) × (c.left ≡ u ++ c'.left) × R a u
reads_end {E} {c} {c'} {R} {a} r e = go (rw e at r)
  where
    go : Reads c R (seen a c') → (u : List E) × (c.left ≡ u ++ c'.left) × R a u
    go (ok u l k q) = (u, l, q)

-- A test moves no cursor.
pub check-stays : {E : Type 0} (b : Bool) (n p : ℕ) (c : CursorOf E) {u : Unit {0}} {c' : CursorOf E} → check b n p c ≡ seen u c' → c ≡ c'
unfolding check
check-stays true n p c e = cc
check-stays false n p c e = cc

-- What two readers one after the other accept, each accepts.
pub then-inv : {E A B : Type 0} (m : AnswerOf E A) (f : A → ReaderOf E B) {b : B} {c : CursorOf E} → and_then m f ≡ seen b c → (a : A) × (c' : CursorOf E) × (m ≡ seen a c') × (f a c' ≡ seen b c)
unfolding and_then
then-inv (refused n p) f e = differ cc
then-inv (seen a c') f e = (a, c', refl, e)

pub yields-end : {E A : Type 0} {Q : A → CursorOf E → Type 0} {m : AnswerOf E A} → Yields Q m → (a : A) × (c : CursorOf E) × (m ≡ seen a c) × Q a c
yields-end (gives {a} {c} q) = (a, c, refl, q)

pub seen_end : {E A : Type 0} {P : A → CursorOf E → Type 0} {m : AnswerOf E A} {a : A} {c : CursorOf E} → Seen P m → m ≡ seen a c → P a c
seen_end {P} {a} {c} s e = go (rw e at s)
  where
    go : Seen P (seen a c) → P a c
    go (value p) = p

-- Two facts of one answer.
pub seen-both : {E A : Type 0} {P Q : A → CursorOf E → Type 0} {m : AnswerOf E A} → Seen P m → Seen Q m → Seen (λ a c. P a c × Q a c) m
seen-both nothing nothing = nothing
seen-both (value p) (value q) = value (p, q)

-- The laws of `Seen` for a step of which something is known, and for a test.
module _ {E A : Type 0} {P : A → CursorOf E → Type 0} where
  pub seen-after : {B : Type 0} {Q : B → CursorOf E → Type 0} {m : AnswerOf E B} {f : B → ReaderOf E A} → Seen Q m
      → ((b : B) (c : CursorOf E) → Q b c → Seen P (f b c)) → Seen P (and_then m f)
  unfolding and_then
  seen-after nothing h = nothing
  seen-after (value {a = b} {c} q) h = h b c q

  pub seen-check : (b : Bool) (n p : ℕ) (c : CursorOf E) (f : Unit {0} → ReaderOf E A) → (b ≡ true → Seen P (f tt c)) → Seen P (and_then (check b n p c) f)
  unfolding and_then check
  seen-check true n p c f h = h refl
  seen-check false n p c f h = nothing

  pub seen-map : {Q : A → CursorOf E → Type 0} {m : AnswerOf E A} → Seen Q m → ((a : A) (c : CursorOf E) → Q a c → P a c) → Seen P m
  seen-map nothing h = nothing
  seen-map (value {a} {c} q) h = value (h a c q)

-- Where two readers one after the other accept, the first does; where a test stands first, it holds and the rest accepts.
pub accepted-first : {E A B : Type 0} (m : AnswerOf E A) (f : A → ReaderOf E B) → Accepted (and_then m f) → Accepted m
unfolding and_then
accepted-first (refused n p) f h = h
accepted-first (seen a c) f h = tt

pub accepted-check : {E A : Type 0} (b : Bool) (n p : ℕ) (c : CursorOf E) (f : Unit {0} → ReaderOf E A) → Accepted (and_then (check b n p c) f) → (b ≡ true) × Accepted (f tt c)
unfolding and_then check
accepted-check true n p c f h = (refl, h)
accepted-check false n p c f h = absurd h

-- Where the second of two readers has another in its place, which accepts or refuses alike.
module _ {E A B C : Type 0} (m : AnswerOf E A) (f : A → ReaderOf E B) (g : A → ReaderOf E C) where
  pub accepted-alike : Accepted (and_then m f) → ((a : A) (c : CursorOf E) → Accepted (f a c) → Accepted (g a c)) → Accepted (and_then m g)
  unfolding and_then
  accepted-alike = elim m as (λ m. Accepted (and_then m f) → ((a : A) (c : CursorOf E) → Accepted (f a c) → Accepted (g a c)) → Accepted (and_then m g)) [
    | refused n p ↦ λ a h. a
    | seen a c ↦ λ b h. h a c b
  ]

  pub refused-alike : {n p : ℕ} → and_then m f ≡ refused n p → ((a : A) (c : CursorOf E) → f a c ≡ refused n p → g a c ≡ refused n p) → and_then m g ≡ refused n p
  unfolding and_then
  refused-alike {n} {p} = elim m as (λ m. and_then m f ≡ refused n p → ((a : A) (c : CursorOf E) → f a c ≡ refused n p → g a c ≡ refused n p) → and_then m g ≡ refused n p) [
    | refused n p ↦ λ e h. cc
    | seen a c ↦ λ e h. h a c e
  ]

-- Steps whose answer is known.
pub stops : {E A B : Type 0} {m : AnswerOf E A} {n p : ℕ} (f : A → ReaderOf E B) → m ≡ refused n p → and_then m f ≡ refused n p
unfolding and_then
stops f e = rw e

pub steps : {E A B : Type 0} {m : AnswerOf E A} {a : A} {c : CursorOf E} {r : AnswerOf E B} (f : A → ReaderOf E B) → m ≡ seen a c → f a c ≡ r → and_then m f ≡ r
unfolding and_then
steps f e k = rw e k

pub fails : {E B : Type 0} {b : Bool} {n p q : ℕ} (c : CursorOf E) (f : Unit {0} → ReaderOf E B) → b ≡ false → p ≡ q → and_then (check b n p c) f ≡ refused n q
unfolding and_then check
fails c f e k = rw (e, k)

-- What is passed over is before what is left.
pub arrives : {E A : Type 0} {c c' : CursorOf E} {R : A → List E → Type 0} {m : AnswerOf E A} {a : A} → Reads c R m → m ≡ seen a c'
    → c'.at + length c'.left ≡ c.at + length c.left
arrives {c} {c'} {R} {a} r e = go (rw e at r)
  where
    go : Reads c R (seen a c') → c'.at + length c'.left ≡ c.at + length c.left
    go (ok u l k q) = rw l (simp length-append (omega arith))
