-- The answers of `entry_length`, in the code's own terms.
use mathlib.Core.Path.{◌≡◌, refl, sym, ap, ◌∙◌}
use mathlib.Core.Bool.{true, false}
use mathlib.Core.List.{List, [], ◌∷◌}
use Prim.Native.Nat.{ℕ, zero, suc, ◌+◌, ◌-◌, ◌≤◌, ◌<◌}
use native.Mathlib.Omega.{arith}
use lib.ListN.{length, get_or, take, drop, length-drop}
use lib.Seq.{take_all}
use Rattle.std.proofs.Common.{Some}
use Rattle.frame.specs.declared.Header.{Header}
use Rattle.frame.specs.FrameRead.{FrameRead, Frame}
use Rattle.frame.specs.Frame.{frame_of}
use Rattle.frame.proofs.Answers.{read-bounds}
use Rattle.record.specs.Entry.{is_side, size_of, answered, entry_length}

pub answered-some : (n : ℕ) → 0 < n → Some n ≡ answered n
answered-some zero h = absurd (omega arith)
answered-some (suc n) h = refl

pub no_bytes : (s : List ℕ) → length s < 1 → 0 ≡ entry_length s
unfolding entry_length
no_bytes [] h = refl
no_bytes (b ∷ s) h = absurd (omega arith)

pub no-side : (s : List ℕ) → (length s ≡ 0 → ⊥) → is_side (get_or s 0 0) ≡ false → 0 ≡ entry_length s
unfolding entry_length
no-side [] h e = refl
no-side (b ∷ s) h e = rw e

-- the bytes after the side byte
rest : (s : List ℕ) → take (length s - 1) (drop 1 s) ≡ drop 1 s
rest s = take_all (length s - 1) (drop 1 s) (omega (arith, length-drop 1 s))

after-side : (s : List ℕ) → (length s ≡ 0 → ⊥) → is_side (get_or s 0 0) ≡ true → size_of (frame_of (drop 1 s)) ≡ entry_length s
unfolding entry_length
after-side [] h e = absurd (h refl)
after-side (b ∷ s) h e = rw e

module _ (s : List ℕ) (h : length s ≡ 0 → ⊥) (v : FrameRead) (is : v ≡ frame_of (take (length s - 1) (drop 1 s))) where
  pub by-frame : is_side (get_or s 0 0) ≡ true → size_of v ≡ entry_length s
  by-frame e = ap size_of (is ∙ ap frame_of (rest s)) ∙ after-side s h e

  pub within : (header : Header) (place n : ℕ) → v ≡ Frame header place n → 1 + place + n ≤ length s
  within header place n e =
      let b = read-bounds (take (length s - 1) (drop 1 s)) (sym is ∙ e) in
      omega (arith, b.inside, ap length (rest s), length-drop 1 s, h)
