-- The reading of a frame by places, as the code goes.
use mathlib.Core.Path.{◌≡◌, refl, ap}
use mathlib.Core.Bool.{Bool, true, false, cond}
use mathlib.Core.List.{List}
use Prim.Native.Nat.{ℕ, zero, suc, ◌+◌, ◌-◌, ◌<◌, ◌≤◌}
use native.Mathlib.Decide.{dec_le}
use native.Mathlib.Omega.{arith}
use borrow.Author.Tests.{le-leb, lt-leb}
use lib.Dec.{leb, eqb, lit<, lit≤}
use lib.ListN.{length, take, drop, length-drop}
use lib.Seq.{get_or-take, drop-drop}
use Rattle.constants.specs.declared.refusal.Refusal.{Refusal}
use Rattle.constants.specs.Number.{number_of}
use Rattle.constants.proofs.Number.{named, named-number_of}
use Rattle.wire.proofs.Cases.{differ}
use Rattle.wire.specs.Varuint.{varuint}
use Rattle.parse.specs.Test.{test}
use Rattle.frame.specs.FrameRead.{FrameRead, More, Refused}
use Rattle.frame.specs.Frame.{once_whole, is_magic, known_kind, frame_payload, frame_of}
use Rattle.frame.specs.Places.{number_at, header_at, judged}

-- a field that ends at e
unfoldable pub field : List ℕ → ℕ → Bool → ℕ → FrameRead → FrameRead
field s e right number next = cond (leb e (length s)) (test right (Refused number) next) More

module _ (s : List ℕ) (e : ℕ) (right : Bool) (number : ℕ) (next : FrameRead) where
  pub short : length s < e → field s e right number next ≡ More
  unfolding field
  short h = rw (lt-leb e (length s) h)

  pub wrong : e ≤ length s → right ≡ false → field s e right number next ≡ Refused number
  unfolding field
  wrong h w = rw (le-leb e (length s) h, w)

  pub passed : e ≤ length s → right ≡ true → field s e right number next ≡ next
  unfolding field
  passed h w = rw (le-leb e (length s) h, w)

-- The header's judgement refuses with its own number: no refusal has the number 0 or 1.
pub judged_refusal : (e : Refusal) (next : FrameRead) → judged (number_of e) next ≡ Refused (number_of e)
judged_refusal e next = go (number_of e) (ap number_of (named-number_of e))
  where
    go : (n : ℕ) → number_of (named n) ≡ n → judged n next ≡ Refused n
    go zero h = differ cc
    go (suc zero) h = differ cc
    go (suc (suc n)) h = refl

abbrev pub from_length : List ℕ → FrameRead
from_length s = cond (leb 25 (length s)) (frame_payload (length s) (header_at s) (varuint s 25)) More

abbrev pub from_flags : List ℕ → FrameRead
from_flags s = field s 5 (eqb (number_at s 4 1) 0) 5 (from_length s)

abbrev pub from_kind : List ℕ → FrameRead
from_kind s = field s 4 (known_kind (number_at s 3 1)) 4 (from_flags s)

abbrev pub from_version : List ℕ → FrameRead
from_version s = field s 3 (eqb (number_at s 2 1) 1) 3 (from_kind s)

-- n bytes from a place on
whole-at : (n at : ℕ) (s : List ℕ) → 0 < n → (next : List ℕ → List ℕ → FrameRead)
    → once_whole n (drop at s) next ≡ cond (leb (at + n) (length s)) (next (take n (drop at s)) (drop (at + n) s)) More
unfolding once_whole
whole-at n at s p next = elim (dec_le (at + n) (length s)) [
  | yes l ↦ rw (length-drop at s, le-leb n (length s - at) (omega arith), le-leb (at + n) (length s) l, drop-drop n at s)
  | no l ↦ rw (length-drop at s, lt-leb n (length s - at) (omega arith), lt-leb (at + n) (length s) (omega arith))
]

-- of two fields in a row without a test, the later tells whether both are whole
both : (a b n : ℕ) → a ≤ b → (x y : FrameRead) → cond (leb a n) (cond (leb b n) x y) y ≡ cond (leb b n) x y
both a b n h x y = elim (dec_le b n) [
  | yes l ↦ rw (le-leb b n l, le-leb a n (omega arith))
  | no l ↦ rw (lt-leb b n (omega arith)) (same (leb a n))
]
  where
    same : (t : Bool) → cond t y y ≡ y
    same true = refl
    same false = refl

pub by-places : (s : List ℕ) → frame_of s ≡ field s 2 (is_magic s) 2 (from_version s)
unfolding frame_of field
by-places s =
    rw (
      whole-at 2 0 s (lit< tt),
      whole-at 1 2 s (lit< tt),
      whole-at 1 3 s (lit< tt),
      whole-at 1 4 s (lit< tt),
      whole-at 4 5 s (lit< tt),
      whole-at 4 9 s (lit< tt),
      whole-at 4 13 s (lit< tt),
      whole-at 8 17 s (lit< tt),
      both 17 25 (length s) (lit≤ tt),
      both 13 25 (length s) (lit≤ tt),
      both 9 25 (length s) (lit≤ tt),
      get_or-take 2 s 0 0 (lit< tt),
      get_or-take 2 s 1 0 (lit< tt),
    )
