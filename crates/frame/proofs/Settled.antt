-- Bytes after those that were judged change nothing: an answer other than `More` stays.
use mathlib.Core.Path.{◌≡◌, refl, sym, ap, ◌∙◌}
use mathlib.Core.Bool.{Bool, true, false, cond}
use mathlib.Core.List.{List, ◌++◌}
use Prim.Native.Nat.{ℕ, ◌+◌, ◌≤◌}
use native.Mathlib.Decide.{dec_le}
use native.Mathlib.Omega.{arith}
use borrow.Author.Tests.{le-leb, lt-leb}
use lib.Dec.{leb, eqb}
use lib.ListN.{length, drop, length-append, length-drop, get_or-append}
use lib.Seq.{take-append-le, drop-append-le}
use Rattle.wire.specs.Varuint.{VarUInt, Number, Cut, Malformed, front_var_u_int}
use Rattle.wire.proofs.Varuints.{front-settled}
use Rattle.wire.proofs.Cases.{differ}
use Rattle.parse.specs.Test.{test}
use Rattle.frame.specs.declared.Header.{Header}
use Rattle.frame.specs.FrameRead.{FrameRead, More, Frame, Refused}
use Rattle.frame.specs.Frame.{is_magic, known_kind, frame_payload, frame_of}
use Rattle.frame.specs.Places.{number_at, header_at}
use Rattle.frame.proofs.Places.{field, from_length, by-places}

-- the answer a may still become b
pub data Before : FrameRead → FrameRead → Type 0 where
  more : {b : FrameRead} → Before More b
  same : {a : FrameRead} → Before a a

module _ (s t : List ℕ) where
  longer : length s ≤ length (s ++ t)
  longer = omega (arith, length-append s t)

  number_same : (at n : ℕ) → at + n ≤ length s → number_at (s ++ t) at n ≡ number_at s at n
  number_same at n h = rw (drop-append-le at s t (omega arith), take-append-le n (drop at s) t (rw length-drop (omega arith)))

  field-before : (e : ℕ) (right right' : Bool) (number : ℕ) (next next' : FrameRead)
      → (e ≤ length s → right' ≡ right) → (e ≤ length s → Before next next') → Before (field s e right number next) (field (s ++ t) e right' number next')
  unfolding field
  field-before e right right' number next next' r f = elim (dec_le e (length s)) [
    | yes l ↦ rw (le-leb e (length s) l, le-leb e (length (s ++ t)) (omega (arith, longer)), r l) (tested right (f l))
    | no l ↦ rw (lt-leb e (length s) (omega arith)) more
  ]
    where
      tested : (b : Bool) → Before next next' → Before (test b (Refused number) next) (test b (Refused number) next')
      tested true h = h
      tested false h = same

  cut : (h : Header) (v : VarUInt) → Before (frame_payload (length s) h Cut) (frame_payload (length (s ++ t)) h v)
  unfolding frame_payload
  cut h v = more

  payload-before : (h : Header) (v : VarUInt) → Before (frame_payload (length s) h v) (frame_payload (length (s ++ t)) h v)
  unfolding frame_payload
  payload-before h Cut = more
  payload-before h Malformed = same
  payload-before h (Number n place) = tested (leb n 16384) _
    where
      tested : (b : Bool) (k : ℕ)
          → Before (test b (Refused k) (cond (leb (place + n) (length s)) (Frame h place n) More)) (test b (Refused k) (cond (leb (place + n) (length (s ++ t))) (Frame h place n) More))
      tested true k = elim (dec_le (place + n) (length s)) [
        | yes l ↦ rw (le-leb (place + n) (length s) l, le-leb (place + n) (length (s ++ t)) (omega (arith, longer))) same
        | no l ↦ rw (lt-leb (place + n) (length s) (omega arith)) more
      ]
      tested false k = same

  header-same : 25 ≤ length s → header_at (s ++ t) ≡ header_at s
  header-same h =
      rw (number_same 3 1 (omega arith), number_same 5 4 (omega arith), number_same 9 4 (omega arith), number_same 13 4 (omega arith), number_same 17 8 h)

  length_before : Before (from_length s) (from_length (s ++ t))
  length_before = elim (dec_le 25 (length s)) [
    | yes l ↦
        rw (le-leb 25 (length s) l, le-leb 25 (length (s ++ t)) (omega (arith, longer)), header-same l, drop-append-le 25 s t l)
        (read (front_var_u_int (drop 25 s) 25) refl)
    | no l ↦ rw (lt-leb 25 (length s) (omega arith)) more
  ]
    where
      kept : (v : VarUInt) → front_var_u_int (drop 25 s) 25 ≡ v → (v ≡ Cut → ⊥) → Before (frame_payload (length s) (header_at s) (front_var_u_int (drop 25 s) 25)) (frame_payload (length (s ++ t)) (header_at s) (front_var_u_int (drop 25 s ++ t) 25))
      kept v e h = rw (front-settled (drop 25 s) t 25 (λ c. h (sym e ∙ c))) (payload-before (header_at s) (front_var_u_int (drop 25 s) 25))

      read : (v : VarUInt) → front_var_u_int (drop 25 s) 25 ≡ v → Before (frame_payload (length s) (header_at s) (front_var_u_int (drop 25 s) 25)) (frame_payload (length (s ++ t)) (header_at s) (front_var_u_int (drop 25 s ++ t) 25))
      read Cut e = rw e (cut (header_at s) (front_var_u_int (drop 25 s ++ t) 25))
      read Malformed e = kept Malformed e (λ c. differ cc)
      read (Number n place) e = kept (Number n place) e (λ c. differ cc)

  pub answer-before : Before (frame_of s) (frame_of (s ++ t))
  answer-before =
      rw (by-places s, by-places (s ++ t))
      (field-before 2 _ _ 2 _ _ magic-same
      λ _. field-before 3 _ _ 3 _ _ (λ h. ap (λ (x : ℕ). eqb x 1) (number_same 2 1 h))
      λ _. field-before 4 _ _ 4 _ _ (λ h. ap known_kind (number_same 3 1 h))
      λ _. field-before 5 _ _ 5 _ _ (λ h. ap (λ (x : ℕ). eqb x 0) (number_same 4 1 h))
      λ _. length_before)
    where
      magic-same : 2 ≤ length s → is_magic (s ++ t) ≡ is_magic s
      magic-same h = rw (get_or-append s t 0 0 (omega arith), get_or-append s t 0 1 (omega arith))

  pub settled : (frame_of s ≡ More → ⊥) → frame_of (s ++ t) ≡ frame_of s
  settled = stays answer-before
    where
      stays : {a b : FrameRead} → Before a b → (a ≡ More → ⊥) → b ≡ a
      stays more h = absurd (h refl)
      stays same h = refl
