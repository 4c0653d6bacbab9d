-- What follows the faulty bytes does not matter, where the number is 21 to 26, 28 or 31 and there is as much of it or more.
use mathlib.Core.Logic.{inl, inr}
use mathlib.Core.List.{List, [], ◌++◌}
use Prim.Native.Nat.{ℕ, ◌≤◌}
use native.Mathlib.Omega.{arith}
use lib.ListN.{length, length-append}
use Rattle.schema.specs.declared.Field.{Field}
use Rattle.schema.specs.Table.{Shape}
use Rattle.value.specs.Read.{Item}
use Rattle.value.specs.Reasons.{BitmapFault, cut, absent, OwnFault, cut-number, bad_number, exceeds, cut-scalar, no_bool, no_string, many-pairs, bits, unknown-bit}
use Rattle.value.specs.Reasons.{Due, Faulty, too_deep, own, inner, repeated, RootFault, bits as root-bits, field, surplus, short-tail, Settles}

not_20 : {A : Type 0} → Settles 20 → A
not_20 (inl h) = absurd (omega arith)
not_20 (inr (inl h)) = absurd (omega arith)
not_20 (inr (inr h)) = absurd (omega arith)

not_27 : {A : Type 0} → Settles 27 → A
not_27 (inl h) = absurd (omega arith)
not_27 (inr (inl h)) = absurd (omega arith)
not_27 (inr (inr h)) = absurd (omega arith)

module _ (more : List ℕ) where
  bitmap-settled : {fs : List Field} {x rest : List ℕ} {n : ℕ} → BitmapFault fs x rest n → Settles n → BitmapFault fs x more n
  bitmap-settled (cut h) w = not_20 w
  bitmap-settled (absent i l a) w = absent i l a

  own-settled : {s : Shape} {u x rest : List ℕ} {n : ℕ} → OwnFault s u x rest n → Settles n → length rest ≤ length more → OwnFault s u x more n
  own-settled (cut-number h q) w l = not_20 w
  own-settled (bad_number h q) w l = bad_number h q
  own-settled (exceeds m s h) w l = not_20 w
  own-settled (cut-scalar h) w l = not_20 w
  own-settled (no_bool h) w l = no_bool h
  own-settled (no_string s h) w l = no_string s h
  own-settled (many-pairs m s room h) w l = many-pairs {rest = more} m s (omega arith) h
  own-settled (bits f) w l = bits (bitmap-settled f w)
  own-settled (unknown-bit m s b) w l = unknown-bit m s b

  due-settled : {S : ℕ → Shape} {d : ℕ} {s : Shape} {u y : List ℕ} {i : Item} {earlier : List (List ℕ)} (w x rest : List ℕ)
      → Due S d s u y (w ++ (x ++ rest)) i earlier → length rest ≤ length more → Due S d s u y (w ++ (x ++ more)) i earlier
  due-settled w x rest due l =
      let room = due.enough in
      record {
        head = due.head;
        before = due.before;
        after = due.after;
        shown = due.shown;
        starts = due.starts;
        enough = simp length-append (omega (arith, simp length-append at room));
        planned = due.planned;
        spelled = due.spelled;
        distinct = due.distinct;
        keys = due.keys;
      }

  module _ {S : ℕ → Shape} where
    value-settled : {d t n : ℕ} {u x rest : List ℕ} → Faulty S d t u x rest n → Settles n → length rest ≤ length more → Faulty S d t u x more n
    value-settled too_deep s l = too_deep
    value-settled (own f) s l = own (own-settled f s l)
    value-settled (inner {w} {x} {rest} due f) s l = inner (due-settled w x rest due l) (value-settled f s l)
    value-settled (repeated {x} {rest} due key v q h) s l = repeated (due-settled [] x rest due l) key v q h

    pub settled : {fs : List Field} {u x rest : List ℕ} {n : ℕ} → RootFault S fs u x rest n → Settles n → length rest ≤ length more → RootFault S fs u x more n
    settled (root-bits f) s l = root-bits (bitmap-settled f s)
    settled (field due f) s l = field due (value-settled f s l)
    settled (surplus due none some) s l = not_27 s
    settled (short-tail due few) s l = not_20 s
