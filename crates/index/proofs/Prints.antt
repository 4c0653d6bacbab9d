-- The text of a look-up, in the code's own terms.
use mathlib.Core.Path.{◌≡◌, refl, sym, ap, subst, ◌∙◌}
use mathlib.Core.Bool.{Bool, true, false}
use mathlib.Core.List.{List, [], ◌∷◌, ◌++◌}
use Prim.Native.Nat.{ℕ, ◌+◌, ◌*◌, ◌-◌, ◌≤◌, ◌<◌}
use native.Mathlib.Omega.{arith}
use borrow.Author.Tests.{lt-ltb, le-ltb}
use lib.ListN.{length, take, drop}
use Rattle.wire.specs.Little.{little}
use Rattle.buffer.specs.Store.{put}
use Rattle.buffer.proofs.Stores.{put_whole}
use Rattle.text.specs.Text.{Shown, put_on}
use Rattle.text.proofs.Texts.{put_both, put_none}
use Rattle.index.specs.Finding.{Printed, Refused}
use Rattle.index.specs.Row.{Row, is_of, of_call}
use Rattle.index.specs.IsIndex.{row_at, rows_in}
use Rattle.index.specs.Text.{line_text, lines_text, text_of}
use Rattle.index.specs.LookUp.{look_text, outcome, printed_text, look_up}
use Rattle.index.proofs.Orders.{call-is, call_not, call_none}
use Rattle.index.proofs.Shapes.{rows_on, rows-over, JudgedAs}

-- ---- the rows of a call, one after the other

lines-one : (r : Row) (rows : List Row) → lines_text (r ∷ rows) ≡ line_text r.place r.answer ++ lines_text rows
unfolding lines_text
lines-one r rows = refl

lines_none : lines_text [] ≡ []
unfolding lines_text
lines_none = refl

-- the lines of the rows from one on
abbrev rest_lines : (s : List ℕ) (n c i : ℕ) → List ℕ
rest_lines s n c i = lines_text (of_call c (rows_in (n - i) (drop (16 * i) s)))

-- What is left of the rows, from one on, put on the page as it is gives the whole.
abbrev pub Rest : (s : List ℕ) (n c : ℕ) (whole page : Shown) (i : ℕ) → Type 0
Rest s n c whole page i = put_on page (rest_lines s n c i) ≡ whole

pub rest_first : (s : List ℕ) (n c : ℕ) (page : Shown) → Rest s n c (put_on page (lines_text (of_call c (rows_in n s)))) page 0
rest_first s n c page = let e : n - 0 ≡ n = omega arith in ap (λ (k : ℕ). put_on page (lines_text (of_call c (rows_in k s)))) e

module _ (s : List ℕ) (n c : ℕ) (whole page : Shown) where
  module _ (i : ℕ) (w : Rest s n c whole page i) where
    pub rest_end : n ≤ i → page ≡ whole
    rest_end h =
        let none : rest_lines s n c i ≡ [] = ap (λ (rows : List Row). lines_text (of_call c rows)) (rows-over n i s h) ∙ ap lines_text (call_none c) ∙ lines_none in
        sym (put_none page) ∙ ap (put_on page) (sym none) ∙ w

    module _ (h : i < n) (x : ℕ) (is : x ≡ little (take 8 (drop (16 * i) s))) where
      abbrev row : Row
      row = row_at (drop (16 * i) s)

      -- whether the row is one of the call, by the number that was read
      abbrev Is : Bool → Type 0
      Is b = is_of c (record { correlation = x; place = row.place; answer = row.answer }) ≡ b

      there : {b : Bool} → Is b → is_of c row ≡ b
      there {b} e = subst (λ (k : ℕ). is_of c (record { correlation = k; place = row.place; answer = row.answer }) ≡ b) is e

      pub rest_other : Is false → Rest s n c whole page (i + 1)
      rest_other e =
          let same : rest_lines s n c i ≡ rest_lines s n c (i + 1) =
          ap (λ (rows : List Row). lines_text (of_call c rows)) (rows_on n i s h)
          ∙ ap lines_text (call_not c row (rows_in (n - (i + 1)) (drop (16 * (i + 1)) s)) (there e)) in
          ap (put_on page) (sym same) ∙ w

      pub rest_line : Is true → Rest s n c whole (put_on page (line_text row.place row.answer)) (i + 1)
      rest_line e =
          let left : rest_lines s n c i ≡ line_text row.place row.answer ++ rest_lines s n c (i + 1) =
          ap (λ (rows : List Row). lines_text (of_call c rows)) (rows_on n i s h)
          ∙ ap lines_text (call-is c row (rows_in (n - (i + 1)) (drop (16 * (i + 1)) s)) (there e))
          ∙ lines-one row (of_call c (rows_in (n - (i + 1)) (drop (16 * (i + 1)) s))) in
          put_both page (line_text row.place row.answer) (rest_lines s n c (i + 1)) ∙ ap (put_on page) (sym left) ∙ w

-- ---- the answer

module _ (index entries : List ℕ) (c : ℕ) (out : List ℕ) (number rows : ℕ) (j : JudgedAs index (length entries) number rows) where
  abbrev pub text : List ℕ
  text = text_of (of_call c (rows_in rows index)) number

  text-is : text ≡ look_text index (length entries) c
  unfolding look_text
  text-is = λ i. text_of (of_call c (rows_in (j.rows_is i) index)) (j.number_is i)

  -- the length that was measured
  module _ (n : ℕ) (measured : n ≡ length text) where
    size_is : n ≡ length (look_text index (length entries) c)
    size_is = measured ∙ ap length text-is

    pub no_room : length out < n → outcome (Refused 52) out ≡ look_up index entries c out
    unfolding look_up printed_text
    no_room h = rw (lt-ltb (length out) (length (look_text index (length entries) c)) (omega (arith, size_is, h)))

    pub printed : n ≤ length out → outcome (Printed number n) (put out 0 text) ≡ look_up index entries c out
    unfolding look_up printed_text
    printed h =
        let whole : put out 0 text ≡ text ++ drop n out = put_whole out text (rw measured at h) ∙ ap (λ (k : ℕ). text ++ drop k out) (sym measured) in
        let size = size_is in
        let all : put out 0 text ≡ look_text index (length entries) c ++ drop (length (look_text index (length entries) c)) out =
        whole ∙ (λ i. text-is i ++ drop (size i) out) in
        rw (le-ltb (length out) (length (look_text index (length entries) c)) (omega (arith, size, h)))
        (λ i. outcome (Printed (j.number_is i) (size i)) (all i))
