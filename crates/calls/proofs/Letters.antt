-- The table of the forms is that of docs/FORMAT.md by the letters of the form: one test over all sixteen rows.
use mathlib.Core.Path.{◌≡◌, refl}
use mathlib.Core.Bool.{Bool, true, false}
use mathlib.Core.List.{List, [], ◌∷◌}
use Prim.Native.Nat.{ℕ, ◌<◌}
use lib.Dec.{T}
use Rattle.wire.proofs.Table.{both, split, at}
use Rattle.calls.specs.declared.FormRow.{FormRow}
use Rattle.calls.specs.Forms.{row_of_form, letters_row}

abbrev same : Bool → Bool → Bool
same true b = b
same false true = false
same false false = true

same-is : (a b : Bool) → T (same a b) → a ≡ b
same-is true true t = refl
same-is true false t = absurd t
same-is false true t = absurd t
same-is false false t = refl

abbrev same_row : FormRow → FormRow → Bool
same_row r q = both (same r.0 q.0) (both (same r.1 q.1) (both (same r.2 q.2) (same r.3 q.3)))

columns : (a b c d e f g h : Bool) → a ≡ e → b ≡ f → c ≡ g → d ≡ h → ◌≡◌ {A = FormRow} (a, b, c, d) (e, f, g, h)
columns a b c d e f g h p q r s = rw (p, q, r, s)

same_row-is : (r q : FormRow) → T (same_row r q) → r ≡ q
same_row-is r q t =
    let x = split (same r.0 q.0) (both (same r.1 q.1) (both (same r.2 q.2) (same r.3 q.3))) t in
    let y = split (same r.1 q.1) (both (same r.2 q.2) (same r.3 q.3)) x.1 in
    let z = split (same r.2 q.2) (same r.3 q.3) y.1 in
    columns r.0 r.1 r.2 r.3 q.0 q.1 q.2 q.3
    (same-is r.0 q.0 x.0) (same-is r.1 q.1 y.0) (same-is r.2 q.2 z.0) (same-is r.3 q.3 z.1)

-- the sixteen forms, and the test at each
forms : List ℕ
forms = 0 ∷ 1 ∷ 2 ∷ 3 ∷ 4 ∷ 5 ∷ 6 ∷ 7 ∷ 8 ∷ 9 ∷ 10 ∷ 11 ∷ 12 ∷ 13 ∷ 14 ∷ 15 ∷ []

right : ℕ → ℕ → Bool
right form x = same_row (row_of_form form) (letters_row form)

pub by-letters : (form : ℕ) → form < 16 → row_of_form form ≡ letters_row form
unfolding row_of_form forms right
by-letters form h = same_row-is (row_of_form form) (letters_row form) (at right forms tt form h)
