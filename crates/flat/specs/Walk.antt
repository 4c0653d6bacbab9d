-- What a walker answers: the reading of the crate `value`, with the rows that are shown of it written into the sheet.
use Rattle.std.specs.Prelude.{◌≡◌, Bool, false, List, [], ◌∷◌, ℕ, ◌+◌, ◌*◌, ◌≤◌, length, get_or}
use Rattle.parse.specs.Reader.{Cursor, Answer, cursor_at, Accepted}
use Rattle.schema.specs.declared.Field.{Field}
use Rattle.schema.specs.Table.{Shape, struct}
use Rattle.schema.specs.Check.{IsGood}
use Rattle.value.specs.declared.Row.{Row}
use Rattle.value.specs.Value.{Tree, tip, branch, Forest, rows_all, value, values}
use Rattle.value.specs.Comparisons.{map_comparisons, comparisons_all}
use Rattle.value.specs.Comparisons as due
use Rattle.value.specs.Read.{Item, plan, parts, whole_value, parse, root_struct}
use Rattle.value.specs.Beside.{pruned_all, shown_rows}
use Rattle.value.specs.Narrow.{first_of}
use Rattle.walks.specs.Shape.{shape_in}
use Rattle.walks.specs.Sink.{FinalOf, ended, final_of}
pub use Rattle.walks.specs.Sink.{stopped}
use Rattle.flat.specs.Sheet.{put_rows}

-- ---- the readings of the crate `value`, by the table in the file s, at a place of the payload p

abbrev pub value_in : (s p : List ℕ) (depth ty at : ℕ) → Answer Tree
value_in s p depth ty at = parse (shape_in s) depth ty (cursor_at p at)

-- A composite of this shape from its head on; its place is `place`.
abbrev pub whole_in : (s p : List ℕ) (depth ty : ℕ) → Shape → (place head at : ℕ) → Answer Tree
whole_in s p depth ty sh place head at = whole_value (parse (shape_in s) depth) ty sh (parts place head) (cursor_at p at)

abbrev pub root_in : (s p : List ℕ) (ty : ℕ) → List Field → Answer Tree
root_in s p ty fs = root_struct (shape_in s) ty fs (cursor_at p 0)

-- ---- what is told of it

-- The rows that are shown, and the key comparisons due.
pub record Told : Type 0 where
  pub rows : List Row
  pub comparisons : ℕ

-- Shown by the shapes R, and read by the shapes S.
module _ (R S : ℕ → Shape) where
  -- A tree of type t.
  unfoldable pub told : (t : ℕ) → Tree → Told
  told t tree = record { rows = shown_rows R t tree; comparisons = due.comparisons S (value tree) t }

  -- What was read by a plan.
  unfoldable pub told_all : List Item → Forest → Told
  told_all is ts = record { rows = rows_all (pruned_all R ts is); comparisons = comparisons_all S (values ts) is }

  -- A composite with its own row as it is, the comparisons of its own keys, and what was read by its plan.
  unfoldable pub told_held : (own : ℕ) → List Item → Tree → Told
  told_held own is (tip r x) = record { rows = r ∷ []; comparisons = own }
  told_held own is (branch r h ts) = record { rows = r ∷ (told_all is ts).rows; comparisons = own + (told_all is ts).comparisons }

-- The shapes S with the first fields of each struct alone, as many as are known of its type.
unfoldable pub first_fields : (shown : List ℕ) → (ℕ → Shape) → ℕ → Shape
first_fields shown S t = first_of (get_or shown t 0) (S t)

abbrev pub told_in : (shown s : List ℕ) (ty : ℕ) → Tree → Told
told_in shown s ty = told (first_fields shown (shape_in s)) (shape_in s) ty

abbrev pub held_in : (shown s : List ℕ) → Shape → (head : ℕ) → Tree → Told
held_in shown s sh head = told_held (first_fields shown (shape_in s)) (shape_in s) (map_comparisons sh head) (plan sh head)

-- ---- what a walker answers

-- The key comparisons due in what was read, and the place and the row after it; or a refusal.
pub data Walk : Type 0 where
  Past : (due next row : ℕ) → Walk
  Refused : (number place : ℕ) → Walk

-- What a walk leaves: the comparisons due so far, the number of the next row, and the sheet.
pub data Noted : Type 0 where
  noted : (comparisons row : ℕ) → (sheet : List ℕ) → Noted

-- What is told is put there: the comparisons added, the rows written from the next one on.
abbrev pub note : Told → Noted → Noted
note t (noted comparisons row sheet) = noted (comparisons + t.comparisons) (row + length t.rows) (put_rows sheet row t.rows)

-- Where a walk ends.
abbrev pub Final : Type 0
Final = FinalOf ℕ Noted

abbrev pub done : Cursor → (comparisons row : ℕ) → (sheet : List ℕ) → Final
done c comparisons row sheet = ended c (noted comparisons row sheet)

-- The end of a walk that gives this answer, after so many comparisons, whose rows stand in the sheet from `row` on.
abbrev pub walk_of : {A : Type 0} → (A → Told) → Answer A → (comparisons row : ℕ) → List ℕ → Final
walk_of tell o comparisons row sheet = final_of (λ a. note (tell a)) o (noted comparisons row sheet)

-- A walker's answer over the payload p, with the sheet that it leaves. Of what a refusal leaves there nothing is said: the entry lends memory of its own,
-- or puts back what stood there.
abbrev pub end_of : List ℕ → Walk → List ℕ → Final
end_of p (Past comparisons next row) sheet = done (cursor_at p next) comparisons row sheet
end_of p (Refused n q) sheet = stopped n q

-- Each value takes a byte at least, so the number of rows never overtakes the place. A map of n pairs has at most 32 n comparisons and takes
-- 2 n bytes more than its count, so the comparisons never overtake 16 times the bytes after the first.
abbrev pub Within : (size least : ℕ) → Walk → Type 0
Within size least (Past comparisons next row) = (next ≤ size) × (row ≤ next) × (comparisons + 16 * least ≤ 16 * next)
Within size least (Refused n q) = Unit {0}

pub record Walked {A : Type 0} (p : List ℕ) (least : ℕ) (tell : A → Told) (o : Answer A) (row : ℕ) (sheet : List ℕ) (r : Walk) (after : List ℕ) : Type 0 where
  pub same : end_of p r after ≡ walk_of tell o 0 row sheet
  pub within : Within (length p) least r

-- A value of type ty.
abbrev pub Valued : (shown s p : List ℕ) (depth ty at row : ℕ) (sheet : List ℕ) → Walk → (after : List ℕ) → Type 0
Valued shown s p depth ty at row sheet r after = Walked p (at + 1) (told_in shown s ty) (value_in s p depth ty at) row sheet r after

-- A composite from its head on, with its own row as it is.
abbrev pub Held : (shown s p : List ℕ) (depth ty : ℕ) → Shape → (place head at row : ℕ) (sheet : List ℕ) → Walk → (after : List ℕ) → Type 0
Held shown s p depth ty sh place head at row sheet r after =
    Walked p at (held_in shown s sh head) (whole_in s p depth ty sh place head at) row sheet r after

-- A struct of the fields fs from its bits on, with its row as it is shown.
abbrev pub Shown : (shown s p : List ℕ) (depth ty : ℕ) → List Field → (place head at row : ℕ) (sheet : List ℕ) → Walk → (after : List ℕ) → Type 0
Shown shown s p depth ty fs place head at row sheet r after =
    Walked p at (told_in shown s ty) (whole_in s p depth ty (struct fs) place head at) row sheet r after

-- The root.
abbrev pub Rooted : (shown s p : List ℕ) (ty : ℕ) → List Field → (sheet : List ℕ) → Walk → (after : List ℕ) → Type 0
Rooted shown s p ty fs sheet r after = Walked p 1 (told_in shown s ty) (root_in s p ty fs) 0 sheet r after

-- What a walker may assume. A walk that does not judge has been judged: its answer is known to accept.
pub record Ready {A : Type 0} (s p : List ℕ) (at row : ℕ) (judging : Bool) (o : Answer A) : Type 0 where
  pub good : IsGood s
  pub small : length p ≤ 16384
  pub inside : at ≤ length p
  pub behind : row ≤ at
  pub judged : judging ≡ false → Accepted o
