-- The reader: what `read` answers and leaves in the sheet.
use mathlib.Core.Path.{◌≡◌, refl, sym, ap, ap₂, ◌∙◌}
use mathlib.Core.Logic.{◌↔◌}
use mathlib.Core.List.{List}
use mathlib.Core.Bool.{false}
use Prim.Native.Nat.{ℕ, ◌≤◌, ◌<◌}
use native.Mathlib.Omega.{arith}
use borrow.Author.Tests.{lt-leb}
use lib.Dec.{leb}
use lib.ListN.{length}
use Rattle.schema.specs.declared.Field.{Field}
use Rattle.schema.specs.Table.{struct}
use Rattle.schema.specs.File.{table_of}
use Rattle.schema.specs.Check.{IsGood}
use Rattle.schema.proofs.Goods.{good-table}
use Rattle.value.specs.declared.Row.{Row}
use Rattle.value.specs.Value.{Tree, Value, leaf, node, rows, size}
use Rattle.value.specs.Comparisons.{comparisons, rows_comparisons}
use Rattle.value.specs.Read.{root_bits, unknown_bits, refusal, accepted, read}
use Rattle.value.specs.Fits.{RootFits, Shows}
use Rattle.value.specs.Delimits.{RootDelimits}
use Rattle.value.specs.Claims.{Rightful, Delimited}
use Rattle.value.proofs.Shapes.{good-solid}
use Rattle.value.proofs.Reading.{as_root, accepts}
use Rattle.value.proofs.Determined.{determined}
use Rattle.value.proofs.Statements as value
use Rattle.reader.specs.Reading.{Reading}
use Rattle.reader.specs.Reading.{Shown, Refused}
use Rattle.flat.specs.Sheet.{shown_in}
use Rattle.reader.specs.Entry.{Outcome, outcome, reading_in, sheet_in, outcome_of, room, read_outcome, Numbers, numbers}
use Rattle.reader.proofs.Entries.{read-within}
use Rattle.promises.specs.Claims.{shapes, first_rows, ReadsAs, AnswersAs}
use Rattle.promises.proofs.Entries.{rows_back, shown-size, shown-good, shown-from, read_by, refused-from, reads_of, of-reads}
use Rattle.promises.proofs.Refusals.{read-refused-iff}

-- A payload is accepted and shown as v exactly when it spells v within the limits and the rows fit into the sheet; the tail is what follows the known
-- fields. This rules out a reader that refuses all (every rightful payload is accepted) and invented rows (they show the value that is spelled).
pub shown-iff-spelled : (s : List ℕ) → IsGood s → (ty : ℕ) (fs : List Field) → shapes s ty ≡ struct fs → (payload sheet : List ℕ) (v : Value) (place n : ℕ)
    → ReadsAs s ty fs payload sheet v place n ↔ Rightful (shapes s) ty fs payload (room sheet) v place n
shown-iff-spelled s good ty fs st payload sheet v place n =
    let iff = value.accepted-iff-spelled (table_of s) (good-table s good) ty fs st payload (room sheet) v place n in
    (λ r. iff.0 (of-reads s ty payload sheet good fs v place n r), λ w. reads_of s ty payload sheet good fs v place n (iff.1 w))

-- A payload that is otherwise right, which spells v, is refused with 30 where the sheet has too few rows: one row a value is enough.
pub too_few-rows : (s : List ℕ) → IsGood s → (ty : ℕ) (fs : List Field) → shapes s ty ≡ struct fs → (payload sheet : List ℕ) (v : Value) (place n : ℕ)
    → Rightful (shapes s) ty fs payload (size v) v place n → room sheet < size v → read_outcome s ty payload sheet ≡ outcome (Refused 30 0) sheet
unfolding read
too_few-rows s good ty fs st payload sheet v place n q h =
    let (rs, e, shows) = (value.accepted-iff-spelled (table_of s) (good-table s good) ty fs st payload (size v) v place n).1 q in
    let a = accepts (shapes s) ty payload (size v) rs place n _ e in
    let l : length (rows a.tree) ≡ size v = ap length a.has-rows ∙ shown-size s payload ty fs rs v shows in
    let b : leb (length (rows a.tree)) (room sheet) ≡ false = lt-leb (length (rows a.tree)) (room sheet) (omega (arith, l, h)) in
    let f : read (table_of s) ty payload (room sheet) ≡ refusal 30 0 = as_root (shapes s) ty payload (room sheet) a.fs a.is-struct a.short ∙ rw (a.reads, b) in
    read_by s ty payload sheet good ∙ ap (outcome_of sheet) f

-- A payload is accepted exactly with the rows that fit it and delimit its bytes: it decides every cell of every row that is written.
pub rows_delimit : (s : List ℕ) → IsGood s → (ty : ℕ) (payload sheet : List ℕ) (k place n c : ℕ) (after : List ℕ)
    → (read_outcome s ty payload sheet ≡ outcome (Shown k place n c) after)
    ↔ ((rs : List Row) × Delimited (shapes s) ty payload (room sheet) rs place n c × (length rs ≡ k) × (after ≡ shown_in sheet rs))
rows_delimit s good ty payload sheet k place n c after = (
  λ e. let (rs, a, l, o) = shown-from s ty payload sheet good k place n c after e in (rs, (iff rs).0 a, l, o),
  λ (rs, d, l, o). rw (o, ← l) (read_by s ty payload sheet good ∙ ap (outcome_of sheet) ((iff rs).1 d)),
)
  where
    iff : (rs : List Row) → (read (table_of s) ty payload (room sheet) ≡ accepted rs place n c) ↔ Delimited (shapes s) ty payload (room sheet) rs place n c
    iff rs = value.rows_delimit (table_of s) (good-table s good) ty payload (room sheet) rs place n c

-- A payload has one tree that fits it and delimits its bytes, up to one tail: the places are its own.
pub placed-once : (s : List ℕ) → IsGood s → (ty : ℕ) (fs : List Field) (payload : List ℕ) (tree other : Tree) (end end' : ℕ)
    → RootFits (shapes s) payload ty fs tree → RootFits (shapes s) payload ty fs other
    → RootDelimits (shapes s) payload fs tree end → RootDelimits (shapes s) payload fs other end' → (tree ≡ other) × (end ≡ end')
placed-once s good ty fs payload = determined (shapes s) (good-solid (table_of s) (good-table s good)) payload ty fs

-- What is read has no tail exactly where no unknown bit of its root is set.
pub tail-iff-unknown : (s : List ℕ) (ty : ℕ) (fs : List Field) → shapes s ty ≡ struct fs → (payload sheet : List ℕ) (k place n c : ℕ) (after : List ℕ)
    → read_outcome s ty payload sheet ≡ outcome (Shown k place n c) after → (n ≡ 0) ↔ (unknown_bits fs (root_bits fs payload) ≡ 0)
tail-iff-unknown s ty fs st payload sheet k place n c after e =
    let good = shown-good s ty payload sheet k place n c after e in
    let (rs, a, _, _) = shown-from s ty payload sheet good k place n c after e in
    value.tail-iff-unknown (table_of s) (good-table s good) ty fs st payload (room sheet) rs place n c a

-- ---- the key comparisons due

module _ (s : List ℕ) (ty : ℕ) (payload sheet : List ℕ) (k place n c : ℕ) (after : List ℕ) (e : read_outcome s ty payload sheet ≡ outcome (Shown k place n c) after) where
  -- They are never above 258,048.
  pub comparisons-within : c ≤ 258048
  comparisons-within = let h = read-within s ty payload sheet in omega (arith, rw e at h)

  -- They are those of any value that the rows show, which are those that its rows count.
  pub comparisons-of : (fs : List Field) → shapes s ty ≡ struct fs → (v : Value) → Shows (shapes s) payload ty fs (first_rows k after) v
      → (c ≡ comparisons (shapes s) v ty) × (c ≡ rows_comparisons (shapes s) (first_rows k after))
  comparisons-of fs st v shows =
      let good = shown-good s ty payload sheet k place n c after e in
      let (rs, a, k-is, after_is) = shown-from s ty payload sheet good k place n c after e in
      let same : first_rows k after ≡ rs = rows_back sheet rs k after k-is after_is in
      let counted : c ≡ rows_comparisons (shapes s) (first_rows k after) =
      value.comparisons-counted (table_of s) (good-table s good) ty payload (room sheet) rs place n c a ∙ ap (rows_comparisons (shapes s)) (sym same) in
      (counted ∙ sym (value.shown-comparisons (table_of s) (good-table s good) ty fs st payload (first_rows k after) v shows), counted)

-- ---- refusals

-- At every refusal, the schema file's too, the sheet stays untouched.
pub refused-untouched : (s : List ℕ) (ty : ℕ) (payload sheet : List ℕ) (n q : ℕ) (after : List ℕ)
    → read_outcome s ty payload sheet ≡ outcome (Refused n q) after → after ≡ sheet
refused-untouched s ty payload sheet n q after e = ((read-refused-iff s ty payload sheet n q after).0 e).0

-- By a good file a refusal's place lies within the payload or at its end.
pub refused-within : (s : List ℕ) → IsGood s → (ty : ℕ) (payload sheet : List ℕ) (n q : ℕ) (after : List ℕ)
    → read_outcome s ty payload sheet ≡ outcome (Refused n q) after → q ≤ length payload
refused-within s good ty payload sheet n q after e =
    value.refused-within (table_of s) (good-table s good) ty payload (room sheet) n q
    (refused-from sheet (read (table_of s) ty payload (room sheet)) n q after (sym (read_by s ty payload sheet good) ∙ e)).0

-- ---- the numbers

-- The answers are known by their numbers: rows come only where a value is shown, and every other answer but 0 is a refusal.
pub shown-by-numbers : (r : Reading) (k place n c : ℕ) → 0 < k → numbers r ≡ numbers (Shown k place n c) → r ≡ Shown k place n c
shown-by-numbers (Shown k' place' n' c') k place n c h e =
    cc (ap (λ (x : Numbers). x.rows) e, ap (λ (x : Numbers). x.tail_place_of) e, ap (λ (x : Numbers). x.tail_length_of) e, ap (λ (x : Numbers). x.comparisons) e)
shown-by-numbers (Refused m q) k place n c h e = absurd (omega (arith, ap (λ (x : Numbers). x.rows) e))

pub refused-by-numbers : (r : Reading) (m q : ℕ) → 0 < m → numbers r ≡ numbers (Refused m q) → r ≡ Refused m q
refused-by-numbers (Shown k place n c) m q h e = absurd (omega (arith, ap (λ (x : Numbers). x.number) e))
refused-by-numbers (Refused m' q') m q h e = cc (ap (λ (x : Numbers). x.number) e, ap (λ (x : Numbers). x.place) e)

shown-answer : (o : Outcome) (r : Reading) → reading_in o ≡ r → o ≡ outcome r (sheet_in o)
shown-answer (outcome r sheet) r' e = ap (λ (x : Reading). outcome x sheet) e

refused-answer : (o : Outcome) (m q : ℕ) → 0 < m → (numbers (reading_in o)).number ≡ m → (numbers (reading_in o)).place ≡ q → o ≡ outcome (Refused m q) (sheet_in o)
refused-answer (outcome (Shown k place n c) after) m q h e f = absurd (omega (arith, e, h))
refused-answer (outcome (Refused m' q') after) m q h e f = ap₂ (λ (i j : ℕ). outcome (Refused i j) after) e f

some-values : (v : Value) → 0 < size v
unfolding size
some-values (leaf x) = omega arith
some-values (node h vs) = omega arith

-- A payload is answered with 0 and the numbers of v, and v is shown, exactly when the payload spells v within the limits and the rows fit into the sheet.
pub zero-iff-spelled : (s : List ℕ) → IsGood s → (ty : ℕ) (fs : List Field) → shapes s ty ≡ struct fs → (payload sheet : List ℕ) (v : Value) (place n : ℕ)
    → AnswersAs s ty fs payload sheet v place n ↔ Rightful (shapes s) ty fs payload (room sheet) v place n
zero-iff-spelled s good ty fs st payload sheet v place n =
    let iff = shown-iff-spelled s good ty fs st payload sheet v place n in (
      λ (e, shows, l, d).
          let o = read_outcome s ty payload sheet in
          let r : reading_in o ≡ Shown (size v) place n (comparisons (shapes s) v ty) = shown-by-numbers (reading_in o) (size v) place n _ (some-values v) e in
          iff.0 (sheet_in o, shown-answer o _ r, shows, l, d),
      λ q. let (after, e, shows, l, d) = iff.1 q in rw e (refl, shows, l, d),
    )

-- The number m above 0 and the place q come back exactly for that refusal, which leaves the sheet as it was.
pub number-iff-refused : (s : List ℕ) (ty : ℕ) (payload sheet : List ℕ) (m q : ℕ) → 0 < m
    → (let told = numbers (reading_in (read_outcome s ty payload sheet)) in (told.number ≡ m) × (told.place ≡ q))
    ↔ (read_outcome s ty payload sheet ≡ outcome (Refused m q) sheet)
number-iff-refused s ty payload sheet m q h = (
  λ (e, f).
      let o = read_outcome s ty payload sheet in
      let r = refused-answer o m q h e f in
      r ∙ ap (outcome (Refused m q)) (refused-untouched s ty payload sheet m q (sheet_in o) r),
  λ r. rw r (refl, refl),
)
