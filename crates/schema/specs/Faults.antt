-- Why a schema file is refused: what is wrong with it, where all that comes before is good. No test and no function of the check is mentioned.
use Rattle.std.specs.Prelude.{◌≡◌, List, ℕ, ◌+◌, ◌*◌, ◌≤◌, ◌<◌, length}
use Rattle.schema.specs.Table.{Table, row_at}
use Rattle.schema.specs.File.{cell, trailer_at, table_of}
use Rattle.schema.specs.Check.{field_row_of, method_row}
use Rattle.schema.specs.Good.{HasShape, GoodRow, GoodField, GoodMethod, SameNames}

-- The bytes from one place to another are no whole number of entries.
abbrev pub Uneven : (entry from to : ℕ) → Type 0
Uneven entry from to = (k : ℕ) → from + entry * k ≡ to → ⊥

-- What is wrong with a shape: there is no room for the trailer; the trailer has another layout number, or not its own place; the places of fields, methods
-- and trailer are out of order; or a section is no whole number of type rows, fields or methods.
pub data Misshapen (s : List ℕ) : Type 0 where
  short : length s < 16 → Misshapen s
  layout : 16 ≤ length s → (cell s (trailer_at s + 12) ≡ 1 → ⊥) → Misshapen s
  trailer : 16 ≤ length s → (cell s (trailer_at s + 8) ≡ trailer_at s → ⊥) → Misshapen s
  crossed : 16 ≤ length s → cell s (trailer_at s + 4) < cell s (trailer_at s) → Misshapen s
  beyond : 16 ≤ length s → trailer_at s < cell s (trailer_at s + 4) → Misshapen s
  types : 16 ≤ length s → Uneven 12 0 (cell s (trailer_at s)) → Misshapen s
  fields : 16 ≤ length s → Uneven 8 (cell s (trailer_at s)) (cell s (trailer_at s + 4)) → Misshapen s
  methods : 16 ≤ length s → Uneven 32 (cell s (trailer_at s + 4)) (trailer_at s) → Misshapen s

-- Which count is above its limit.
pub data TooManyRows (T : Table) : Type 0 where
  types : 256 < length T.types → TooManyRows T
  fields : 2048 < length T.fields → TooManyRows T
  methods : 256 < length T.methods → TooManyRows T

-- Entry q is the first of n that is not good.
pub record First (Good : ℕ → Type 0) (n q : ℕ) : Type 0 where
  pub there : q < n
  pub earlier : (i : ℕ) → i < q → Good i
  pub fault : Good q → ⊥

module _ (T : Table) where
  -- No count is above its limit.
  abbrev pub FewRows : Type 0
  FewRows = (length T.types ≤ 256) × (length T.fields ≤ 2048) × (length T.methods ≤ 256)

  abbrev pub RowOk : ℕ → Type 0
  RowOk t = GoodRow T (row_at T t)

  abbrev pub FieldOk : ℕ → Type 0
  FieldOk i = GoodField T (field_row_of T i)

  -- A method, whose identifiers stand in no earlier entry.
  abbrev pub MethodOk : ℕ → Type 0
  MethodOk i = GoodMethod T (method_row T i) × ((j : ℕ) → j < i → SameNames (method_row T j) (method_row T i) → ⊥)

  abbrev pub RowsOk : Type 0
  RowsOk = (t : ℕ) → t < length T.types → RowOk t

  abbrev pub FieldsOk : Type 0
  FieldsOk = (i : ℕ) → i < length T.fields → FieldOk i

-- The file is refused with a number at a row: 40 for its shape; 41 where a count is above its limit; 42, 43 and 44 for the first type row, field or method
-- at fault, with the sections before it good.
pub data TableFault (s : List ℕ) : (number row : ℕ) → Type 0 where
  misshapen : Misshapen s → TableFault s 40 0
  too_many : HasShape s → TooManyRows (table_of s) → TableFault s 41 0
  type_row : {q : ℕ} → HasShape s → FewRows (table_of s) → First (RowOk (table_of s)) (length (table_of s).types) q → TableFault s 42 q
  field : {q : ℕ} → HasShape s → FewRows (table_of s) → RowsOk (table_of s) → First (FieldOk (table_of s)) (length (table_of s).fields) q → TableFault s 43 q
  method : {q : ℕ} → HasShape s → FewRows (table_of s) → RowsOk (table_of s) → FieldsOk (table_of s) → First (MethodOk (table_of s)) (length (table_of s).methods) q
      → TableFault s 44 q
