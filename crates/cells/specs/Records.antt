-- The call table and the tally rows as cells that a caller lends; a record of the table has three, for the correlation, the method number and the marks with the elements.
use Rattle.std.specs.Prelude.{◌≡◌, Bool, true, cond, ◌&&◌, List, [], ◌∷◌, ℕ, zero, suc, ◌+◌, ◌*◌, ◌/◌, ◌%◌, ◌≤◌, ◌<◌, eqb, leb, ltb, length, get_or}
use Rattle.calls.specs.declared.Call.{Call}
use Rattle.calls.specs.declared.Tally.{Tally}
use Rattle.calls.specs.Slots.{slot, count_open}

-- The marks count 1 open, 2 RESPONSE, 4 input closed, 8 output closed, 16 cancelled; above them stand 16 bits of input elements and 16 of output elements. A
-- method number has 32 bits.
unfoldable pub call_of : (correlation method marks : ℕ) → Call
call_of id method marks =
    record {
      correlation = id;
      method = method % 4294967296;
      «open» = eqb (marks % 2) 1;
      responded = eqb (marks / 2 % 2) 1;
      input_closed = eqb (marks / 4 % 2) 1;
      output_closed = eqb (marks / 8 % 2) 1;
      cancelled = eqb (marks / 16 % 2) 1;
      input_elements = marks / 32 % 65536;
      output_elements = marks / 2097152 % 65536;
    }

-- The i-th record; a cell past the last is 0.
abbrev pub call_at : List ℕ → ℕ → Call
call_at cells i = call_of (get_or cells (3 * i) 0) (get_or cells (3 * i + 1) 0) (get_or cells (3 * i + 2) 0)

-- The n records from the i-th on.
unfoldable pub calls_from : List ℕ → (i n : ℕ) → List Call
calls_from cells i zero = []
calls_from cells i (suc n) = call_at cells i ∷ calls_from cells (suc i) n

-- The call table that the cells hold.
abbrev pub calls_of : List ℕ → List Call
calls_of cells = calls_from cells 0 128

-- So many calls are open in it.
abbrev pub CountsOpen : List ℕ → ℕ → Type 0
CountsOpen cells n = (n ≡ count_open (calls_of cells)) × (n ≤ 128)

abbrev pub marks_of : Call → ℕ
marks_of c =
    cond c.«open» 1 0 + 2 * cond c.responded 1 0 + 4 * cond c.input_closed 1 0 + 8 * cond c.output_closed 1 0
    + 16 * cond c.cancelled 1 0 + 32 * c.input_elements + 2097152 * c.output_elements

abbrev pub record_cells : Call → List ℕ
record_cells c = c.correlation ∷ c.method ∷ marks_of c ∷ []

-- The cells of these records.
unfoldable pub cells_of : List Call → List ℕ
cells_of [] = []
cells_of (c ∷ cs) = c.correlation ∷ c.method ∷ marks_of c ∷ cells_of cs

-- ---- cells that are a call table

-- A method number has 32 bits, and the marks with the elements 37.
abbrev pub plain : (method marks : ℕ) → Bool
plain method marks = ltb method 4294967296 && ltb marks 137438953472

-- The same of n records, from the i-th on.
unfoldable pub plain_from : List ℕ → (i n : ℕ) → Bool
plain_from cells i zero = true
plain_from cells i (suc n) = plain (get_or cells (3 * i + 1) 0) (get_or cells (3 * i + 2) 0) && plain_from cells (suc i) n

-- There is a cell for each of the 384 numbers, and each number is one of a record.
unfoldable pub are_calls : List ℕ → Bool
are_calls cells = leb 384 (length cells) && plain_from cells 0 128

-- The same without a test.
pub record AreCalls (cells : List ℕ) : Type 0 where
  pub enough : 384 ≤ length cells
  pub methods : (i : ℕ) → i < 128 → get_or cells (3 * i + 1) 0 < 4294967296
  pub marks : (i : ℕ) → i < 128 → get_or cells (3 * i + 2) 0 < 137438953472

-- ---- a call table that cells can hold

-- Every method number has 32 bits and every count of elements 16, as the members of the record have.
pub record FitsCall (c : Call) : Type 0 where
  pub method : c.method < 4294967296
  pub inputs : c.input_elements < 65536
  pub outputs : c.output_elements < 65536

abbrev pub CallsFit : List Call → Type 0
CallsFit l = (i : ℕ) → FitsCall (slot l i)

-- ---- tally rows

-- A row of five cells: opened, completed, errored, cancelled, failed.
abbrev pub tally_of : (opened completed errored cancelled failed : ℕ) → Tally
tally_of a b c d e = record { opened = a; completed = b; errored = c; cancelled = d; failed = e }

abbrev pub tally_cells : Tally → List ℕ
tally_cells t = t.opened ∷ t.completed ∷ t.errored ∷ t.cancelled ∷ t.failed ∷ []

-- The rows in cells that a caller lends, five a method; cells after the last whole row are none.
unfoldable pub rows_of : List ℕ → List Tally
rows_of [] = []
rows_of (a ∷ []) = []
rows_of (a ∷ b ∷ []) = []
rows_of (a ∷ b ∷ c ∷ []) = []
rows_of (a ∷ b ∷ c ∷ d ∷ []) = []
rows_of (a ∷ b ∷ c ∷ d ∷ e ∷ cells) = tally_of a b c d e ∷ rows_of cells

-- The cells with these rows, from the first on; what is beyond stays.
unfoldable pub row_cells : List ℕ → List Tally → List ℕ
row_cells cells [] = cells
row_cells [] (t ∷ ts) = []
row_cells (a ∷ []) (t ∷ ts) = a ∷ []
row_cells (a ∷ b ∷ []) (t ∷ ts) = a ∷ b ∷ []
row_cells (a ∷ b ∷ c ∷ []) (t ∷ ts) = a ∷ b ∷ c ∷ []
row_cells (a ∷ b ∷ c ∷ d ∷ []) (t ∷ ts) = a ∷ b ∷ c ∷ d ∷ []
row_cells (a ∷ b ∷ c ∷ d ∷ e ∷ cells) (t ∷ ts) = t.opened ∷ t.completed ∷ t.errored ∷ t.cancelled ∷ t.failed ∷ row_cells cells ts
