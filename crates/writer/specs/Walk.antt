-- What a walker answers: what the crate `value` says the rows show, with its encoding put into the output.
use Rattle.std.specs.Prelude.{◌≡◌, Bool, true, false, cond, List, ◌∷◌, ℕ, ◌+◌, ◌/◌, ◌≤◌, ◌<◌, eqb, length, Result, Ok, Err}
use Rattle.parse.specs.Reader.{AnswerOf, Accepted}
use Rattle.schema.specs.declared.Field.{Field}
use Rattle.schema.specs.declared.TypeRow.{TypeRow}
use Rattle.schema.specs.Table.{Table, Shape, row_at}
use Rattle.schema.specs.File.{table_of}
use Rattle.value.specs.declared.Row.{Row}
use Rattle.value.specs.Value.{Tree, Forest}
use Rattle.value.specs.Read.{Item, walk}
use Rattle.value.specs.Write.{show, show_root}
use Rattle.walks.specs.Shape.{shape_in, leaf_shape}
use Rattle.walks.specs.Keys.{keys_in, Kept}
use Rattle.walks.specs.Sink.{ended}
use Rattle.constants.specs.Number.{number_of}
use Rattle.constants.specs.declared.refusal.Refused.{Refused}
use Rattle.writer.specs.declared.rows.Rows.{Rows}
use Rattle.writer.specs.declared.walk.Past.{Past}
use Rattle.writer.specs.Emit.{Final, done, stopped, emit, emit_all}
use Rattle.writer.specs.Leaf.{rows_at}

-- ---- what the rows show, by the table in the file over the bytes, from a row of the sheet's cells on

abbrev pub table_in : Rows → Table
table_in rows = table_of rows.schema.bytes.now

abbrev pub shapes_of : Rows → ℕ → Shape
shapes_of rows = shape_in rows.schema.bytes.now

abbrev pub value_in : Rows → (depth ty row : ℕ) → AnswerOf Row Tree
value_in rows depth ty row = show (shapes_of rows) rows.source.now depth ty (rows_at rows.sheet.now row)

abbrev pub items_in : Rows → (depth : ℕ) → List (List ℕ) → List Item → (row : ℕ) → AnswerOf Row Forest
items_in rows depth keys is row = walk (show (shapes_of rows) rows.source.now depth) keys is (rows_at rows.sheet.now row)

abbrev pub root_in : Rows → (ty : ℕ) → List Field → AnswerOf Row Tree
root_in rows ty fs = show_root (shapes_of rows) rows.source.now ty fs (rows_at rows.sheet.now 0)

-- ---- where a walk over them ends

abbrev pub value_end : Rows → (depth ty row pos : ℕ) → List ℕ → Final
value_end rows depth ty row pos out = emit (shapes_of rows) ty (value_in rows depth ty row) pos out

abbrev pub items_end : Rows → (depth : ℕ) → List (List ℕ) → List Item → (row pos : ℕ) → List ℕ → Final
items_end rows depth keys is row pos out = emit_all (shapes_of rows) is (items_in rows depth keys is row) pos out

abbrev pub root_end : Rows → (ty : ℕ) → List Field → List ℕ → Final
root_end rows ty fs out = emit (shapes_of rows) ty (root_in rows ty fs) 0 out

-- A walk over a whole sheet leaves no row over.
unfoldable pub whole_end : Final → Final
whole_end (ended c x) = cond (eqb (length c.left) 0) (ended c x) (stopped 50 c.at)
whole_end (stopped n q) = stopped n q

-- ---- what a walker answers

-- Its answer over the sheet's cells, with the output that it leaves. Of what a refusal leaves there nothing is said: the entry lends memory of its own,
-- or puts back what stood there.
abbrev pub end_of : List ℕ → Result Past Refused → List ℕ → Final
end_of cells (Ok p) out = done (rows_at cells p.row) p.pos out
end_of cells (Err e) out = stopped (number_of e.refusal) e.place

abbrev pub Within : List ℕ → Result Past Refused → Type 0
Within cells (Ok p) = (p.row ≤ length cells / 4) × (p.pos ≤ 16385)
Within cells (Err e) = Unit {0}

pub record Walked (cells : List ℕ) (end : Final) (r : Result Past Refused) (out : List ℕ) : Type 0 where
  pub same : end_of cells r out ≡ end
  pub within : Within cells r

-- What a walker may assume. A walk that does not judge has been judged: its answer is known to accept.
pub record Ready {A : Type 0} (rows : Rows) (out : List ℕ) (row pos : ℕ) (o : AnswerOf Row A) : Type 0 where
  pub inside : row ≤ length rows.sheet.now / 4
  pub capped : pos ≤ 16385
  pub small : length out ≤ 16384
  pub judged : rows.judging ≡ false → Accepted o

-- ---- the pairs of a map

-- The key of a map with the type row t is a scalar, a string or bytes, and its value of a type of the table.
abbrev pub MapRow : (s : List ℕ) → TypeRow → Type 0
MapRow s t = (0 < (row_at (table_of s) t.a).kind) × ((row_at (table_of s) t.a).kind < 14) × (0 < (row_at (table_of s) t.b).kind)

-- The items from key i on, by whatever shapes; the keys before it are those in `keys`.
abbrev pub key_first : (key : ℕ) → List Item → List Item
key_first key rest = record { type = key; key = true } ∷ rest

abbrev pub key_in : (S : ℕ → Shape) (B cells keys : List ℕ) (i key row depth : ℕ) → List Item → AnswerOf Row Forest
key_in S B cells keys i key row depth rest = walk (show S B depth) (keys_in B keys i) (key_first key rest) (rows_at cells row)

-- Where they end, as far as the key was written.
abbrev pub past_key : (S : ℕ → Shape) (B cells keys : List ℕ) (i depth : ℕ) → List Item → Result Past Refused → List ℕ → Final
past_key S B cells keys i depth rest (Ok p) out = emit_all S rest (walk (show S B depth) (keys_in B keys (i + 1)) rest (rows_at cells p.row)) p.pos out
past_key S B cells keys i depth rest (Err e) out = stopped (number_of e.refusal) e.place

abbrev pub KeyWithin : (B cells keys : List ℕ) (i : ℕ) → Bool → Result Past Refused → Type 0
KeyWithin B cells keys i judging (Ok p) = (p.row ≤ length cells / 4) × (p.pos ≤ 16385) × Kept B keys judging (i + 1)
KeyWithin B cells keys i judging (Err e) = Unit {0}

-- What is asked for a key of a kind, and what is told of it: the items from it on end as those after it do, by each depth that allows a key.
pub record KeyReady (B cells out keys : List ℕ) (i kind key row pos : ℕ) (judging : Bool) : Type 0 where
  pub keys-fit : i + 4 < length keys / 2
  pub capped : pos ≤ 16385
  pub small : length out ≤ 16384
  pub kept : Kept B keys judging i
  pub judged : judging ≡ false → (S : ℕ → Shape) × (S key ≡ leaf_shape kind) × (depth : ℕ) × (depth ≡ 0 → ⊥) × ((rest : List Item) × Accepted (key_in S B cells keys i key row depth rest))

pub record KeyPut (B cells out keys : List ℕ) (i kind key row pos : ℕ) (judging : Bool) (r : Result Past Refused) (out' keys' : List ℕ) : Type 0 where
  pub same : (S : ℕ → Shape) → S key ≡ leaf_shape kind → (depth : ℕ) → (depth ≡ 0 → ⊥) → (rest : List Item)
      → past_key S B cells keys' i depth rest r out' ≡ emit_all S (key_first key rest) (key_in S B cells keys i key row depth rest) pos out
  pub within : KeyWithin B cells keys' i judging r
