-- Values for which no walker is called.
use Rattle.std.specs.Prelude.{◌≡◌, ◌⊎◌, Bool, false, List, ℕ, suc, ◌+◌, ◌≤◌, ◌<◌, length}
use Rattle.parse.specs.Reader.{cursor_at, Accepted, count}
use Rattle.schema.specs.declared.TypeRow.{TypeRow}
use Rattle.schema.specs.Table.{row_at}
use Rattle.schema.specs.File.{table_of}
use Rattle.value.specs.Read.{own}
use Rattle.walks.specs.Shape.{leaf_shape}
use Rattle.flat.specs.Span.{Span, At, Refused as SpanRefused}
use Rattle.flat.specs.Walk.{Walk, Past, Refused}
use Rattle.flat.specs.Leaf.{Uncounted}
use Rattle.flat.specs.Flat.{ValuedFlat}

-- A scalar, a string, bytes, or a map without pairs.
abbrev pub IsChildless : (p : List ℕ) (kind at : ℕ) → Type 0
IsChildless p kind at = (kind < 14) ⊎ ((kind ≡ 15) × Uncounted p at (count 2 (cursor_at p at)))

-- What is asked before it is read.
pub record ChildlessReady (p : List ℕ) (t : TypeRow) (at row : ℕ) (judging : Bool) : Type 0 where
  pub small : length p ≤ 16384
  pub inside : at ≤ length p
  pub behind : row ≤ at
  pub some : 0 < t.kind
  pub is : IsChildless p t.kind at
  pub judged : judging ≡ false → t.kind < 14 → Accepted (own (leaf_shape t.kind) (cursor_at p at))

-- A walker's answer by where the content of such a value ends: it has one row and no comparison is due.
abbrev pub walk_of_span : (row : ℕ) → Span → Walk
walk_of_span row (At from to) = Past 0 to (row + 1)
walk_of_span row (SpanRefused place number) = Refused number place

-- What is answered, by every table that has the type's row.
pub record ChildlessRead (p : List ℕ) (ty : ℕ) (t : TypeRow) (at row : ℕ) (sheet : List ℕ) (r : Span) (after : List ℕ) : Type 0 where
  pub told : (s : List ℕ) (depth : ℕ) → t ≡ row_at (table_of s) ty → ValuedFlat s p (suc depth) ty at row sheet (walk_of_span row r) after
