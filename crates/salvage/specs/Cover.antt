-- Covers of a record as a relation, beside the function that finds the pieces; and what a salvage answers, without an order of tests.
use Rattle.std.specs.Prelude.{◌≡◌, List, [], ◌∷◌, ◌++◌, ℕ, ◌+◌, ◌*◌, ◌≤◌, ◌<◌, length, drop}
use Rattle.record.specs.IsEntry.{IsEntry, NoEntry}
use Rattle.salvage.specs.Pieces.{Piece, keep, skip, entries_in, copy_of, span_count, spans_of}

-- The pieces do not start with a span.
abbrev pub NoSpan : List Piece → Type 0
NoSpan [] = Unit {0}
NoSpan (keep e ∷ ps) = Unit {0}
NoSpan (skip g ∷ ps) = ⊥

-- No entry starts in the span g, after which the record goes on with s.
abbrev pub NoneIn : (g s : List ℕ) → Type 0
NoneIn g s = (i : ℕ) → i < length g → NoEntry (drop i (g ++ s))

-- The pieces are the record s, once and in order. What is kept is an entry; a span has a byte at least, no entry starts in it, and no other span
-- touches it.
pub data Cover : (s : List ℕ) → List Piece → Type 0 where
  end : Cover [] []
  entry : {e s : List ℕ} {ps : List Piece} → IsEntry e → Cover s ps → Cover (e ++ s) (keep e ∷ ps)
  span : {g s : List ℕ} {ps : List Piece} → 0 < length g → NoneIn g s → NoSpan ps → Cover s ps → Cover (g ++ s) (skip g ∷ ps)

-- A salvage that is accepted: n entries, b bytes, m spans, and both buffers afterwards.
pub record Accepted (torn copy spans : List ℕ) (n b m : ℕ) (copied listed : List ℕ) : Type 0 where
  pub pieces : List Piece
  pub cover : Cover torn pieces
  pub small : length torn ≤ 65536
  pub entries : length (entries_in pieces) ≡ n
  pub bytes : length (copy_of pieces) ≡ b
  pub holes : span_count pieces ≡ m
  pub fits : b ≤ length copy
  pub spans_fit : 2 * m ≤ length spans
  pub copied_is : copied ≡ copy_of pieces ++ drop b copy
  pub listed-is : listed ≡ spans_of 0 pieces ++ drop (2 * m) spans

-- What is refused: a record that is too long; a copy that is too small; a list that is too small.
pub data Refuses (torn copy spans : List ℕ) : (number : ℕ) → Type 0 where
  too_long : 65536 < length torn → Refuses torn copy spans 45
  copy-small : {ps : List Piece} → length torn ≤ 65536 → Cover torn ps → length copy < length (copy_of ps) → Refuses torn copy spans 52
  list-small : {ps : List Piece} → length torn ≤ 65536 → Cover torn ps → length (copy_of ps) ≤ length copy → length spans < 2 * span_count ps
      → Refuses torn copy spans 53

-- A span by its two cells: it has a byte at least, it lies in the record, and no entry starts in it.
pub record ListedSpan (torn : List ℕ) (place size : ℕ) : Type 0 where
  pub some : 0 < size
  pub inside : place + size ≤ length torn
  pub none : (k : ℕ) → k < size → NoEntry (drop (place + k) torn)
