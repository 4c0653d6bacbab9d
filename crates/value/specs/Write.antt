-- The writer: the rows of a sheet over its bytes are read as a value, or refused; the value is then encoded.
use Rattle.std.specs.Prelude.{List, [], ◌∷◌, not, ◌&&◌, ◌||◌, ℕ, zero, suc, ◌+◌, ◌^◌, leb, ltb, eqb, length}
use Rattle.buffer.specs.Span.{span, inside}
use Rattle.wire.specs.Little.{little}
use Rattle.utf8.specs.Utf8.{utf8}
use Rattle.parse.specs.Reader.{AnswerOf, ReaderOf, refused, seen, ◌>>=◌, ◌>>◌, return, at, refuse, check}
use Rattle.parse.specs.Test.{test}
use Rattle.schema.specs.declared.Field.{Field}
use Rattle.schema.specs.Table.{Table, Shape, unknown, scalar, text, array, map, struct, shape, width, bitmap_bytes}
use Rattle.value.specs.declared.Row.{Row}
use Rattle.value.specs.Value.{Tree, tip, branch, value}
use Rattle.value.specs.Read.{Own, plain, parts, pairs_allowed, plan, row_count, required_set, known_bits, walk, on_struct_of}
use Rattle.value.specs.Spell.{encode}

-- Readers of rows: a place is a row's number.
abbrev pub RowReader : Type 0 → Type 0
RowReader A = ReaderOf Row A

-- The next row.
unfoldable pub next_row : RowReader Row
next_row c = next_of c.left
  where
    next_of : List Row → AnswerOf Row Row
    next_of [] = refused 50 c.at
    next_of (r ∷ rs) = seen r (record { left = rs; at = c.at + 1 })

-- The next row, which is to be of type t.
unfoldable pub row_due : ℕ → RowReader Row
row_due t = at λ here. do
  r ← next_row
  check (eqb r.ty t) 50 here.at
  return r

-- What row k says over the bytes B.
module _ (B : List ℕ) (k : ℕ) where
  -- The presence bits at a struct's place, unknown ones too.
  unfoldable pub bits_at : List Field → (place : ℕ) → RowReader ℕ
  bits_at fs p = do
    check (inside B p (bitmap_bytes (length fs))) 51 k
    check (required_set fs (little (span B p (bitmap_bytes (length fs))))) 25 k
    return (little (span B p (bitmap_bytes (length fs))))

  -- What a row of each shape says, by its place, length and count. An array's or map's place and a composite's length are not looked at.
  abbrev pub says : Shape → (place n count : ℕ) → RowReader Own
  says unknown p n c = refuse 50 k
  says (scalar kind) p n c = do
    check (eqb n (width kind) && eqb c 0) 50 k
    check (inside B p n) 51 k
    check (not (eqb kind 1) || ltb (little (span B p n)) 2) 22 k
    return (plain (span B p n))
  says (text kind) p n c = do
    check (eqb c 0) 50 k
    check (inside B p n) 51 k
    check (not (eqb kind 12) || utf8 (span B p n)) 23 k
    return (plain (span B p n))
  says (array _) p n c = return (parts 0 c)
  says (map _ _) p n c = do
    check (pairs_allowed c) 31 k
    return (parts 0 c)
  says (struct fs) p n c = do
    m ← bits_at fs p
    check (ltb m (2 ^ length fs) && eqb c (row_count (struct fs) m)) 50 k
    return (parts 0 m)

-- A value of shape s with the row r from what the row says, with the reader p for what it holds.
abbrev pub held : (ℕ → RowReader Tree) → Row → Shape → Own → RowReader Tree
held p r s (plain x) = return (tip r x)
held p r s (parts _ head) = do
  ts ← walk p [] (plan s head)
  return (branch r head ts)

-- A value of type t, with d levels of depth still allowed.
unfoldable pub show : (ℕ → Shape) → List ℕ → (d t : ℕ) → RowReader Tree
show S B zero t = at λ here. refuse 28 here.at
show S B (suc d) t = at λ here. do
  r ← row_due t
  o ← says B here.at (S t) r.place r.length r.count
  held (show S B d) r (S t) o

-- The root, a struct of the fields fs. Its unknown bits are left out; no row is left over.
unfoldable pub show_root : (ℕ → Shape) → List ℕ → ℕ → List Field → RowReader Tree
show_root S B t fs = at λ here. do
  r ← row_due t
  m ← bits_at B here.at fs r.place
  check (eqb r.count (row_count (struct fs) (known_bits fs m))) 50 here.at
  ts ← walk (show S B 15) [] (plan (struct fs) (known_bits fs m))
  at λ end. check (eqb (length end.left) 0) 50 end.at
  return (branch r (known_bits fs m) ts)

abbrev pub sheet_root : (ℕ → Shape) → ℕ → List Row → List ℕ → AnswerOf Row Tree
sheet_root S t rs B = on_struct_of (S t) (refused 46 0) (λ fs. show_root S B t fs (record { left = rs; at = 0 }))

-- The answer: a number with a place, or the bytes written.
pub data Writing : Type 0 where
  refusal : (number place : ℕ) → Writing
  written : List ℕ → Writing

-- Bytes that are a payload and fit into the room for the output.
abbrev pub fitted : (room : ℕ) → List ℕ → Writing
fitted room out = test (leb (length out) 16384) (refusal 7 0) (test (leb (length out) room) (refusal 52 0) (written out))

abbrev pub writing : (ℕ → Shape) → ℕ → (room : ℕ) → AnswerOf Row Tree → Writing
writing S t room (refused n p) = refusal n p
writing S t room (seen tree end) = fitted room (encode S (value tree) t)

-- A sheet's rows over their bytes written as a struct of type t by a good table.
unfoldable pub write : Table → ℕ → List Row → List ℕ → (room : ℕ) → Writing
write T t rs B room = writing (shape T) t room (sheet_root (shape T) t rs B)
