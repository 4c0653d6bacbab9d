-- Why a sheet is refused: what the row that the refusal names shows, and what the rows before it show. No reader is mentioned.
use Rattle.std.specs.Prelude.{◌≡◌, ◌⊎◌, List, [], ◌∷◌, ◌++◌, true, ℕ, suc, ◌+◌, ◌≤◌, ◌<◌, length}
use Rattle.buffer.specs.Span.{span, SpanIs}
use Rattle.wire.specs.Little.{little}
use Rattle.utf8.specs.Utf8.{Utf8}
use Rattle.schema.specs.declared.Field.{Field}
use Rattle.schema.specs.Table.{Shape, scalar, text, map, struct, width, bitmap_bytes}
use Rattle.value.specs.declared.Row.{Row}
use Rattle.value.specs.Value.{Tree, Forest, rows, rows_all, Value, value, values, content}
use Rattle.value.specs.Plan.{Item, plan, row_count}
use Rattle.value.specs.Read.{known_bits}
use Rattle.value.specs.Spell.{keys_of, Distinct, encode}
use Rattle.value.specs.Fits.{BitsFit, HeadFits, AllFit, Fits, Shows}
use Rattle.value.specs.Reasons.{Absent, Beyond, AmongKeys}

-- ---- one row

-- Where a row of type t is due there is none, or one of another type.
pub data NoRow (t : ℕ) : (x rest : List Row) → Type 0 where
  missing : NoRow t [] []
  other : {r : Row} {rest : List Row} → (r.ty ≡ t → ⊥) → NoRow t (r ∷ []) rest

module _ (B : List ℕ) where
  -- The presence bytes at a place are not all there, or lack a required field.
  pub data BitsFault (fs : List Field) (p : ℕ) : (number : ℕ) → Type 0 where
    outside : length B < p + bitmap_bytes (length fs) → BitsFault fs p 51
    absent : (i : ℕ) → p + bitmap_bytes (length fs) ≤ length B → Absent fs (little (span B p (bitmap_bytes (length fs)))) i → BitsFault fs p 25

  -- What is wrong with a row of each shape, by its place, length and count.
  pub data RowFault : Shape → (p n c : ℕ) (number : ℕ) → Type 0 where
    scalar-unfit : {kind p n c : ℕ} → (n ≡ width kind → ⊥) ⊎ (c ≡ 0 → ⊥) → RowFault (scalar kind) p n c 50
    scalar-outside : {kind p n : ℕ} → n ≡ width kind → length B < p + n → RowFault (scalar kind) p n 0 51
    no_bool : {p n : ℕ} (b : ℕ) → n ≡ 1 → SpanIs B p n (b ∷ []) → 2 ≤ b → RowFault (scalar 1) p n 0 22
    text-unfit : {kind p n c : ℕ} → (c ≡ 0 → ⊥) → RowFault (text kind) p n c 50
    text-outside : {kind p n : ℕ} → length B < p + n → RowFault (text kind) p n 0 51
    no_string : {p n : ℕ} (x : List ℕ) → SpanIs B p n x → (Utf8 x → ⊥) → RowFault (text 12) p n 0 23
    many-pairs : {k v p n c : ℕ} → 64 < c → RowFault (map k v) p n c 31
    bits : {fs : List Field} {p n c number : ℕ} → BitsFault fs p number → RowFault (struct fs) p n c number
    struct-unfit : {fs : List Field} {p n c : ℕ} (m : ℕ) → BitsFit B fs p m → Beyond fs m ⊎ (c ≡ row_count (struct fs) m → ⊥) → RowFault (struct fs) p n c 50

  -- ---- whole values

  module _ (S : ℕ → Shape) where
    -- The row r shows the head of a composite of type t, and the trees ts fit its first items, with d levels of depth allowed and the keys `earlier`, no two
    -- equal. Then the item i is due.
    pub record RowDue (d t : ℕ) (r : Row) (ts : Forest) (i : Item) (earlier : List (List ℕ)) : Type 0 where
      pub head : ℕ
      pub before : List Item
      pub after : List Item
      pub of-type : r.ty ≡ t
      pub starts : HeadFits B (S t) r.place r.count head
      pub planned : plan (S t) head ≡ before ++ (i ∷ after)
      pub fit : AllFit (Fits S B d) before ts
      pub distinct : Distinct (keys_of before (values ts))
      pub keys : keys_of before (values ts) ≡ earlier

    -- The faulty rows x of a value of type t, with d levels of depth allowed, after the rows u of the same value and before the rows `rest`: no level is
    -- left; no row of the type stands there; its own row is faulty; an item that it holds is; or such an item is a key equal to an earlier one.
    pub data SheetFaulty : (d t : ℕ) (u x rest : List Row) (number : ℕ) → Type 0 where
      too_deep : {t : ℕ} {rest : List Row} → SheetFaulty 0 t [] [] rest 28
      no_row : {d t : ℕ} {x rest : List Row} → NoRow t x rest → SheetFaulty (suc d) t [] x rest 50
      own : {d t n : ℕ} {r : Row} {rest : List Row} → r.ty ≡ t → RowFault (S t) r.place r.length r.count n → SheetFaulty (suc d) t [] (r ∷ []) rest n
      inner : {d t n : ℕ} {r : Row} {ts : Forest} {w x rest : List Row} {i : Item} {earlier : List (List ℕ)} → RowDue d t r ts i earlier
          → SheetFaulty d i.type w x rest n → SheetFaulty (suc d) t (r ∷ (rows_all ts ++ w)) x rest n
      repeated : {d t : ℕ} {r : Row} {ts : Forest} {rest : List Row} {i : Item} {earlier : List (List ℕ)} (tree : Tree) → RowDue d t r ts i earlier
          → i.key ≡ true → Fits S B d i.type tree → AmongKeys earlier (content (value tree)) → SheetFaulty (suc d) t (r ∷ rows_all ts) (rows tree) rest 24

    -- ---- the root

    -- The row r is the root's, with the bits m and the count of the known ones, and the trees ts fit its first known fields that are present. Those in
    -- `after` are due.
    pub record RootRowDue (t : ℕ) (fs : List Field) (r : Row) (ts : Forest) (after : List Item) : Type 0 where
      pub m : ℕ
      pub before : List Item
      pub of-type : r.ty ≡ t
      pub starts : BitsFit B fs r.place m
      pub count : r.count ≡ row_count (struct fs) (known_bits fs m)
      pub planned : plan (struct fs) (known_bits fs m) ≡ before ++ after
      pub fit : AllFit (Fits S B 15) before ts

    -- The faulty rows x of a sheet, after the rows u and before the rows `rest`: the root's own, a field's, or rows left over.
    pub data SheetFault (t : ℕ) (fs : List Field) : (u x rest : List Row) (number : ℕ) → Type 0 where
      no_row : {x rest : List Row} → NoRow t x rest → SheetFault t fs [] x rest 50
      bits : {n : ℕ} {r : Row} {rest : List Row} → r.ty ≡ t → BitsFault fs r.place n → SheetFault t fs [] (r ∷ []) rest n
      miscounted : {r : Row} {rest : List Row} (m : ℕ) → r.ty ≡ t → BitsFit B fs r.place m → (r.count ≡ row_count (struct fs) (known_bits fs m) → ⊥)
          → SheetFault t fs [] (r ∷ []) rest 50
      field : {n : ℕ} {r : Row} {ts : Forest} {w x rest : List Row} {i : Item} {after : List Item} → RootRowDue t fs r ts (i ∷ after)
          → SheetFaulty 15 i.type w x rest n → SheetFault t fs (r ∷ (rows_all ts ++ w)) x rest n
      left_over : {r : Row} {ts : Forest} {x : List Row} → RootRowDue t fs r ts [] → 0 < length x → SheetFault t fs (r ∷ rows_all ts) x [] 50

-- The rows of a sheet over the bytes B, as type t by the shapes S, with room for so many bytes: 46 for a type that is no struct; faulty rows, of which the
-- first is named, a missing one by the number of rows; 7 and 52 for a value whose encoding is above 16,384 bytes, or has no room.
pub data SheetReason (S : ℕ → Shape) (t : ℕ) (rs : List Row) (B : List ℕ) (room : ℕ) : (number place : ℕ) → Type 0 where
  no-struct : ((fs : List Field) → S t ≡ struct fs → ⊥) → SheetReason S t rs B room 46 0
  faulty : {n : ℕ} (fs : List Field) (u x rest : List Row) → S t ≡ struct fs → rs ≡ u ++ (x ++ rest) → SheetFault B S t fs u x rest n
      → SheetReason S t rs B room n (length u)
  too_long : (fs : List Field) (v : Value) → S t ≡ struct fs → Shows S B t fs rs v → 16384 < length (encode S v t) → SheetReason S t rs B room 7 0
  too_small : (fs : List Field) (v : Value) → S t ≡ struct fs → Shows S B t fs rs v → length (encode S v t) ≤ 16384 → room < length (encode S v t)
      → SheetReason S t rs B room 52 0
