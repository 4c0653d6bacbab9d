-- Types whose values hold nothing but scalars, strings and bytes, as the loop over an array of such values needs them.
use Rattle.std.specs.Prelude.{◌≡◌, ◌⊎◌, Bool, true, false, List, ◌∷◌, ℕ, ◌+◌, ◌-◌, ◌^◌, ◌≤◌, ◌<◌, length}
use Rattle.parse.specs.Reader.{Answer, refused, seen, cursor_at}
use Rattle.schema.specs.Table.{Table, Shape, row_at, array, map, struct}
use Rattle.schema.specs.File.{table_of, Laid}
use Rattle.schema.specs.Check.{field_row_of}
use Rattle.value.specs.Comparisons.{map_comparisons}
use Rattle.value.specs.Read.{Own, parts, own, among, plan}
use Rattle.walks.specs.Shape.{fields_from, shape_in}
use Rattle.walks.specs.Required.{Requires}
use Rattle.walks.specs.Keys.{keys_in, Kept}
use Rattle.flat.specs.declared.elements.Prepared.{Prepared}
use Rattle.flat.specs.InnerHead.{InnerHead, Bits, Refused}
use Rattle.flat.specs.Walk.{Walk, value_in, whole_in, told, told_held, Walked, Ready}
use Rattle.flat.specs.Span.{Span, At, Refused as SpanRefused}
use Rattle.flat.specs.Sheet.{put_row}
use Rattle.flat.specs.Leaf.{between, Spanned}

-- The fields from one number up to another are scalars, strings or bytes.
abbrev pub LeavesIn : Table → (first end : ℕ) → Type 0
LeavesIn T first end = (i : ℕ) → first ≤ i → i < end → (row_at T (field_row_of T i).ty).kind < 14

-- Such a value itself, an array of them, or a struct of them; what it holds is within the depth.
pub record IsFlat (s : List ℕ) (depth ty : ℕ) : Type 0 where
  pub some : 0 < (row_at (table_of s) ty).kind
  pub deep : 13 < (row_at (table_of s) ty).kind → 1 < depth
  pub elements : (row_at (table_of s) ty).kind ≡ 14 → (row_at (table_of s) (row_at (table_of s) ty).a).kind < 14
  pub fields : (row_at (table_of s) ty).kind ≡ 16 → LeavesIn (table_of s) (row_at (table_of s) ty).a ((row_at (table_of s) ty).a + (row_at (table_of s) ty).b)
  pub other : 13 < (row_at (table_of s) ty).kind → ((row_at (table_of s) ty).kind ≡ 14 → ⊥) → (row_at (table_of s) ty).kind ≡ 16

-- Keys and values of a map are scalars, strings or bytes.
abbrev pub PairsIn : Table → (key val : ℕ) → Type 0
PairsIn T key val = (0 < (row_at T key).kind) × ((row_at T key).kind < 14) × (0 < (row_at T val).kind) × ((row_at T val).kind < 14)

-- What is read once of a type.
pub record Described (s : List ℕ) (ty : ℕ) (e : Prepared) : Type 0 where
  pub same : e.ty ≡ ty
  pub laid : Laid s e.layout
  pub is : e.row ≡ row_at (table_of s) ty
  pub required : e.row.kind ≡ 16 → Requires e.required (fields_from (table_of s) e.row.a e.row.b)

-- ---- the bitmap of an inner struct

abbrev pub inner_head_of : List ℕ → ℕ → InnerHead → Answer Own
inner_head_of p at (Bits known start) = seen (parts at known) (cursor_at p start)
inner_head_of p at (Refused number) = refused number at

abbrev pub InnerHeadIn : (size n at : ℕ) → InnerHead → Type 0
InnerHeadIn size n at (Bits known start) = (known < 2 ^ n) × (at < start) × (start ≤ size)
InnerHeadIn size n at (Refused number) = Unit {0}

pub record InnerHeaded (p : List ℕ) (required n at : ℕ) (r : InnerHead) : Type 0 where
  pub same : (T : Table) (first : ℕ) → first + n ≤ length T.fields → Requires required (fields_from T first n)
      → inner_head_of p at r ≡ own (struct (fields_from T first n)) (cursor_at p at)
  pub within : InnerHeadIn (length p) n at r

-- ---- what is answered, by whatever shapes R it is shown

-- A value whose type is shown whole.
abbrev pub ValuedFlat : (s p : List ℕ) (depth ty at row : ℕ) (sheet : List ℕ) → Walk → (after : List ℕ) → Type 0
ValuedFlat s p depth ty at row sheet r after =
    (R : ℕ → Shape) → R ty ≡ shape_in s ty → Walked p (at + 1) (told R (shape_in s) ty) (value_in s p depth ty at) row sheet r after

-- An array from its head on, whose elements' type is shown whole.
abbrev pub HeldFlat : (s p : List ℕ) (depth ty elem place n at row : ℕ) (sheet : List ℕ) → Walk → (after : List ℕ) → Type 0
HeldFlat s p depth ty elem place n at row sheet r after =
    (R : ℕ → Shape) → R elem ≡ shape_in s elem → Walked p at (told_held R (shape_in s) 0 (plan (array elem) n)) (whole_in s p depth ty (array elem) place n at) row sheet r after

-- An array from its head on whose elements are scalars, strings or bytes.
abbrev pub HeldLeaves : (s p : List ℕ) (depth ty elem place n at row : ℕ) (sheet : List ℕ) → Walk → (after : List ℕ) → Type 0
HeldLeaves s p depth ty elem place n at row sheet r after =
    (R : ℕ → Shape) → Walked p at (told_held R (shape_in s) 0 (plan (array elem) n)) (whole_in s p depth ty (array elem) place n at) row sheet r after

-- A map from its head on whose keys and values are scalars, strings or bytes.
abbrev pub HeldPairs : (s p : List ℕ) (depth ty key val place n at row : ℕ) (sheet : List ℕ) → Walk → (after : List ℕ) → Type 0
HeldPairs s p depth ty key val place n at row sheet r after =
    (R : ℕ → Shape)
    → Walked p at (told_held R (shape_in s) (map_comparisons (map key val) n) (plan (map key val) n)) (whole_in s p depth ty (map key val) place n at) row sheet r after

-- What the loop over the n pairs of a map may assume.
pub record PairsReady (s p : List ℕ) (depth ty key val n start row : ℕ) (judging : Bool) : Type 0 where
  pub ready : Ready s p start (row + 1) judging (whole_in s p depth ty (map key val) start n start)
  pub some : 0 < (row_at (table_of s) key).kind
  pub leaf : (row_at (table_of s) key).kind < 14
  pub most : n ≤ 64

-- The next key of a map, whose first i keys are kept where they are judged: it is none of them, is kept with them and has a row; or it is refused.
abbrev pub KeyTold : (p : List ℕ) (at : ℕ) → Answer Own → (judging : Bool) (ty i row : ℕ) (sheet keys : List ℕ) → Span → (sheet' keys' : List ℕ) → Type 0
KeyTold p at o judging ty i row sheet keys (At from to) sheet' keys' =
    Spanned p at o (At from to)
    × (judging ≡ true → (among (between p from to) (keys_in p keys i) ≡ false) × (keys_in p keys' (i + 1) ≡ between p from to ∷ keys_in p keys i) × Kept p keys' true (i + 1))
    × (sheet' ≡ put_row sheet row (record { ty = ty; place = from; length = to - from; count = 0 }))
KeyTold p at o judging ty i row sheet keys (SpanRefused place number) sheet' keys' =
    Spanned p at o (SpanRefused place number)
    ⊎ ((place ≡ at) × (number ≡ 24) × (judging ≡ true) × ((from to : ℕ) × Spanned p at o (At from to) × (among (between p from to) (keys_in p keys i) ≡ true)))

pub record KeyTaken (p : List ℕ) (at : ℕ) (o : Answer Own) (judging : Bool) (ty i row : ℕ) (sheet keys : List ℕ) (r : Span) (sheet' keys' : List ℕ) : Type 0 where
  pub told : KeyTold p at o judging ty i row sheet keys r sheet' keys'

-- ---- the fields of a struct

-- The fields of a struct from its bits on, with a row for each, all scalars, strings or bytes: n fields from the first on.
abbrev pub HeldFields : (s p : List ℕ) (depth ty first n place known at row : ℕ) (sheet : List ℕ) → Walk → (after : List ℕ) → Type 0
HeldFields s p depth ty first n place known at row sheet r after =
    (R : ℕ → Shape)
    → Walked p at (told_held R (shape_in s) 0 (plan (struct (fields_from (table_of s) first n)) known)) (whole_in s p depth ty (struct (fields_from (table_of s) first n)) place known at) row sheet r after

-- What the loop over these fields may assume.
pub record FieldsReady (s p : List ℕ) (depth ty first n place known start row : ℕ) (judging : Bool) : Type 0 where
  pub ready : Ready s p start (row + 1) judging (whole_in s p depth ty (struct (fields_from (table_of s) first n)) place known start)
  pub leaves : LeavesIn (table_of s) first (first + n)
  pub in_table : first + n ≤ length (table_of s).fields
  pub few : n ≤ 64
  pub fits : known < 2 ^ n
  pub forth : place ≤ start
  pub deep : 0 < depth

-- ---- structs of which only the first fields are shown

-- The fields of a struct from its bits on, of which the first m are shown.
abbrev pub HeldFirst : (s p : List ℕ) (depth ty first n m place known at row : ℕ) (sheet : List ℕ) → Walk → (after : List ℕ) → Type 0
HeldFirst s p depth ty first n m place known at row sheet r after =
    (R : ℕ → Shape) → R ty ≡ struct (fields_from (table_of s) first m)
    → Walked p at (told R (shape_in s) ty) (whole_in s p depth ty (struct (fields_from (table_of s) first n)) place known at) row sheet r after

-- The first m fields of a type's row.
abbrev pub first_shape : (s : List ℕ) (ty m : ℕ) → Shape
first_shape s ty m = struct (fields_from (table_of s) (row_at (table_of s) ty).a m)

-- A struct of which the first m fields are shown.
abbrev pub ValuedPartial : (s p : List ℕ) (depth ty m at row : ℕ) (sheet : List ℕ) → Walk → (after : List ℕ) → Type 0
ValuedPartial s p depth ty m at row sheet r after =
    (R : ℕ → Shape) → R ty ≡ first_shape s ty m → Walked p (at + 1) (told R (shape_in s) ty) (value_in s p depth ty at) row sheet r after

-- An array of such structs from its head on.
abbrev pub HeldPartial : (s p : List ℕ) (depth ty elem m place n at row : ℕ) (sheet : List ℕ) → Walk → (after : List ℕ) → Type 0
HeldPartial s p depth ty elem m place n at row sheet r after =
    (R : ℕ → Shape) → R elem ≡ first_shape s elem m → Walked p at (told_held R (shape_in s) 0 (plan (array elem) n)) (whole_in s p depth ty (array elem) place n at) row sheet r after
