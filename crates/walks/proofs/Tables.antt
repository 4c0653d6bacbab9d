-- Laws of a good table: what the walkers need of its rows, and the shape of each kind.
use Rattle.std.proofs.Common.{◌≡◌, ℕ, suc, ◌+◌, ◌<◌, ◌≤◌, List, length, sym, refl, ap, ◌∙◌, ⊎_elim, arith, le-ltb, lt-ltb}
use native.Mathlib.Decide.{dec_lt}
use lib.ListN.{get_or-eq_default}
use Rattle.schema.specs.declared.TypeRow.{TypeRow}
use Rattle.schema.specs.declared.Field.{Field}
use Rattle.schema.specs.Table.{Table, Shape, unknown, scalar, text, array, map, struct, row_at, kind_shapes as all_shapes, shape}
use Rattle.schema.specs.File.{table_of}
use Rattle.schema.specs.Check.{IsGood, no_row, field_row_of}
use Rattle.schema.specs.Good.{KeyKind}
use Rattle.schema.proofs.Goods.{good-table}
use Rattle.schema.proofs.Shapes as shapes
use Rattle.value.specs.Read.{on_struct_of}
use Rattle.walks.specs.Shape.{leaf_shape, fields_from}

-- ---- rows

module _ (s : List ℕ) (good : IsGood s) where
  pub few-fields : length (table_of s).fields ≤ 2048
  few-fields = (good-table s good).few_fields

  -- a row of a kind other than 0 is one of the table's
  row-there : (t : ℕ) → 0 < (row_at (table_of s) t).kind → t < length (table_of s).types
  row-there t h = elim (dec_lt t (length (table_of s).types)) [
    | yes l ↦ l
    | no g ↦
        let d : length (table_of s).types ≤ t = omega arith in
        let z : (row_at (table_of s) t).kind ≡ 0 = ap (λ (r : TypeRow). r.kind) (get_or-eq_default (table_of s).types no_row d) in
        absurd (omega arith)
  ]

  -- the type of a field is one of the table's: here of the first of those left
  pub field_row : (i left : ℕ) → 0 < left → i + left ≤ length (table_of s).fields → (f : Field) → f ≡ field_row_of (table_of s) i
      → (r : TypeRow) → r ≡ row_at (table_of s) f.ty → 0 < r.kind
  field_row i left some room f is r row =
      let g = good-table s good in
      let l : f.ty < length (table_of s).types = rw is (g.fields i (omega arith)).type in
      rw row (g.rows f.ty l).kind.0

  module _ (t : ℕ) (r : TypeRow) (is : r ≡ row_at (table_of s) t) where
    there : 0 < r.kind → t < length (table_of s).types
    there h = row-there t (rw is at h)

    pub struct_row : r.kind ≡ 16 → (0 < r.b) × (r.b ≤ 64) × (r.a + r.b ≤ length (table_of s).fields)
    struct_row k = rw is (((good-table s good).rows t (there (omega arith))).struct (rw is at k))

    pub array_row : r.kind ≡ 14 → 0 < (row_at (table_of s) r.a).kind
    array_row k =
        let g = good-table s good in
        let a : r.a < length (table_of s).types = rw is ((g.rows t (there (omega arith))).array (rw is at k)).0 in
        (g.rows r.a a).kind.0

    -- the kind of a map's key is that of a scalar, a string or bytes
    pub map_row : r.kind ≡ 15 → (0 < (row_at (table_of s) r.a).kind) × ((row_at (table_of s) r.a).kind < 14)
    map_row k =
        let h : KeyKind (row_at (table_of s) r.a).kind = rw is (((good-table s good).rows t (there (omega arith))).map (rw is at k)).1 in
        ⊎_elim (λ a. omega arith) (λ b. ⊎_elim (λ x. omega arith) (λ y. omega arith) b) h

    pub map-value : r.kind ≡ 15 → 0 < (row_at (table_of s) r.b).kind
    map-value k =
        let g = good-table s good in
        let b : r.b < length (table_of s).types = rw is ((g.rows t (there (omega arith))).map (rw is at k)).2 in
        (g.rows r.b b).kind.0

  -- a type with a struct's shape is one of the table's, of at most 256
  pub struct_type : (t : ℕ) (fs : List Field) → shape (table_of s) t ≡ struct fs → (t < length (table_of s).types) × (t < 256)
  struct_type t fs e =
      let k : (row_at (table_of s) t).kind ≡ 16 = sym (shapes.kind-of (table_of s) (good-table s good) t) ∙ ap shapes.kind_of e in
      let l = row-there t (omega arith) in
      let few = (good-table s good).few_types in
      (l, omega arith)

-- ---- shapes

pub leaf-scalar : (kind : ℕ) → kind < 12 → leaf_shape kind ≡ scalar kind
unfolding leaf_shape
leaf-scalar kind h = rw (lt-ltb kind 12 h)

pub leaf-text : (kind : ℕ) → 12 ≤ kind → leaf_shape kind ≡ text kind
unfolding leaf_shape
leaf-text kind h = rw (le-ltb kind 12 h)

module _ (T : Table) (t : ℕ) (r : TypeRow) (is : r ≡ row_at T t) where
  pub shape-array : r.kind ≡ 14 → shape T t ≡ array r.a
  shape-array k = rw is (shapes.shape-array T t (rw is at k))

  pub shape-map : r.kind ≡ 15 → shape T t ≡ map r.a r.b
  shape-map k = rw is (shapes.shape-map T t (rw is at k))

  pub shape-struct : r.kind ≡ 16 → shape T t ≡ struct (fields_from T r.a r.b)
  unfolding fields_from
  shape-struct k = rw is (shapes.shape-struct T t (rw is at k))

  pub shape-none : r.kind ≡ 0 → shape T t ≡ unknown
  unfolding shape
  shape-none k = rw (← is, k)

  pub shape-past : 16 < r.kind → shape T t ≡ unknown
  unfolding shape
  shape-past k = rw (← is) (get_or-eq_default (all_shapes T r) unknown k)

  pub shape-leaf : 0 < r.kind → r.kind < 14 → shape T t ≡ leaf_shape r.kind
  shape-leaf z h = elim (dec_lt r.kind 12) [
    | yes l ↦ rw (leaf-scalar r.kind l, is) (shapes.shape-scalar T t (rw is at z) (rw is at (below 11 l)))
    | no g ↦ rw (leaf-text r.kind (above g), is) (shapes.shape-text T t (rw is at (above g)) (rw is at (below 13 h)))
  ]
    where
      below : (n : ℕ) → r.kind < suc n → r.kind ≤ n
      below n l = omega arith

      above : (r.kind < 12 → ⊥) → 12 ≤ r.kind
      above g = omega arith

-- a type whose row has another kind than 16 has not the shape of a struct
pub no-struct : (s : List ℕ) → IsGood s → (t : ℕ) (r : TypeRow) → r ≡ row_at (table_of s) t → (r.kind ≡ 16 → ⊥) → {A : Type 0} (other : A) (f : List Field → A)
    → on_struct_of (shape (table_of s) t) other f ≡ other
no-struct s good t r is h other f = go (shape (table_of s) t) (shapes.kind-of (table_of s) (good-table s good) t)
  where
    go : (sh : Shape) → shapes.kind_of sh ≡ (row_at (table_of s) t).kind → on_struct_of sh other f ≡ other
    go (struct fs) e = absurd (h (rw is (sym e)))
    go unknown e = refl
    go (scalar _) e = refl
    go (text _) e = refl
    go (array _) e = refl
    go (map _ _) e = refl

pub shape-kind : (T : Table) (t kind : ℕ) → kind ≡ (row_at T t).kind → 0 < kind → kind < 14 → shape T t ≡ leaf_shape kind
shape-kind T t kind e z h = rw e (shape-leaf T t (row_at T t) refl (rw e at z) (rw e at h))
