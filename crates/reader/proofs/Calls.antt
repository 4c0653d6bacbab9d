-- Laws of what a walker hands on: after its head a composite is ready for the walker of what it holds, and is told by that walker's answer.
use mathlib.Core.Path.{◌≡◌, refl, sym, ◌∙◌}
use mathlib.Core.Bool.{Bool}
use mathlib.Core.List.{List}
use Prim.Native.Nat.{ℕ, suc, ◌+◌, ◌-◌, ◌*◌, ◌≤◌, ◌<◌}
use native.Mathlib.Omega.{arith}
use lib.ListN.{length, get_or}
use Rattle.parse.specs.Reader.{cursor_at, count}
use Rattle.schema.specs.declared.TypeRow.{TypeRow}
use Rattle.schema.specs.Table.{Shape, array, map, struct, row_at}
use Rattle.schema.specs.File.{table_of}
use Rattle.schema.specs.Check.{IsGood}
use Rattle.walks.specs.Shape.{shape_in, fields_from}
use Rattle.walks.proofs.Tables.{shape-map, shape-struct, map_row, map-value, struct_row, struct_type}
use Rattle.walks.proofs.Walks.{shallower, deeper}
use Rattle.flat.specs.Count.{Count, Is, Refused as CountRefused}
use Rattle.flat.specs.Walk.{Walk, Past, Refused, first_fields, value_in, whole_in, told, Walked, Valued, Held, Ready}
use Rattle.flat.specs.Sheet.{put_row}
use Rattle.flat.specs.Leaf.{CountRead}
use Rattle.flat.specs.Flat.{PairsIn, PairsReady, first_shape}
use Rattle.flat.proofs.Steps.{as_refused}
use Rattle.flat.proofs.Composites.{count_in, array-refused, array_whole, array-valued, map-refused, map-many, map-none, map_whole, map-valued, first-of, first_part}
use Rattle.schema.specs.declared.Field.{Field}

-- An array or a map after its count: what its loop is asked, and what that loop's answer tells of it.
pub record Entered (shown s p : List ℕ) (d ty : ℕ) (sh : Shape) (at row n start : ℕ) (judging : Bool) : Type 0 where
  pub ready : Ready s p start (row + 1) judging (whole_in s p d ty sh start n start)
  pub held : {l : List ℕ} {v : Walk} {after : List ℕ} → Held shown s p d ty sh start n start row l v after → Valued shown s p (suc d) ty at row l v after

-- ---- an array

module _ {s p : List ℕ} (d ty : ℕ) {at row : ℕ} {judging : Bool} (pre : Ready s p at row judging (value_in s p (suc d) ty at)) {elem : ℕ} (is : shape_in s ty ≡ array elem)
    {r : Count} (read : CountRead p at 1 (count 1 (cursor_at p at)) r) (shown : List ℕ) where
  pub array-stop : {number : ℕ} → r ≡ CountRefused number → {l after : List ℕ} → Valued shown s p (suc d) ty at row l (Refused number at) after
  array-stop {number} e = as_refused _ _ _ (array-refused (shape_in s) d ty p at elem is r read number e)

  module _ {n start : ℕ} (e : r ≡ Is n start) where
    pub array-few : n ≤ 16384
    array-few = let w = count_in (shape_in s) d ty p at 1 r read n start e in omega (arith, w, pre.small)

    pub array-entered : Entered shown s p d ty (array elem) at row n start judging
    array-entered =
        let w = count_in (shape_in s) d ty p at 1 r read n start e in
        let whole = array_whole (shape_in s) d ty p at elem is r read n start e in
        record {
          ready = record { good = pre.good; small = pre.small; inside = omega (arith, w); behind = omega (arith, w, pre.behind); judged = λ j. rw whole at (pre.judged j) };
          held = λ {l} {v} {after} h. array-valued (shape_in s) d ty p at elem is r read (first_fields shown (shape_in s)) (first-of shown (shape_in s) ty is) n start e v h;
        }

-- elements that are structs of which the first fields are shown
module _ (s : List ℕ) (elem : ℕ) (good : IsGood s) (kind : (row_at (table_of s) elem).kind ≡ 16) where
  part-is : shape_in s elem ≡ struct (fields_from (table_of s) (row_at (table_of s) elem).a (row_at (table_of s) elem).b)
  part-is = shape-struct (table_of s) elem (row_at (table_of s) elem) refl kind

  pub part_type : elem < 256
  part_type = (struct_type s good elem _ part-is).1

  pub part-shown : (shown : List ℕ) {m : ℕ} → m ≡ get_or shown elem 0 → get_or shown elem 0 < (row_at (table_of s) elem).b → first_fields shown (shape_in s) elem ≡ first_shape s elem m
  part-shown shown {m} e few =
      let row = row_at (table_of s) elem in
      first_part shown (shape_in s) (table_of s) elem row.a row.b part-is (struct_row s good elem row refl kind).2 m e (omega (arith, e, few))

-- elements that are maps of scalars, strings and bytes
pub leaf-pairs : (s : List ℕ) (elem : ℕ) {t : TypeRow} → IsGood s → t ≡ row_at (table_of s) elem → t.kind ≡ 15 → (row_at (table_of s) t.b).kind < 14
    → (shape_in s elem ≡ map t.a t.b) × PairsIn (table_of s) t.a t.b
leaf-pairs s elem {t} good row kind leaf =
    let k = map_row s good elem t row kind in (shape-map (table_of s) elem t row kind, (k.0, k.1, map-value s good elem t row kind, leaf))

-- ---- a map

pub map-shown : (shown s : List ℕ) (ty : ℕ) (t : TypeRow) → t ≡ row_at (table_of s) ty → t.kind ≡ 15 → first_fields shown (shape_in s) ty ≡ shape_in s ty
map-shown shown s ty t row kind = let is = shape-map (table_of s) ty t row kind in first-of shown (shape_in s) ty is ∙ sym is

module _ {s p : List ℕ} (d ty : ℕ) {at row : ℕ} {judging : Bool} {t : TypeRow}
    (asked : Ready s p at row judging (value_in s p (suc d) ty at) × (t ≡ row_at (table_of s) ty) × (t.kind ≡ 15))
    {r : Count} (read : CountRead p at 2 (count 2 (cursor_at p at)) r) (shown : List ℕ) where
  map_is : shape_in s ty ≡ map t.a t.b
  map_is = shape-map (table_of s) ty t asked.1 asked.2

  pub map-stop : {number : ℕ} → r ≡ CountRefused number → {l after : List ℕ} → Valued shown s p (suc d) ty at row l (Refused number at) after
  map-stop {number} e = as_refused _ _ _ (map-refused (shape_in s) d ty p at t.a t.b map_is r read number e)

  module _ {n start : ℕ} (e : r ≡ Is n start) where
    pub map-long : 64 < n → {l after : List ℕ} → Valued shown s p (suc d) ty at row l (Refused 31 at) after
    map-long many = as_refused _ _ _ (map-many (shape_in s) d ty p at t.a t.b map_is r read n start e many)

    map_in : (at < start) × (start + 2 * n ≤ length p)
    map_in = count_in (shape_in s) d ty p at 2 r read n start e

    pub map-bare : n ≡ 0 → {l after : List ℕ} → after ≡ put_row l row (record { ty = ty; place = start; length = 0; count = 0 })
        → Valued shown s p (suc d) ty at row l (Past 0 start (row + 1)) after
    map-bare none {l} {after} put =
        map-none (shape_in s) d ty p at t.a t.b map_is r read n start e none (first_fields shown (shape_in s)) (first-of shown (shape_in s) ty map_is) row l after asked.0.behind put

    module _ (few : n ≤ 64) where
      pub map-entered : Entered shown s p d ty (map t.a t.b) at row n start judging
      map-entered =
          let whole = map_whole (shape_in s) d ty p at t.a t.b map_is r read n start e few in
          record {
            ready = record { good = asked.0.good; small = asked.0.small; inside = omega (arith, map_in); behind = omega (arith, map_in, asked.0.behind); judged = λ j. rw whole at (asked.0.judged j) };
            held = λ {l} {v} {after} h.
                map-valued (shape_in s) d ty p at t.a t.b map_is r read n start e (first_fields shown (shape_in s)) (first-of shown (shape_in s) ty map_is) few v h;
          }

      pub map-kinds : 0 < n → (0 < (row_at (table_of s) t.a).kind) × ((row_at (table_of s) t.a).kind < 14) × (0 < (row_at (table_of s) t.b).kind) × (0 < n) × (n ≤ 64)
      map-kinds some =
          let k = map_row s asked.0.good ty t asked.1 asked.2 in (k.0, k.1, map-value s asked.0.good ty t asked.1 asked.2, some, few)

-- ---- the walk over a map's pairs

-- What is shown: of each struct so many fields as are known of its type.
abbrev pub By : (shown s : List ℕ) → (ℕ → Shape) → Type 0
By shown s R = R ≡ first_fields shown (shape_in s)

pub pairs-ready : {A : Type 0} {s p : List ℕ} {depth ty key val n start row : ℕ} {judging : Bool}
    → Ready s p start (row + 1) judging (whole_in s p depth ty (map key val) start n start)
    × (((0 < (row_at (table_of s) key).kind) × ((row_at (table_of s) key).kind < 14) × (0 < (row_at (table_of s) val).kind) × (0 < n) × (n ≤ 64)) × A)
    → PairsReady s p depth ty key val n start row judging
pairs-ready asked = let kinds = asked.1.0 in record { ready = asked.0; some = kinds.0; leaf = kinds.1; most = kinds.4 }

-- what was told of a value one level down, by the answer and the sheet that it stands in
pub value-told : (shown s : List ℕ) (depth ty at : ℕ) {p : List ℕ} {row : ℕ} {l : List ℕ} {r : Walk} {m : List ℕ} → (depth ≡ 0 → ⊥)
    → Valued shown s p (suc (depth - 1)) ty at row l r m → {r' : Walk} {m' : List ℕ} → m' ≡ m → r' ≡ r
    → (R : ℕ → Shape) → By shown s R → Walked p (at + 1) (told R (shape_in s) ty) (value_in s p depth ty at) row l r' m'
value-told shown s depth ty at {p} {row} {l} {r} {m} d0 w same answer R by =
    rw (same, answer, by) (shallower (λ d. Valued shown s p d ty at row l r m) depth d0 w)

-- ---- one field, one level down

module _ (s : List ℕ) (depth at : ℕ) {p : List ℕ} {row : ℕ} {f g : Field} (e : f ≡ g) (d0 : depth ≡ 0 → ⊥) where
  pub field_below : {judging : Bool} → Ready s p at row judging (value_in s p depth g.ty at) → Ready s p at row judging (value_in s p (suc (depth - 1)) f.ty at)
  field_below {judging} q = rw e (deeper (λ d. Ready s p at row judging (value_in s p d g.ty at)) depth d0 q)

  pub field_told : (shown : List ℕ) {l : List ℕ} {r : Walk} {m : List ℕ} → Valued shown s p (suc (depth - 1)) f.ty at row l r m → Valued shown s p depth g.ty at row l r m
  field_told shown {l} {r} {m} w = shallower (λ d. Valued shown s p d g.ty at row l r m) depth d0 (rw e at w)
