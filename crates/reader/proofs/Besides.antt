-- Laws of what is known of each type: the numbers of fields that a table has, and trees that are shown by them.
use mathlib.Core.Path.{◌≡◌, refl, sym, ap, ◌∙◌}
use mathlib.Core.Bool.{Bool, true, false, cond, true≢false}
use mathlib.Core.List.{List}
use Prim.Native.Nat.{ℕ, ◌+◌, ◌≤◌, ◌<◌}
use native.Mathlib.Omega.{arith}
use native.Mathlib.Decide.{dec_lt}
use borrow.Author.Tests.{eqb-true, eq-eqb}
use lib.Dec.{eqb}
use lib.ListN.{length, get_or, set, replicate, get_or-eq_default}
use lib.Seq.{get_or-set_same, get_or-set_other}
use Rattle.wire.proofs.Cases.{zeros}
use Rattle.parse.specs.Reader.{Answer, refused, seen}
use Rattle.schema.specs.declared.Layout.{Layout}
use Rattle.schema.specs.declared.TypeRow.{TypeRow}
use Rattle.schema.specs.declared.Field.{Field}
use Rattle.schema.specs.Table.{Shape, unknown, scalar, text, array, map, struct, row_at}
use Rattle.schema.specs.File.{layout_of, table_of}
use Rattle.schema.specs.Check.{IsGood, no_row}
use Rattle.schema.specs.Extend.{widened, Grows}
use Rattle.schema.proofs.Checks.{good-laid}
use Rattle.table.proofs.Files.{laid_types}
use Rattle.schema.proofs.Goods.{good-table}
use Rattle.schema.proofs.Shapes as shapes
use Rattle.schema.proofs.Extending.{widens-iff, grows}
use Rattle.value.specs.Value.{Tree}
use Rattle.value.specs.Read.{on_struct_of, root_of, refusal, reading_as, reading, read}
use Rattle.value.specs.Beside.{shown_rows, read_beside}
use Rattle.value.specs.Narrow.{fields_in}
use Rattle.value.proofs.Shapes.{good-closed}
use Rattle.value.proofs.Narrowed.{first-all, narrowed, pruned-agree}
use Rattle.value.proofs.Beside.{beside_same}
use Rattle.walks.specs.Shape.{shape_in}
use Rattle.walks.proofs.Tables.{struct_row, struct_type, shape-struct, shape-none, no-struct}
use Rattle.walks.proofs.Presence.{length_fields}
use Rattle.reader.specs.Reading.{Refused}
use Rattle.reader.specs.Entry.{outcome, outcome_of, room, payload_outcome}
use Rattle.reader.specs.Beside.{Knows, shown_outcome, beside_payload}
use Rattle.flat.specs.Walk.{first_fields}

-- ---- the numbers of fields

-- Those of the types before i are there, and zeros after them: a loop writes one after the other.
pub record KnowsBelow (s shown : List ℕ) (i : ℕ) : Type 0 where
  pub there : (j : ℕ) → j < i → get_or shown j 0 ≡ fields_in (shape_in s j)
  pub free : (j : ℕ) → i ≤ j → get_or shown j 0 ≡ 0

pub knows-none : (s : List ℕ) → KnowsBelow s (replicate 256 0) 0
knows-none s = record { there = λ j l. absurd (omega arith); free = λ j l. zeros 256 j }

module _ (s : List ℕ) (good : IsGood s) where
  -- by a type's row
  pub known-row : (t : ℕ) (r : TypeRow) → r ≡ row_at (table_of s) t → cond (eqb r.kind 16) r.b 0 ≡ fields_in (shape_in s t)
  known-row t r is = go (eqb r.kind 16) refl
    where
      other : (sh : Shape) → shapes.kind_of sh ≡ (row_at (table_of s) t).kind → eqb r.kind 16 ≡ false → 0 ≡ fields_in sh
      other (struct fs) q e = absurd (true≢false (sym (eq-eqb r.kind 16 (rw is (sym q))) ∙ e))
      other (array _) q e = refl
      other (map _ _) q e = refl
      other (scalar _) q e = refl
      other (text _) q e = refl
      other unknown q e = refl

      go : (b : Bool) → eqb r.kind 16 ≡ b → cond b r.b 0 ≡ fields_in (shape_in s t)
      go true e =
          let k = eqb-true r.kind 16 e in
          rw (shape-struct (table_of s) t r is k) (sym (length_fields (table_of s) r.a r.b (struct_row s good t r is k).2))
      go false e = other (shape_in s t) (shapes.kind-of (table_of s) (good-table s good) t) e

  -- a type past the table's has no fields
  none-past : (t : ℕ) → length (table_of s).types ≤ t → shape_in s t ≡ unknown
  none-past t h =
      let z : row_at (table_of s) t ≡ no_row = get_or-eq_default (table_of s).types no_row h in
      shape-none (table_of s) t no_row (sym z) refl

  pub knows_more : (shown : List ℕ) (i x : ℕ) → i < length shown → x ≡ fields_in (shape_in s i) → KnowsBelow s shown i → KnowsBelow s (set shown i x) (i + 1)
  knows_more shown i x h e k =
      record {
        there = λ j l. elim (dec_lt j i) [
          | yes lt ↦ get_or-set_other shown i j x 0 (omega arith) ∙ k.there j lt
          | no g ↦ let q : j ≡ i = omega arith in rw q (get_or-set_same shown i x 0 h ∙ e)
        ];
        free = λ j l. get_or-set_other shown i j x 0 (omega arith) ∙ k.free j (omega arith);
      }

  pub knows-all : (shown : List ℕ) (i : ℕ) → length (table_of s).types ≤ i → KnowsBelow s shown i → Knows shown s
  knows-all shown i h k t = elim (dec_lt t i) [
    | yes lt ↦ k.there t lt
    | no g ↦ k.free t (omega arith) ∙ rw (none-past t (omega arith))
  ]

  pub types-few : (l : Layout) → l ≡ layout_of s → (l.types ≡ length (table_of s).types) × (l.types ≤ 256)
  types-few l is =
      let same = laid_types s l (good-laid s l good is) in
      (same, omega (arith, same, (good-table s good).few_types))

  -- 64 are all fields of any struct
  pub all_known : (shown : List ℕ) → ((t : ℕ) → t < 256 → get_or shown t 0 ≡ 64) → (t : ℕ) → shape_in s t ≡ first_fields shown (shape_in s) t
  unfolding first_fields
  all_known shown k t = elim (dec_lt t 256) [
    | yes lt ↦ rw (k t lt) (sym (first-all 64 (shape_in s t) (few _ _ (shape_in s t) (shapes.within (table_of s) (good-table s good) t))))
    | no g ↦ rw (none-past t (omega (arith, (good-table s good).few_types)))
  ]
    where
      few : (n : ℕ) (key : ℕ → Shape) (sh : Shape) → shapes.Within n key sh → fields_in sh ≤ 64
      few n key (struct fs) w = w.1
      few n key (array _) w = omega arith
      few n key (map _ _) w = omega arith
      few n key (scalar _) w = omega arith
      few n key (text _) w = omega arith
      few n key unknown w = omega arith

-- ---- shown by what is known of ours

on_struct : {A : Type 0} (sh : Shape) (fs : List Field) → sh ≡ struct fs → (other : A) (f : List Field → A) → on_struct_of sh other f ≡ f fs
on_struct sh fs e other f = rw e

module _ (ours : List ℕ) (good : IsGood ours) (S' : ℕ → Shape) (shown : List ℕ)
    (agree : (t : ℕ) → t < length (table_of ours).types → shape_in ours t ≡ first_fields shown S' t) (ty : ℕ) (there : ty < length (table_of ours).types) (rows : ℕ) where
  reading-agrees : (o : Answer Tree) → reading_as (shown_rows (first_fields shown S') ty) S' ty rows o ≡ reading_as (shown_rows (shape_in ours) ty) S' ty rows o
  reading-agrees (refused n p) = refl
  reading-agrees (seen tree end) =
      rw (← pruned-agree (shape_in ours) (first_fields shown S') (length (table_of ours).types) (λ t l. good-closed (table_of ours) (good-table ours good) t) agree tree ty there)

module _ (s : List ℕ) (good : IsGood s) (ty : ℕ) (p sheet : List ℕ) where
  -- Where all fields are known, all rows are shown.
  pub shown-all : (shown : List ℕ) → ((t : ℕ) → t < 256 → get_or shown t 0 ≡ 64) → shown_outcome shown s ty p sheet ≡ payload_outcome s ty p sheet
  unfolding shown_outcome payload_outcome read
  shown-all shown k = ap (outcome_of sheet) (go (shape_in s ty) refl)
    where
      go : (sh : Shape) → shape_in s ty ≡ sh
          → reading_as (shown_rows (first_fields shown (shape_in s)) ty) (shape_in s) ty (room sheet) (root_of (shape_in s) ty p) ≡ reading (shape_in s) ty (room sheet) (root_of (shape_in s) ty p)
      go (struct fs) e =
          reading-agrees s good (shape_in s) shown (λ t l. all_known s good shown k t) ty (struct_type s good ty fs e).0 (room sheet) (root_of (shape_in s) ty p)
          ∙ sym (on_struct (shape_in s ty) fs e (refusal 46 0) (λ _. reading_as (shown_rows (shape_in s) ty) (shape_in s) ty (room sheet) (root_of (shape_in s) ty p)))
          ∙ beside_same (shape_in s) ty p (room sheet)
      go unknown e = rw e
      go (scalar _) e = rw e
      go (text _) e = rw e
      go (array _) e = rw e
      go (map _ _) e = rw e

module _ (ours theirs : List ℕ) (good : IsGood ours) (good' : IsGood theirs) (ty : ℕ) (p sheet : List ℕ) (r : TypeRow) (is : r ≡ row_at (table_of ours) ty) where
  pub beside-type : (r.kind ≡ 16 → ⊥) → outcome (Refused 46 0) sheet ≡ beside_payload ours theirs ty p sheet
  unfolding beside_payload read_beside
  beside-type k = rw (no-struct ours good ty r is k)

  -- Where their structs are shown as far as ours has fields, they are shown by ours.
  pub beside-shown : r.kind ≡ 16 → widened (table_of ours) (table_of theirs) ≡ true → (shown : List ℕ) → Knows shown ours
      → shown_outcome shown theirs ty p sheet ≡ beside_payload ours theirs ty p sheet
  unfolding shown_outcome beside_payload read_beside first_fields
  beside-shown k x shown h =
      let st = shape-struct (table_of ours) ty r is k in
      let wide = (widens-iff (table_of ours) (table_of theirs) (good-table ours good) (good-table theirs good')).0 x in
      ap (outcome_of sheet)
      (reading-agrees ours good (shape_in theirs) shown (λ t l. agrees t l (grows (table_of ours) (table_of theirs) (good-table ours good) (good-table theirs good') wide t l)) ty
      (struct_type ours good ty _ st).0 (room sheet) (root_of (shape_in theirs) ty p)
      ∙ sym (on_struct (shape_in ours ty) _ st (refusal 46 0) (λ _. reading_as (shown_rows (shape_in ours) ty) (shape_in theirs) ty (room sheet) (root_of (shape_in theirs) ty p))))
    where
      agrees : (t : ℕ) → t < length (table_of ours).types → Grows (shape_in ours t) (shape_in theirs t) → shape_in ours t ≡ first_fields shown (shape_in theirs) t
      agrees t l g = narrowed g ∙ rw (h t)
