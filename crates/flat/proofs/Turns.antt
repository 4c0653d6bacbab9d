-- Laws of the loops over elements and fields that are scalars, strings or bytes: what is left gives the same end.
use mathlib.Core.Path.{◌≡◌, refl, sym, ap, ◌∙◌}
use mathlib.Core.Bool.{Bool, true, false, cond}
use mathlib.Core.List.{List, [], ◌∷◌}
use Prim.Native.Nat.{ℕ, suc, ◌+◌, ◌-◌, ◌*◌, ◌/◌, ◌%◌, ◌^◌, ◌≤◌, ◌<◌}
use native.Mathlib.Omega.{arith}
use native.Mathlib.Decide.{dec_lt}
use lib.Count.{count_trailing_zeros}
use lib.Dec.{ltb}
use lib.ListN.{length, get_or}
use Rattle.parse.specs.Reader.{cursor_at, Accepted}
use Rattle.schema.specs.declared.Field.{Field}
use Rattle.schema.specs.declared.TypeRow.{TypeRow}
use Rattle.schema.specs.Table.{Shape, scalar, text, struct, row_at}
use Rattle.schema.specs.File.{table_of}
use Rattle.schema.specs.Check.{field_row_of}
use Rattle.value.specs.Comparisons.{map_comparisons}
use Rattle.value.specs.Read.{Item, plain_item, present, plan, row_count, own, walk, node_row, parse}
use Rattle.value.specs.Narrow.{first_of}
use Rattle.walks.specs.Shape.{fields_from, leaf_shape, shape_in}
use Rattle.walks.proofs.Masks.{bits_left, Standing, standing-first, standing-some, standing-next, standing-field, standing-kind, standing-skip, standing-same, standing-end}
use Rattle.walks.proofs.Tables.{shape-leaf, shape-array, shape-struct}
use Rattle.walks.proofs.Items.{item-accepted, item-stop, item-past}
use Rattle.walks.proofs.Walks.{deeper, shallower}
use Rattle.flat.specs.declared.elements.Prepared.{Prepared}
use Rattle.flat.specs.Span.{Span, At, Refused as SpanRefused}
use Rattle.flat.specs.Walk.{Walk, Past, Refused, value_in, whole_in, first_fields, told, told_held, noted, Final, Walked, Ready}
use Rattle.flat.specs.Sheet.{put_row}
use Rattle.flat.specs.Leaf.{Spanned}
use Rattle.flat.specs.Flat.{LeavesIn, IsFlat, Described, HeldFields, FieldsReady}
use Rattle.flat.proofs.Steps.{ahead, telling, was, later, walk-length, as_refused, parse-deep, composite_past, composite_stop, rest-accepted, span_row, IsLeaf, is_leaf, leaf-asked, leaf-stop, leaf-past}
use Rattle.flat.proofs.Composites.{first-of, first-whole}

-- ---- types

leaf-whole : (m kind : ℕ) → first_of m (leaf_shape kind) ≡ leaf_shape kind
unfolding leaf_shape
leaf-whole m kind = go (ltb kind 12)
  where
    go : (b : Bool) → first_of m (cond b (scalar kind) (text kind)) ≡ cond b (scalar kind) (text kind)
    go true = refl
    go false = refl

module _ (s : List ℕ) (depth t : ℕ) (r : TypeRow) (is : r ≡ row_at (table_of s) t) where
  module _ (z : 0 < r.kind) (h : r.kind < 14) where
    pub flat-leaf : IsFlat s depth t
    flat-leaf =
        let k : (row_at (table_of s) t).kind < 14 = rw is at h in
        record {
          some = rw is at z;
          deep = λ a. absurd (omega arith);
          elements = λ e. absurd (omega arith);
          fields = λ e. absurd (omega arith);
          other = λ a e. absurd (omega arith);
        }

    pub leaf-shown : (shown : List ℕ) → first_fields shown (shape_in s) t ≡ shape_in s t
    leaf-shown shown =
        let e = shape-leaf (table_of s) t r is z h in
        first-of shown (shape_in s) t e ∙ leaf-whole (get_or shown t 0) r.kind ∙ sym e

  -- neither a struct nor an array
  pub leaf-left : IsFlat s depth t → (r.kind ≡ 16 → ⊥) → (r.kind ≡ 14 → ⊥) → (0 < r.kind) × (r.kind < 14)
  leaf-left flat a b =
      let struct : (row_at (table_of s) t).kind ≡ 16 → ⊥ = rw (← is) a in
      let array : (row_at (table_of s) t).kind ≡ 14 → ⊥ = rw (← is) b in
      let few : (row_at (table_of s) t).kind < 14 =
      elim (dec_lt 13 (row_at (table_of s) t).kind) [
        | yes l ↦ absurd (struct (flat.other l array))
        | no g ↦ omega arith
      ] in
      (rw is flat.some, rw is few)

  module _ (k : r.kind ≡ 14) where
    pub flat-array : 1 < depth → (row_at (table_of s) r.a).kind < 14 → IsFlat s depth t
    flat-array d h =
        let e : (row_at (table_of s) t).kind ≡ 14 = rw is at k in
        record {
          some = omega arith;
          deep = λ a. d;
          elements = λ a. rw is at h;
          fields = λ a. absurd (omega arith);
          other = λ a n. absurd (n e);
        }

    pub array-shown : (shown : List ℕ) → first_fields shown (shape_in s) t ≡ shape_in s t
    array-shown shown = let e = shape-array (table_of s) t r is k in first-of shown (shape_in s) t e ∙ sym e

  module _ (k : r.kind ≡ 16) where
    pub flat-struct : 1 < depth → LeavesIn (table_of s) r.a (r.a + r.b) → IsFlat s depth t
    flat-struct d h =
        let e : (row_at (table_of s) t).kind ≡ 16 = rw is at k in
        record {
          some = omega arith;
          deep = λ a. d;
          elements = λ a. absurd (omega arith);
          fields = λ a. rw is at h;
          other = λ a n. e;
        }

    pub struct-shown : (shown : List ℕ) → r.a + r.b ≤ length (table_of s).fields → r.b ≤ get_or shown t 0 → first_fields shown (shape_in s) t ≡ shape_in s t
    struct-shown shown room le =
        let e = shape-struct (table_of s) t r is k in first-whole shown (shape_in s) (table_of s) t r.a r.b e room le ∙ sym e

pub described_own : (s : List ℕ) (ty : ℕ) (e : Prepared) → Described s ty e → Described s e.ty e
described_own s ty e d = record { same = refl; laid = d.laid; is = d.is ∙ ap (row_at (table_of s)) (sym d.same); required = d.required }

-- ---- a loop over the items of a composite: elements of an array, fields of a struct

-- The end of a walk over items, shown by the shapes R.
abbrev pub ahead_by : (R : ℕ → Shape) (s p : List ℕ) (depth : ℕ) → List Item → (here comparisons row : ℕ) → List ℕ → Final
ahead_by R s p depth is here comparisons row l = ahead R (shape_in s) (parse (shape_in s) depth) [] is (cursor_at p here) comparisons row l

-- Whatever is shown.
abbrev pub Any : (ℕ → Shape) → Type 0
Any R = Unit {0}

-- Where it stands, by whatever shapes it is shown of which Ok holds, as it does of some: what is left gives the same end. The composite's own row is `row`. What was asked of it is kept.
pub record ReadingItems (Ok : (ℕ → Shape) → Type 0) (s p : List ℕ) (depth ty : ℕ) (sh : Shape) (place head start row : ℕ) (judging : Bool) (sheet : List ℕ) (left : List Item) (here sum below : ℕ) (l : List ℕ) : Type 0 where
  pub asked : Ready s p start (row + 1) judging (whole_in s p depth ty sh place head start)
  pub by : ℕ → Shape
  pub ok : Ok by
  pub same : (R : ℕ → Shape) → Ok R → ahead_by R s p depth left here sum below l ≡ ahead_by R s p depth (plan sh head) start 0 (row + 1) sheet
  pub inside : here ≤ length p
  pub behind : below ≤ here
  pub forth : sum + 16 * start ≤ 16 * here
  pub long : length l ≡ length sheet

-- What is answered of the composite.
abbrev Answered : (Ok : (ℕ → Shape) → Type 0) (s p : List ℕ) (depth ty : ℕ) → Shape → (place head start row : ℕ) (sheet : List ℕ) → Walk → (after : List ℕ) → Type 0
Answered Ok s p depth ty sh place head start row sheet r after =
    (R : ℕ → Shape) → Ok R → Walked p start (told_held R (shape_in s) (map_comparisons sh head) (plan sh head)) (whole_in s p depth ty sh place head start) row sheet r after

module _ {Ok : (ℕ → Shape) → Type 0} {s p : List ℕ} {depth ty : ℕ} {sh : Shape} {place head start row : ℕ} {judging : Bool} where
  pub reading-first : Ready s p start (row + 1) judging (whole_in s p depth ty sh place head start) → (R : ℕ → Shape) → Ok R → (sheet : List ℕ)
      → ReadingItems Ok s p depth ty sh place head start row judging sheet (plan sh head) start 0 (row + 1) sheet
  reading-first q R ok sheet = record { asked = q; by = R; ok = ok; same = λ R shown. refl; inside = q.inside; behind = q.behind; forth = omega arith; long = refl }

  module _ {sheet : List ℕ} {left : List Item} {here sum below : ℕ} {l : List ℕ} (g : ReadingItems Ok s p depth ty sh place head start row judging sheet left here sum below l) where
    -- no item is left, and the composite's own row is put
    pub reading-own : place ≤ start → {n : ℕ} → n ≤ 16384 → (row ≤ 16384) × (place ≤ 16384) × (here - place ≤ 16384) × (n ≤ 16384)
    reading-own back few = let q = g.asked in omega (arith, back, q.small, q.inside, q.behind, g.inside, few)

    pub reading-end : left ≡ [] → {after : List ℕ} → after ≡ put_row l row (node_row ty place here (row_count sh head)) → {total : ℕ} → total ≡ map_comparisons sh head + sum
        → total + 16 * start ≤ 16 * here → Answered Ok s p depth ty sh place head start row sheet (Past total here below) after
    reading-end none {after} put {total} d f R shown =
        composite_past R (shape_in s) (parse (shape_in s) depth) sh ty place head (cursor_at p start) row sheet p start here sum total below l after [] left
        none (g.same R shown) d put g.inside g.behind f

    module _ {e : ℕ} {rest : List Item} (first : left ≡ plain_item e ∷ rest) where
      pub reading-ready : Ready s p here below judging (value_in s p depth e here)
      reading-ready =
          let S = shape_in s in
          let P = parse S depth in
          record {
            good = g.asked.good;
            small = g.asked.small;
            inside = g.inside;
            behind = g.behind;
            judged = λ j.
                item-accepted P [] first (cursor_at p here)
                (rest-accepted g.by S P sh ty place head (cursor_at p start) row sheet (walk P [] left (cursor_at p here)) left sum below l (g.same g.by g.ok) (g.asked.judged j));
          }

      -- one level down, where there is one
      pub reading-below : (depth ≡ 0 → ⊥) → Ready s p here below judging (value_in s p (suc (depth - 1)) e here)
      reading-below d0 = deeper (λ d. Ready s p here below judging (value_in s p d e here)) depth d0 reading-ready

      module _ {r : Walk} {m : List ℕ} (walked : (R : ℕ → Shape) → Ok R → Walked p (here + 1) (told R (shape_in s) e) (value_in s p depth e here) below l r m) where
        pub reading-stop : {number at : ℕ} → r ≡ Refused number at → {after : List ℕ} → Answered Ok s p depth ty sh place head start row sheet (Refused number at) after
        reading-stop {number} {at} h {after} R shown =
            composite_stop R (shape_in s) (parse (shape_in s) depth) sh ty place head (cursor_at p start) row sheet p start number at after
            (item-stop (telling R (shape_in s)) (parse (shape_in s) depth) [] first (cursor_at p here) (noted 0 below l) _ (was (walked R shown) h).same ∙ g.same R shown)

        module _ {comparisons next row' : ℕ} (h : r ≡ Past comparisons next row') where
          pub reading-sum : sum + comparisons ≤ 262144
          reading-sum = let w = (was (walked g.by g.ok) h).within in omega (arith, w, g.forth, g.asked.small)

          pub reading-on : ReadingItems Ok s p depth ty sh place head start row judging sheet rest next (sum + comparisons) row' m
          reading-on =
              let S = shape_in s in
              let v = value_in s p depth e here in
              let x = was (walked g.by g.ok) h in
              let w = x.within in
              record {
                asked = g.asked;
                by = g.by;
                ok = g.ok;
                same = λ R shown.
                    sym (item-past (telling R S) (parse S depth) [] first (cursor_at p here) (noted sum below l) tt (later (told R S e) v sum below l (was (walked R shown) h).same)) ∙ g.same R shown;
                inside = w.0;
                behind = w.1;
                forth = omega (arith, w.2, g.forth);
                long = walk-length (told g.by S e) v 0 below l x.same ∙ g.long;
              }

      pub reading-deep : depth ≡ 0 → {after : List ℕ} → Answered Ok s p depth ty sh place head start row sheet (Refused 28 here) after
      reading-deep none {after} = reading-stop {m = l} (λ R shown. as_refused _ _ _ (parse-deep (shape_in s) depth e (cursor_at p here) none)) refl

-- ---- the fields of a struct, all scalars, strings or bytes

-- Where the loop over b fields from a on stands: at field i, with these bits left.
pub record Going (s p : List ℕ) (depth ty a b place known start row : ℕ) (judging : Bool) (sheet : List ℕ) (i bits here below : ℕ) (l : List ℕ) : Type 0 where
  pub asked : FieldsReady s p depth ty a b place known start row judging
  pub at : ReadingItems Any s p depth ty (struct (fields_from (table_of s) a b)) place known start row judging sheet (bits_left (table_of s) a b i bits) here 0 below l
  pub on : Standing a b i bits
  pub count : below + length (bits_left (table_of s) a b i bits) ≡ row + 1 + length (bits_left (table_of s) a b a known)

all_left : (a b : ℕ) → a + b - a ≡ b
all_left a b = omega arith

module _ {s p : List ℕ} {depth ty a b place known start row : ℕ} {judging : Bool} where
  pub going-first : FieldsReady s p depth ty a b place known start row judging → (sheet : List ℕ) → Going s p depth ty a b place known start row judging sheet a known start (row + 1) sheet
  going-first q sheet = record { asked = q; at = rw (all_left a b) (reading-first q.ready (shape_in s) tt sheet); on = standing-first q.few q.fits; count = refl }

  module _ {sheet : List ℕ} {i bits here below : ℕ} {l : List ℕ} (g : Going s p depth ty a b place known start row judging sheet i bits here below l) where
    module _ (bit : bits ≡ 0 → ⊥) where
      some : 0 < bits
      some = omega (arith, bit)

      -- the zeros below the next bit are passed over
      pub going-skip : {z : ℕ} → z ≡ count_trailing_zeros 64 bits → Going s p depth ty a b place known start row judging sheet (i + z) (bits / 2 ^ z) here below l
      going-skip is =
          let skip = standing-same g.on some is (table_of s) in
          record { asked = g.asked; at = rw skip g.at; on = standing-skip g.on some is; count = rw skip g.count }

      -- the next field
      module _ {f : Field} (is : f ≡ field_row_of (table_of s) i) {r : TypeRow} (row_is : r ≡ row_at (table_of s) f.ty) (odd : bits % 2 ≡ 1) where
        field : IsLeaf s f.ty r
        field =
            let kind : (row_at (table_of s) (field_row_of (table_of s) i).ty).kind < 14 = g.asked.leaves i g.on.first (omega (arith, standing-some g.on some)) in
            is_leaf row_is (standing-kind g.on some s g.asked.ready.good g.asked.in_table f is r row_is) (rw (row_is, is) kind)

        below_root : depth ≡ 0 → ⊥
        below_root = omega (arith, g.asked.deep)

        first : bits_left (table_of s) a b i bits ≡ plain_item f.ty ∷ bits_left (table_of s) a b (i + 1) (bits / 2)
        first = standing-field g.on some (table_of s) g.asked.in_table f is odd

        pub going-asked : (length p ≤ 16384) × (here ≤ length p) × (0 < r.kind) × (r.kind < 14) × (judging ≡ false → Accepted (own (leaf_shape r.kind) (cursor_at p here)))
        going-asked = leaf-asked field below_root (reading-ready g.at first)

        module _ {c : Span} (read : Spanned p here (own (leaf_shape r.kind) (cursor_at p here)) c) where
          pub going-stop : {number at : ℕ} → c ≡ SpanRefused at number → {after : List ℕ} → HeldFields s p depth ty a b place known start row sheet (Refused number at) after
          going-stop e R = reading-stop g.at first {m = l} (λ R shown. leaf-stop field below_root read e R) refl R tt

          pub going_on : {from to : ℕ} → c ≡ At from to → {m : List ℕ} → m ≡ put_row l below (span_row f.ty from to)
              → Going s p depth ty a b place known start row judging sheet (i + 1) (bits / 2) to (below + 1) m
          going_on e put =
              let more = ap length first in
              record {
                asked = g.asked;
                at = reading-on g.at first (λ R shown. leaf-past field below_root read e g.at.behind put R) refl;
                on = standing-next g.on some;
                count = omega (arith, more, g.count);
              }

    -- no bit is left: the struct's own row has the number of rows written since
    module _ (none : bits ≡ 0) where
      none_left : bits_left (table_of s) a b i bits ≡ []
      none_left = standing-end (table_of s) a b i none

      going-count : below ≡ row + 1 + length (bits_left (table_of s) a b a known)
      going-count =
          let n : length (bits_left (table_of s) a b i bits) ≡ 0 = rw none_left in
          omega (arith, n, g.count)

      pub going-rows : (place ≤ here) × (row + 1 ≤ below)
      going-rows = omega (arith, going-count, g.at.forth, g.asked.forth)

      pub going-own : (row ≤ 16384) × (place ≤ 16384) × (here - place ≤ 16384) × (below - row - 1 ≤ 16384)
      going-own = reading-own g.at g.asked.forth (omega (arith, g.at.inside, g.at.behind, g.asked.ready.small))

      pub going_end : {after : List ℕ} → after ≡ put_row l row (record { ty = ty; place = place; length = here - place; count = below - row - 1 })
          → HeldFields s p depth ty a b place known start row sheet (Past 0 here below) after
      going_end put R =
          let same = ap (λ (n : ℕ). length (present (fields_from (table_of s) a n) known)) (all_left a b) in
          let count : below - row - 1 ≡ length (present (fields_from (table_of s) a b) known) = omega (arith, going-count, same) in
          reading-end g.at none_left (rw (← count) put) refl (omega (arith, g.at.forth)) R tt

-- ---- the elements of an array

-- An element of a type that was prepared, read one level down.
pub lifted : (Ok : (ℕ → Shape) → Type 0) (s : List ℕ) (depth here : ℕ) {p : List ℕ} {e elem below : ℕ} {l : List ℕ} {r : Walk} {m : List ℕ} → e ≡ elem → (depth ≡ 0 → ⊥)
    → ((R : ℕ → Shape) → Ok R → Walked p (here + 1) (told R (shape_in s) e) (value_in s p (suc (depth - 1)) e here) below l r m)
    → (R : ℕ → Shape) → Ok R → Walked p (here + 1) (told R (shape_in s) elem) (value_in s p depth elem here) below l r m
lifted Ok s depth here {p} {e} {elem} {below} {l} {r} {m} same d0 w R shown =
    shallower (λ d. Walked p (here + 1) (told R (shape_in s) elem) (value_in s p d elem here) below l r m) depth d0 (rw same at (w R shown))
