-- Laws of the walkers of a struct: its bitmap, where the loop over its fields stands, and its fields in two parts, those that are shown and the others.
use mathlib.Core.Path.{◌≡◌, refl, ◌∙◌}
use mathlib.Core.Bool.{Bool, false}
use mathlib.Core.List.{List, ◌∷◌}
use Prim.Native.Nat.{ℕ, suc, ◌+◌, ◌-◌, ◌/◌, ◌%◌, ◌^◌, ◌≤◌, ◌<◌}
use native.Mathlib.Omega.{arith}
use lib.Count.{ones}
use lib.ListN.{length, get_or}
use Rattle.parse.specs.Reader.{Reader, cursor_at, Accepted}
use Rattle.schema.specs.declared.Field.{Field}
use Rattle.schema.specs.declared.TypeRow.{TypeRow}
use Rattle.schema.specs.Table.{Shape, struct, row_at}
use Rattle.schema.specs.File.{table_of}
use Rattle.schema.specs.Check.{IsGood, field_row_of}
use Rattle.value.specs.Value.{Tree}
use Rattle.value.specs.Read.{plain_item, present, node_row, bitmap, parse}
use Rattle.walks.specs.Shape.{fields_from, shape_in}
use Rattle.walks.proofs.Presence.{present-set, present-clear, present-end}
use Rattle.walks.proofs.Tables.{field_row, struct_row, struct_type, shape-struct}
use Rattle.flat.specs.Head.{Head, Bits, Refused as HeadRefused}
use Rattle.flat.specs.Walk.{Walk, Past, Refused, first_fields, value_in, Valued, Ready}
use Rattle.flat.specs.Leaf.{Headed}
use Rattle.flat.specs.Sheet.{put_row}
use Rattle.flat.proofs.Steps.{as_refused, as_told}
use Rattle.flat.proofs.Composites.{bitmap-accepted, struct-refused, head_in, struct-unknown, struct-whole, struct-valued, first-whole, first_part}
use Rattle.flat.proofs.Turns.{ReadingItems, reading-end, reading-ready, reading-stop, reading-on}
use Rattle.flat.proofs.Partials.{mine-count, PartAsked, part-first, part_room, part_count, part-stop, rest-asked, rest-stop, rest_in, rest-past}
use Rattle.reader.proofs.Calls.{By}
use Rattle.reader.specs.declared.walk.Fields.{Fields}
use Rattle.reader.specs.Structs.{fields_of, OfType, OfCount, added_to, ReadyFor, HeldBy, ShownBy}

-- The shapes by which a value is shown, as far as is known, and the reader of what a value holds.
abbrev showing : (known s : List ℕ) → ℕ → Shape
showing known s = first_fields known (shape_in s)

abbrev reading : (s : List ℕ) (depth : ℕ) → ℕ → Reader Tree
reading s depth = parse (shape_in s) depth

-- ---- an inner struct of type ty, whose row is t

module _ (d ty : ℕ) {t : TypeRow} {s p : List ℕ} {at row : ℕ} {judging : Bool} (pre : Ready s p at row judging (value_in s p (suc d) ty at))
    (t-is : t ≡ row_at (table_of s) ty) (kind : t.kind ≡ 16) where
  abbrev fs : List Field
  fs = fields_from (table_of s) t.a t.b

  shape_is : shape_in s ty ≡ struct fs
  shape_is = shape-struct (table_of s) ty t t-is kind

  sizes : (0 < t.b) × (t.b ≤ 64) × (t.a + t.b ≤ length (table_of s).fields)
  sizes = struct_row s pre.good ty t t-is kind

  pub struct-asked : IsGood s × (0 < t.b) × (t.b ≤ 64) × (t.a + t.b ≤ length (table_of s).fields) × (at ≤ length p)
      × (judging ≡ false → Accepted (bitmap fs (cursor_at p at)))
  struct-asked = (pre.good, sizes.0, sizes.1, sizes.2, pre.inside, λ j. bitmap-accepted (shape_in s) d ty p at fs shape_is (pre.judged j))

  module _ {r : Head} (read : Headed p at fs (bitmap fs (cursor_at p at)) r) where
    pub struct-stop : {number : ℕ} → r ≡ HeadRefused number → (known : List ℕ) {l after : List ℕ} → Valued known s p (suc d) ty at row l (Refused number at) after
    struct-stop {number} e known = as_refused _ number at (struct-refused (shape_in s) d ty p at fs shape_is r read number e)

    module _ {word bits count unknown start : ℕ} (e : r ≡ Bits word bits count unknown start) where
      pub struct-other : (unknown ≡ 0 → ⊥) → (known : List ℕ) {l after : List ℕ} → Valued known s p (suc d) ty at row l (Refused 26 at) after
      struct-other some known = as_refused _ 26 at (struct-unknown (shape_in s) d ty p at fs shape_is r read word bits count unknown start e some)

      module _ (none : unknown ≡ 0) where
        abbrev whole : Fields
        whole = record { ty = ty; first = t.a; n = t.b; known = bits; ones = count; place = at; start = start }

        pub struct-ready : ReadyFor s p d whole row judging × OfType s whole × OfCount s whole
        struct-ready =
            let h = head_in (shape_in s) d ty p at fs shape_is r read word bits count unknown start e in
            let same = struct-whole (shape_in s) d ty p at fs shape_is r read word bits count unknown start e none in (
              record {
                ready = record {
                  good = pre.good;
                  small = pre.small;
                  inside = h.5;
                  behind = omega (arith, pre.behind, h.4);
                  judged = λ j. rw same at (pre.judged j);
                };
                in_table = sizes.2;
                forth = omega (arith, h.4);
              },
              (shape_is, sizes.1),
              (h.6, h.1),
            )

        pub struct-shown : (known : List ℕ) {l after : List ℕ} {v : Walk} → ShownBy known s p d whole row l v after → Valued known s p (suc d) ty at row l v after
        struct-shown known {l} {after} {v} h =
            struct-valued (shape_in s) d ty p at fs shape_is r read word bits count unknown start e (first_fields known (shape_in s)) none v h

-- the type of such fields is one of the table's
pub type-few : {s p : List ℕ} {depth : ℕ} {f : Fields} {row : ℕ} {judging : Bool} → ReadyFor s p depth f row judging → OfType s f → f.ty < 256
type-few {s} {f = f} q typed = (struct_type s q.ready.good f.ty _ typed.0).1

-- ---- the loop over the fields f

-- Where it stands: at field i, with so many left, by these bits.
pub record Passing (known s p : List ℕ) (depth : ℕ) (f : Fields) (row : ℕ) (judging : Bool) (sheet : List ℕ) (i left bits here sum below : ℕ) (l : List ℕ) : Type 0 where
  pub asked : ReadyFor s p depth f row judging
  pub at : ReadingItems (By known s) s p depth f.ty (struct (fields_of s f)) f.place f.known f.start row judging sheet (present (fields_from (table_of s) i left) bits) here sum below l
  pub in_table : i + left ≤ length (table_of s).fields

module _ {s p : List ℕ} {depth : ℕ} {f : Fields} {row : ℕ} {judging : Bool} where
  module _ {known sheet : List ℕ} {i left bits here sum below : ℕ} {l : List ℕ} (g : Passing known s p depth f row judging sheet i left bits here sum below l) where
    module _ (some : 0 < left) where
      pub passing-absent : (bits % 2 ≡ 1 → ⊥) → {here' sum' below' : ℕ} {k : List ℕ} → here' ≡ here → sum' ≡ sum → below' ≡ below → k ≡ l
          → Passing known s p depth f row judging sheet (i + 1) (left - 1) (bits / 2) here' sum' below' k
      passing-absent none e₁ e₂ e₃ e₄ =
          rw (e₁, e₂, e₃, e₄)
          (record { asked = g.asked; at = rw (present-clear (table_of s) i left some g.in_table bits none) at g.at; in_table = omega (arith, g.in_table, some) })

      pub passing-kind : 0 < (row_at (table_of s) (field_row_of (table_of s) i).ty).kind
      passing-kind = field_row s g.asked.ready.good i left some g.in_table _ refl _ refl

      module _ (bit : bits % 2 ≡ 1) where
        first : present (fields_from (table_of s) i left) bits ≡ plain_item (field_row_of (table_of s) i).ty ∷ present (fields_from (table_of s) (i + 1) (left - 1)) (bits / 2)
        first = present-set (table_of s) i left some g.in_table bits _ refl bit

        pub passing-ready : Ready s p here below judging (value_in s p depth (field_row_of (table_of s) i).ty here)
        passing-ready = reading-ready g.at first

        module _ {r : Walk} {m : List ℕ} (w : Valued known s p depth (field_row_of (table_of s) i).ty here below l r m) where
          pub passing-stop : {number place : ℕ} → r ≡ Refused number place → {after : List ℕ} → HeldBy known s p depth f row sheet (Refused number place) after
          passing-stop e = reading-stop g.at first {m = m} (λ R shown. rw shown w) e (showing known s) refl

          module _ {comparisons next row' : ℕ} (e : r ≡ Past comparisons next row') where
            pub passing-read : {here' sum' below' : ℕ} {k : List ℕ} → here' ≡ next → sum' ≡ sum + comparisons → below' ≡ row' → k ≡ m
                → Passing known s p depth f row judging sheet (i + 1) (left - 1) (bits / 2) here' sum' below' k
            passing-read e₁ e₂ e₃ e₄ =
                rw (e₁, e₂, e₃, e₄)
                (record { asked = g.asked; at = reading-on g.at first (λ R shown. rw shown w) e; in_table = omega (arith, g.in_table, some) })

    pub passing-end : OfCount s f → left ≤ 0 → {after : List ℕ}
        → after ≡ put_row l row (record { ty = f.ty; place = f.place; length = here - f.place; count = f.ones })
        → HeldBy known s p depth f row sheet (Past sum here below) after
    passing-end count none put = reading-end g.at (present-end (table_of s) i left none bits) (rw (← count.1) put) (omega arith) g.at.forth (showing known s) refl

module _ {s p : List ℕ} {depth : ℕ} {f : Fields} {row : ℕ} {judging : Bool} (q : ReadyFor s p depth f row judging) where
  -- where all of them are shown, they are told as they are
  pub all_shown : (known : List ℕ) → OfType s f → f.n ≤ get_or known f.ty 0 → {sheet after : List ℕ} {w : Walk}
      → HeldBy known s p depth f row sheet w after → ShownBy known s p depth f row sheet w after
  all_shown known typed all {sheet} h =
      let shown = first-whole known (shape_in s) (table_of s) f.ty f.first f.n typed.0 q.in_table all in
      as_told (showing known s) (shape_in s) (reading s depth) (struct (fields_of s f)) f.ty f.place f.known (cursor_at p f.start) row sheet shown typed.0 h

-- ---- the fields f, of which the first m are shown, by their own bits

pub record Halved (known s p : List ℕ) (depth : ℕ) (f : Fields) (row : ℕ) (judging : Bool) (m mine : ℕ) : Type 0 where
  pub asked : ReadyFor s p depth f row judging
  pub typed : OfType s f
  pub few : get_or known f.ty 0 < f.n
  pub same : m ≡ get_or known f.ty 0
  pub bits : mine ≡ f.known % 2 ^ m

module _ {known s p : List ℕ} {depth : ℕ} {f : Fields} {row : ℕ} {judging : Bool} {m mine : ℕ} (h : Halved known s p depth f row judging m mine) where
  abbrev ours : (count : ℕ) → Fields
  ours count = record { ty = f.ty; first = f.first; n = m; known = mine; ones = count; place = f.place; start = f.start }

  in_table : f.first + f.n ≤ length (table_of s).fields
  in_table = h.asked.in_table

  le : m ≤ f.n
  le = omega (arith, h.few, h.same)

  halves : PartAsked s p depth f.ty f.first f.n m f.place f.known f.start row judging
  halves = record { ready = h.asked.ready; in_table = in_table; forth = h.asked.forth; less = omega (arith, h.few, h.same) }

  pub ours-ready : {count : ℕ} → (count ≡ ones mine) × (count ≤ 64) → ReadyFor s p depth (ours count) row judging × OfCount s (ours count)
  ours-ready e = (record { ready = part-first halves h.bits; in_table = part_room halves h.bits; forth = h.asked.forth }, (e.1, e.0 ∙ part_count halves h.bits))

  module _ {sheet after : List ℕ} {w : Walk} (walked : HeldBy known s p depth (ours 0) row sheet w after) where
    pub ours-stop : {number place : ℕ} → w ≡ Refused number place → ShownBy known s p depth f row sheet (Refused number place) after
    ours-stop e = part-stop halves h.bits (showing known s) walked e

    module _ {sum here below : ℕ} (e : w ≡ Past sum here below) where
      rest-ready : ReadyFor s p depth (added_to f m here) row judging
      rest-ready = record { ready = rest-asked halves h.bits (showing known s) walked e; in_table = omega (arith, le, in_table); forth = omega arith }

      pub added-ready : ReadyFor s p depth (added_to f (get_or known f.ty 0) here) row judging × ((f.ty < 256) × (f.n ≤ 64) × (get_or known f.ty 0 < f.n))
      added-ready = (rw h.same at rest-ready, (type-few h.asked h.typed, h.typed.1, h.few))

      module _ {cells cells' : List ℕ} {v : Walk} (more : HeldBy known s p depth (added_to f (get_or known f.ty 0) here) row cells v cells') where
        rest : HeldBy known s p depth (added_to f m here) row cells v cells'
        rest = rw (← h.same) at more

        pub added-stop : {number place : ℕ} → v ≡ Refused number place → {end : List ℕ} → ShownBy known s p depth f row sheet (Refused number place) end
        added-stop g = rest-stop halves h.bits (showing known s) walked e rest g

        module _ {comparisons next below' : ℕ} (g : v ≡ Past comparisons next below') where
          pub added_in : (f.place ≤ next) × (next ≤ 16384) × (row ≤ 16384) × (sum + comparisons ≤ 262144)
          added_in = rest_in halves h.bits (showing known s) walked e rest g

          pub added-past : {count : ℕ} → count ≡ ones mine → {end : List ℕ} → end ≡ put_row after row (node_row f.ty f.place next count)
              → ShownBy known s p depth f row sheet (Past (sum + comparisons) next below) end
          added-past same put =
              rest-past halves h.bits (showing known s) walked e rest g
              (first_part known (shape_in s) (table_of s) f.ty f.first f.n h.typed.0 in_table m h.same le) h.typed.0 same put

-- The others as they are walked: by their bits and their count.
module _ (f : Fields) (known : List ℕ) {m : ℕ} (same : m ≡ get_or known f.ty 0) (at : ℕ) {s p : List ℕ} {depth row : ℕ} {judging : Bool}
    (q : ReadyFor s p depth (added_to f (get_or known f.ty 0) at) row judging) {rest : ℕ} (bits : rest ≡ f.known / 2 ^ m % 2 ^ (f.n - m)) where
  abbrev others : (count : ℕ) → Fields
  others count = record { ty = f.ty; first = f.first + m; n = f.n - m; known = rest; ones = count; place = at; start = at }

  pub others-ready : {count : ℕ} → (count ≡ ones rest) × (count ≤ 64) → ReadyFor s p depth (others count) row judging × OfCount s (others count)
  others-ready e =
      let asked : ReadyFor s p depth (added_to f m at) row judging = rw (← same) at q in (
        record { ready = rw bits asked.ready; in_table = asked.in_table; forth = asked.forth },
        (e.1, e.0 ∙ mine-count (table_of s) (f.first + m) (f.n - m) (f.n - m) (omega arith) asked.in_table _ rest bits),
      )
