-- Laws of values that hold nothing but scalars, strings and bytes: the bits that are required, the next bit that is set, and a struct's bitmap.
use mathlib.Core.Path.{◌≡◌, sym, ◌∙◌}
use mathlib.Core.Bool.{Bool, true, false}
use mathlib.Core.List.{List}
use Prim.Native.Nat.{ℕ, suc, ◌+◌, ◌%◌, ◌^◌, ◌≤◌, ◌<◌}
use native.Mathlib.Omega.{arith}
use lib.Dec.{ltb}
use lib.ListN.{length}
use Rattle.walks.proofs.Presence.{word_below, word-above}
use Rattle.parse.specs.Reader.{refused, seen, and_then, check, cursor_at}
use Rattle.schema.specs.declared.Field.{Field}
use Rattle.schema.specs.Table.{Shape, struct}
use Rattle.schema.specs.File.{table_of}
use Rattle.value.specs.Read.{parts, bitmap, own, parse}
use Rattle.walks.specs.Shape.{fields_from, shape_in}
use Rattle.walks.proofs.Tables.{struct_row, shape-struct}
use Rattle.flat.specs.declared.elements.Prepared.{Prepared}
use Rattle.flat.specs.InnerHead.{InnerHead, Bits, Refused}
use Rattle.flat.specs.Walk.{Walk, Refused as Stopped, value_in, whole_in, told, Walked, Ready}
use Rattle.flat.specs.Flat.{IsFlat, Described, inner_head_of, InnerHeaded, ValuedFlat, HeldFields, FieldsReady}
use Rattle.flat.proofs.Steps.{renamed, as_refused, further, as_told, parse-refused, parse-whole}

-- ---- the bitmap of an inner struct

module _ (fs : List Field) (p : List ℕ) (at : ℕ) where
  pub bits-fault : (k : ℕ) → refused k at ≡ bitmap fs (cursor_at p at) → refused k at ≡ own (struct fs) (cursor_at p at)
  unfolding and_then
  bits-fault k e = rw (sym e)

  module _ (n word known start : ℕ) (many : length fs ≡ n) (low : known ≡ word % 2 ^ n) (read : seen word (cursor_at p start) ≡ bitmap fs (cursor_at p at)) where
    pub bits-unknown : (word ≡ known → ⊥) → refused 26 at ≡ own (struct fs) (cursor_at p at)
    unfolding and_then check
    bits-unknown h =
        let f : ltb word (2 ^ length fs) ≡ false = word-above (length fs) (rw many low) h in
        rw (sym read, f)

    pub bits-known : word ≡ known → seen (parts at known) (cursor_at p start) ≡ own (struct fs) (cursor_at p at)
    unfolding and_then check
    bits-known h =
        let f : ltb word (2 ^ length fs) ≡ true = word_below (length fs) (rw many low) h in
        rw (sym read, f, h)

-- A struct of scalars, strings and bytes, by what was read of its bitmap.
module _ {s p : List ℕ} {f : Prepared} {at depth row : ℕ} {judging : Bool} (ready : Ready s p at row judging (value_in s p (suc depth) f.ty at))
    (d : Described s f.ty f) (flat : IsFlat s (suc depth) f.ty) (k : f.row.kind ≡ 16) where
  abbrev whole : Shape
  whole = struct (fields_from (table_of s) f.row.a f.row.b)

  few : (0 < f.row.b) × (f.row.b ≤ 64) × (f.row.a + f.row.b ≤ length (table_of s).fields)
  few = struct_row s ready.good f.ty f.row d.is k

  pub struct_is : shape_in s f.ty ≡ whole
  struct_is = shape-struct (table_of s) f.ty f.row d.is k

  pub inner-asked : (0 < f.row.b) × (f.row.b ≤ 64) × (at ≤ length p)
  inner-asked = (few.0, few.1, ready.inside)

  module _ {r : InnerHead} (u : InnerHeaded p f.required f.row.b at r) where
    same : inner_head_of p at r ≡ own whole (cursor_at p at)
    same = u.same (table_of s) f.row.a few.2 (d.required k)

    pub inner-refused : {number : ℕ} → r ≡ Refused number → (R : ℕ → Shape) {l m : List ℕ}
        → Walked p (at + 1) (told R (shape_in s) f.ty) (value_in s p (suc depth) f.ty at) row l (Stopped number at) m
    inner-refused {number} e R = as_refused _ _ _ (parse-refused (shape_in s) depth f.ty (cursor_at p at) whole struct_is number at (sym (rw e at same)))

    module _ {known start : ℕ} (e : r ≡ Bits known start) where
      within : (known < 2 ^ f.row.b) × (at < start) × (start ≤ length p)
      within = rw e at u.within

      value-is : value_in s p (suc depth) f.ty at ≡ whole_in s p depth f.ty whole at known start
      value-is = parse-whole (shape_in s) depth f.ty (cursor_at p at) whole struct_is (parts at known) (cursor_at p start) (sym (rw e at same))

      pub inner-ready : FieldsReady s p depth f.ty f.row.a f.row.b at known start row judging
      inner-ready =
          record {
            ready = record {
              good = ready.good;
              small = ready.small;
              inside = within.2;
              behind = omega (arith, within.1, ready.behind);
              judged = λ j. rw value-is at (ready.judged j);
            };
            leaves = rw d.is (flat.fields (rw d.is at k));
            in_table = few.2;
            few = few.1;
            fits = within.0;
            forth = omega (arith, within.1);
            deep = omega (arith, flat.deep (rw (← d.is) (omega (arith, k))));
          }

      pub inner-told : (R : ℕ → Shape) {l : List ℕ} (w : Walk) {m : List ℕ}
          → Walked p start (told R (shape_in s) f.ty) (whole_in s p depth f.ty whole at known start) row l w m
          → Walked p (at + 1) (told R (shape_in s) f.ty) (value_in s p (suc depth) f.ty at) row l w m
      inner-told R w h = renamed value-is (further start (at + 1) w (omega (arith, within.1)) h)

      pub inner-held : {l : List ℕ} (w : Walk) {m : List ℕ} → HeldFields s p depth f.ty f.row.a f.row.b at known start row l w m
          → ValuedFlat s p (suc depth) f.ty at row l w m
      inner-held {l} w h R shown =
          inner-told R w (as_told R (shape_in s) (parse (shape_in s) depth) whole f.ty at known (cursor_at p start) row l (shown ∙ struct_is) struct_is (h R))
