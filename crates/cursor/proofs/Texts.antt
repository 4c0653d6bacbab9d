-- Strings and bytes: the payload reader's rule for them, by the span.
use mathlib.Core.Path.{◌≡◌, refl, sym, ap, ◌∙◌}
use mathlib.Core.List.{List, ◌++◌}
use mathlib.Core.Bool.{Bool, true, false, not}
use Prim.Native.Nat.{ℕ, ◌+◌, ◌-◌, ◌≤◌}
use native.Mathlib.Omega.{arith}
use borrow.Author.Tests.{not-true, not-false}
use lib.ListN.{length, take, drop, length-drop}
use lib.Seq.{slice, take-add, length-take-le, drop-append_seam}
use Rattle.utf8.specs.Utf8.{utf8}
use Rattle.wire.proofs.Cases.{differ}
use Rattle.parse.specs.Reader.{Answer, refused, seen, and_then, check, cursor_at, count}
use Rattle.parse.proofs.Places.{block_here}
use Rattle.schema.specs.Table.{text}
use Rattle.value.specs.Read.{own}
use Rattle.cursor.specs.Span.{Span}
use Rattle.cursor.specs.Span.{At, Refused}
use Rattle.cursor.specs.Item.{ContentSpan, span_item, span_step, span_at, content_checked, content_judged, text_span, text_from}
use Rattle.cursor.proofs.Items.{Sized, large, broken, room, count-sized, span-refused, span-here}

module _ (p : List ℕ) where
  module _ (from : ℕ) where
    text-refused : (kind n q : ℕ) → count 1 (cursor_at p from) ≡ refused n q → own (text kind) (cursor_at p from) ≡ refused n q
    unfolding and_then
    text-refused kind n q e = rw e

    text-here : (kind n start : ℕ) → count 1 (cursor_at p from) ≡ seen n (cursor_at p start) → n ≤ length p - start
        → own (text kind) (cursor_at p from) ≡ content_judged p kind (record { place = start; size = n }) (cursor_at p (start + n))
    unfolding and_then
    text-here kind n start e h = rw (e, block_here p start n h)

    -- A string or bytes, as the payload reader reads them: the span, and for a string its UTF-8, refused at the content's start.
    pub text-by-span : (kind : ℕ) → own (text kind) (cursor_at p from) ≡ and_then (span_item (cursor_at p from)) (content_judged p kind)
    unfolding and_then
    text-by-span kind = go (count 1 (cursor_at p from)) refl (count-sized p from)
      where
        go : (a : Answer ℕ) → count 1 (cursor_at p from) ≡ a → Sized p from a → own (text kind) (cursor_at p from) ≡ and_then (span_item (cursor_at p from)) (content_judged p kind)
        go a e large = text-refused kind 20 from e ∙ ap (λ (x : Answer ContentSpan). and_then x (content_judged p kind)) (sym (span-refused p from 20 from e))
        go a e broken = text-refused kind 21 from e ∙ ap (λ (x : Answer ContentSpan). and_then x (content_judged p kind)) (sym (span-refused p from 21 from e))
        go a e (room {n} {start} l m) =
            let h : n ≤ length p - start = omega arith in
            text-here kind n start e h ∙ ap (λ (x : Answer ContentSpan). and_then x (content_judged p kind)) (sym (span-here p from n start e h))

    -- The span that was found.
    module _ (found : Span) (is : found ≡ (span_at p from).item) where
      -- of the answer a it is the item
      item_of : (a : Answer ContentSpan) → span_item (cursor_at p from) ≡ a → (span_step from a).item ≡ found
      item_of a e = ap (λ (x : Answer ContentSpan). (span_step from x).item) (sym e) ∙ sym is

      pub text-none : (n q : ℕ) → found ≡ Refused n q → Refused n q ≡ text_from p from
      text-none n q e = go (count 1 (cursor_at p from)) refl (count-sized p from)
        where
          go : (a : Answer ℕ) → count 1 (cursor_at p from) ≡ a → Sized p from a → Refused n q ≡ text_from p from
          go a k large = sym (item_of _ (span-refused p from 20 from k) ∙ e) ∙ ap text_span (sym (text-refused 12 20 from k))
          go a k broken = sym (item_of _ (span-refused p from 21 from k) ∙ e) ∙ ap text_span (sym (text-refused 12 21 from k))
          go a k (room {n = v} {start} l m) =
              let h : v ≤ length p - start = omega arith in
              let t : At start v ≡ Refused n q = item_of _ (span-here p from v start k h) ∙ e in
              differ cc

      module _ (place size : ℕ) (e : found ≡ At place size) where
        span-known : (count 1 (cursor_at p from) ≡ seen size (cursor_at p place)) × (place + size ≤ length p)
        span-known = go (count 1 (cursor_at p from)) refl (count-sized p from)
          where
            go : (a : Answer ℕ) → count 1 (cursor_at p from) ≡ a → Sized p from a → (a ≡ seen size (cursor_at p place)) × (place + size ≤ length p)
            go a k large =
                let t : Refused 20 from ≡ At place size = item_of _ (span-refused p from 20 from k) ∙ e in
                differ cc
            go a k broken =
                let t : Refused 21 from ≡ At place size = item_of _ (span-refused p from 21 from k) ∙ e in
                differ cc
            go a k (room {n} {start} l m) =
                let h : n ≤ length p - start = omega arith in
                let t : At start n ≡ At place size = item_of _ (span-here p from n start k h) ∙ e in
                let x : start ≡ place = cc in
                let y : n ≡ size = cc in
                rw (← x, ← y) (refl, m)

        pub span-inside : place + size ≤ length p
        span-inside = span-known.1

        abbrev content : List ℕ
        content = take size (drop place p)

        text-judged : (b r : Bool) → b ≡ utf8 (slice place (place + size) p) → b ≡ r → own (text 12) (cursor_at p from) ≡ content_checked r place content (cursor_at p (place + size))
        text-judged b r k f =
            let i = span-inside in
            let t : length (take place p) ≡ place = length-take-le place p (omega arith) in
            let s : slice place (place + size) p ≡ content = ap (drop place) (take-add place size p) ∙ ap (λ (j : ℕ). drop j (take place p ++ content)) (sym t) ∙ drop-append_seam (take place p) content in
            let h : size ≤ length p - place = omega arith in
            text-here 12 size place span-known.0 h ∙ ap (λ (g : Bool). content_checked g place content (cursor_at p (place + size))) (sym (k ∙ ap utf8 s) ∙ f)

        module _ (b : Bool) (k : b ≡ utf8 (slice place (place + size) p)) where
          pub text_bad : not b ≡ true → Refused 23 place ≡ text_from p from
          unfolding and_then check
          text_bad f = ap text_span (sym (text-judged b false k (not-true b f)))

          pub text-good : not b ≡ false → At place size ≡ text_from p from
          unfolding and_then check
          text-good f =
              let i = span-inside in
              let l : length content ≡ size = length-take-le size (drop place p) (rw length-drop (omega arith)) in
              let m : place + size - length content ≡ place = omega (arith, l) in
              (λ j. At (sym m j) (sym l j)) ∙ ap text_span (sym (text-judged b true k (not-false b f)))
