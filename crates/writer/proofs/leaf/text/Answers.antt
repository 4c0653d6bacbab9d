-- `writer::leaf::text` meets its contract.
use mathlib.Core.Path.{sym, ap, ◌∙◌}
use mathlib.Core.List.{List}
use Prim.Native.Nat.{ℕ}
use Rattle.utf8.specs.Utf8.{utf8}
use Rattle.value.proofs.Spans.{text-valid, text-plain}
use Rattle.writer.proofs.Leaves.{text-counted, text-outside, text-fine, text_bad}
use Rattle.buffer.proofs.Spans.{slice-span}
use Rattle.writer.proofs.leaf.text.Goals as goal

pub returns-then-count-ne0 : goal.returns-then-count-ne0
returns-then-count-ne0 c = rw c.at.ensures
    (text-counted c.args.source.now c.args.kind c.args.place c.args.n c.args.count c.args.row c.requires.0 c.if-count-ne0.true)

pub returns-then-source-place : goal.returns-then-source-place
returns-then-source-place c =
    let args = c.args in
    rw c.at-then-source-place.ensures
    (text-outside args.source.now args.kind args.place args.n args.count args.row c.requires.0 c.if-count-ne0.false c.if-source-place.true)

pub returns-then-not-valid : goal.returns-then-not-valid
returns-then-not-valid c =
    let args = c.args in
    let asked = c.requires in
    rw c.at-then-not-valid.ensures
    (text_bad args.source.now args.kind args.place args.n args.count args.row asked.0 c.if-count-ne0.false c.if-source-place.false
    c.if-kind.true (sym (c.valid.ensures ∙ ap (λ (l : List ℕ). utf8 l) (slice-span args.source.now args.place args.n)) ∙ c.if-not-valid.true))

pub returns-else-not-valid : goal.returns-else-not-valid
returns-else-not-valid c =
    let args = c.args in
    let asked = c.requires in
    text-fine args.source.now args.kind args.place args.n args.count args.row asked.0 c.if-count-ne0.false c.if-source-place.false
    (text-valid args.source.now args.kind args.place args.n
    (sym (c.valid.ensures ∙ ap (λ (l : List ℕ). utf8 l) (slice-span args.source.now args.place args.n)) ∙ c.if-not-valid.false))

pub returns-else-kind : goal.returns-else-kind
returns-else-kind c =
    let args = c.args in
    text-fine args.source.now args.kind args.place args.n args.count args.row c.requires.0 c.if-count-ne0.false c.if-source-place.false
    (text-plain args.source.now args.kind args.place args.n c.if-kind.false)
