-- `writer::leaf::scalar` meets its contract.
use mathlib.Core.Path.{sym, ◌∙◌}
use Rattle.value.proofs.Spans.{scalar-truth, scalar-other}
use Rattle.writer.proofs.Leaves.{scalar-wide, scalar-counted, scalar-outside, scalar-fine, scalar_bad}
use Rattle.writer.proofs.leaf.scalar.Goals as goal

pub returns-then-n-width_of : goal.returns-then-n-width_of
returns-then-n-width_of c =
    let args = c.args in
    rw c.at.ensures
    (scalar-wide args.source.now args.kind args.place args.n args.count args.row c.requires.0 (λ e. c.if-n-width_of.true (e ∙ sym c.width_of.ensures)))

pub returns-then-count-ne0 : goal.returns-then-count-ne0
returns-then-count-ne0 c =
    let args = c.args in
    rw c.at-then-count-ne0.ensures
    (scalar-counted args.source.now args.kind args.place args.n args.count args.row c.requires.0 (c.if-n-width_of.false ∙ c.width_of.ensures)
    c.if-count-ne0.true)

pub returns-then-source-place : goal.returns-then-source-place
returns-then-source-place c =
    let args = c.args in
    let asked = c.requires in
    rw c.at-then-source-place.ensures
    (scalar-outside args.source.now args.kind args.place args.n args.count args.row asked.0 (c.if-n-width_of.false ∙ c.width_of.ensures)
    c.if-count-ne0.false c.if-source-place.true)

pub returns-then-source-place-gt1 : goal.returns-then-source-place-gt1
returns-then-source-place-gt1 c =
    let args = c.args in
    let asked = c.requires in
    let width_of = c.width_of in
    let if1 = c.if-n-width_of in
    rw c.at-then-source-place-gt1.ensures
    (scalar_bad args.source.now args.kind args.place args.n args.count args.row asked.0 (if1.false ∙ width_of.ensures) c.if-count-ne0.false
    c.if-source-place.false c.if-kind.true c.if-source-place-gt1.true)

pub returns-else-source-place-gt1 : goal.returns-else-source-place-gt1
returns-else-source-place-gt1 c =
    let args = c.args in
    let asked = c.requires in
    let width_of = c.width_of in
    let if1 = c.if-n-width_of in
    let if2 = c.if-count-ne0 in
    let if3 = c.if-source-place in
    scalar-fine args.source.now args.kind args.place args.n args.count args.row asked.0 (if1.false ∙ width_of.ensures) if2.false if3.false
    (scalar-truth args.source.now args.kind args.place args.n (if1.false ∙ width_of.ensures) if3.false c.if-kind.true c.if-source-place-gt1.false)

pub returns-else-kind : goal.returns-else-kind
returns-else-kind c =
    let args = c.args in
    let asked = c.requires in
    let width_of = c.width_of in
    let if1 = c.if-n-width_of in
    scalar-fine args.source.now args.kind args.place args.n args.count args.row asked.0 (if1.false ∙ width_of.ensures) c.if-count-ne0.false c.if-source-place.false
    (scalar-other args.source.now args.kind args.place args.n c.if-kind.false)
