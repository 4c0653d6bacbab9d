-- `valueframe::write_frame` meets its contract.
use mathlib.Core.Path.{sym, ◌∙◌}
use Rattle.frame.proofs.Tests.{known-bounds}
use Rattle.valueframe.proofs.Entries.{frame-kind, frame-value, frame-empty}
use borrow.Author.Rules.{rules}
use Rattle.valueframe.proofs.write_frame.Goals as goal

pub returns-then-not-known_kind : goal.returns-then-not-known_kind
returns-then-not-known_kind c =
    let args = c.args in
    rw c.at.ensures
    (frame-kind args.header args.schema.now.bytes.now args.ty args.sheet.now args.source.now args.out.now (sym c.known_kind.ensures ∙ c.if-not-known_kind.true))

pub returns-then-ty-eq-NO_TYPE : goal.returns-then-ty-eq-NO_TYPE
returns-then-ty-eq-NO_TYPE c =
    let args = c.args in
    let known = sym c.known_kind.ensures ∙ c.if-not-known_kind.false in
    frame-empty args.header args.schema.now.bytes.now args.ty args.sheet.now args.source.now args.out.now known c.if-ty-eq-NO_TYPE.true _ c.write_empty.ensures

pub returns-then-g-le-SHORT : goal.returns-then-g-le-SHORT
returns-then-g-le-SHORT c =
    let args = c.args in
    let known = sym c.known_kind.ensures ∙ c.if-not-known_kind.false in
    frame-value args.header args.schema.now.bytes.now args.ty args.sheet.now args.source.now args.out.now
    known c.if-ty-eq-NO_TYPE.false _ c.write_keeping.ensures

pub returns : goal.returns
returns c =
    let args = c.args in
    let known = sym c.known_kind.ensures ∙ c.if-not-known_kind.false in
    frame-value args.header args.schema.now.bytes.now args.ty args.sheet.now args.source.now args.out.now
    known c.if-ty-eq-NO_TYPE.false _ c.write_keeping-2.ensures
