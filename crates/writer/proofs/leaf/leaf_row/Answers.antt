-- `writer::leaf::leaf_row` meets its contract.
use Rattle.writer.proofs.Leaves.{leaf-missing, leaf-fine, leaf_bad, leaf-row_in, leaf-known}
use Rattle.writer.proofs.Steps.{handed}
use borrow.Author.Rules.{rules}
use Rattle.writer.proofs.leaf.leaf_row.Goals as goal

pub overflow_mul-k : goal.overflow_mul-k
overflow_mul-k c =
    let args = c.args in
    let h = leaf-row_in args.sheet.now args.source.now args.kind args.ty args.row (c.requires c.if-not-judging.true) in
    search rules

pub overflow_add-k : goal.overflow_add-k
overflow_add-k c =
    let args = c.args in
    let h = leaf-row_in args.sheet.now args.source.now args.kind args.ty args.row (c.requires c.if-not-judging.true) in
    search rules

pub offset_bounds-sheet-k : goal.offset_bounds-sheet-k
offset_bounds-sheet-k c =
    let args = c.args in
    let h = leaf-row_in args.sheet.now args.source.now args.kind args.ty args.row (c.requires c.if-not-judging.true) in
    search rules

pub bounds-sheet-k : goal.bounds-sheet-k
bounds-sheet-k c =
    let args = c.args in
    let h = leaf-row_in args.sheet.now args.source.now args.kind args.ty args.row (c.requires c.if-not-judging.true) in
    search rules

pub overflow_add-k-then-not-judging : goal.overflow_add-k-then-not-judging
overflow_add-k-then-not-judging c =
    let args = c.args in
    let asked = c.requires in
    let h = leaf-row_in args.sheet.now args.source.now args.kind args.ty args.row (asked c.if-not-judging.true) in
    search rules

pub offset_bounds-sheet-k-then-not-judging : goal.offset_bounds-sheet-k-then-not-judging
offset_bounds-sheet-k-then-not-judging c =
    let args = c.args in
    let asked = c.requires in
    let h = leaf-row_in args.sheet.now args.source.now args.kind args.ty args.row (asked c.if-not-judging.true) in
    search rules

pub bounds-sheet-k-then-not-judging : goal.bounds-sheet-k-then-not-judging
bounds-sheet-k-then-not-judging c =
    let args = c.args in
    let asked = c.requires in
    let h = leaf-row_in args.sheet.now args.source.now args.kind args.ty args.row (asked c.if-not-judging.true) in
    search rules

pub returns-then-not-judging : goal.returns-then-not-judging
returns-then-not-judging c =
    let args = c.args in
    let asked = c.requires in
    leaf-known args.sheet.now args.source.now args.kind args.ty args.row (asked c.if-not-judging.true) _ _ c.wide.ensures
    c.wide-then-not-judging.ensures

pub returns-in_err-says : goal.returns-in_err-says
returns-in_err-says c = rw (handed c.from_residual.ensures.1) (leaf-missing _ _ _ _ _ _ c.row_due.ensures c.in_err-says.was)

pub returns-in_err-content : goal.returns-in_err-content
returns-in_err-content c =
    rw (handed c.from_residual-in_err-content.ensures.1)
    (leaf_bad _ _ _ _ _ _ c.row_due.ensures _ c.in_ok-says.was _ c.content.ensures c.in_err-content.was)

pub returns : goal.returns
returns c = leaf-fine _ _ _ _ _ _ c.row_due.ensures _ c.in_ok-says.was _ c.content.ensures c.in_ok-content.was
