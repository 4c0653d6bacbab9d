-- `flat::elements::element` meets its contract.
use Prim.Native.Nat.{suc}
use native.Mathlib.Omega.{arith}
use Rattle.flat.proofs.Steps.{IsLeaf, is_leaf, leaf-asked, leaf-stop, leaf-past}
use Rattle.flat.proofs.Turns.{leaf-left}
use Rattle.flat.proofs.elements.element.Goals.{Else-f-2}
use mathlib.Core.Path.{ap}
use Rattle.flat.specs.Told.{told_span}
use Rattle.std.proofs.lemmas.Result.{err_from_is_err_and}
use Rattle.flat.proofs.elements.element.Goals as goal

-- Where it is neither a struct nor an array.
leaf : (c : Else-f-2) → let args = c.args in IsLeaf args.source.now.schema.bytes.now args.f.ty args.f.row
leaf c =
    let args = c.args in
    let k = leaf-left args.source.now.schema.bytes.now (suc args.depth) args.f.ty args.f.row c.requires.1.is c.requires.2 c.if-f.false c.if-f-2.false in
    is_leaf c.requires.1.is k.0 k.1

pub content-requires : goal.content-requires
content-requires c = leaf-asked (leaf (goal.at.content-requires c).Else-f-2) (omega arith) c.requires.0

pub returns-in_err-content : goal.returns-in_err-content
returns-in_err-content c =
    let (_, is, same) = err_from_is_err_and c.from_residual.result c.from_residual.ensures.1 in
    rw (is, same)
    (λ R shown. leaf-stop (leaf (goal.at.returns-in_err-content c).Else-f-2) (omega arith) c.content.ensures (ap told_span c.in_err-content.was) R)

pub returns : goal.returns
returns c = λ R shown. leaf-past (leaf (goal.at.returns c).Else-f-2) (omega arith) c.content.ensures (ap told_span c.in_ok-content.was) c.requires.0.behind c.put_row.ensures R
