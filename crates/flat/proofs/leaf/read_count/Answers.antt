-- `flat::leaf::read_count` meets its contract.
use mathlib.Core.Path.{refl, sym, ap, ◌∙◌}
use Rattle.wire.specs.Varuint.{told}
use Rattle.wire.proofs.Varuints.{varuint-inside}
use Rattle.flat.proofs.Leaves.{count-fault, count-large, count-above, count-is}
use Rattle.flat.proofs.leaf.read_count.Goals as goal

pub returns-in-Err : goal.returns-in-Err
returns-in-Err c = rw (c.at.ensures, c.from.ensures) (record { told = count-fault _ _ _ c.in-Err.error (sym c.read.ensures ∙ ap told c.in-Err.is); place = refl })

pub overflow_sub-rest : goal.overflow_sub-rest
overflow_sub-rest c = (varuint-inside c.args.p.now c.args.at _ _ (sym c.read.ensures ∙ ap told c.in-Ok.is)).1

pub returns-then-rest-size : goal.returns-then-rest-size
returns-then-rest-size c =
    rw c.at-then-rest-size.ensures (record { told = count-above _ _ _ _ _ (sym c.read.ensures ∙ ap told c.in-Ok.is) c.requires.1 c.if-rest-size.true; place = refl })

pub returns-then-rest-least : goal.returns-then-rest-least
returns-then-rest-least c =
    rw c.at-then-rest-least.ensures (record { told = count-large _ _ _ _ _ (sym c.read.ensures ∙ ap told c.in-Ok.is) c.if-rest-least.true; place = refl })

pub returns : goal.returns
returns c = record { told = count-is _ _ _ _ _ (sym c.read.ensures ∙ ap told c.in-Ok.is) c.if-rest-least.false; place = tt }
