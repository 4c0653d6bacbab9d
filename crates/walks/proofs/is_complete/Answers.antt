-- `walks::is_complete` meets its contract. The invariant: the fields not yet looked at decide.
use Rattle.std.proofs.Common.{◌≡◌, sym, ap, not, ◌∙◌, ◌+◌, ◌-◌, arith}
use Rattle.schema.specs.File.{table_of}
use Rattle.walks.proofs.Tables.{few-fields}
use Rattle.walks.proofs.Presence.{complete-stop, complete-on, complete-end}
use Rattle.walks.proofs.is_complete.Goals as goal

pub overflow_add-i-end : goal.overflow_add-i-end
overflow_add-i-end c = let h = few-fields _ c.requires.0 in omega (arith, c.requires.1)

pub returns-then-not-f-bits : goal.returns-then-not-f-bits
returns-then-not-f-bits c =
    let l = c.loop-i in
    complete-stop (table_of c.args.s.now) l.i (c.args.first + c.args.n - l.i) (omega (arith, c.loop-i-test.true)) (omega (arith, c.loop-i-test.true, c.requires.1)) _ _ c.field-f.ensures _ l.invariant
    (ap not c.if-not-f-bits.true)

pub loop-i-preserved : goal.loop-i-preserved
loop-i-preserved c =
    let l = c.loop-i in
    let left = c.args.first + c.args.n - l.i in
    let next : c.args.first + c.args.n - (l.i + 1) ≡ left - 1 = omega arith in
    rw next
    (complete-on (table_of c.args.s.now) l.i left (omega (arith, c.loop-i-test.true)) (omega (arith, c.loop-i-test.true, c.requires.1)) _ _ c.field-f.ensures _ l.invariant
    (ap not c.if-not-f-bits.false))

pub returns : goal.returns
returns c = sym (complete-end (table_of c.args.s.now) c.loop-i.i (c.args.first + c.args.n - c.loop-i.i) (omega (arith, c.loop-i-test.false)) c.loop-i.bits) ∙ c.loop-i.invariant
