-- `forward::fault_of` meets its contract.
use mathlib.Core.Path.{sym, ◌∙◌}
use native.Mathlib.Omega.{arith}
use Rattle.forward.proofs.Entries.{fault-outside, fault-unfit, fault-long, fault-room, fault-none}
use Rattle.forward.proofs.fault_of.Goals as goal

pub returns-then-size-tail-clause-fault : goal.returns-then-size-tail-clause-fault
returns-then-size-tail-clause-fault c =
    let args = c.args in
    rw c.at.ensures
    (fault-outside args.size args.unknown args.tail.place args.tail.length args.plain args.room
    (omega (arith, c.if-size-tail.true)))

pub returns-then-size-tail-2-clause-fault : goal.returns-then-size-tail-2-clause-fault
returns-then-size-tail-2-clause-fault c =
    let args = c.args in
    rw c.at-then-size-tail-2.ensures
    (fault-outside args.size args.unknown args.tail.place args.tail.length args.plain args.room
    (omega (arith, c.if-size-tail-2.true, c.if-size-tail.false)))

pub returns-then-not-is_suiting-clause-fault : goal.returns-then-not-is_suiting-clause-fault
returns-then-not-is_suiting-clause-fault c =
    let args = c.args in
    rw c.at-then-not-is_suiting.ensures
    (fault-unfit args.size args.unknown args.tail.place args.tail.length args.plain args.room
    (omega (arith, c.if-size-tail-2.false, c.if-size-tail.false)) (sym c.is_suiting.ensures ∙ c.if-not-is_suiting.true))

pub returns-then-plain-gt-PAYLOAD-clause-fault : goal.returns-then-plain-gt-PAYLOAD-clause-fault
returns-then-plain-gt-PAYLOAD-clause-fault c =
    let args = c.args in
    rw c.at-then-plain-gt-PAYLOAD.ensures
    (fault-long args.size args.unknown args.tail.place args.tail.length args.plain args.room
    (omega (arith, c.if-size-tail-2.false, c.if-size-tail.false)) (sym c.is_suiting.ensures ∙ c.if-not-is_suiting.false) (omega (arith, c.if-plain-gt-PAYLOAD.true)))

pub returns-then-plain-tail-clause-fault : goal.returns-then-plain-tail-clause-fault
returns-then-plain-tail-clause-fault c =
    let args = c.args in
    rw c.at-then-plain-tail.ensures
    (fault-long args.size args.unknown args.tail.place args.tail.length args.plain args.room
    (omega (arith, c.if-size-tail-2.false, c.if-size-tail.false)) (sym c.is_suiting.ensures ∙ c.if-not-is_suiting.false)
    (omega (arith, c.if-plain-tail.true, c.if-plain-gt-PAYLOAD.false)))

pub returns-then-room-plain-clause-fault : goal.returns-then-room-plain-clause-fault
returns-then-room-plain-clause-fault c =
    let args = c.args in
    rw c.at-then-room-plain.ensures
    (fault-room args.size args.unknown args.tail.place args.tail.length args.plain args.room
    (omega (arith, c.if-size-tail-2.false, c.if-size-tail.false))
    (sym c.is_suiting.ensures ∙ c.if-not-is_suiting.false)
    (omega (arith, c.if-plain-tail.false, c.if-plain-gt-PAYLOAD.false)) c.if-room-plain.true)

pub returns-clause-fault : goal.returns-clause-fault
returns-clause-fault c =
    let args = c.args in
    fault-none args.size args.unknown args.tail.place args.tail.length args.plain args.room
    (omega (arith, c.if-size-tail-2.false, c.if-size-tail.false))
    (sym c.is_suiting.ensures ∙ c.if-not-is_suiting.false)
    (omega (arith, c.if-plain-tail.false, c.if-plain-gt-PAYLOAD.false)) c.if-room-plain.false
