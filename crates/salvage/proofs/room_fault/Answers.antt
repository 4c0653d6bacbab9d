-- `salvage::room_fault` meets its contract.
use native.Mathlib.Omega.{arith}
use Rattle.salvage.proofs.Rooms.{any-room, few, copy-fault, list-fault, room-there}
use Rattle.salvage.proofs.room_fault.Goals as goal

pub returns-then-spans-m : goal.returns-then-spans-m
returns-then-spans-m c =
    let m = c.count-m in
    let a = c.args in
    list-fault a.torn.now m.result m.ensures a.copy a.spans c.if-copy-m.false c.if-spans-m.true

pub returns : goal.returns
returns c =
    let m = c.count-m in
    let a = c.args in
    room-there a.torn.now m.result m.ensures a.copy a.spans c.if-copy-m.false c.if-spans-m.false

pub returns-then-has_room : goal.returns-then-has_room
returns-then-has_room c =
    let r = c.has_room in let a = c.args in
    any-room a.torn.now a.copy a.spans r.result r.ensures c.if-has_room.true

pub returns-then-copy-m : goal.returns-then-copy-m
returns-then-copy-m c =
    let m = c.count-m in let a = c.args in
    copy-fault a.torn.now m.result m.ensures a.copy a.spans c.if-copy-m.true

pub overflow_mul-m : goal.overflow_mul-m
overflow_mul-m c =
    let m = c.count-m in let known = c in
    omega (arith, few known.args.torn.now m.result m.ensures, known.requires)
