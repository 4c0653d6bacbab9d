-- `frame::read_payload` meets its contract: what the length was picks the case, and the tests pick the answer.
use mathlib.Core.Path.{◌≡◌, sym, ap, ◌∙◌}
use mathlib.Core.List.{List}
use Prim.Native.Nat.{ℕ, ◌+◌}
use native.Mathlib.Omega.{arith}
use borrow.Author.Tests.{le-leb, lt-leb}
use lib.ListN.{length}
use Rattle.std.proofs.Common.{Err}
use Rattle.wire.specs.Varuint.{VarUInt, told, varuint}
use Rattle.wire.proofs.Varuints.{varuint-inside}
use Rattle.frame.specs.Frame.{frame_payload}
use Rattle.frame.specs.Places.{header_at}
use Rattle.frame.proofs.read_payload.Goals as goal

-- the answer to what was read is the answer to what stands there
came : (s : List ℕ) (read r : VarUInt) → read ≡ varuint s 25 → read ≡ r
    → frame_payload (length s) (header_at s) r ≡ frame_payload (length s) (header_at s) (varuint s 25)
came s read r was e = ap (frame_payload (length s) (header_at s)) (sym e ∙ was)

pub returns-then-size : goal.returns-then-size
unfolding frame_payload
returns-then-size c =
    rw (← came c.args.s.now _ _ c.read.ensures (ap told c.in-Ok.is), lt-leb c.in-Ok.size.value 16384 c.if-size.true)

pub overflow_sub-s : goal.overflow_sub-s
overflow_sub-s c = (varuint-inside c.args.s.now 25 c.in-Ok.size.value c.in-Ok.size.next (sym c.read.ensures ∙ ap told c.in-Ok.is)).1

pub returns-then-s-size : goal.returns-then-s-size
unfolding frame_payload
returns-then-s-size c =
    let n = c.in-Ok.size.value in
    let next = c.in-Ok.size.next in
    let i = (varuint-inside c.args.s.now 25 n next (sym c.read.ensures ∙ ap told c.in-Ok.is)).1 in
    rw (
      ← came c.args.s.now _ _ c.read.ensures (ap told c.in-Ok.is),
      le-leb n 16384 c.if-size.false,
      lt-leb (next + n) (length c.args.s.now) (omega arith),
    )

pub returns-else-s-size : goal.returns-else-s-size
unfolding frame_payload
returns-else-s-size c =
    let n = c.in-Ok.size.value in
    let next = c.in-Ok.size.next in
    let i = (varuint-inside c.args.s.now 25 n next (sym c.read.ensures ∙ ap told c.in-Ok.is)).1 in
    rw (
      ← came c.args.s.now _ _ c.read.ensures (ap told c.in-Ok.is),
      le-leb n 16384 c.if-size.false,
      le-leb (next + n) (length c.args.s.now) (omega arith),
      c.header_at.ensures,
    )

pub returns-in-Err-Cut : goal.returns-in-Err-Cut
unfolding frame_payload
returns-in-Err-Cut c = came c.args.s.now _ _ c.read.ensures (ap told (c.in-Err-Cut.is ∙ ap Err c.in-Err-Cut.field-0-is))

pub returns-in-Err-Malformed : goal.returns-in-Err-Malformed
unfolding frame_payload
returns-in-Err-Malformed c = came c.args.s.now _ _ c.read.ensures (ap told (c.in-Err-Malformed.is ∙ ap Err c.in-Err-Malformed.field-0-is))
