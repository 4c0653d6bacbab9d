-- `record::entry_length` meets its contract: the side byte, then what the frame reader answers for the bytes after it.
use mathlib.Core.Path.{◌≡◌, sym, ap, ◌∙◌}
use Prim.Native.Nat.{◌+◌, ◌≤◌}
use native.Mathlib.Omega.{arith}
use lib.ListN.{length}
use Rattle.std.proofs.Common.{Ok}
use Rattle.frame.specs.FrameRead.{FrameRead, Frame}
use Rattle.frame.specs.Told.{told}
use Rattle.record.specs.Entry.{size_of, answered, entry_length}
use Rattle.record.proofs.Tests.{answered-some, no_bytes, no-side, by-frame, within}
use Rattle.record.proofs.entry_length.Goals.{After-read_frame, In-Ok-Whole}
use Rattle.record.proofs.entry_length.Goals as goal

some : (c : After-read_frame) → length c.args.bytes.now ≡ 0 → ⊥
some c z = absurd (omega arith)

-- what was read is what the entry's length goes by
by : (c : After-read_frame) (v : FrameRead) → told c.read_frame.result ≡ v → answered (size_of v) ≡ answered (entry_length c.args.bytes.now)
by c v e =
    ap answered (ap size_of (sym e) ∙ by-frame c.args.bytes.now (some c) (told c.read_frame.result) c.read_frame.ensures (sym c.is_side.ensures ∙ c.if-not-is_side.false))

whole : (c : In-Ok-Whole) → told c.read_frame.result ≡ Frame c.in-Ok-Whole.frame.header c.in-Ok-Whole.frame.place c.in-Ok-Whole.frame.length
whole c = ap told (c.in-Ok-Whole.is ∙ ap Ok c.in-Ok-Whole.field-0-is)

inside : (c : In-Ok-Whole) → 1 + c.in-Ok-Whole.frame.place + c.in-Ok-Whole.frame.length ≤ length c.args.bytes.now
inside c = within c.args.bytes.now (λ z. absurd (omega arith)) (told c.read_frame.result) c.read_frame.ensures _ _ _ (whole c)

pub returns-in_default : goal.returns-in_default
returns-in_default c = ap answered (no_bytes c.args.bytes.now (omega arith))

pub returns-then-not-is_side : goal.returns-then-not-is_side
returns-then-not-is_side c = ap answered (no-side c.args.bytes.now (λ z. absurd (omega arith)) (sym c.is_side.ensures ∙ c.if-not-is_side.true))

pub overflow_add-result : goal.overflow_add-result
overflow_add-result c = omega (arith, inside (goal.at.overflow_add-result c).In-Ok-Whole)

pub overflow_add-result-in-Ok-Whole : goal.overflow_add-result-in-Ok-Whole
overflow_add-result-in-Ok-Whole c = omega (arith, inside (goal.at.overflow_add-result-in-Ok-Whole c).In-Ok-Whole)

pub returns-in-Ok-Whole : goal.returns-in-Ok-Whole
returns-in-Ok-Whole c =
    let s = (goal.at.returns-in-Ok-Whole c).In-Ok-Whole in
    let f = s.in-Ok-Whole.frame in
    answered-some (1 + f.place + f.length) (omega arith) ∙ by (goal.at.returns-in-Ok-Whole c).After-read_frame _ (whole s)

pub returns-in-Ok-More : goal.returns-in-Ok-More
returns-in-Ok-More c = by (goal.at.returns-in-Ok-More c).After-read_frame _ (ap told (c.in-Ok-More.is ∙ ap Ok c.in-Ok-More.field-0-is))

pub returns-in-Err : goal.returns-in-Err
returns-in-Err c = by (goal.at.returns-in-Err c).After-read_frame _ (ap told c.in-Err.is)
