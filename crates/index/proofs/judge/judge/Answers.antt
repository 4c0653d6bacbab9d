-- `index::judge::judge` meets its contract: the tests in their order.
use mathlib.Core.Path.{◌≡◌, refl, sym, ◌∙◌}
use mathlib.Core.Bool.{true}
use Prim.Native.Nat.{◌≤◌}
use native.Mathlib.Omega.{arith}
use lib.ListN.{length}
use Rattle.index.specs.IsIndex.{is_shaped, is_ordered}
use Rattle.index.proofs.Shapes.{shape-long, count-read, judged-shape, judged-order, judged-size, judged-right}
use Rattle.index.proofs.judge.judge.Goals.{Else-not-is_ordered, Else-not-is_shaped}
use Rattle.index.proofs.judge.judge.Goals as goal

pub returns-then-not-is_shaped : goal.returns-then-not-is_shaped
returns-then-not-is_shaped c =
    let a = c.args in
    let w = judged-shape a.index.now a.size (sym c.is_shaped.ensures ∙ c.if-not-is_shaped.true) 65 0 refl refl in
    record { number_value = (w.number_is, w.rows_is); rows_in_bounds = (w.inside, w.few) }

-- the shape is right
shape : (c : Else-not-is_shaped) → is_shaped c.args.index.now ≡ true
shape c = sym c.is_shaped.ensures ∙ c.if-not-is_shaped.false

long : (c : Else-not-is_shaped) → 16 ≤ length c.args.index.now
long c = shape-long c.args.index.now (shape c)

pub returns-then-not-is_ordered : goal.returns-then-not-is_ordered
returns-then-not-is_ordered c =
    let first = (goal.at.returns-then-not-is_ordered c).Else-not-is_shaped in
    let a = first.args in
    let w = judged-order a.index.now a.size (shape first) (sym c.is_ordered.ensures ∙ c.if-not-is_ordered.true) 65 0 refl refl in
    record { number_value = (w.number_is, w.rows_is); rows_in_bounds = (w.inside, w.few) }

-- so is the order
order : (c : Else-not-is_ordered) → is_ordered c.args.index.now ≡ true
order c = sym c.is_ordered.ensures ∙ c.if-not-is_ordered.false

pub returns-then-u32_at-size : goal.returns-then-u32_at-size
returns-then-u32_at-size c =
    let second = (goal.at.returns-then-u32_at-size c).Else-not-is_ordered in
    let first = (goal.at.returns-then-u32_at-size c).Else-not-is_shaped in
    let a = first.args in
    let size = c.u32_at in
    let w = judged-size a.index.now a.size (shape first) (order second) size.result size.ensures c.if-u32_at-size.true 66 0 refl refl in
    record { number_value = (w.number_is, w.rows_is); rows_in_bounds = (w.inside, w.few) }

pub returns : goal.returns
returns c =
    let second = (goal.at.returns c).Else-not-is_ordered in
    let first = (goal.at.returns c).Else-not-is_shaped in
    let a = first.args in
    let size = c.u32_at in
    let rows = c.u32_at-2 in
    let w = judged-right a.index.now a.size (shape first) (order second) size.result size.ensures c.if-u32_at-size.false
    rows.result (count-read a.index.now (shape first) rows.result rows.ensures) (omega arith) in
    record { number_value = (w.number_is, w.rows_is); rows_in_bounds = (w.inside, w.few) }

pub is_ordered-requires : goal.is_ordered-requires
is_ordered-requires c = long c

pub overflow_sub-end : goal.overflow_sub-end
overflow_sub-end c = long (goal.at.overflow_sub-end c).Else-not-is_shaped

pub u32_at-requires-2 : goal.u32_at-requires-2
u32_at-requires-2 c = omega (arith, long (goal.at.u32_at-requires-2 c).Else-not-is_shaped)

pub u32_at-requires : goal.u32_at-requires
u32_at-requires c = omega (arith, long (goal.at.u32_at-requires c).Else-not-is_shaped)
