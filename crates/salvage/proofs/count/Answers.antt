-- `salvage::count` meets its contract: what was counted and what is left are all.
use native.Mathlib.Omega.{arith}
use mathlib.Core.Bool.{true, false}
use mathlib.Core.Path.{refl}
use Rattle.salvage.proofs.Turns.{PieceAt, piece-bounds, counted_none, counted-kept, counted-skipped, counted-all}
use Rattle.salvage.proofs.count.Goals.{In-Entry, In-Span}
use Rattle.salvage.proofs.count.Goals as goal

-- the piece that was found
kept : (c : In-Entry) → PieceAt c.args.torn.now c.loop-at.at true c.in-Entry.n
kept c = record { inside = c.loop-at-test.true; kept-is = c.in-Entry.ensures.0; size_is = c.in-Entry.ensures.1 }

skipped : (c : In-Span) → PieceAt c.args.torn.now c.loop-at.at false c.in-Span.n
skipped c = record { inside = c.loop-at-test.true; kept-is = c.in-Span.ensures.0; size_is = c.in-Span.ensures.1 }

pub loop-at-init : goal.loop-at-init
loop-at-init c = (omega arith, counted_none _)

pub overflow_add-m-in-Entry : goal.overflow_add-m-in-Entry
overflow_add-m-in-Entry c = omega (arith, c.loop-at.invariant.1.bytes-few, piece-bounds _ _ (kept (goal.at.overflow_add-m-in-Entry c).In-Entry))

pub overflow_add-at : goal.overflow_add-at
overflow_add-at c = omega (arith, piece-bounds _ _ (kept (goal.at.overflow_add-at c).In-Entry))

pub loop-at-smaller-in-Entry : goal.loop-at-smaller-in-Entry
loop-at-smaller-in-Entry c = omega (arith, piece-bounds _ _ (kept (goal.at.loop-at-smaller-in-Entry c).In-Entry))

pub loop-at-preserved-in-Entry : goal.loop-at-preserved-in-Entry
loop-at-preserved-in-Entry c = ((piece-bounds _ _ (kept (goal.at.loop-at-preserved-in-Entry c).In-Entry)).1, counted-kept c.args.torn.now c.loop-at.invariant.1 (kept (goal.at.loop-at-preserved-in-Entry c).In-Entry) refl)

pub overflow_add-at-in-Span : goal.overflow_add-at-in-Span
overflow_add-at-in-Span c = omega (arith, piece-bounds _ _ (skipped (goal.at.overflow_add-at-in-Span c).In-Span))

pub loop-at-smaller : goal.loop-at-smaller
loop-at-smaller c = omega (arith, piece-bounds _ _ (skipped (goal.at.loop-at-smaller c).In-Span))

pub loop-at-preserved : goal.loop-at-preserved
loop-at-preserved c = ((piece-bounds _ _ (skipped (goal.at.loop-at-preserved c).In-Span)).1, counted-skipped c.args.torn.now c.loop-at.invariant.1 (skipped (goal.at.loop-at-preserved c).In-Span) refl)

pub returns : goal.returns
returns c = counted-all c.args.torn.now c.loop-at.invariant.1 c.loop-at-test.false
