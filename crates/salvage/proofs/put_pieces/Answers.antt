-- `salvage::put_pieces` meets its contract: what is left of the pieces gives the same end as all of them.
use mathlib.Core.Path.{◌≡◌, refl, ap, ◌∙◌}
use mathlib.Core.Bool.{true, false}
use mathlib.Core.List.{List}
use Prim.Native.Nat.{ℕ, ◌+◌, ◌-◌, ◌*◌, ◌≤◌}
use native.Mathlib.Omega.{arith}
use lib.ListN.{length, take, drop}
use Rattle.buffer.specs.Store.{written}
use Rattle.salvage.proofs.Turns.{PieceAt, piece-bounds, part_length, put-none, entry-room, put-kept, span-room, put-skipped, put_copy, put-spans, counted_none, counted-kept, counted-skipped, counted-all}
use Rattle.salvage.proofs.put_pieces.Goals.{In-Entry, In-Span}
use Rattle.salvage.proofs.put_pieces.Goals as goal

-- the piece that was found
kept : (c : In-Entry) → PieceAt c.args.torn.now c.loop-at.at true c.in-Entry.n
kept c = record { inside = c.loop-at-test.true; kept-is = c.in-Entry.ensures.0; size_is = c.in-Entry.ensures.1 }

skipped : (c : In-Span) → PieceAt c.args.torn.now c.loop-at.at false c.in-Span.n
skipped c = record { inside = c.loop-at-test.true; kept-is = c.in-Span.ensures.0; size_is = c.in-Span.ensures.1 }

-- the part that is lent is the piece
part : (torn : List ℕ) (at n : ℕ) → take (at + n - at) (drop at torn) ≡ take n (drop at torn)
part torn at n = let e : at + n - at ≡ n = omega arith in ap (λ (k : ℕ). take k (drop at torn)) e

-- the room for an entry, and for a span
entry-fits : (c : In-Entry) → c.loop-at.m.bytes + c.in-Entry.n ≤ length c.loop-at.copy
entry-fits c =
    let here = c.loop-at in
    entry-room c.args.torn.now _ _ here.copy here.spans here.m.bytes (2 * here.m.spans) here.at here.invariant.1 (kept c) refl

span_fits : (c : In-Span) → 2 * c.loop-at.m.spans + 2 ≤ length c.loop-at.spans
span_fits c =
    let here = c.loop-at in
    span-room c.args.torn.now _ _ here.copy here.spans here.m.bytes (2 * here.m.spans) here.at here.invariant.1 (skipped c) refl

pub loop-at-init : goal.loop-at-init
loop-at-init c = let p = c.requires in (omega arith, put-none _ _ _ p.1 p.2, counted_none _)

pub overflow_add-at : goal.overflow_add-at
overflow_add-at c = omega (arith, piece-bounds _ _ (kept (goal.at.overflow_add-at c).In-Entry))

pub slice_bounds-copy-end : goal.slice_bounds-copy-end
slice_bounds-copy-end c = omega (arith, piece-bounds _ _ (kept (goal.at.slice_bounds-copy-end c).In-Entry))

pub copy-requires : goal.copy-requires
copy-requires c =
    let turn = (goal.at.copy-requires c).In-Entry in
    let torn = turn.args.torn.now in
    omega (arith, entry-fits turn, ap length (part torn turn.loop-at.at turn.in-Entry.n), part_length torn turn.loop-at.at (kept turn))

pub loop-at-smaller-in-Entry : goal.loop-at-smaller-in-Entry
loop-at-smaller-in-Entry c = omega (arith, piece-bounds _ _ (kept (goal.at.loop-at-smaller-in-Entry c).In-Entry))

pub loop-at-preserved-in-Entry : goal.loop-at-preserved-in-Entry
loop-at-preserved-in-Entry c =
    let turn = (goal.at.loop-at-preserved-in-Entry c).In-Entry in
    let here = turn.loop-at in
    let a = turn.args in
    let torn = a.torn.now in
    let lent = c.copy.ensures ∙ ap (written here.copy here.m.bytes) (part torn here.at turn.in-Entry.n) in
    let put = put-kept torn a.copy.now a.spans.now here.copy here.spans here.m.bytes (2 * here.m.spans) here.at here.invariant.1 (kept turn) refl in
    ((piece-bounds _ _ (kept turn)).1, put _ lent, counted-kept torn here.invariant.2 (kept turn) refl)

pub put_span-requires : goal.put_span-requires
put_span-requires c =
    let turn = (goal.at.put_span-requires c).In-Span in
    let here = turn.loop-at in
    (span_fits turn, omega (arith, here.invariant.0, c.requires.0), omega (arith, (piece-bounds _ _ (skipped turn)).1, c.requires.0))

pub overflow_add-at-in-Span : goal.overflow_add-at-in-Span
overflow_add-at-in-Span c = omega (arith, piece-bounds _ _ (skipped (goal.at.overflow_add-at-in-Span c).In-Span))

pub loop-at-smaller : goal.loop-at-smaller
loop-at-smaller c = omega (arith, piece-bounds _ _ (skipped (goal.at.loop-at-smaller c).In-Span))

pub loop-at-preserved : goal.loop-at-preserved
loop-at-preserved c =
    let turn = (goal.at.loop-at-preserved c).In-Span in
    let here = turn.loop-at in
    let a = turn.args in
    let torn = a.torn.now in
    let put = put-skipped torn a.copy.now a.spans.now here.copy here.spans here.m.bytes (2 * here.m.spans) here.at here.invariant.1 (skipped turn) refl in
    let row : 2 * (here.m.spans + 1) ≡ 2 * here.m.spans + 2 = omega arith in
    ((piece-bounds _ _ (skipped turn)).1, rw row (put _ c.put_span.ensures), counted-skipped torn here.invariant.2 (skipped turn) refl)

pub returns : goal.returns
returns c =
    let here = c.loop-at in
    let a = c in
    let put = here.invariant.1 in
    let s = a.args.torn.now in
    let k = a.args.copy.now in
    let l = a.args.spans.now in
    record {
      value = counted-all s here.invariant.2 c.loop-at-test.false;
      copy_after = put_copy s k l here.copy here.spans here.m.bytes (2 * here.m.spans) here.at put c.loop-at-test.false a.requires.1 a.requires.2;
      spans_after = put-spans s k l here.copy here.spans here.m.bytes (2 * here.m.spans) here.at put c.loop-at-test.false a.requires.1 a.requires.2;
    }
