-- `writer::leaf::struct_bits` meets its contract.
use native.Mathlib.Omega.{arith}
use Rattle.writer.proofs.Heads.{head-outside, head-incomplete, head-unknown, head-miscounted, head-bits}
use Rattle.writer.proofs.leaf.struct_bits.Goals as goal

pub returns-then-source-place : goal.returns-then-source-place
returns-then-source-place c = rw c.at.ensures (head-outside _ _ _ _ _ c.if-source-place.true)

pub returns-then-required-b : goal.returns-then-required-b
returns-then-required-b c = rw c.at-then-required-b.ensures (head-incomplete _ _ _ _ c.if-source-place.false c.read-b.ensures _ c.if-required-b.true)

pub returns-then-inner-b : goal.returns-then-inner-b
returns-then-inner-b c =
    let bytes = c.type_inv.source in
    rw c.at-then-inner-b.ensures (head-unknown _ _ _ _ c.if-source-place.false c.read-b.ensures (λ i. omega (arith, bytes i)) c.if-required-b.false _ c.if-inner-b.true)

pub returns-then-count-b : goal.returns-then-count-b
returns-then-count-b c =
    let bytes = c.type_inv.source in
    rw c.at-then-count-b.ensures (head-miscounted _ _ _ _ c.if-source-place.false c.read-b.ensures (λ i. omega (arith, bytes i)) c.if-required-b.false _ c.if-inner-b.false c.if-count-b.true)

pub returns : goal.returns
returns c =
    let bytes = c.type_inv.source in
    head-bits _ _ _ _ c.if-source-place.false c.read-b.ensures (λ i. omega (arith, bytes i)) c.if-required-b.false _ c.if-inner-b.false c.if-count-b.false
