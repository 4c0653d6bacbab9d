-- `flat::elements::inner_presence` meets its contract.
use mathlib.Core.Path.{refl, sym, ◌∙◌}
use Prim.Native.Nat.{◌+◌, ◌/◌}
use native.Mathlib.Omega.{arith}
use native.Mathlib.Nat.{mod-lt}
use borrow.Author.Tests.{eq-eqb, ne_eqb}
use lib.Pow.{pow_pos}
use Rattle.walks.specs.Shape.{fields_from}
use Rattle.walks.proofs.Presence.{length_fields}
use Rattle.flat.specs.InnerHead.{Bits, Refused}
use Rattle.flat.specs.Flat.{InnerHeaded}
use Rattle.flat.proofs.Heads.{head-cut, head-incomplete, head-bits}
use Rattle.flat.proofs.Flats.{bits-fault, bits-unknown, bits-known}
use Rattle.flat.proofs.elements.inner_presence.Goals as goal

pub returns-then-p-at : goal.returns-then-p-at
returns-then-p-at c =
    let args = c.args in
    let answer : InnerHeaded args.p.now args.required args.n args.at (Refused 20) = record {
      same = λ T first room req. bits-fault (fields_from T first args.n) args.p.now args.at 20 (head-cut args.p.now T first args.n args.at room c.if-p-at.true).same;
      within = tt;
    } in
    rw c.at.ensures (record { told = answer; place = refl })

pub returns-then-required-b : goal.returns-then-required-b
returns-then-required-b c =
    let args = c.args in
    let b = c.read-b in
    let answer : InnerHeaded args.p.now args.required args.n args.at (Refused 25) = record {
      same = λ T first room req.
          bits-fault (fields_from T first args.n) args.p.now args.at 25
          (head-incomplete args.p.now T first args.n args.at room _ _ _ _ (omega arith) b.ensures (sym (req b.result.bits) ∙ ne_eqb _ _ c.if-required-b.true)).same;
      within = tt;
    } in
    rw c.at-then-required-b.ensures (record { told = answer; place = refl })

pub returns-then-b : goal.returns-then-b
returns-then-b c =
    let pre = c.requires in
    let args = c.args in
    let b = c.read-b in
    let bytes = c.type_inv.p in
    let answer : InnerHeaded args.p.now args.required args.n args.at (Refused 26) = record {
      same = λ T first room req.
          bits-unknown (fields_from T first args.n) args.p.now args.at args.n b.result.bits b.result.known (args.at + (args.n + 7) / 8) (length_fields T first args.n room) b.ensures.known_is
          (head-bits args.p.now T first args.n args.at room _ _ _ _ (omega arith) b.ensures (sym (req b.result.bits) ∙ eq-eqb _ _ c.if-required-b.false) pre.0 pre.1
          (λ i. omega (arith, bytes i))).same
          c.if-b.true;
      within = tt;
    } in
    rw c.at-then-b.ensures (record { told = answer; place = refl })

pub returns : goal.returns
returns c =
    let pre = c.requires in
    let args = c.args in
    let b = c.read-b in
    let bytes = c.type_inv.p in
    let low = b.ensures.known_is in
    let answer : InnerHeaded args.p.now args.required args.n args.at (Bits b.result.known (args.at + (args.n + 7) / 8)) = record {
      same = λ T first room req.
          bits-known (fields_from T first args.n) args.p.now args.at args.n b.result.bits b.result.known (args.at + (args.n + 7) / 8) (length_fields T first args.n room) low
          (head-bits args.p.now T first args.n args.at room _ _ _ _ (omega arith) b.ensures (sym (req b.result.bits) ∙ eq-eqb _ _ c.if-required-b.false) pre.0 pre.1
          (λ i. omega (arith, bytes i))).same
          c.if-b.false;
      within = (rw low (mod-lt b.result.bits (pow_pos args.n)), omega arith, omega arith);
    } in
    record { told = answer; place = tt }
