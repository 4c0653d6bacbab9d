-- `frame::write_frame` meets its contract: the tests pick the answer, and the front and the payload are the output.
use mathlib.Core.Path.{◌≡◌, refl, sym, ◌∙◌}
use mathlib.Core.Bool.{true}
use Prim.Native.Nat.{◌≤◌, ◌+◌}
use native.Mathlib.Omega.{arith}
use lib.ListN.{length}
use Rattle.wire.specs.Varuint.{varuint_bytes}
use Rattle.frame.specs.Frame.{known_kind}
use Rattle.frame.specs.Written.{output_of}
use Rattle.frame.proofs.Tests.{known-bounds}
use Rattle.frame.proofs.Writes.{kind-unknown, too_long, too_small, fitting, frame-wrote}
use Rattle.frame.proofs.write_frame.Goals.{After-payload_place-place, Else-not-known_kind}
use Rattle.frame.proofs.write_frame.Goals as goal

known : (c : Else-not-known_kind) → known_kind c.args.header.kind ≡ true
known c = sym c.known_kind.ensures ∙ c.if-not-known_kind.false

-- the place of the payload
placed : (c : After-payload_place-place) → c.payload_place-place.result ≡ 25 + length (varuint_bytes (length c.args.payload.now))
placed c = c.payload_place-place.ensures.0

pub returns-then-not-known_kind : goal.returns-then-not-known_kind
unfolding output_of
returns-then-not-known_kind c = (sym (kind-unknown _ _ _ (sym c.known_kind.ensures ∙ c.if-not-known_kind.true)), refl)

pub returns-then-n-gt-PAYLOAD : goal.returns-then-n-gt-PAYLOAD
unfolding output_of
returns-then-n-gt-PAYLOAD c = (sym (too_long _ _ _ (known (goal.at.returns-then-n-gt-PAYLOAD c).Else-not-known_kind) c.if-n-gt-PAYLOAD.true), refl)

pub returns-then-out-place : goal.returns-then-out-place
unfolding output_of
returns-then-out-place c = (sym (too_small _ _ _ (known (goal.at.returns-then-out-place c).Else-not-known_kind) c.if-n-gt-PAYLOAD.false (rw (← placed (goal.at.returns-then-out-place c).After-payload_place-place) c.if-out-place.true)), refl)

pub returns : goal.returns
returns c =
    let s = (goal.at.returns c).After-payload_place-place in
    let a = s.args in
    let room : 25 + length (varuint_bytes (length a.payload.now)) + length a.payload.now ≤ length a.out.now = omega (arith, placed s, c.if-out-place.false) in
    rw (placed s) (
      sym (fitting a.header a.payload.now (length a.out.now) (known (goal.at.returns c).Else-not-known_kind) s.if-n-gt-PAYLOAD.false room),
      frame-wrote a.out.now a.header a.payload.now room c.write_front.ensures (rw (placed s) at c.copy.ensures),
    )

pub overflow_add-place : goal.overflow_add-place
overflow_add-place c = omega (arith, c.payload_place-place.ensures.1)

pub write_front-requires : goal.write_front-requires
write_front-requires c = let s = (goal.at.write_front-requires c).After-payload_place-place in (omega (arith, placed s), (known-bounds _ (known (goal.at.write_front-requires c).Else-not-known_kind)).1)
