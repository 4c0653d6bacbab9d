-- `flat::elements::flat_struct` meets its contract.
use mathlib.Core.Path.{◌≡◌, ap}
use Rattle.flat.specs.Told.{told_inner}
use Rattle.flat.specs.InnerHead.{Bits}
use Rattle.std.proofs.lemmas.Result.{IfErr-at_err, err_from_is_err_and}
use Rattle.flat.proofs.Flats.{inner-asked, inner-refused, inner-ready, inner-held}
use Rattle.flat.proofs.elements.flat_struct.Goals.{In_ok-head}
use Rattle.flat.proofs.elements.flat_struct.Goals as goal

-- What the bitmap says.
headed : (c : In_ok-head) → told_inner c.inner_presence.result ≡ Bits c.in_ok-head.head.known c.in_ok-head.head.start
headed c = ap told_inner c.in_ok-head.was

pub inner_presence-requires : goal.inner_presence-requires
inner_presence-requires c = let pre = c.requires in inner-asked pre.0 pre.1 pre.2 pre.3

pub flat_fields-requires : goal.flat_fields-requires
flat_fields-requires c =
    let pre = c.requires in
    (inner-ready pre.0 pre.1 pre.2 pre.3 c.inner_presence.ensures.told (headed (goal.at.flat_fields-requires c).In_ok-head), pre.1.laid)

pub returns-in_err-head : goal.returns-in_err-head
returns-in_err-head c =
    let place = IfErr-at_err (λ e. e.place ≡ c.args.at) c.in_err-head.was c.inner_presence.ensures.place in
    let (_, is, same) = err_from_is_err_and c.from_residual.result c.from_residual.ensures.1 in
    rw (is, same, place)
    (λ R shown. let pre = c.requires in inner-refused pre.0 pre.1 pre.2 pre.3 c.inner_presence.ensures.told (ap told_inner c.in_err-head.was) R)

pub returns : goal.returns
returns c =
    let pre = c.requires in
    inner-held pre.0 pre.1 pre.2 pre.3 c.inner_presence.ensures.told (headed (goal.at.returns c).In_ok-head) _ c.flat_fields.ensures
