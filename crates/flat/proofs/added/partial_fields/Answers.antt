-- `flat::added::partial_fields` meets its contract.
use mathlib.Core.Path.{ap}
use Prim.Native.Nat.{◌+◌, ◌≤◌}
use native.Mathlib.Omega.{arith}
use Rattle.std.proofs.lemmas.Result.{err_from_is_err_and}
use Rattle.walks.specs.Shape.{shape_in}
use Rattle.walks.proofs.Tables.{few-fields}
use Rattle.flat.specs.Flat.{HeldFields}
use Rattle.flat.specs.Told.{told_walk}
use Rattle.flat.proofs.Partials.{part-asked, first-ready, part-stop, rest-ready, rest-stop, rest_in, rest-past}
use Rattle.flat.proofs.added.partial_fields.Goals.{After-leaf_fields, In_ok-rest}
use Rattle.flat.proofs.added.partial_fields.Goals as goal

-- What is told of the first fields.
first : (c : After-leaf_fields) →
    let args = c.args in
    HeldFields args.source.now.schema.bytes.now args.source.now.payload.now args.depth args.f.ty args.f.row.a args.m args.place
    c.low_bits.result args.head.start args.row args.sheet.now (told_walk c.leaf_fields.result) c.leaf_fields.new.sheet
first c = rw c.part_of.ensures at c.leaf_fields.ensures

-- After the other fields.
ended : (c : In_ok-rest) →
    let args = c.args in
    let rest = c.in_ok-rest.rest in
    (args.place ≤ rest.next) × (rest.next ≤ 16384) × (args.row ≤ 16384) × (c.in_ok-first_part.first_part.due + rest.due ≤ 262144)
ended c =
    let pre = c.requires in
    let S = shape_in c.args.source.now.schema.bytes.now in
    rest_in (part-asked pre.fields.0 pre.shape.0) c.low_bits.ensures S
    (first (goal.at.In_ok-rest c).After-leaf_fields S) (ap told_walk c.in_ok-first_part.was) (c.added_fields.ensures.2 S) (ap told_walk c.in_ok-rest.was)

pub part_of-requires : goal.part_of-requires
part_of-requires c = let pre = c.requires in omega (arith, pre.fields.0.in_table, pre.fields.0.few, few-fields _ pre.fields.0.ready.good, pre.shape.0)

pub leaf_fields-requires : goal.leaf_fields-requires
leaf_fields-requires c = let pre = c.requires in rw c.part_of.ensures (first-ready pre.fields.0 pre.shape.0 c.low_bits.ensures, pre.fields.1)

pub added_fields-requires : goal.added_fields-requires
added_fields-requires c =
    let pre = c.requires in
    let told = first (goal.at.added_fields-requires c).After-leaf_fields in
    record {
      fields = rest-ready pre.fields.0 pre.shape.0 c.low_bits.ensures told (ap told_walk c.in_ok-first_part.was);
      bounds = (pre.fields.1, pre.shape.0, pre.fields.0.few);
    }

pub overflow_sub-rest : goal.overflow_sub-rest
overflow_sub-rest c = (ended (goal.at.overflow_sub-rest c).In_ok-rest).0

pub put_row-requires : goal.put_row-requires
put_row-requires c = omega (arith, ended (goal.at.put_row-requires c).In_ok-rest, c.ones_in.ensures.1)

pub overflow_add-result : goal.overflow_add-result
overflow_add-result c = omega (arith, (ended (goal.at.overflow_add-result c).In_ok-rest).3)

pub returns-in_err-first_part : goal.returns-in_err-first_part
returns-in_err-first_part c =
    let pre = c.requires in
    let told = first (goal.at.returns-in_err-first_part c).After-leaf_fields in
    let (_, is, same) = err_from_is_err_and c.from_residual.result c.from_residual.ensures.1 in
    rw (is, same) (λ R shown. part-stop (part-asked pre.fields.0 pre.shape.0) c.low_bits.ensures R (told R) (ap told_walk c.in_err-first_part.was))

pub returns-in_err-rest : goal.returns-in_err-rest
returns-in_err-rest c =
    let pre = c.requires in
    let told = first (goal.at.returns-in_err-rest c).After-leaf_fields in
    let (_, is, same) = err_from_is_err_and c.from_residual-in_err-rest.result c.from_residual-in_err-rest.ensures.1 in
    rw (is, same)
    (λ R shown.
    rest-stop (part-asked pre.fields.0 pre.shape.0) c.low_bits.ensures R
    (told R) (ap told_walk c.in_ok-first_part.was) (c.added_fields.ensures.2 R) (ap told_walk c.in_err-rest.was))

pub returns : goal.returns
returns c =
    let pre = c.requires in
    let told = first (goal.at.returns c).After-leaf_fields in
    λ R shown.
    rest-past (part-asked pre.fields.0 pre.shape.0) c.low_bits.ensures R
    (told R) (ap told_walk c.in_ok-first_part.was) (c.added_fields.ensures.2 R) (ap told_walk c.in_ok-rest.was) shown pre.shape.1
    c.ones_in.ensures.0 c.put_row.ensures
