-- `writer::walk::root` meets its contract.
use mathlib.Core.Bool.{false}
use native.Mathlib.Omega.{arith}
use Rattle.schema.specs.File.{table_of}
use Rattle.walks.specs.Shape.{fields_from, shape_in}
use Rattle.walks.proofs.Presence.{length_fields}
use Rattle.writer.proofs.Steps.{handed, renamed, shown-refused, onward}
use Rattle.writer.proofs.Heads.{HeadRow, head-row}
use Rattle.writer.proofs.Roots.{root-absent, root-fault, root-accepted, root-start}
use Rattle.writer.proofs.walk.root.Goals.{After-struct_bits}
use Rattle.writer.proofs.walk.root.Goals as goal

-- the root's row and its bits, once both were read
root-head : (c : After-struct_bits)
    → let args = c.args in
    HeadRow false (shape_in args.rows.now.schema.bytes.now) args.rows.now.source.now args.rows.now.sheet.now 0 args.ty args.n (fields_from (table_of args.rows.now.schema.bytes.now) args.first args.n) c.struct_bits.result
root-head c =
    let asked = c.requires in
    head-row c.row_due.ensures c.in_ok-says.was c.struct_bits.ensures asked.ready.1 (length_fields _ _ _ asked.n_nonzero.2) c.required_of-required.ensures

pub returns-in_err-says : goal.returns-in_err-says
returns-in_err-says c = shown-refused _ _ _ _ (handed c.from_residual.ensures.1) (root-absent _ _ _ c.row_due.ensures c.in_err-says.was)

pub required_of-required-requires : goal.required_of-required-requires
required_of-required-requires c =
    let asked = c.requires in
    (c.args.rows.now.schema.good, c.layout.ensures, asked.n_nonzero.1, asked.n_nonzero.2)

pub returns-in_err-known : goal.returns-in_err-known
returns-in_err-known c = shown-refused _ _ _ _ (handed c.from_residual-in_err-known.ensures.1) (root-fault (root-head (goal.at.returns-in_err-known c).After-struct_bits) c.in_err-known.was)

pub root_fields-requires-clause-ready : goal.root_fields-requires-clause-ready
root_fields-requires-clause-ready c =
    let at-struct-bits = (goal.at.root_fields-requires-clause-ready c).After-struct_bits in
    let asked = at-struct-bits.requires in
    let put-bits = c.put_bits-next in
    let head = root-head at-struct-bits in
    onward asked.ready.0 (omega (arith, head.inside)) put-bits.ensures.capped put-bits.auto.out (root-accepted head c.in_ok-known.was)

pub returns : goal.returns
returns c =
    let at-struct-bits = (goal.at.returns c).After-struct_bits in
    let asked = at-struct-bits.requires in
    let start = root-start (root-head at-struct-bits) c.in_ok-known.was _ _ _ asked.ready.0.small c.put_bits-next.ensures in
    renamed start c.root_fields.ensures
