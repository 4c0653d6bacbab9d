-- `writer::walk::write_leaf` meets its contract.
use mathlib.Core.Path.{◌≡◌}
use native.Mathlib.Omega.{arith}
use Rattle.schema.specs.Table.{shape}
use Rattle.schema.specs.File.{table_of}
use Rattle.walks.proofs.Tables.{shape-kind}
use Rattle.writer.proofs.Steps.{handed, shown-refused, leaf-accepted}
use Rattle.writer.proofs.Composites.{leaf-failed, leaf-past}
use Rattle.writer.proofs.walk.write_leaf.Goals as goal

pub leaf_row-requires : goal.leaf_row-requires
leaf_row-requires c =
    let asked = c.requires in
    let args = c.args in
    let T = table_of args.rows.now.schema.bytes.now in
    let S = shape T in
    let some : args.depth ≡ 0 → ⊥ = λ q. omega (arith, q, asked.kind_nonzero.3) in
    let kind = shape-kind T args.ty args.kind asked.kind_nonzero.1 asked.kind_nonzero.0 asked.kind_nonzero.2 in
    λ j. leaf-accepted S _ some _ _ kind (asked.ready.judged j)

pub returns-in_err-placed : goal.returns-in_err-placed
returns-in_err-placed c =
    let args = c.args in
    let asked = c.requires in
    let T = table_of args.rows.now.schema.bytes.now in
    let S = shape T in
    let kind = shape-kind T args.ty args.kind asked.kind_nonzero.1 asked.kind_nonzero.0 asked.kind_nonzero.2 in
    let some : args.depth ≡ 0 → ⊥ = λ q. omega (arith, q, asked.kind_nonzero.3) in
    shown-refused _ _ _ _ (handed c.from_residual.ensures.1) (leaf-failed c.leaf_row.ensures S kind some c.in_err-placed.was)

pub returns : goal.returns
returns c =
    let args = c.args in
    let asked = c.requires in
    let leaf-row = c.leaf_row in
    let T = table_of args.rows.now.schema.bytes.now in
    let S = shape T in
    let kind = shape-kind T args.ty args.kind asked.kind_nonzero.1 asked.kind_nonzero.0 asked.kind_nonzero.2 in
    let some : args.depth ≡ 0 → ⊥ = λ q. omega (arith, q, asked.kind_nonzero.3) in
    leaf-past leaf-row.ensures S kind some c.in_ok-placed.was c.put_content-next.ensures
