-- `writer::walk::write_key` meets its contract.
use Rattle.std.proofs.Common.{sym, ◌∙◌}
use Rattle.writer.proofs.Steps.{handed}
use Rattle.writer.proofs.Composites.{leaf_in}
use Rattle.writer.proofs.Keys.{key-failed, key_twice, key-done, key-says, key-once}
use Rattle.writer.proofs.walk.write_key.Goals as goal

pub leaf_row-requires : goal.leaf_row-requires
leaf_row-requires c = key-says _ _ _ _ _ _ _ _ _ _ c.requires

pub returns-in_err-placed : goal.returns-in_err-placed
returns-in_err-placed c = key-failed _ _ _ _ _ _ _ _ _ _ c.leaf_row.ensures c.in_err-placed.was (handed c.from_residual.ensures.1)

pub is_repeated-requires-clause-i_in_bounds : goal.is_repeated-requires-clause-i_in_bounds
is_repeated-requires-clause-i_in_bounds c =
    let own = leaf_in c.leaf_row.ensures c.in_ok-placed.was in
    (c.requires.keys-fit, own.4, own.5, own.3, c.requires.kept)

pub is_repeated-requires-clause-i_value : goal.is_repeated-requires-clause-i_value
is_repeated-requires-clause-i_value c = λ j. key-once _ _ _ _ _ _ _ _ _ _ c.requires j c.leaf_row.ensures c.in_ok-placed.was

pub returns-then-is_repeated : goal.returns-then-is_repeated
returns-then-is_repeated c =
    let told = sym c.is_repeated.ensures.0 ∙ c.if-is_repeated.true in
    key_twice _ _ _ _ _ _ _ _ _ _ c.leaf_row.ensures c.in_ok-placed.was told c.at.ensures

pub returns : goal.returns
returns c =
    let told = c.is_repeated.ensures in
    let new = sym told.0 ∙ c.if-is_repeated.false in
    key-done _ _ _ _ _ _ _ _ _ _ c.leaf_row.ensures c.in_ok-placed.was c.requires.small new c.put_content-next.ensures told.1 told.2
