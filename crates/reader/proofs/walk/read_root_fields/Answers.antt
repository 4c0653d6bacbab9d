-- `reader::walk::read_root_fields` meets its contract.
use native.Mathlib.Omega.{arith}
use Rattle.reader.proofs.Structs.{type-few, all_shown}
use Rattle.reader.proofs.walk.read_root_fields.Goals as goal

pub shown_of-requires : goal.shown_of-requires
shown_of-requires c = let asked = c.requires in type-few asked.0 asked.1

pub returns : goal.returns
returns c =
    let asked = c.requires in
    all_shown asked.0 c.args.view.now.shown.now asked.1 (omega (arith, c.shown_of.ensures, c.if-shown_of-f.false)) c.read_fields.ensures
