-- `forward::unknown_at` meets its contract.
use native.Mathlib.Omega.{arith}
use Rattle.forward.proofs.Entries.{unknown-is}
use Rattle.forward.proofs.unknown_at.Goals as goal

pub returns : goal.returns
returns c =
    let args = c.args in
    unknown-is args.source.now args.place args.n c.requires.1 (λ i. omega (arith, c.type_inv.source i)) _ _ _ _ c.read.ensures
