-- `walks::siphash::last_word` meets its contract.
use Rattle.std.proofs.Common.{◌%◌}
use Rattle.buffer.specs.Span.{span}
use Rattle.walks.proofs.Digests.{last_made}
use Rattle.walks.proofs.siphash.last_word.Goals as goal

pub returns : goal.returns
returns c = let args = c.args in last_made (span args.s.now args.place (args.n % 8)) args.n _ c.number.ensures
