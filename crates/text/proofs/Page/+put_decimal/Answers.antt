-- `text::Page::put_decimal` puts at most twenty digits: those of n / 10, and one more.
use Rattle.std.proofs.Common.{ap, length, length-append, arith}
use Rattle.text.proofs.Texts.{added_len}
use Rattle.text.proofs.Decimals.{twenty, decimal_more}
use Rattle.text.proofs.Page.+put_decimal.Goals as goal

pub returns-clause-upper_bound : goal.returns-clause-upper_bound
returns-clause-upper_bound t c =
    let n = c.args.n in
    omega (arith, twenty n (omega arith), simp length-append at (ap length (decimal_more n (omega arith))), added_len c.args.self.now c.put_decimal.new.self _ c.put_decimal.ensures.added)
