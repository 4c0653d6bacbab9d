use Rattle.text.proofs.Page.+put_decimal.Given as goal

-- Each call has a digit less to put.
abbrev pub decreases-put_decimal : goal.decreases-put_decimal
decreases-put_decimal l = l.n
