-- `judge::judge_invoke` meets its contract. A method's number fits, since a good table has few.
use mathlib.Core.Path.{sym, ◌∙◌}
use native.Mathlib.Omega.{arith}
use Rattle.schema.specs.File.{table_of}
use Rattle.schema.proofs.Goods.{good-table}
use Rattle.schema.proofs.Methods.{found-named}
use Rattle.connection.proofs.judge.judge_invoke.Goals as goal

pub overflow_cast-m : goal.overflow_cast-m
overflow_cast-m c =
    let s = c.args.schema.now in
    let f = c.args.f in
    let named = sym c.find_method.ensures ∙ c.in-Some.is in
    omega (arith, (good-table s.bytes.now s.good).few_methods, (found-named (table_of s.bytes.now) f.«package» f.service f.method c.in-Some.m named).0)
