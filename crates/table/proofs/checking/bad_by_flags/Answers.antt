-- `table::checking::bad_by_flags` meets its contract.
use Rattle.std.proofs.Common.{◌≡◌, ◌+◌, not, ◌&&◌, ◌||◌, sym, ap, ◌∙◌, subst}
use Rattle.schema.specs.File.{table_of}
use Rattle.schema.specs.Check.{find_among, is_missing, good_method}
use Rattle.table.specs.declared.rows.Names.{Names}
use Rattle.table.specs.Flags.{flag_of}
use Rattle.table.proofs.Checks.{methods-whole}
use Rattle.table.proofs.Lowest.{passed_next, bad_here, bad_nowhere}
use Rattle.table.proofs.Flags.{MethodsFlagged, flagged-next, many-judged}
use Rattle.table.proofs.checking.bad_by_flags.Goals.{After-is_new, After-flag_of}
use Rattle.table.proofs.checking.bad_by_flags.Goals as goal

-- the flag of the method's identifiers
flagged : (c : After-flag_of) →
    let m = c.method-m.result in
    c.flag_of.result ≡ flag_of c.args.mixing m.«package» m.service m.method
flagged c = c.flag_of.ensures.0 ∙ ap (λ (n : Names). flag_of c.args.mixing n.«package» n.service n.method) c.of-names.ensures

-- the test that the code makes is the definition's
judged : (c : After-is_new) →
    let T = table_of c.args.file.now.bytes.now in
    (c.is_formed-formed.result && c.is_new.result) ≡ good_method T c.loop-i.i
judged c =
    let T = table_of c.args.file.now.bytes.now in
    let m = c.method-m in
    let i = c.loop-i.i in
    let was = c.in_ok-taken.ensures.answer.0 in
    let n = c.of-names.ensures in
    let new = c.is_new.ensures ∙ (λ k. not (was k) || is_missing (find_among T i (n k).«package» (n k).service (n k).method)) in
    (λ k. c.is_formed-formed.ensures k && new k)
    ∙ many-judged T _ c.loop-i.marks.taken i c.loop-i.invariant.1 m.result m.ensures c.flag_of.result (flagged (goal.at.After-is_new c).After-flag_of)

pub returns-then-not-formed-is_new : goal.returns-then-not-formed-is_new
returns-then-not-formed-is_new c =
    let T = table_of c.args.file.now.bytes.now in
    let bad = sym (judged (goal.at.returns-then-not-formed-is_new c).After-is_new) ∙ c.if-not-formed-is_new.true in
    bad_here (good_method T) _ c.loop-i.i c.loop-i.invariant.0 c.loop-i-test.true bad ∙ methods-whole _ _ c.args.file.now.laid

pub loop-i-preserved : goal.loop-i-preserved
loop-i-preserved c =
    let T = table_of c.args.file.now.bytes.now in
    let m = c.method-m in
    let i = c.loop-i.i in
    let good = sym (judged (goal.at.loop-i-preserved c).After-is_new) ∙ c.if-not-formed-is_new.false in
    let flags = flagged-next T _ c.loop-i.marks.taken i c.loop-i.invariant.1 m.result m.ensures c.flag_of.result (flagged (goal.at.loop-i-preserved c).After-flag_of) in (
      passed_next (good_method T) c.args.file.now.layout.methods i c.loop-i.invariant.0 good,
      subst (λ t. MethodsFlagged T c.args.mixing t (i + 1)) (sym c.in_ok-taken.ensures.answer.1) flags,
      c.take.ensures.mixing ∙ c.loop-i.invariant.2,
    )

pub returns : goal.returns
returns c =
    bad_nowhere (good_method (table_of c.args.file.now.bytes.now)) _ c.loop-i.i c.loop-i.invariant.0 c.loop-i-test.false ∙ methods-whole _ _ c.args.file.now.laid
