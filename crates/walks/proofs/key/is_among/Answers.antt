-- `walks::key::is_among` meets its contract. The invariant: the keys not yet looked at decide.
use Rattle.std.proofs.Common.{◌≡◌, ℕ, Bool, false, sym, ◌∙◌, subst, arith}
use Rattle.walks.specs.Keys.{has_digest, Kept}
use Rattle.walks.proofs.Keys.{unheld, kept-found, kept-other, kept-none}
use Rattle.walks.proofs.key.is_among.Goals as goal

pub returns-then-not-has_digest : goal.returns-then-not-has_digest
returns-then-not-has_digest c =
    let args = c.args in
    let asked = c.requires in
    let judged = c.if-not-judging.false in
    let all = subst (λ (b : Bool). Kept args.s.now args.keys.now b args.held) judged asked.held_in_bounds.2 in
    unheld args.s.now args.keys.now _ args.held all
    (subst (λ (k : ℕ). has_digest args.keys.now args.held k ≡ false) (asked.d_value.0 judged) (sym c.has_digest.ensures ∙ c.if-not-has_digest.true))

pub returns-then-is_key : goal.returns-then-is_key
returns-then-is_key c =
    let args = c.args in
    let loop = c.loop-j in
    kept-found args.s.now args.keys.now _ loop.j _ c.is_key.ensures c.loop-j-test.true c.if-is_key.true ∙ loop.invariant.0

pub loop-j-preserved : goal.loop-j-preserved
loop-j-preserved c =
    let args = c.args in
    let loop = c.loop-j in
    (kept-other args.s.now args.keys.now _ loop.j _ c.is_key.ensures c.loop-j-test.true c.if-is_key.false ∙ loop.invariant.0, omega arith)

pub returns : goal.returns
returns c =
    let args = c.args in
    kept-none args.s.now args.keys.now _ c.loop-j.j c.loop-j-test.false ∙ c.loop-j.invariant.0
