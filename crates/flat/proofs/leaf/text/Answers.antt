-- `flat::leaf::text` meets its contract.
use mathlib.Core.Path.{◌≡◌, ap}
use mathlib.Core.Logic.{⊎_elim}
use borrow.Author.Tests.{eqb-true, eqb-false}
use lib.Dec.{eqb}
use Rattle.schema.proofs.Bools.{cases}
use Rattle.value.proofs.Spans.{text-valid, text-plain}
use Rattle.flat.specs.Told.{told_count}
use Rattle.flat.specs.Count.{Is}
use Rattle.std.proofs.lemmas.Result.{IfErr-at_err, err_from_is_err_and}
use Rattle.flat.proofs.Leaves.{text-refused, text_in, text-known, text_bad, text_at}
use Rattle.flat.proofs.leaf.text.Goals.{In_ok-count}
use Rattle.flat.proofs.leaf.text.Goals as goal

-- What the count is.
counted : (c : In_ok-count) → told_count c.read_count.result ≡ Is c.in_ok-count.count.n c.in_ok-count.count.start
counted c = ap told_count c.in_ok-count.was

pub returns-in_err-count : goal.returns-in_err-count
returns-in_err-count c =
    let place = IfErr-at_err (λ e. e.place ≡ c.args.at) c.in_err-count.was c.read_count.ensures.place in
    let (_, is, same) = err_from_is_err_and c.from_residual.result c.from_residual.ensures.1 in
    rw (is, same, place) (text-refused _ c.args.kind _ _ c.read_count.ensures.told _ (ap told_count c.in_err-count.was))

pub is_of_kind-requires : goal.is_of_kind-requires
is_of_kind-requires c =
    let kind = c.args.kind in
    let read = c.read_count.ensures.told in
    let is = counted (goal.at.is_of_kind-requires c).In_ok-count in
    ((text_in _ kind _ _ read _ _ is).1, λ j k. text-known _ kind _ _ read _ _ is k (c.requires.1 j))

pub returns-then-not-is_of_kind : goal.returns-then-not-is_of_kind
returns-then-not-is_of_kind c =
    let bad = c.is_of_kind.ensures.1 c.if-not-is_of_kind.true in
    rw c.at.ensures (text_bad _ c.args.kind _ _ c.read_count.ensures.told _ _ (counted (goal.at.returns-then-not-is_of_kind c).In_ok-count) bad.0 bad.1)

pub returns : goal.returns
returns c =
    let args = c.args in
    let kind = args.kind in
    let n = c.in_ok-count.count.n in
    let start = c.in_ok-count.count.start in
    let good = c.is_of_kind.ensures.0 c.if-not-is_of_kind.false in
    text_at _ kind _ _ c.read_count.ensures.told _ _ (counted (goal.at.returns c).In_ok-count)
    (⊎_elim (λ e. text-valid args.p.now kind start n (good (eqb-true kind 12 e))) (λ e. text-plain args.p.now kind start n (eqb-false kind 12 e)) (cases (eqb kind 12)))
