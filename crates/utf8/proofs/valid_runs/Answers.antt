-- `utf8::valid_runs` meets its contract: what the test says of all the bytes is what it says of those left.
use mathlib.Core.Path.{◌≡◌, refl, sym, ap, ◌∙◌}
use Prim.Native.Nat.{ℕ}
use native.Mathlib.Omega.{arith}
use lib.Seq.{slice, slice_empty}
use Rattle.utf8.specs.Utf8.{rows, run, utf8}
use Rattle.utf8.proofs.Asciis.{byte-pass}
use Rattle.utf8.proofs.valid_runs.Goals as goal

-- a run of ASCII
pub loop-i-preserved-then-within : goal.loop-i-preserved-then-within
unfolding rows
loop-i-preserved-then-within c =
    let t = c in
    let l = t.before in
    let a = l.args in (
      omega arith,
      c.skip-i.ensures.1
          ∙ byte-pass a.s.now l.loop-i.i a.to (omega arith) (omega arith) (sym t.within.ensures ∙ t.if-within.true) ∙ l.loop-i.invariant.1,
    )

pub returns-then-end-i : goal.returns-then-end-i
returns-then-end-i c = sym (c.skip_run-end.ensures.2 c.if-end-i.true) ∙ c.loop-i.invariant.1

pub loop-i-preserved : goal.loop-i-preserved
loop-i-preserved c =
    let l = c in
    let w = c.skip_run-end.ensures in
    (omega arith, w.1 ∙ l.loop-i.invariant.1)

pub returns : goal.returns
unfolding run
returns c =
    let a = c.args in
    let l = c.loop-i in
    let end : l.i ≡ a.to = omega arith in
    sym (ap (λ (k : ℕ). utf8 (slice k a.to a.s.now)) end ∙ ap utf8 (slice_empty a.to a.s.now)) ∙ l.invariant.1

pub loop-i-init : goal.loop-i-init
loop-i-init c = (omega arith, refl)
