-- A plan settled with the row that it asks for, by whether the cells are a call table.
use mathlib.Core.Path.{◌≡◌, ap, ◌∙◌}
use mathlib.Core.Bool.{Bool, true, false, cond}
use mathlib.Core.List.{List}
use Prim.Native.Nat.{ℕ}
use lib.ListN.{length, get_or, set}
use Rattle.schema.specs.Checked.{Checked}
use Rattle.schema.specs.Checked as check
use Rattle.schema.specs.Check.{checked}
use Rattle.calls.specs.declared.Call.{Call}
use Rattle.calls.specs.declared.Tally.{Tally}
use Rattle.calls.specs.Counting.{no_tally}
use Rattle.receiver.specs.Plan.{Plan}
use Rattle.receiver.specs.Settled.{Settled}
use Rattle.receiver.specs.SettledRelease.{SettledRelease}
use Rattle.receiver.specs.Answer.{effect, row_effect, in_row}
use Rattle.receiver.specs.Planning.{stop_plan, plan_of, release_plan}
use Rattle.receiver.specs.Receive.{settled}
use Rattle.receiver.specs.Release.{ReleaseEffect, release_effect, release_answer, release_settled}
use Rattle.receiver.proofs.Ways.{same_row, effect_of, stop-effect}
use Rattle.receiver.proofs.Lent.{within, release-within}
use Rattle.exports.specs.Answers.{not_calls, refused_plan, judgement, not_released, release_judgement}

module _ (s : List ℕ) (side : ℕ) (bytes sheet : List ℕ) (ts : List Tally) (l : List Call) where
  refused-effect : (v : Checked) → effect_of s side bytes sheet ts l (refused_plan v) ≡ effect (not_calls v l) sheet ts
  refused-effect check.Good = stop-effect s side bytes sheet ts l 15 0
  refused-effect (check.Refused n q) = stop-effect s side bytes sheet ts l n q

  pub judged-effect : (is_table : Bool) (rows : ℕ) (p : Plan) → rows ≡ length ts → p ≡ cond is_table (plan_of s side bytes rows l) (refused_plan (checked s))
      → (r : Settled) (cs : List ℕ) → row_effect r.answer cs r.row ≡ settled s bytes sheet l (get_or ts p.row no_tally) p.next
      → effect r.answer cs (set ts p.row r.row) ≡ judgement is_table s side bytes sheet ts l
  unfolding judgement
  judged-effect true rows p n e r cs is = within s side bytes sheet ts l p (e ∙ ap (λ (k : ℕ). plan_of s side bytes k l) n) r cs is
  judged-effect false rows p n e r cs is = ap (in_row ts p.row) is ∙ ap (effect_of s side bytes sheet ts l) e ∙ refused-effect (checked s)

module _ (s : List ℕ) (l : List Call) (id : ℕ) (ts : List Tally) where
  abbrev release_of : Plan → ReleaseEffect
  release_of p = let x = release_settled l (get_or ts p.row no_tally) p.next in release_effect x.answer (set ts p.row x.row)

  stop-release : (n q : ℕ) → release_of (stop_plan n q) ≡ release_effect (release_answer n q l) ts
  unfolding release_settled
  stop-release n q = ap (release_effect (release_answer n q l)) (same_row ts 0)

  refused-release : (v : Checked) → release_of (refused_plan v) ≡ release_effect (not_released v l) ts
  refused-release check.Good = stop-release 15 0
  refused-release (check.Refused n q) = stop-release n q

  pub judged-release : (is_table : Bool) (rows : ℕ) (p : Plan) → rows ≡ length ts → p ≡ cond is_table (release_plan s l id rows) (refused_plan (checked s))
      → (r : SettledRelease) → r ≡ release_settled l (get_or ts p.row no_tally) p.next
      → release_effect r.answer (set ts p.row r.row) ≡ release_judgement is_table s l id ts
  unfolding release_judgement
  judged-release true rows p n e r is = release-within s l id ts p (e ∙ ap (λ (k : ℕ). release_plan s l id k) n) r is
  judged-release false rows p n e r is =
      ap (λ (x : SettledRelease). release_effect x.answer (set ts p.row x.row)) is ∙ ap release_of e ∙ refused-release (checked s)
