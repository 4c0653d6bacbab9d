-- A run with fresh tally rows for each entry is the run with rows that are lent once and carried along.
use mathlib.Core.Path.{◌≡◌, refl, ap, ◌∙◌}
use mathlib.Core.Bool.{cond}
use mathlib.Core.List.{List, [], ◌∷◌}
use Prim.Native.Nat.{ℕ, zero, suc, ◌+◌, ◌<◌}
use native.Mathlib.Omega.{arith}
use lib.ListN.{length, drop}
use Rattle.schema.specs.File.{table_of}
use Rattle.schema.specs.Check.{IsGood}
use Rattle.receiver.specs.Received.{Received}
use Rattle.receiver.specs.Receive.{received}
use Rattle.receiver.specs.Fresh.{FreshEffect, inputs}
use Rattle.receiver.specs.Run as receiver
use Rattle.receiver.proofs.FreshRows.{fresh-answers}
use Rattle.replay.specs.Run.{sheet, fresh_calls, answer_to, stops, entry_of, Run, halted, onward, run_from, run_of}
use Rattle.replay.specs.Lent.{lent_from, lent_run}

module _ (s : List ℕ) (good : IsGood s) where
  -- the state after some entries, the last first
  abbrev after : List receiver.Input → receiver.State
  after is = receiver.state_from s (receiver.fresh_state (table_of s)) (inputs is)

  abbrev here : (side : ℕ) (bytes : List ℕ) → receiver.Input
  here side bytes = record { side = side; bytes = bytes; sheet = sheet }

  -- the next entry has the same answer
  next-answer : (is : List receiver.Input) (side : ℕ) (bytes : List ℕ) → length is < 4294967295
      → (received s side bytes sheet (after is).tallies (after is).calls).answer ≡ answer_to s side bytes (after is).calls
  unfolding answer_to
  next-answer is side bytes h = ap (λ (x : FreshEffect). x.answer) (fresh-answers s good is h (here side bytes))

  -- and so have all that follow
  lent-from : (k place : ℕ) (left : List ℕ) (is : List receiver.Input) → k + length is < 4294967296
      → lent_from s k place left (after is) ≡ run_from s k place left (after is).calls
  unfolding lent_from run_from receiver.state_from
  lent-from zero place left is h = refl
  lent-from (suc k) place [] is h = refl
  lent-from (suc k) place (side ∷ bytes) is h =
      let a = (received s side bytes sheet (after is).tallies (after is).calls).answer in
      ap (λ (r : Run). cond (stops side a.number a.used) (halted a.number (length (side ∷ bytes))) (onward (entry_of place side bytes a) r))
      (lent-from k (place + 1 + a.used) (drop a.used bytes) (here side bytes ∷ is) (omega (arith, h)))
      ∙ ap (λ (x : Received). cond (stops side x.number x.used) (halted x.number (length (side ∷ bytes)))
      (onward (entry_of place side bytes x) (run_from s k (place + 1 + x.used) (drop x.used bytes) x.table.slots)))
      (next-answer is side bytes (omega (arith, h)))

  -- A record of fewer than 2^32 bytes has one run, whether its tally rows are carried along or fresh for each entry.
  pub lent-run : (entries : List ℕ) → length entries < 4294967296 → lent_run s entries ≡ run_of s entries
  unfolding lent_run run_of fresh_calls receiver.state_from
  lent-run entries h = lent-from (length entries) 0 entries [] (omega (arith, h))
