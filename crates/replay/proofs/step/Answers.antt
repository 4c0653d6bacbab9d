-- `replay::step` meets its contract: what the sheet holds does not show in the answer.
use mathlib.Core.Path.{◌≡◌, sym, ap, ◌∙◌}
use Prim.Native.Nat.{ℕ, ◌/◌}
use lib.ListN.{length-replicate}
use Rattle.reader.specs.Entry.{room}
use Rattle.replay.specs.Run.{sheet}
use Rattle.replay.proofs.Turns.{by-sheet}
use borrow.Author.Rules.{rules}
use Rattle.replay.proofs.step.Goals as goal

pub returns : goal.returns
returns c =
    let a = c.args in
    let e = c.receive_fresh.ensures in
    let space : room a.sheet.now ≡ room sheet = ap (λ (n : ℕ). n / 4) (c.requires.1 ∙ sym (length-replicate {A = ℕ} _ 0)) in
    (by-sheet a.schema.now a.side a.bytes.now a.sheet.now a.table.slots space _ _ e.sheet_after, e.read_value)

pub receive_fresh-requires : goal.receive_fresh-requires
receive_fresh-requires c = c.requires.0
