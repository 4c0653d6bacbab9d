-- Records that count few elements.
use Rattle.std.specs.Prelude.{List, ℕ, ◌≤◌}
use Rattle.calls.specs.declared.Call.{Call}
use Rattle.calls.specs.Slots.{slot}

-- A record's counts are at most so many.
pub record FewElements (most : ℕ) (c : Call) : Type 0 where
  pub inputs : c.input_elements ≤ most
  pub outputs : c.output_elements ≤ most

-- The counts of every slot are at most so many.
abbrev pub FewIn : (most : ℕ) → List Call → Type 0
FewIn most l = (i : ℕ) → FewElements most (slot l i)
