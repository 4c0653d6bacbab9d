-- When a call table is good, a field for each clause of docs/FORMAT.md's sentence.
use Rattle.std.specs.Prelude.{◌≡◌, true, false, List, ℕ, ◌<◌, length}
use Rattle.schema.specs.Table.{Table}
use Rattle.calls.specs.declared.Call.{Call}
use Rattle.calls.specs.Record.{empty_call, complete}
use Rattle.calls.specs.Slots.{slot, form_row}

-- An open call.
pub record GoodCall (T : Table) (c : Call) : Type 0 where
  pub method_exists : c.method < length T.methods
  pub input_closed_of : c.input_closed ≡ true → (form_row T c).1 ≡ true
  pub output_closed_of : c.output_closed ≡ true → (form_row T c).3 ≡ true
  pub after_response : c.output_closed ≡ true → c.responded ≡ true
  pub input_elements_of : (form_row T c).0 ≡ false → c.input_elements ≡ 0
  pub output_elements_of : (form_row T c).2 ≡ false → c.output_elements ≡ 0
  pub not_complete : complete (form_row T c) c ≡ false

pub record GoodCalls (T : Table) (l : List Call) : Type 0 where
  pub free_zero : (i : ℕ) → (slot l i).«open» ≡ false → slot l i ≡ empty_call
  pub differ : (i j : ℕ) → (slot l i).«open» ≡ true → (slot l j).«open» ≡ true → (slot l i).correlation ≡ (slot l j).correlation → i ≡ j
  pub calls : (i : ℕ) → (slot l i).«open» ≡ true → GoodCall T (slot l i)
