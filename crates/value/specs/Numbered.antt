-- 01's numbers for a payload that is refused and for a sheet that is. `Reasons` and `SheetReasons` say what each is for.
use Rattle.std.specs.Prelude.{ℕ, ◌≤◌}

-- The numbers of a value's fault.
pub data ValueFault : ℕ → Type 0 where
  within-list : {n : ℕ} → 20 ≤ n → n ≤ 28 → ValueFault n
  many-pairs : ValueFault 31

-- Of a payload: a value's fault, 46, 7 and 30.
pub data ReadNumber : ℕ → Type 0 where
  value : {n : ℕ} → ValueFault n → ReadNumber n
  no-struct : ReadNumber 46
  too_long : ReadNumber 7
  too_few-rows : ReadNumber 30

-- Of a sheet: a row's fault, 46, 7 and 52.
pub data WriteNumber : ℕ → Type 0 where
  no_bool : WriteNumber 22
  no_string : WriteNumber 23
  repeated-key : WriteNumber 24
  absent-field : WriteNumber 25
  too_deep : WriteNumber 28
  many-pairs : WriteNumber 31
  unfit : WriteNumber 50
  outside : WriteNumber 51
  no-struct : WriteNumber 46
  too_long : WriteNumber 7
  too_small : WriteNumber 52
