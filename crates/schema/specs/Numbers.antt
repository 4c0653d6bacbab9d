-- The numbers that come back for each case of the answers of the table check and of the extension test.
use Rattle.std.specs.Prelude.{ℕ}
use Rattle.schema.specs.Checked.{Checked}
use Rattle.schema.specs.Checked.{Good, Refused}
use Rattle.schema.specs.Extended.{Extended}
use Rattle.schema.specs.Extended.{Yes, No, Refused as Faulty}

-- ---- the table check

abbrev pub check_number : Checked → ℕ
check_number Good = 0
check_number (Refused number place) = number

abbrev pub check_place : Checked → ℕ
check_place Good = 0
check_place (Refused number place) = place

-- ---- the extension test, whose answer is 1 for yes

abbrev pub extend_number : Extended → ℕ
extend_number Yes = 0
extend_number No = 0
extend_number (Faulty number place) = number

abbrev pub extend_place : Extended → ℕ
extend_place Yes = 0
extend_place No = 0
extend_place (Faulty number place) = place

abbrev pub extend_answer : Extended → ℕ
extend_answer Yes = 1
extend_answer No = 0
extend_answer (Faulty number place) = 0
