-- The call table as a list of 128 records, one a slot: searches, the count of open calls, and the test whether it is good.
use Rattle.std.specs.Prelude.{ℕ, suc, Bool, true, false, not, cond, ◌&&◌, ◌||◌, List, [], ◌∷◌, length, get_or, replicate, eqb, None, Option, Some}
use Rattle.schema.specs.Table.{Table}
use Rattle.schema.specs.Check.{method_row, is_missing}
use Rattle.calls.specs.declared.Call.{Call}
use Rattle.calls.specs.declared.FormRow.{FormRow}
use Rattle.calls.specs.Forms.{row_of_form}
use Rattle.calls.specs.Record.{empty_call, is_call, is_free, good_open, zero_call}

-- The table at the start: 128 equal empty records.
abbrev pub fresh_slots : List Call
fresh_slots = replicate 128 empty_call

-- The record at a slot; past the last it is an empty one.
abbrev pub slot : List Call → ℕ → Call
slot l i = get_or l i empty_call

-- The place, counted from i, of the first record that passes.
abbrev pub first_slot : (Call → Bool) → ℕ → List Call → Option ℕ
first_slot p i [] = None
first_slot p i (x ∷ xs) = cond (p x) (Some i) (first_slot p (suc i) xs)

-- The place found; 128, past the last slot, where there is none.
abbrev pub slot_of : Option ℕ → ℕ
slot_of None = 128
slot_of (Some i) = i

-- The record at a slot that was found.
abbrev pub record_at : List Call → Option ℕ → Option Call
record_at l None = None
record_at l (Some i) = Some (slot l i)

-- The record of the call that is open under this correlation.
unfoldable pub own_of : (correlation : ℕ) → List Call → Option Call
own_of id l = record_at l (first_slot (is_call id) 0 l)

-- No slot is free: as many calls are open as there are slots, 128.
unfoldable pub full : List Call → Bool
full l = is_missing (first_slot is_free 0 l)

-- How many calls are open.
abbrev pub count_open : List Call → ℕ
count_open [] = 0
count_open (x ∷ xs) = cond x.«open» (suc (count_open xs)) (count_open xs)

-- The row of a call's form.
abbrev pub form_row : Table → Call → FormRow
form_row T c = row_of_form (method_row T c.method).form

-- ---- good

unfoldable pub good_call : Table → Call → Bool
good_call T c = cond c.«open» (good_open (length T.methods) (form_row T c) c) (zero_call c)

abbrev pub good_calls : Table → List Call → Bool
good_calls T [] = true
good_calls T (x ∷ xs) = good_call T x && good_calls T xs

-- The correlations of the open calls.
abbrev pub open_ids : List Call → List ℕ
open_ids [] = []
open_ids (x ∷ xs) = cond x.«open» (x.correlation ∷ open_ids xs) (open_ids xs)

-- The number is one of the list.
abbrev pub contains : ℕ → List ℕ → Bool
contains n [] = false
contains n (x ∷ xs) = eqb x n || contains n xs

-- No two of the list are equal.
abbrev pub distinct : List ℕ → Bool
distinct [] = true
distinct (x ∷ xs) = not (contains x xs) && distinct xs

unfoldable pub good_table : Table → List Call → Bool
good_table T l = good_calls T l && distinct (open_ids l)
