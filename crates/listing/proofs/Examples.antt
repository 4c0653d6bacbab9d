-- A worked example: the record by the file of table T, its whole output and its index; a record in which a RESPONSE crosses a CANCEL; and records at
-- which a listing stops early.
use mathlib.Core.Path.{◌≡◌, refl}
use mathlib.Core.List.{List, [], ◌∷◌, ◌++◌}
use Prim.Native.Nat.{ℕ}
use lib.ListN.{take, drop}
use lib.Count.{ones_in}
use Rattle.wire.specs.Little as little
use Rattle.wire.specs.Varuint as varuint
use Rattle.utf8.specs.Utf8 as utf8
use Rattle.parse.specs.Reader as answer
use Rattle.schema.specs.Table as table
use Rattle.schema.specs.File as file
use Rattle.schema.specs.Check as check
use Rattle.schema.proofs.Examples as example
use Rattle.frame.specs.Frame as frame
use Rattle.calls.specs.Forms as forms
use Rattle.calls.specs.Numbers as numbers
use Rattle.calls.specs.Slots as slots
use Rattle.calls.specs.Judge as judge
use Rattle.connection.specs.Step as step
use Rattle.calls.specs.Counting as counting
use Rattle.value.specs.Value as value
use Rattle.value.specs.Read as read
use Rattle.reader.specs.Entry as entry
use Rattle.receiver.specs.Answer as line
use Rattle.receiver.specs.Planning as planning
use Rattle.receiver.specs.Receive as receive
use Rattle.receiver.specs.Run as run
use Rattle.receiver.specs.Fresh as fresh
use Rattle.text.specs.Decimal as decimal
use Rattle.text.specs.Text as texts
use Rattle.replay.specs.Run as replay
use Rattle.index.specs.Row as rows
use Rattle.index.specs.Index as index
use Rattle.listing.specs.Text as text
use Rattle.listing.specs.Listing as listing

-- INVOKE 9 `01 07`; RESPONSE 9 `01 01 01 00`; the same again; INVOKE 10 `01 07`; RESPONSE 10 with P5.
abbrev pub entries : List ℕ
entries =
    67 ∷ 175 ∷ 1 ∷ 1 ∷ 1 ∷ 0 ∷ 1 ∷ 0 ∷ 0 ∷ 0 ∷ 2 ∷ 0 ∷ 0 ∷ 0 ∷ 3 ∷ 0 ∷ 0 ∷ 0 ∷ 9 ∷ 0 ∷ 0 ∷ 0 ∷ 0 ∷ 0 ∷ 0 ∷ 0 ∷ 2 ∷ 1 ∷ 7 ∷
    83 ∷ 175 ∷ 1 ∷ 1 ∷ 6 ∷ 0 ∷ 1 ∷ 0 ∷ 0 ∷ 0 ∷ 2 ∷ 0 ∷ 0 ∷ 0 ∷ 3 ∷ 0 ∷ 0 ∷ 0 ∷ 9 ∷ 0 ∷ 0 ∷ 0 ∷ 0 ∷ 0 ∷ 0 ∷ 0 ∷ 4 ∷ 1 ∷ 1 ∷ 1 ∷ 0 ∷
    83 ∷ 175 ∷ 1 ∷ 1 ∷ 6 ∷ 0 ∷ 1 ∷ 0 ∷ 0 ∷ 0 ∷ 2 ∷ 0 ∷ 0 ∷ 0 ∷ 3 ∷ 0 ∷ 0 ∷ 0 ∷ 9 ∷ 0 ∷ 0 ∷ 0 ∷ 0 ∷ 0 ∷ 0 ∷ 0 ∷ 4 ∷ 1 ∷ 1 ∷ 1 ∷ 0 ∷
    67 ∷ 175 ∷ 1 ∷ 1 ∷ 1 ∷ 0 ∷ 1 ∷ 0 ∷ 0 ∷ 0 ∷ 2 ∷ 0 ∷ 0 ∷ 0 ∷ 3 ∷ 0 ∷ 0 ∷ 0 ∷ 10 ∷ 0 ∷ 0 ∷ 0 ∷ 0 ∷ 0 ∷ 0 ∷ 0 ∷ 2 ∷ 1 ∷ 7 ∷
    83 ∷ 175 ∷ 1 ∷ 1 ∷ 6 ∷ 0 ∷ 1 ∷ 0 ∷ 0 ∷ 0 ∷ 2 ∷ 0 ∷ 0 ∷ 0 ∷ 3 ∷ 0 ∷ 0 ∷ 0 ∷ 10 ∷ 0 ∷ 0 ∷ 0 ∷ 0 ∷ 0 ∷ 0 ∷ 0 ∷ 7 ∷ 1 ∷ 2 ∷ 5 ∷ 0 ∷ 5 ∷ 1 ∷ 7 ∷ []

abbrev pub output : List ℕ
output =
    102 ∷ 114 ∷ 97 ∷ 109 ∷ 101 ∷ 32 ∷ 115 ∷ 105 ∷ 100 ∷ 101 ∷ 32 ∷ 107 ∷ 105 ∷ 110 ∷ 100 ∷ 32 ∷ 99 ∷ 97 ∷ 108 ∷ 108 ∷ 32 ∷
    97 ∷ 110 ∷ 115 ∷ 119 ∷ 101 ∷ 114 ∷ 32 ∷ 112 ∷ 108 ∷ 97 ∷ 99 ∷ 101 ∷ 32 ∷ 114 ∷ 111 ∷ 119 ∷ 115 ∷ 32 ∷ 111 ∷ 112 ∷ 101 ∷ 110 ∷ 10 ∷
    49 ∷ 32 ∷ 67 ∷ 32 ∷ 49 ∷ 32 ∷ 57 ∷ 32 ∷ 48 ∷ 32 ∷ 48 ∷ 32 ∷ 50 ∷ 32 ∷ 49 ∷ 10 ∷
    50 ∷ 32 ∷ 83 ∷ 32 ∷ 54 ∷ 32 ∷ 57 ∷ 32 ∷ 48 ∷ 32 ∷ 48 ∷ 32 ∷ 52 ∷ 32 ∷ 48 ∷ 10 ∷
    51 ∷ 32 ∷ 83 ∷ 32 ∷ 54 ∷ 32 ∷ 57 ∷ 32 ∷ 49 ∷ 49 ∷ 32 ∷ 48 ∷ 32 ∷ 48 ∷ 32 ∷ 48 ∷ 10 ∷
    52 ∷ 32 ∷ 67 ∷ 32 ∷ 49 ∷ 32 ∷ 49 ∷ 48 ∷ 32 ∷ 48 ∷ 32 ∷ 48 ∷ 32 ∷ 50 ∷ 32 ∷ 49 ∷ 10 ∷
    53 ∷ 32 ∷ 83 ∷ 32 ∷ 54 ∷ 32 ∷ 49 ∷ 48 ∷ 32 ∷ 50 ∷ 54 ∷ 32 ∷ 50 ∷ 32 ∷ 48 ∷ 32 ∷ 48 ∷ 10 ∷
    115 ∷ 116 ∷ 111 ∷ 112 ∷ 112 ∷ 101 ∷ 100 ∷ 32 ∷ 48 ∷ 32 ∷ 108 ∷ 101 ∷ 102 ∷ 116 ∷ 32 ∷ 48 ∷ 10 ∷ []

-- what the file of table T makes of a record
listed : List ℕ → List ℕ
unfolding little.little varuint.front_var_u_int varuint.groups utf8.run utf8.next utf8.lead_of utf8.rows ones_in table.shape file.cell file.shaped file.layout_of
    file.tabulate file.table_of check.lowest check.good_row check.good_field check.find_among check.good_method check.small check.bad_row check.bad_field
    check.bad_method check.checked_table check.checked frame.once_whole frame.frame_payload frame.frame_of forms.row_of_form numbers.ends_call numbers.uses_frame
    slots.good_call slots.good_table slots.own_of slots.full judge.payload_of judge.verdict_of judge.judge_of step.step_of answer.and_then answer.check
    answer.block answer.var_u_int value.rows value.value read.present answer.count read.required_set read.bitmap read.walk read.parse read.root_ending
    read.root_struct read.read entry.payload_outcome counting.rise_of counting.figure_by counting.raised line.stopped line.payload_read
    planning.bytes_plan planning.plan_of receive.frame_settled receive.settled receive.received run.fresh_tallies fresh.received_fresh
    decimal.digits decimal.decimal texts.field replay.fresh_calls replay.answer_to replay.header_in replay.run_from replay.run_of
    text.line_start text.line_text text.stopped_text listing.run_lines listing.run_text listing.listing
listed r = listing.listing example.file r

pub worked : listing.listing example.file entries ≡ output
unfolding listed
worked = refl

-- INVOKE 9 `01 07`; CANCEL 9; RESPONSE 9 `01 01 01 00`, which crosses it; CANCEL 9 again; ERROR 9 `07`; INVOKE 9 `01 07`; CANCEL 9 `07`, which has
-- a payload.
abbrev pub crossed : List ℕ
crossed =
    67 ∷ 175 ∷ 1 ∷ 1 ∷ 1 ∷ 0 ∷ 1 ∷ 0 ∷ 0 ∷ 0 ∷ 2 ∷ 0 ∷ 0 ∷ 0 ∷ 3 ∷ 0 ∷ 0 ∷ 0 ∷ 9 ∷ 0 ∷ 0 ∷ 0 ∷ 0 ∷ 0 ∷ 0 ∷ 0 ∷ 2 ∷ 1 ∷ 7 ∷
    67 ∷ 175 ∷ 1 ∷ 1 ∷ 8 ∷ 0 ∷ 1 ∷ 0 ∷ 0 ∷ 0 ∷ 2 ∷ 0 ∷ 0 ∷ 0 ∷ 3 ∷ 0 ∷ 0 ∷ 0 ∷ 9 ∷ 0 ∷ 0 ∷ 0 ∷ 0 ∷ 0 ∷ 0 ∷ 0 ∷ 0 ∷
    83 ∷ 175 ∷ 1 ∷ 1 ∷ 6 ∷ 0 ∷ 1 ∷ 0 ∷ 0 ∷ 0 ∷ 2 ∷ 0 ∷ 0 ∷ 0 ∷ 3 ∷ 0 ∷ 0 ∷ 0 ∷ 9 ∷ 0 ∷ 0 ∷ 0 ∷ 0 ∷ 0 ∷ 0 ∷ 0 ∷ 4 ∷ 1 ∷ 1 ∷ 1 ∷ 0 ∷
    67 ∷ 175 ∷ 1 ∷ 1 ∷ 8 ∷ 0 ∷ 1 ∷ 0 ∷ 0 ∷ 0 ∷ 2 ∷ 0 ∷ 0 ∷ 0 ∷ 3 ∷ 0 ∷ 0 ∷ 0 ∷ 9 ∷ 0 ∷ 0 ∷ 0 ∷ 0 ∷ 0 ∷ 0 ∷ 0 ∷ 0 ∷
    83 ∷ 175 ∷ 1 ∷ 1 ∷ 7 ∷ 0 ∷ 1 ∷ 0 ∷ 0 ∷ 0 ∷ 2 ∷ 0 ∷ 0 ∷ 0 ∷ 3 ∷ 0 ∷ 0 ∷ 0 ∷ 9 ∷ 0 ∷ 0 ∷ 0 ∷ 0 ∷ 0 ∷ 0 ∷ 0 ∷ 1 ∷ 7 ∷
    67 ∷ 175 ∷ 1 ∷ 1 ∷ 1 ∷ 0 ∷ 1 ∷ 0 ∷ 0 ∷ 0 ∷ 2 ∷ 0 ∷ 0 ∷ 0 ∷ 3 ∷ 0 ∷ 0 ∷ 0 ∷ 9 ∷ 0 ∷ 0 ∷ 0 ∷ 0 ∷ 0 ∷ 0 ∷ 0 ∷ 2 ∷ 1 ∷ 7 ∷
    67 ∷ 175 ∷ 1 ∷ 1 ∷ 8 ∷ 0 ∷ 1 ∷ 0 ∷ 0 ∷ 0 ∷ 2 ∷ 0 ∷ 0 ∷ 0 ∷ 3 ∷ 0 ∷ 0 ∷ 0 ∷ 9 ∷ 0 ∷ 0 ∷ 0 ∷ 0 ∷ 0 ∷ 0 ∷ 0 ∷ 1 ∷ 7 ∷ []

abbrev pub crossed_output : List ℕ
crossed_output =
    text.heading ++
    (49 ∷ 32 ∷ 67 ∷ 32 ∷ 49 ∷ 32 ∷ 57 ∷ 32 ∷ 48 ∷ 32 ∷ 48 ∷ 32 ∷ 50 ∷ 32 ∷ 49 ∷ 10 ∷
    50 ∷ 32 ∷ 67 ∷ 32 ∷ 56 ∷ 32 ∷ 57 ∷ 32 ∷ 48 ∷ 32 ∷ 48 ∷ 32 ∷ 48 ∷ 32 ∷ 49 ∷ 10 ∷
    51 ∷ 32 ∷ 83 ∷ 32 ∷ 54 ∷ 32 ∷ 57 ∷ 32 ∷ 49 ∷ 54 ∷ 32 ∷ 48 ∷ 32 ∷ 48 ∷ 32 ∷ 49 ∷ 10 ∷
    52 ∷ 32 ∷ 67 ∷ 32 ∷ 56 ∷ 32 ∷ 57 ∷ 32 ∷ 49 ∷ 52 ∷ 32 ∷ 48 ∷ 32 ∷ 48 ∷ 32 ∷ 49 ∷ 10 ∷
    53 ∷ 32 ∷ 83 ∷ 32 ∷ 55 ∷ 32 ∷ 57 ∷ 32 ∷ 48 ∷ 32 ∷ 48 ∷ 32 ∷ 48 ∷ 32 ∷ 48 ∷ 10 ∷
    54 ∷ 32 ∷ 67 ∷ 32 ∷ 49 ∷ 32 ∷ 57 ∷ 32 ∷ 48 ∷ 32 ∷ 48 ∷ 32 ∷ 50 ∷ 32 ∷ 49 ∷ 10 ∷
    55 ∷ 32 ∷ 67 ∷ 32 ∷ 56 ∷ 32 ∷ 57 ∷ 32 ∷ 50 ∷ 57 ∷ 32 ∷ 48 ∷ 32 ∷ 48 ∷ 32 ∷ 48 ∷ 10 ∷
    115 ∷ 116 ∷ 111 ∷ 112 ∷ 112 ∷ 101 ∷ 100 ∷ 32 ∷ 48 ∷ 32 ∷ 108 ∷ 101 ∷ 102 ∷ 116 ∷ 32 ∷ 48 ∷ 10 ∷ [])

pub crossing : listing.listing example.file crossed ≡ crossed_output
unfolding listed
crossing = refl

-- INVOKE 9 from the server, which is the wrong side and an entry; and the same from X (88), which is no side and no entry.
abbrev pub unsided : List ℕ
unsided = (83 ∷ take 28 (drop 1 entries)) ++ (88 ∷ take 28 (drop 1 entries))

-- 1 S 1 9 8 0 0 0; stopped 8 left 29
abbrev pub unsided_output : List ℕ
unsided_output =
    text.heading ++
    (49 ∷ 32 ∷ 83 ∷ 32 ∷ 49 ∷ 32 ∷ 57 ∷ 32 ∷ 56 ∷ 32 ∷ 48 ∷ 32 ∷ 48 ∷ 32 ∷ 48 ∷ 10 ∷
    115 ∷ 116 ∷ 111 ∷ 112 ∷ 112 ∷ 101 ∷ 100 ∷ 32 ∷ 56 ∷ 32 ∷ 108 ∷ 101 ∷ 102 ∷ 116 ∷ 32 ∷ 50 ∷ 57 ∷ 10 ∷ [])

pub unsiding : listing.listing example.file unsided ≡ unsided_output
unfolding listed
unsiding = refl

-- the first entry of the worked record, and the second without its last byte
abbrev pub cut : List ℕ
cut = take 59 entries

-- 1 C 1 9 0 0 2 1; stopped 1 left 30
abbrev pub cut_output : List ℕ
cut_output =
    text.heading ++
    (49 ∷ 32 ∷ 67 ∷ 32 ∷ 49 ∷ 32 ∷ 57 ∷ 32 ∷ 48 ∷ 32 ∷ 48 ∷ 32 ∷ 50 ∷ 32 ∷ 49 ∷ 10 ∷
    115 ∷ 116 ∷ 111 ∷ 112 ∷ 112 ∷ 101 ∷ 100 ∷ 32 ∷ 49 ∷ 32 ∷ 108 ∷ 101 ∷ 102 ∷ 116 ∷ 32 ∷ 51 ∷ 48 ∷ 10 ∷ [])

pub cutting : listing.listing example.file cut ≡ cut_output
unfolding listed
cutting = refl

-- the rows of the worked record: two calls, three entries and two
pub worked-rows : index.rows_for example.file entries
    ≡ record { correlation = 9; place = 0; answer = 0 }
    ∷ record { correlation = 9; place = 29; answer = 0 }
    ∷ record { correlation = 9; place = 60; answer = 11 }
    ∷ record { correlation = 10; place = 91; answer = 0 }
    ∷ record { correlation = 10; place = 120; answer = 26 }
    ∷ []
unfolding listed rows.insert rows.ordered index.rows_for
worked-rows = refl

-- two calls by turns: INVOKE 10, INVOKE 9, RESPONSE 10 with P5, RESPONSE 9
abbrev pub interleaved : List ℕ
interleaved = take 29 (drop 91 entries) ++ (take 29 entries ++ (drop 120 entries ++ take 31 (drop 29 entries)))

pub interleaved-rows : index.rows_for example.file interleaved
    ≡ record { correlation = 9; place = 29; answer = 0 }
    ∷ record { correlation = 9; place = 92; answer = 0 }
    ∷ record { correlation = 10; place = 0; answer = 0 }
    ∷ record { correlation = 10; place = 58; answer = 26 }
    ∷ []
unfolding listed rows.insert rows.ordered index.rows_for
interleaved-rows = refl

-- no entry, and one: a cut frame alone; the entry from the wrong side
pub few-rows : (index.rows_for example.file (take 28 entries) ≡ []) × (index.rows_for example.file unsided ≡ record { correlation = 9; place = 0; answer = 8 } ∷ [])
unfolding listed rows.insert rows.ordered index.rows_for
few-rows = (refl, refl)
