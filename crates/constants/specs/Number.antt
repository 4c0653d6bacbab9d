-- The numbers of the refusals: those of the records in Table.
use Rattle.std.specs.Prelude.{◌≡◌, ◌≢◌, ℕ, Result, MatchResult}
use Rattle.constants.specs.declared.refusal.Refusal.{Refusal}
use Rattle.constants.specs.declared.refusal.Refusal.TheVariants.{Magic, Version, Kind, Flags, Length, PayloadTooLong, WrongSide, UnknownMethod, CallOpen, CallNotOpen, OtherMethod, TooManyCalls}
use Rattle.constants.specs.declared.refusal.Refusal.TheVariants.{NotNow, CallTable, Dropped, TooManyElements, TallyFull, TallyRows, Cut, Varuint, Bool, Utf8, RepeatedKey, AbsentField, UnknownBit}
use Rattle.constants.specs.declared.refusal.Refusal.TheVariants.{Surplus, TooDeep, UnduePayload, SheetTooShort, MapTooLong, SchemaShape, TooManyRows, TypeRow, Field, Method, FileTooLong, NoStruct}
use Rattle.constants.specs.declared.refusal.Refusal.TheVariants.{NoExtension, Sheet, Outside, OutputTooShort, ListTooShort, Index, OtherRecord}
use Rattle.constants.specs.declared.refusal.UnknownRefusal.{UnknownRefusal}
use Rattle.constants.specs.Table.{frames, calls, values, schemas, outputs}

abbrev pub number_of : Refusal → ℕ
number_of Magic = frames.magic
number_of Version = frames.version
number_of Kind = frames.kind
number_of Flags = frames.flags
number_of Length = frames.length
number_of PayloadTooLong = frames.payload_too_long
number_of WrongSide = frames.wrong_side
number_of UnknownMethod = calls.unknown_method
number_of CallOpen = calls.call_open
number_of CallNotOpen = calls.call_not_open
number_of OtherMethod = calls.other_method
number_of TooManyCalls = calls.too_many_calls
number_of NotNow = calls.not_now
number_of CallTable = calls.call_table
number_of Dropped = calls.dropped
number_of TooManyElements = calls.too_many_elements
number_of TallyFull = calls.tally_full
number_of TallyRows = calls.tally_rows
number_of Cut = values.cut
number_of Varuint = values.varuint
number_of Bool = values.bool
number_of Utf8 = values.utf8
number_of RepeatedKey = values.repeated_key
number_of AbsentField = values.absent_field
number_of UnknownBit = values.unknown_bit
number_of Surplus = values.surplus
number_of TooDeep = values.too_deep
number_of UnduePayload = values.undue_payload
number_of SheetTooShort = values.sheet_too_short
number_of MapTooLong = values.map_too_long
number_of SchemaShape = schemas.schema_shape
number_of TooManyRows = schemas.too_many_rows
number_of TypeRow = schemas.type_row
number_of Field = schemas.field
number_of Method = schemas.method
number_of FileTooLong = schemas.file_too_long
number_of NoStruct = schemas.no_struct
number_of NoExtension = schemas.no_extension
number_of Sheet = outputs.sheet
number_of Outside = outputs.outside
number_of OutputTooShort = outputs.output_too_short
number_of ListTooShort = outputs.list_too_short
number_of Index = outputs.index
number_of OtherRecord = outputs.other_record

-- The result has this number, or it is an error with a number that no refusal has.
abbrev pub RefusalOf : ℕ → Result Refusal UnknownRefusal → Type 0
RefusalOf n r = MatchResult r (λ x. number_of x ≡ n) (λ e. (e.0 ≡ n) × ((x : Refusal) → number_of x ≢ n))
