-- What the entry answers, in the request's order: the table's refusals, 4, 46, the value writer's in its order, 7, 52.
use Rattle.std.specs.Prelude.{cond, List, [], ◌∷◌, ℕ, eqb, length}
use Rattle.schema.specs.Check.{checked}
use Rattle.frame.specs.declared.Header.{Header}
use Rattle.frame.specs.Frame.{known_kind}
use Rattle.frame.specs.Written.{frame_bytes}
use Rattle.value.specs.declared.Row.{Row}
use Rattle.value.specs.Sheet.{rows_of}
use Rattle.value.specs.Write.{Writing, refusal, written}
use Rattle.writer.specs.Entry.{Outcome, outcome_of, payload_by, within_room, by_verdict}

-- No value: an empty payload. A row is left over.
abbrev pub empty_by : List Row → Writing
empty_by [] = written []
empty_by (_ ∷ _) = refusal 50 0

-- The payload that a sheet's cells over the bytes B make by a good table, or the refusal. Type 4294967295 stands for no value.
unfoldable pub payload_for : (schema : List ℕ) (ty : ℕ) (cells B : List ℕ) → Writing
payload_for schema ty cells B = cond (eqb ty 4294967295) (empty_by (rows_of cells)) (payload_by schema ty cells B)

-- The frame of a payload.
abbrev pub framed : Header → Writing → Writing
framed h (refusal n q) = refusal n q
framed h (written p) = written (frame_bytes h p)

-- The frame of a payload in an output, where that has room for it.
abbrev pub frame_in : Header → (out : List ℕ) → Writing → Outcome
frame_in h out w = outcome_of out (within_room (length out) (framed h w))

-- The kind, the payload, and then the room for the whole frame.
unfoldable pub value_frame : Header → (schema : List ℕ) (ty : ℕ) (cells B : List ℕ) (room : ℕ) → Writing
value_frame h schema ty cells B room = cond (known_kind h.kind) (within_room room (framed h (payload_for schema ty cells B))) (refusal 4 0)

-- Any table: its refusals come first. A refusal leaves the output as it was, and past the frame nothing changes.
unfoldable pub frame_outcome : Header → (schema : List ℕ) (ty : ℕ) (cells B out : List ℕ) → Outcome
frame_outcome h schema ty cells B out = by_verdict (checked schema) (outcome_of out (value_frame h schema ty cells B (length out))) out
