-- The worked cases hold, over the bytes of T's file; and a file that is no table is refused before all else.
use mathlib.Core.Path.{◌≡◌, refl, ap₂, ◌∙◌}
use mathlib.Core.Bool.{cond}
use mathlib.Core.List.{List, [], ◌∷◌, map}
use Prim.Native.Nat.{ℕ}
use lib.Dec.{eqb}
use lib.ListN.{length}
use Rattle.wire.specs.Little as little
use Rattle.wire.specs.Varuint as varuint
use Rattle.utf8.specs.Utf8 as utf8
use Rattle.parse.specs.Reader as answer
use Rattle.schema.specs.Table as table
use Rattle.schema.specs.File.{cell, shaped, layout_of}
use Rattle.schema.specs.Check.{checked}
use Rattle.schema.proofs.Examples.{T, file, T-good, T-rows}
use Rattle.frame.specs.declared.Header.{Header}
use Rattle.frame.specs.Frame.{known_kind}
use Rattle.frame.specs.Written.{front_bytes, frame_bytes}
use Rattle.value.specs.Value as value
use Rattle.value.specs.Read as read
use Rattle.value.specs.Spell as spell
use Rattle.value.specs.Sheet.{rows_of}
use Rattle.value.specs.Write as write
use Rattle.value.specs.Write.{Writing, refusal}
use Rattle.writer.specs.Writing.{Refused}
use Rattle.writer.specs.Entry.{outcome, outcome_of, payload_by, within_room}
use Rattle.valueframe.specs.Entry.{empty_by, payload_for, framed, value_frame, frame_outcome}
use Rattle.valueframe.specs.Cases.{ValueFrameCase, header, lent, worked}

-- The answer by T itself.
by_table : Header → (ty : ℕ) (cells B : List ℕ) (room : ℕ) → Writing
by_table h ty cells B room =
    cond (known_kind h.kind)
    (within_room room (framed h (cond (eqb ty 4294967295) (empty_by (rows_of cells)) (write.write T ty (rows_of cells) B 16384))))
    (refusal 4 0)

by-T : (h : Header) (ty : ℕ) (cells B out : List ℕ) → frame_outcome h file ty cells B out ≡ outcome_of out (by_table h ty cells B (length out))
unfolding frame_outcome value_frame payload_for payload_by by_table
by-T h ty cells B out = rw (T-good, T-rows)

each-by-T : (cases : List ValueFrameCase) → map (λ (c : ValueFrameCase). frame_outcome (header c.kind) file c.type c.cells c.source c.out) cases
    ≡ map (λ (c : ValueFrameCase). outcome_of c.out (by_table (header c.kind) c.type c.cells c.source (length c.out))) cases
each-by-T [] = refl
each-by-T (c ∷ cases) = ap₂ ◌∷◌ (by-T (header c.kind) c.type c.cells c.source c.out) (each-by-T cases)

computed : map (λ (c : ValueFrameCase). outcome_of c.out (by_table (header c.kind) c.type c.cells c.source (length c.out))) worked
    ≡ map (λ (c : ValueFrameCase). outcome c.answer c.after) worked
unfolding by_table frame_bytes front_bytes rows_of write.write write.show_root write.show write.row_due write.next_row write.bits_at spell.encode little.little little.bytes
    varuint.shortest varuint.varuint_bytes read.walk read.present read.required_set table.shape answer.and_then answer.check utf8.run utf8.next utf8.lead_of utf8.rows value.value
computed = refl

-- Each case is answered so: the number, the place or the length, and every byte of the output.
pub cases-hold : map (λ (c : ValueFrameCase). frame_outcome (header c.kind) file c.type c.cells c.source c.out) worked
    ≡ map (λ (c : ValueFrameCase). outcome c.answer c.after) worked
cases-hold = each-by-T worked ∙ computed

-- No table: 40 before the kind, and where there is no value too.
pub table-first : map (λ (ty : ℕ). frame_outcome (header 9) [] ty [] [] (lent 1)) (0 ∷ 4294967295 ∷ []) ≡ outcome (Refused 40 0) (lent 1) ∷ outcome (Refused 40 0) (lent 1) ∷ []
unfolding frame_outcome checked shaped layout_of cell
table-first = refl
