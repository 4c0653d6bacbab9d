-- The worked cases hold, over the bytes of T's file and of one with two presence bytes; and a file that is no table is refused before all else.
use mathlib.Core.Path.{◌≡◌, refl, ap₂, ◌∙◌}
use mathlib.Core.List.{List, [], ◌∷◌, map}
use Prim.Native.Nat.{ℕ}
use lib.Count.{ones_in}
use lib.ListN.{length, replicate}
use Rattle.wire.specs.Little as little
use Rattle.wire.specs.Varuint as varuint
use Rattle.utf8.specs.Utf8 as utf8
use Rattle.parse.specs.Reader as answer
use Rattle.schema.specs.Checked.{Good}
use Rattle.schema.specs.Table as table
use Rattle.schema.specs.Table.{Table}
use Rattle.schema.specs.File.{cell, shaped, layout_of, tabulate, table_of}
use Rattle.schema.specs.Check.{lowest, good_row, good_field, find_among, good_method, small, bad_row, bad_field, bad_method, checked_table, checked}
use Rattle.schema.proofs.Examples.{T, file, T-good, T-rows}
use Rattle.value.specs.Value as value
use Rattle.value.specs.Read as read
use Rattle.value.specs.Sheet.{rows_of}
use Rattle.value.specs.Spell as spell
use Rattle.value.specs.Write as write
use Rattle.writer.specs.Writing.{Refused}
use Rattle.writer.specs.Entry.{Outcome, outcome, outcome_of}
use Rattle.forward.specs.Forward.{forward}
use Rattle.forward.specs.Entry.{sheet_forwarded, forward_outcome}
use Rattle.forward.specs.Cases.{ForwardCase, ForwardHold, lent, worked, large, nine, by-nine}

-- The answer by a table itself.
abbrev by_table : Table → ForwardCase → Outcome
by_table U c = outcome_of c.out (forward U c.type (rows_of c.cells) c.source c.place c.size (length c.out))

each-by : (s : List ℕ) (U : Table) → checked s ≡ Good → table_of s ≡ U → (cases : List ForwardCase)
    → map (λ (c : ForwardCase). forward_outcome s c.type c.cells c.source c.place c.size c.out) cases ≡ map (by_table U) cases
unfolding forward_outcome sheet_forwarded
each-by s U good is [] = refl
each-by s U good is (c ∷ cases) = ap₂ ◌∷◌ (rw (good, is)) (each-by s U good is cases)

nine-good : checked nine ≡ Good
unfolding little.little cell shaped layout_of tabulate table_of lowest good_row good_field find_among good_method small bad_row bad_field bad_method checked_table checked
nine-good = refl

-- What it holds.
abbrev N : Table
N =
    record {
      types = record { kind = 6; a = 0; b = 0 } ∷ record { kind = 16; a = 0; b = 9 } ∷ [];
      fields = replicate 9 (record { ty = 0; optional = 1 });
      methods = [];
    }

nine-rows : table_of nine ≡ N
unfolding little.little cell shaped layout_of tabulate table_of
nine-rows = refl

computed : (map (by_table T) worked ≡ map (λ (c : ForwardCase). outcome c.answer c.after) worked)
    × (map (by_table T) large ≡ map (λ (c : ForwardCase). outcome c.answer c.after) large)
    × (map (by_table N) by-nine ≡ map (λ (c : ForwardCase). outcome c.answer c.after) by-nine)
unfolding forward rows_of write.show_root write.show write.row_due write.next_row write.bits_at read.walk read.present read.required_set ones_in table.shape
    answer.and_then answer.check little.little little.bytes varuint.varuint_bytes varuint.shortest utf8.run utf8.next utf8.lead_of utf8.rows value.value spell.encode
computed = (refl, refl, refl)

pub cases-hold : ForwardHold file worked
cases-hold = each-by file T T-good T-rows worked ∙ computed.0

pub large-hold : ForwardHold file large
large-hold = each-by file T T-good T-rows large ∙ computed.1

pub nine-hold : ForwardHold nine by-nine
nine-hold = each-by nine N nine-good nine-rows by-nine ∙ computed.2

-- No table: 40 before all else.
pub table-first : forward_outcome [] 4 [] [] 9 9 (lent 1) ≡ outcome (Refused 40 0) (lent 1)
unfolding forward_outcome checked shaped layout_of cell
table-first = refl
