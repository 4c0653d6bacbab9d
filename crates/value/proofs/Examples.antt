-- The worked examples of 01, cases of each refusal, and pairs of tables, computed from the definitions.
use mathlib.Core.Path.{◌≡◌, refl}
use mathlib.Core.List.{List, [], ◌∷◌, ◌++◌, map}
use Prim.Native.Nat.{ℕ, zero, suc, ◌+◌}
use lib.Count.{ones_in}
use lib.ListN.{replicate}
use Rattle.wire.specs.Little as little
use Rattle.wire.specs.Varuint as varuint
use Rattle.utf8.specs.Utf8 as utf8
use Rattle.parse.specs.Reader as answer
use Rattle.schema.specs.declared.TypeRow.{TypeRow}
use Rattle.schema.specs.declared.Field.{Field}
use Rattle.schema.specs.Table as table
use Rattle.schema.specs.Table.{Table}
use Rattle.value.specs.declared.Row.{Row}
use Rattle.value.specs.Value as value
use Rattle.value.specs.Comparisons as comparisons
use Rattle.value.specs.Read as read
use Rattle.value.specs.Read.{Reading, refusal, accepted}
use Rattle.value.specs.Beside as beside
use Rattle.value.specs.Spell as spell
use Rattle.value.specs.Write as write
use Rattle.value.specs.Write.{Writing, refusal as unwritten, written}

abbrev type : ℕ → ℕ → ℕ → TypeRow
type k a b = record { kind = k; a = a; b = b }

abbrev field : ℕ → ℕ → Field
field t o = record { ty = t; optional = o }

abbrev row : ℕ → ℕ → ℕ → ℕ → Row
row t p l n = record { ty = t; place = p; length = l; count = n }

-- ---- the reader: a type, a payload, the sheet's room and the answer
pub record ReadCase : Type 0 where
  pub type : ℕ
  pub payload : List ℕ
  pub room : ℕ
  pub answer : Reading

abbrev case : ℕ → List ℕ → ℕ → Reading → ReadCase
case t p n a = record { type = t; payload = p; room = n; answer = a }

-- The answer to a case, and those to several.
unfoldable pub answered : Table → ReadCase → Reading
unfolding read.read read.root_struct read.root_ending ones_in read.parse read.walk read.bitmap answer.count read.present read.required_set table.shape value.rows value.value comparisons.comparisons comparisons.key_comparisons
answered T c = read.read T c.type c.payload c.room

unfoldable pub answers : Table → List ReadCase → List Reading
unfolding answered answer.and_then answer.check answer.block answer.var_u_int little.little varuint.front_var_u_int varuint.groups utf8.run utf8.next utf8.lead_of utf8.rows
answers T cases = map (answered T) cases

abbrev ReadHold : Table → List ReadCase → Type 0
ReadHold T cases = answers T cases ≡ map (λ (c : ReadCase). c.answer) cases

-- 01's table T, and P1 to P10.
unfoldable pub T : Table
T = record {
  types = type 6 0 0 ∷ type 12 0 0 ∷ type 16 0 2 ∷ type 14 2 0 ∷ type 16 2 2 ∷ [];
  fields = field 0 0 ∷ field 1 1 ∷ field 3 0 ∷ field 0 1 ∷ [];
  methods = [];
}

abbrev worked : List ReadCase
worked =
    case 4 (0x01 ∷ 0x02 ∷ 0x03 ∷ 0x07 ∷ 0x02 ∷ 0x6F ∷ 0x6B ∷ 0x01 ∷ 0x00 ∷ []) 4096
    (accepted (row 4 0 9 1 ∷ row 3 2 7 2 ∷ row 2 2 5 2 ∷ row 0 3 1 0 ∷ row 1 5 2 0 ∷ row 2 7 2 1 ∷ row 0 8 1 0 ∷ []) 9 0 0)
    ∷ case 4 (0x01 ∷ 0x00 ∷ []) 4096 (accepted (row 4 0 2 1 ∷ row 3 2 0 0 ∷ []) 2 0 0)
    ∷ case 4 [] 4096 (refusal 20 0)
    ∷ case 4 (0x00 ∷ []) 4096 (refusal 25 0)
    ∷ case 4 (0x01 ∷ 0x02 ∷ 0x05 ∷ 0x00 ∷ 0x05 ∷ 0x01 ∷ 0x07 ∷ []) 4096 (refusal 26 2)
    ∷ case 4 (0x05 ∷ 0x01 ∷ 0x01 ∷ 0x07 ∷ 0x09 ∷ []) 4096 (accepted (row 4 0 4 1 ∷ row 3 2 2 1 ∷ row 2 2 2 1 ∷ row 0 3 1 0 ∷ []) 4 1 0)
    ∷ case 4 (0x01 ∷ 0x01 ∷ 0x01 ∷ 0x07 ∷ 0x09 ∷ []) 4096 (refusal 27 4)
    ∷ case 4 (0x05 ∷ 0x01 ∷ 0x01 ∷ 0x07 ∷ []) 4096 (refusal 20 4)
    ∷ case 4 (0x01 ∷ 0x80 ∷ 0x00 ∷ []) 4096 (refusal 21 1)
    ∷ case 4 (0x01 ∷ 0x02 ∷ 0x01 ∷ 0x07 ∷ []) 4096 (refusal 20 4)
    ∷ []

pub p1-to_p10 : ReadHold T worked
unfolding T answers
p1-to_p10 = refl

-- A type of each kind in turn, 1 to 13, an array of uint16, a map of uint16 to uint8, and a struct that requires one of each.
unfoldable pub kinds : Table
kinds = record {
  types =
      type 1 0 0 ∷ type 2 0 0 ∷ type 3 0 0 ∷ type 4 0 0 ∷ type 5 0 0 ∷ type 6 0 0 ∷ type 7 0 0 ∷ type 8 0 0 ∷ type 9 0 0 ∷ type 10 0 0 ∷ type 11 0 0
      ∷ type 12 0 0 ∷ type 13 0 0 ∷ type 14 6 0 ∷ type 15 6 5 ∷ type 16 0 15 ∷ [];
  fields =
      field 0 0 ∷ field 1 0 ∷ field 2 0 ∷ field 3 0 ∷ field 4 0 ∷ field 5 0 ∷ field 6 0 ∷ field 7 0 ∷ field 8 0 ∷ field 9 0 ∷ field 10 0 ∷ field 11 0
      ∷ field 12 0 ∷ field 13 0 ∷ field 14 0 ∷ [];
  methods = [];
}

-- Two bytes of bitmap; 1, 1, 2, 4, 8, 1, 2, 4, 8, 4 and 8 bytes of scalars; "ok"; a byte; two numbers; and two pairs, the key before the value.
pub each-kind : ReadHold kinds
    (case 15
    (0xFF ∷ 0x7F
    ∷ 0x01 ∷ 0x80 ∷ 0x01 ∷ 0x02 ∷ 0x01 ∷ 0x02 ∷ 0x03 ∷ 0x04 ∷ 0x01 ∷ 0x02 ∷ 0x03 ∷ 0x04 ∷ 0x05 ∷ 0x06 ∷ 0x07 ∷ 0x08
    ∷ 0xFF ∷ 0x01 ∷ 0x02 ∷ 0x01 ∷ 0x02 ∷ 0x03 ∷ 0x04 ∷ 0x01 ∷ 0x02 ∷ 0x03 ∷ 0x04 ∷ 0x05 ∷ 0x06 ∷ 0x07 ∷ 0x08
    ∷ 0x00 ∷ 0x00 ∷ 0x80 ∷ 0x3F ∷ 0x00 ∷ 0x00 ∷ 0x00 ∷ 0x00 ∷ 0x00 ∷ 0x00 ∷ 0xF0 ∷ 0x3F
    ∷ 0x02 ∷ 0x6F ∷ 0x6B ∷ 0x01 ∷ 0xFF
    ∷ 0x02 ∷ 0x01 ∷ 0x02 ∷ 0x03 ∷ 0x04
    ∷ 0x02 ∷ 0x0A ∷ 0x0B ∷ 0x0C ∷ 0x0A ∷ 0x0D ∷ 0x0C ∷ []) 4096
    (accepted
    (row 15 0 62 15
    ∷ row 0 2 1 0 ∷ row 1 3 1 0 ∷ row 2 4 2 0 ∷ row 3 6 4 0 ∷ row 4 10 8 0 ∷ row 5 18 1 0 ∷ row 6 19 2 0 ∷ row 7 21 4 0 ∷ row 8 25 8 0
    ∷ row 9 33 4 0 ∷ row 10 37 8 0 ∷ row 11 46 2 0 ∷ row 12 49 1 0
    ∷ row 13 51 4 2 ∷ row 6 51 2 0 ∷ row 6 53 2 0
    ∷ row 14 56 6 2 ∷ row 6 56 2 0 ∷ row 5 58 1 0 ∷ row 6 59 2 0 ∷ row 5 61 1 0 ∷ []) 62 0 1) ∷ [])
unfolding kinds answers
each-kind = refl

-- T with a field added to the struct inside the answer's array, and T with one added to the answer itself. Both are an optional uint8.
unfoldable pub inner_added : Table
inner_added = record {
  types = type 6 0 0 ∷ type 12 0 0 ∷ type 16 0 3 ∷ type 14 2 0 ∷ type 16 3 2 ∷ [];
  fields = field 0 0 ∷ field 1 1 ∷ field 0 1 ∷ field 3 0 ∷ field 0 1 ∷ [];
  methods = [];
}

unfoldable pub root_added : Table
root_added = record {
  types = type 6 0 0 ∷ type 12 0 0 ∷ type 16 0 2 ∷ type 14 2 0 ∷ type 16 2 3 ∷ [];
  fields = field 0 0 ∷ field 1 1 ∷ field 3 0 ∷ field 0 1 ∷ field 0 1 ∷ [];
  methods = [];
}

-- By the new tables P5 and P6 have no unknown bit. By T, P5 is 26 at the bitmap of the first struct that carries the field, and P6 has a tail.
pub inner-added : ReadHold inner_added
    (case 4 (0x01 ∷ 0x02 ∷ 0x05 ∷ 0x00 ∷ 0x05 ∷ 0x01 ∷ 0x07 ∷ []) 4096
    (accepted (row 4 0 7 1 ∷ row 3 2 5 2 ∷ row 2 2 3 2 ∷ row 0 3 1 0 ∷ row 0 4 1 0 ∷ row 2 5 2 1 ∷ row 0 6 1 0 ∷ []) 7 0 0) ∷ [])
unfolding inner_added answers
inner-added = refl

pub root-added : ReadHold root_added
    (case 4 (0x05 ∷ 0x01 ∷ 0x01 ∷ 0x07 ∷ 0x09 ∷ []) 4096
    (accepted (row 4 0 5 2 ∷ row 3 2 2 1 ∷ row 2 2 2 1 ∷ row 0 3 1 0 ∷ row 0 4 1 0 ∷ []) 5 0 0) ∷ [])
unfolding root_added answers
root-added = refl

-- ---- T beside another's table: the payload is read by theirs and shown by T

-- T with seven fields more in the struct inside the array, so that its bitmap has two bytes, and with a struct of its own.
unfoldable pub widened : Table
widened = record {
  types = type 6 0 0 ∷ type 12 0 0 ∷ type 16 0 9 ∷ type 14 2 0 ∷ type 16 9 2 ∷ type 16 0 1 ∷ [];
  fields = field 0 0 ∷ field 1 1 ∷ (replicate 7 (field 0 1) ++ (field 3 0 ∷ field 0 1 ∷ []));
  methods = [];
}

-- T with a map of uint8 to uint8 added to both structs.
unfoldable pub map_added : Table
map_added = record {
  types = type 6 0 0 ∷ type 12 0 0 ∷ type 16 0 3 ∷ type 14 2 0 ∷ type 16 3 3 ∷ type 15 0 0 ∷ [];
  fields = field 0 0 ∷ field 1 1 ∷ field 5 1 ∷ field 3 0 ∷ field 0 1 ∷ field 5 1 ∷ [];
  methods = [];
}

abbrev inner_cases : List ReadCase
inner_cases =
    -- P5 with room for the rows shown, and for one less.
    case 4 (0x01 ∷ 0x02 ∷ 0x05 ∷ 0x00 ∷ 0x05 ∷ 0x01 ∷ 0x07 ∷ []) 6
    (accepted (row 4 0 7 1 ∷ row 3 2 5 2 ∷ row 2 2 3 1 ∷ row 0 3 1 0 ∷ row 2 5 2 1 ∷ row 0 6 1 0 ∷ []) 7 0 0)
    ∷ case 4 (0x01 ∷ 0x02 ∷ 0x05 ∷ 0x00 ∷ 0x05 ∷ 0x01 ∷ 0x07 ∷ []) 5 (refusal 30 0)
    ∷ []

abbrev root_cases : List ReadCase
root_cases =
    -- P6 has no tail here; a bit that theirs does not know gives one, and is 26 in an inner struct; P8 lacks the added field; type 0 is no struct.
    case 4 (0x05 ∷ 0x01 ∷ 0x01 ∷ 0x07 ∷ 0x09 ∷ []) 4 (accepted (row 4 0 5 1 ∷ row 3 2 2 1 ∷ row 2 2 2 1 ∷ row 0 3 1 0 ∷ []) 5 0 0)
    ∷ case 4 (0x0D ∷ 0x01 ∷ 0x01 ∷ 0x07 ∷ 0x09 ∷ 0xAA ∷ []) 4 (accepted (row 4 0 5 1 ∷ row 3 2 2 1 ∷ row 2 2 2 1 ∷ row 0 3 1 0 ∷ []) 5 1 0)
    ∷ case 4 (0x01 ∷ 0x01 ∷ 0x05 ∷ 0x07 ∷ 0x09 ∷ []) 4 (refusal 26 2)
    ∷ case 4 (0x05 ∷ 0x01 ∷ 0x01 ∷ 0x07 ∷ []) 4 (refusal 20 4)
    ∷ case 0 [] 4 (refusal 46 0)
    ∷ []

abbrev wide_cases : List ReadCase
wide_cases =
    -- The known bits are those of the first byte, with an added field's bit in it and without; the struct that only theirs has is 46.
    case 4 (0x01 ∷ 0x01 ∷ 0x05 ∷ 0x01 ∷ 0x07 ∷ 0xAA ∷ 0xBB ∷ []) 4 (accepted (row 4 0 7 1 ∷ row 3 2 5 1 ∷ row 2 2 5 1 ∷ row 0 4 1 0 ∷ []) 7 0 0)
    ∷ case 4 (0x01 ∷ 0x01 ∷ 0x01 ∷ 0x01 ∷ 0x07 ∷ 0xBB ∷ []) 4 (accepted (row 4 0 6 1 ∷ row 3 2 4 1 ∷ row 2 2 4 1 ∷ row 0 4 1 0 ∷ []) 6 0 0)
    ∷ case 5 (0x01 ∷ 0x07 ∷ []) 4 (refusal 46 0)
    ∷ []

abbrev map_cases : List ReadCase
map_cases =
    -- An added map of three keys in the inner struct and one of two keys in the root: their comparisons are counted, 3 and 1. A key that comes
    -- again in an added map is refused at its place, though the map is not shown.
    case 4 (0x05 ∷ 0x01 ∷ 0x05 ∷ 0x07 ∷ 0x03 ∷ 0x01 ∷ 0x09 ∷ 0x02 ∷ 0x09 ∷ 0x03 ∷ 0x09 ∷ 0x02 ∷ 0x01 ∷ 0x09 ∷ 0x02 ∷ 0x09 ∷ []) 4
    (accepted (row 4 0 16 1 ∷ row 3 2 9 1 ∷ row 2 2 9 1 ∷ row 0 3 1 0 ∷ []) 16 0 4)
    ∷ case 4 (0x05 ∷ 0x00 ∷ 0x02 ∷ 0x01 ∷ 0x09 ∷ 0x01 ∷ 0x09 ∷ []) 4 (refusal 24 5)
    ∷ []

abbrev HoldBeside : Table → List ReadCase → Type 0
HoldBeside theirs cases = map (λ (c : ReadCase). beside.read_beside T theirs c.type c.payload c.room) cases ≡ map (λ (c : ReadCase). c.answer) cases

pub beside-cases : HoldBeside inner_added inner_cases × HoldBeside root_added root_cases × HoldBeside widened wide_cases × HoldBeside map_added map_cases
unfolding T inner_added root_added widened map_added beside.read_beside beside.pruned answers
beside-cases = (refl, refl, refl, refl)

-- 0 bool, 1 uint8, 2 string, 3 map of string to uint8, 4 array of itself, 5 struct (optional 5, 3, 2, 0, 4, 6), 6 struct of nine fields, the first
-- a uint8, the others optional bools.
unfoldable pub U : Table
U = record {
  types = type 1 0 0 ∷ type 6 0 0 ∷ type 12 0 0 ∷ type 15 2 1 ∷ type 14 4 0 ∷ type 16 0 6 ∷ type 16 6 9 ∷ [];
  fields = field 5 1 ∷ field 3 1 ∷ field 2 1 ∷ field 0 1 ∷ field 4 1 ∷ field 6 1 ∷ field 1 0 ∷ replicate 8 (field 0 1);
  methods = [];
}

abbrev faults : List ReadCase
faults =
    -- A bitmap: cut, though its required bit lacks already; then 25, before 26; then 26.
    case 5 (0x20 ∷ 0x00 ∷ []) 9 (refusal 20 1)
    ∷ case 5 (0x20 ∷ 0x00 ∷ 0x01 ∷ []) 9 (refusal 25 1)
    ∷ case 5 (0x20 ∷ 0x00 ∷ 0xFE ∷ []) 9 (refusal 25 1)
    ∷ case 5 (0x20 ∷ 0x01 ∷ 0x02 ∷ 0x07 ∷ []) 9 (refusal 26 1)
    ∷ case 5 (0x20 ∷ 0x01 ∷ 0x01 ∷ 0x07 ∷ 0x01 ∷ []) 9 (accepted (row 5 0 5 1 ∷ row 6 1 4 2 ∷ row 1 3 1 0 ∷ row 0 4 1 0 ∷ []) 5 0 0)
    -- A scalar that is missing; a bool.
    ∷ case 5 (0x08 ∷ []) 9 (refusal 20 1)
    ∷ case 5 (0x08 ∷ 0x02 ∷ []) 9 (refusal 22 1)
    -- A string: its content; a length above what remains; a malformed length, and one that is cut.
    ∷ case 5 (0x04 ∷ 0x01 ∷ 0xFF ∷ []) 9 (refusal 23 2)
    ∷ case 5 (0x04 ∷ 0x02 ∷ 0x61 ∷ []) 9 (refusal 20 1)
    ∷ case 5 (0x04 ∷ (replicate 9 0x80 ++ (0x02 ∷ []))) 9 (refusal 21 1)
    ∷ case 5 (0x04 ∷ replicate 9 0x80) 9 (refusal 20 1)
    -- The length with a spare group, of two bytes and of ten, before what remains is looked at; ten bytes without one; cut after one byte.
    ∷ case 5 (0x04 ∷ 0x81 ∷ 0x00 ∷ 0x61 ∷ []) 9 (refusal 21 1)
    ∷ case 5 (0x04 ∷ 0x82 ∷ 0x00 ∷ 0x61 ∷ []) 9 (refusal 21 1)
    ∷ case 5 (0x04 ∷ (replicate 9 0x80 ++ (0x00 ∷ []))) 9 (refusal 21 1)
    ∷ case 5 (0x04 ∷ (replicate 9 0x80 ++ (0x01 ∷ []))) 9 (refusal 20 1)
    ∷ case 5 (0x04 ∷ 0x80 ∷ []) 9 (refusal 20 1)
    -- A count the same: of a map, and of an array.
    ∷ case 5 (0x02 ∷ 0x80 ∷ 0x00 ∷ []) 9 (refusal 21 1)
    ∷ case 5 (0x02 ∷ (replicate 9 0x80 ++ (0x00 ∷ []))) 9 (refusal 21 1)
    ∷ case 5 (0x02 ∷ 0x80 ∷ []) 9 (refusal 20 1)
    ∷ case 5 (0x10 ∷ 0x81 ∷ 0x00 ∷ 0x00 ∷ []) 9 (refusal 21 1)
    ∷ case 5 (0x10 ∷ (replicate 9 0x80 ++ (0x01 ∷ []))) 9 (refusal 20 1)
    -- A map: twice its count is above what remains; a key that was there before, with its value missing; a later key whose length has a spare group.
    ∷ case 5 (0x02 ∷ 0x01 ∷ 0x00 ∷ []) 9 (refusal 20 1)
    ∷ case 5 (0x02 ∷ 0x02 ∷ 0x01 ∷ 0x61 ∷ 0x05 ∷ 0x01 ∷ 0x61 ∷ []) 9 (refusal 24 5)
    ∷ case 5 (0x02 ∷ 0x02 ∷ 0x01 ∷ 0x61 ∷ 0x05 ∷ 0x81 ∷ 0x00 ∷ 0x61 ∷ []) 9 (refusal 21 5)
    ∷ case 5 (0x02 ∷ 0x02 ∷ 0x01 ∷ 0x61 ∷ 0x05 ∷ 0x01 ∷ 0x62 ∷ 0x06 ∷ []) 9
    (accepted (row 5 0 8 1 ∷ row 3 2 6 2 ∷ row 2 3 1 0 ∷ row 1 4 1 0 ∷ row 2 6 1 0 ∷ row 1 7 1 0 ∷ []) 8 0 1)
    -- Keys of nine bytes that differ in the last of them alone, and that are the same.
    ∷ case 5 (0x02 ∷ 0x02 ∷ 0x09 ∷ (replicate 8 0x61 ++ (0x62 ∷ 0x05 ∷ 0x09 ∷ (replicate 8 0x61 ++ (0x63 ∷ 0x06 ∷ []))))) 9
    (accepted (row 5 0 24 1 ∷ row 3 2 22 2 ∷ row 2 3 9 0 ∷ row 1 12 1 0 ∷ row 2 14 9 0 ∷ row 1 23 1 0 ∷ []) 24 0 1)
    ∷ case 5 (0x02 ∷ 0x02 ∷ 0x09 ∷ (replicate 9 0x61 ++ (0x05 ∷ 0x09 ∷ (replicate 9 0x61 ++ (0x06 ∷ []))))) 9 (refusal 24 13)
    -- The tail: a byte for each unknown bit, which is not read. Surplus bytes without one.
    ∷ case 5 (0xC0 ∷ 0x09 ∷ []) 9 (refusal 20 1)
    ∷ case 5 (0xC0 ∷ 0x80 ∷ 0x00 ∷ []) 9 (accepted (row 5 0 1 0 ∷ []) 1 2 0)
    ∷ case 5 (0x00 ∷ 0x09 ∷ []) 9 (refusal 27 1)
    -- Depth 16 is allowed. 28 comes before a missing child, and a count above what remains before 28.
    ∷ case 5 (replicate 15 0x01 ++ (0x00 ∷ [])) 15 (refusal 30 0)
    ∷ case 5 (replicate 16 0x01) 99 (refusal 28 16)
    ∷ case 5 (0x10 ∷ replicate 15 0x01) 99 (refusal 20 15)
    ∷ case 5 (0x10 ∷ (replicate 15 0x01 ++ (0x00 ∷ []))) 99 (refusal 28 16)
    -- No struct, before a payload that is too long, before what it holds. Too few rows is last.
    ∷ case 4 (replicate 16385 0x10) 0 (refusal 46 0)
    ∷ case 7 [] 0 (refusal 46 0)
    ∷ case 5 (replicate 16385 0x10) 0 (refusal 7 0)
    ∷ case 5 (0x08 ∷ 0x02 ∷ []) 0 (refusal 22 1)
    ∷ case 5 (0x00 ∷ []) 0 (refusal 30 0)
    ∷ []

pub read-faults : ReadHold U faults
unfolding U answers
read-faults = refl

abbrev limits : List ReadCase
limits =
    -- 65 pairs are refused at the count: after 20 and 21, and before what a key shows, a repeated one's 24 and a deep one's 28. The map's own 28 comes first.
    case 5 (0x02 ∷ 0x41 ∷ replicate 130 0x00) 0 (refusal 31 1)
    ∷ case 5 (0x02 ∷ 0x41 ∷ replicate 129 0x00) 0 (refusal 20 1)
    ∷ case 5 (0x02 ∷ 0xC1 ∷ 0x00 ∷ replicate 130 0x00) 0 (refusal 21 1)
    ∷ case 5 (replicate 15 0x01 ++ (0x02 ∷ 0x41 ∷ replicate 130 0x00)) 0 (refusal 28 16)
    ∷ case 5 (replicate 14 0x01 ++ (0x02 ∷ 0x41 ∷ replicate 130 0x00)) 0 (refusal 31 15)
    ∷ case 5 (0x02 ∷ 0x40 ∷ replicate 128 0x00) 0 (refusal 24 4)
    ∷ case 5 (replicate 14 0x01 ++ (0x02 ∷ 0x40 ∷ replicate 128 0x00)) 0 (refusal 28 16)
    ∷ []

pub read-limits : ReadHold U limits
unfolding U answers
read-limits = refl

-- n pairs of a string of one byte, from k up, and a zero, and their rows from a place on.
abbrev pair_bytes : (n k : ℕ) → List ℕ
pair_bytes zero k = []
pair_bytes (suc n) k = 0x01 ∷ k ∷ 0x00 ∷ pair_bytes n (k + 1)

abbrev pair_rows : (n place : ℕ) → List Row
pair_rows zero p = []
pair_rows (suc n) p = row 2 (p + 1) 1 0 ∷ row 1 (p + 2) 1 0 ∷ pair_rows n (p + 3)

-- 64 pairs are allowed, with 2,016 comparisons, and 65 are not.
abbrev full : List ReadCase
full =
    case 5 (0x02 ∷ 0x40 ∷ pair_bytes 64 0) 130 (accepted (row 5 0 194 1 ∷ row 3 2 192 64 ∷ pair_rows 64 2) 194 0 2016)
    ∷ case 5 (0x02 ∷ 0x41 ∷ pair_bytes 65 0) 132 (refusal 31 1)
    ∷ []

pub read-full : ReadHold U full
unfolding U answers
read-full = refl

-- 0 uint8, 1 map of uint8 to uint8, 2 map of uint8 to 1, 3 array of 1, 4 struct (optional 1, 2, 3).
unfoldable pub M : Table
M = record {
  types = type 6 0 0 ∷ type 15 0 0 ∷ type 15 0 1 ∷ type 14 1 0 ∷ type 16 0 3 ∷ [];
  fields = field 1 1 ∷ field 2 1 ∷ field 3 1 ∷ [];
  methods = [];
}

-- The rows of n uint8, from a place up.
abbrev uint8s : (n place : ℕ) → List Row
uint8s zero p = []
uint8s (suc n) p = row 0 p 1 0 ∷ uint8s n (p + 1)

abbrev keys : List ReadCase
keys =
    -- No key, and one alone: no comparison. Two: one. Three: three.
    case 4 (0x01 ∷ 0x00 ∷ []) 9 (accepted (row 4 0 2 1 ∷ row 1 2 0 0 ∷ []) 2 0 0)
    ∷ case 4 (0x01 ∷ 0x01 ∷ 0x05 ∷ 0x06 ∷ []) 9 (accepted (row 4 0 4 1 ∷ row 1 2 2 1 ∷ uint8s 2 2) 4 0 0)
    ∷ case 4 (0x01 ∷ 0x02 ∷ 0x05 ∷ 0x06 ∷ 0x07 ∷ 0x08 ∷ []) 9 (accepted (row 4 0 6 1 ∷ row 1 2 4 2 ∷ uint8s 4 2) 6 0 1)
    ∷ case 4 (0x01 ∷ 0x03 ∷ 0x05 ∷ 0x06 ∷ 0x07 ∷ 0x08 ∷ 0x09 ∷ 0x0A ∷ []) 9 (accepted (row 4 0 8 1 ∷ row 1 2 6 3 ∷ uint8s 6 2) 8 0 3)
    -- Two maps in a map: 1 and 3 and 1. Keys of different maps are not compared.
    ∷ case 4 (0x02 ∷ 0x02 ∷ 0x07 ∷ 0x03 ∷ 0x01 ∷ 0x00 ∷ 0x02 ∷ 0x00 ∷ 0x03 ∷ 0x00 ∷ 0x08 ∷ 0x02 ∷ 0x01 ∷ 0x00 ∷ 0x02 ∷ 0x00 ∷ []) 99
    (accepted (row 4 0 16 1 ∷ row 2 2 14 2 ∷ row 0 2 1 0 ∷ row 1 4 6 3 ∷ (uint8s 6 4 ++ (row 0 10 1 0 ∷ row 1 12 4 2 ∷ uint8s 4 12))) 16 0 5)
    -- A map, and two in an array: 1 and 3 and 0.
    ∷ case 4 (0x05 ∷ 0x02 ∷ 0x01 ∷ 0x00 ∷ 0x02 ∷ 0x00 ∷ 0x02 ∷ 0x03 ∷ 0x01 ∷ 0x00 ∷ 0x02 ∷ 0x00 ∷ 0x03 ∷ 0x00 ∷ 0x00 ∷ []) 99
    (accepted (row 4 0 15 2 ∷ row 1 2 4 2 ∷ (uint8s 4 2 ++ (row 3 7 8 2 ∷ row 1 8 6 3 ∷ (uint8s 6 8 ++ (row 1 15 0 0 ∷ []))))) 15 0 4)
    -- The tail is not read, though it looks like a map.
    ∷ case 4 (0x09 ∷ 0x02 ∷ 0x01 ∷ 0x00 ∷ 0x02 ∷ 0x00 ∷ 0x02 ∷ 0x01 ∷ 0x00 ∷ 0x02 ∷ 0x00 ∷ []) 99 (accepted (row 4 0 6 1 ∷ row 1 2 4 2 ∷ uint8s 4 2) 6 5 1)
    ∷ []

pub read-keys : ReadHold M keys
unfolding M answers
read-keys = refl

-- ---- the writer: a type, a sheet, its bytes, the room for the output and the answer
pub record Sheet : Type 0 where
  pub type : ℕ
  pub rows : List Row
  pub over : List ℕ
  pub room : ℕ
  pub answer : Writing

abbrev sheet : ℕ → List Row → List ℕ → ℕ → Writing → Sheet
sheet t rs B room w = record { type = t; rows = rs; over = B; room = room; answer = w }

-- T, and after it: 5 bool, 6 map of string to bool, 7 struct (bool, optional map), 8 struct (optional 8, optional 6), 9 bytes, 10 struct (bytes).
unfoldable pub W : Table
W = record {
  types =
      type 6 0 0 ∷ type 12 0 0 ∷ type 16 0 2 ∷ type 14 2 0 ∷ type 16 2 2 ∷ type 1 0 0 ∷ type 15 1 5 ∷ type 16 4 2 ∷ type 16 6 2 ∷ type 13 0 0 ∷ type 16 8 1 ∷ [];
  fields = field 0 0 ∷ field 1 1 ∷ field 3 0 ∷ field 0 1 ∷ field 5 0 ∷ field 6 1 ∷ field 8 1 ∷ field 6 1 ∷ field 9 0 ∷ [];
  methods = [];
}

-- The rows of n pairs: a string of one byte, from a place up, and the bool at place 1.
abbrev key_rows : (n place : ℕ) → List Row
key_rows zero p = []
key_rows (suc n) p = row 1 p 1 0 ∷ row 5 1 1 0 ∷ key_rows n (p + 1)

-- n bytes, from k up.
abbrev rising : (n k : ℕ) → List ℕ
rising zero k = []
rising (suc n) k = k ∷ rising n (k + 1)

abbrev sheets : List Sheet
sheets =
    -- P1; P6 without its unknown bit and tail. Array and map places and composite lengths are not used; bytes may be shared.
    sheet 4 (row 4 0 9 1 ∷ row 3 2 7 2 ∷ row 2 2 5 2 ∷ row 0 3 1 0 ∷ row 1 5 2 0 ∷ row 2 7 2 1 ∷ row 0 8 1 0 ∷ [])
    (0x01 ∷ 0x02 ∷ 0x03 ∷ 0x07 ∷ 0x02 ∷ 0x6F ∷ 0x6B ∷ 0x01 ∷ 0x00 ∷ []) 9 (written (0x01 ∷ 0x02 ∷ 0x03 ∷ 0x07 ∷ 0x02 ∷ 0x6F ∷ 0x6B ∷ 0x01 ∷ 0x00 ∷ []))
    ∷ sheet 4 (row 4 0 4 1 ∷ row 3 2 2 1 ∷ row 2 2 2 1 ∷ row 0 3 1 0 ∷ []) (0x05 ∷ 0x01 ∷ 0x01 ∷ 0x07 ∷ 0x09 ∷ []) 4 (written (0x01 ∷ 0x01 ∷ 0x01 ∷ 0x07 ∷ []))
    ∷ sheet 4 (row 4 0 99 1 ∷ row 3 99 99 2 ∷ row 2 0 0 1 ∷ row 0 0 1 0 ∷ row 2 0 0 1 ∷ row 0 1 1 0 ∷ []) (0x01 ∷ 0x07 ∷ []) 6
    (written (0x01 ∷ 0x02 ∷ 0x01 ∷ 0x01 ∷ 0x01 ∷ 0x07 ∷ []))
    -- No struct. A row missing: at the root, and in an array.
    ∷ sheet 3 [] [] 0 (unwritten 46 0)
    ∷ sheet 4 [] [] 0 (unwritten 50 0)
    ∷ sheet 4 (row 4 0 2 1 ∷ row 3 2 0 1 ∷ []) (0x01 ∷ 0x00 ∷ []) 9 (unwritten 50 2)
    -- Another type; a scalar's length, before 51; a count of a scalar, and of a string.
    ∷ sheet 4 (row 4 0 2 1 ∷ row 2 2 0 0 ∷ []) (0x01 ∷ 0x00 ∷ []) 9 (unwritten 50 1)
    ∷ sheet 7 (row 7 0 2 1 ∷ row 5 9 2 0 ∷ []) (0x01 ∷ 0x00 ∷ []) 9 (unwritten 50 1)
    ∷ sheet 7 (row 7 0 2 1 ∷ row 5 1 1 1 ∷ []) (0x01 ∷ 0x00 ∷ []) 9 (unwritten 50 1)
    ∷ sheet 7 (row 7 0 0 2 ∷ row 5 1 1 0 ∷ row 6 0 0 1 ∷ row 1 0 1 1 ∷ []) (0x03 ∷ 0x00 ∷ []) 9 (unwritten 50 3)
    -- A span outside the bytes: a bitmap, a scalar, a string. An empty one at the end is right, beyond it is not.
    ∷ sheet 4 (row 4 1 2 1 ∷ row 3 2 0 0 ∷ []) (0x01 ∷ []) 9 (unwritten 51 0)
    ∷ sheet 7 (row 7 0 2 1 ∷ row 5 1 1 0 ∷ []) (0x01 ∷ []) 9 (unwritten 51 1)
    ∷ sheet 7 (row 7 0 0 2 ∷ row 5 1 1 0 ∷ row 6 0 0 1 ∷ row 1 1 2 0 ∷ []) (0x03 ∷ 0x00 ∷ []) 9 (unwritten 51 3)
    ∷ sheet 10 (row 10 0 0 1 ∷ row 9 1 0 0 ∷ []) (0x01 ∷ []) 9 (written (0x01 ∷ 0x00 ∷ []))
    ∷ sheet 10 (row 10 0 0 1 ∷ row 9 2 0 0 ∷ []) (0x01 ∷ []) 9 (unwritten 51 1)
    -- A bool, UTF-8. A required field absent, before an unknown bit and the count; an unknown bit in an inner struct; a struct's count.
    ∷ sheet 7 (row 7 0 2 1 ∷ row 5 1 1 0 ∷ []) (0x01 ∷ 0x02 ∷ []) 9 (unwritten 22 1)
    ∷ sheet 7 (row 7 0 0 2 ∷ row 5 1 1 0 ∷ row 6 0 0 1 ∷ row 1 2 1 0 ∷ []) (0x03 ∷ 0x00 ∷ 0xFF ∷ []) 9 (unwritten 23 3)
    ∷ sheet 4 (row 4 0 2 1 ∷ row 3 2 0 1 ∷ row 2 1 0 9 ∷ row 0 0 1 0 ∷ []) (0x01 ∷ 0x04 ∷ []) 9 (unwritten 25 2)
    ∷ sheet 4 (row 4 0 2 1 ∷ row 3 2 0 1 ∷ row 2 1 0 1 ∷ row 0 0 1 0 ∷ []) (0x01 ∷ 0x05 ∷ []) 9 (unwritten 50 2)
    ∷ sheet 4 (row 4 0 2 2 ∷ row 3 2 0 0 ∷ []) (0x01 ∷ 0x00 ∷ []) 9 (unwritten 50 0)
    -- A key that was there before, though the row of its value is missing.
    ∷ sheet 7 (row 7 0 0 2 ∷ row 5 1 1 0 ∷ row 6 0 0 2 ∷ row 1 2 1 0 ∷ row 5 1 1 0 ∷ row 1 2 1 0 ∷ []) (0x03 ∷ 0x00 ∷ 0x61 ∷ []) 9 (unwritten 24 5)
    -- Keys of nine bytes that differ in the last of them alone.
    ∷ sheet 7 (row 7 0 0 2 ∷ row 5 1 1 0 ∷ row 6 0 0 2 ∷ row 1 2 9 0 ∷ row 5 1 1 0 ∷ row 1 3 9 0 ∷ row 5 1 1 0 ∷ [])
    (0x03 ∷ 0x00 ∷ (replicate 9 0x61 ++ (0x62 ∷ []))) 25
    (written (0x03 ∷ 0x00 ∷ 0x02 ∷ 0x09 ∷ (replicate 9 0x61 ++ (0x00 ∷ 0x09 ∷ (replicate 8 0x61 ++ (0x62 ∷ 0x00 ∷ []))))))
    -- 64 pairs are allowed. 65 are refused at the map's row: after 50 for its type, and before the first key's row, a missing one or one that is too deep.
    ∷ sheet 7 (row 7 0 0 2 ∷ row 5 1 1 0 ∷ row 6 0 0 64 ∷ key_rows 64 2) (0x03 ∷ 0x00 ∷ rising 64 0) 195 (written (0x03 ∷ 0x00 ∷ 0x40 ∷ pair_bytes 64 0))
    ∷ sheet 7 (row 7 0 0 2 ∷ row 5 1 1 0 ∷ row 6 0 0 65 ∷ key_rows 65 2) (0x03 ∷ 0x00 ∷ rising 65 0) 198 (unwritten 31 2)
    ∷ sheet 7 (row 7 0 0 2 ∷ row 5 1 1 0 ∷ row 3 0 0 65 ∷ []) (0x03 ∷ 0x00 ∷ []) 9 (unwritten 50 2)
    ∷ sheet 7 (row 7 0 0 2 ∷ row 5 1 1 0 ∷ row 6 0 0 65 ∷ []) (0x03 ∷ 0x00 ∷ []) 9 (unwritten 31 2)
    ∷ sheet 7 (row 7 0 0 2 ∷ row 5 1 1 0 ∷ row 6 0 0 64 ∷ []) (0x03 ∷ 0x00 ∷ []) 9 (unwritten 50 3)
    ∷ sheet 8 (replicate 14 (row 8 0 0 1) ++ (row 8 1 0 1 ∷ row 6 0 0 65 ∷ [])) (0x01 ∷ 0x02 ∷ []) 99 (unwritten 31 15)
    ∷ sheet 8 (replicate 14 (row 8 0 0 1) ++ (row 8 1 0 1 ∷ row 6 0 0 64 ∷ [])) (0x01 ∷ 0x02 ∷ []) 99 (unwritten 28 16)
    -- Depth 17, though its row is missing; a row missing at depth 16.
    ∷ sheet 8 (replicate 16 (row 8 0 0 1)) (0x01 ∷ []) 99 (unwritten 28 16)
    ∷ sheet 8 (replicate 15 (row 8 0 0 1)) (0x01 ∷ []) 99 (unwritten 50 15)
    -- Rows left over, before 7; a payload that is too long, before the room; the room.
    ∷ sheet 10 (row 10 0 0 1 ∷ row 9 0 16384 0 ∷ row 9 0 0 0 ∷ []) (replicate 16384 1) 0 (unwritten 50 2)
    ∷ sheet 10 (row 10 0 0 1 ∷ row 9 0 16384 0 ∷ []) (replicate 16384 1) 0 (unwritten 7 0)
    ∷ sheet 4 (row 4 0 2 1 ∷ row 3 2 0 0 ∷ []) (0x01 ∷ 0x00 ∷ []) 1 (unwritten 52 0)
    ∷ []

pub write-cases : map (λ (c : Sheet). write.write W c.type c.rows c.over c.room) sheets ≡ map (λ (c : Sheet). c.answer) sheets
unfolding W write.write write.show_root write.show write.row_due write.next_row write.bits_at spell.encode little.little little.bytes varuint.shortest varuint.varuint_bytes answers
write-cases = refl

-- The rows shown of T beside `widened`, written by T: the added field is left out, and the bitmap has T's one byte. Where an added field's bit stands in
-- that byte, the inner struct's row is refused.
abbrev shown_sheets : List Sheet
shown_sheets =
    sheet 4 (row 4 0 6 1 ∷ row 3 2 4 1 ∷ row 2 2 4 1 ∷ row 0 4 1 0 ∷ []) (0x01 ∷ 0x01 ∷ 0x01 ∷ 0x01 ∷ 0x07 ∷ 0xBB ∷ []) 4 (written (0x01 ∷ 0x01 ∷ 0x01 ∷ 0x07 ∷ []))
    ∷ sheet 4 (row 4 0 7 1 ∷ row 3 2 5 1 ∷ row 2 2 5 1 ∷ row 0 4 1 0 ∷ []) (0x01 ∷ 0x01 ∷ 0x05 ∷ 0x01 ∷ 0x07 ∷ 0xAA ∷ 0xBB ∷ []) 4 (unwritten 50 2)
    ∷ []

pub beside-written : map (λ (c : Sheet). write.write T c.type c.rows c.over c.room) shown_sheets ≡ map (λ (c : Sheet). c.answer) shown_sheets
unfolding T write.write write.show_root write.show write.row_due write.next_row write.bits_at spell.encode little.little little.bytes varuint.shortest varuint.varuint_bytes
    read.walk read.present read.required_set table.shape answer.and_then answer.check utf8.run utf8.next utf8.lead_of utf8.rows value.value
beside-written = refl
