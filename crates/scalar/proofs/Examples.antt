-- Rows of each kind over their bytes, and each refusal, computed.
use mathlib.Core.Path.{◌≡◌, refl}
use mathlib.Core.Bool.{true, false}
use mathlib.Core.List.{List, [], ◌∷◌, map}
use Prim.Native.Nat.{ℕ}
use lib.Ieee as ieee
use lib.Ieee.{nan, inf}
use lib.IntN.{pos, negsuc}
use Rattle.wire.specs.Little as little
use Rattle.utf8.specs.Utf8 as utf8
use Rattle.schema.specs.declared.TypeRow.{TypeRow}
use Rattle.schema.specs.Table as table
use Rattle.schema.specs.Table.{Table}
use Rattle.value.specs.declared.Row.{Row}
use Rattle.scalar.specs.declared.Scalar.{Scalar}
use Rattle.scalar.specs.declared.Scalar.TheVariants.{Truth, Signed, Unsigned, Float32, Float64, Span}
use Rattle.scalar.specs.Answer.{Answer, Is}
use Rattle.scalar.specs.Scalar as scalar

abbrev type : ℕ → ℕ → ℕ → TypeRow
type k a b = record { kind = k; a = a; b = b }

-- Type number k is of kind k; type 0 is a second bool, and there is no type 17.
unfoldable pub kinds : Table
kinds = record {
  types = type 1 0 0
      ∷ type 1 0 0 ∷ type 2 0 0 ∷ type 3 0 0 ∷ type 4 0 0 ∷ type 5 0 0 ∷ type 6 0 0 ∷ type 7 0 0 ∷ type 8 0 0 ∷ type 9 0 0
      ∷ type 10 0 0 ∷ type 11 0 0 ∷ type 12 0 0 ∷ type 13 0 0 ∷ type 14 0 0 ∷ type 15 0 0 ∷ type 16 0 1 ∷ [];
  fields = record { ty = 0; optional = 0 } ∷ [];
  methods = [];
}

-- A row over some bytes.
pub record ScalarCase : Type 0 where
  pub row : Row
  pub bytes : List ℕ

abbrev case : (type place length count : ℕ) → List ℕ → ScalarCase
case t p n c s = record { row = record { ty = t; place = p; length = n; count = c }; bytes = s }

abbrev answer : ScalarCase → Answer
answer c = scalar.scalar_of kinds c.row c.bytes

-- ---- values

abbrev given : List ScalarCase
given =
    case 1 0 1 0 (0x00 ∷ [])
    ∷ case 1 1 1 0 (0x02 ∷ 0x01 ∷ [])
    ∷ case 2 0 1 0 (0x80 ∷ [])
    ∷ case 2 0 1 0 (0xFF ∷ [])
    ∷ case 2 0 1 0 (0x7F ∷ [])
    ∷ case 3 1 2 0 (0x09 ∷ 0x00 ∷ 0x80 ∷ 0x09 ∷ [])
    ∷ case 4 0 4 0 (0xFE ∷ 0xFF ∷ 0xFF ∷ 0xFF ∷ [])
    ∷ case 5 0 8 0 (0x00 ∷ 0x00 ∷ 0x00 ∷ 0x00 ∷ 0x00 ∷ 0x00 ∷ 0x00 ∷ 0x80 ∷ [])
    ∷ case 6 0 1 0 (0x80 ∷ [])
    ∷ case 7 0 2 0 (0x34 ∷ 0x12 ∷ [])
    ∷ case 8 0 4 0 (0x78 ∷ 0x56 ∷ 0x34 ∷ 0x12 ∷ [])
    ∷ case 9 0 8 0 (0xFF ∷ 0xFF ∷ 0xFF ∷ 0xFF ∷ 0xFF ∷ 0xFF ∷ 0xFF ∷ 0xFF ∷ [])
    ∷ case 10 0 4 0 (0x00 ∷ 0x00 ∷ 0x80 ∷ 0xFF ∷ [])
    ∷ case 10 0 4 0 (0x01 ∷ 0x00 ∷ 0x80 ∷ 0x7F ∷ [])
    ∷ case 10 0 4 0 (0x00 ∷ 0x00 ∷ 0xC0 ∷ 0xFF ∷ [])
    ∷ case 11 0 8 0 (0x00 ∷ 0x00 ∷ 0x00 ∷ 0x00 ∷ 0x00 ∷ 0x00 ∷ 0xF0 ∷ 0x7F ∷ [])
    ∷ case 11 0 8 0 (0x01 ∷ 0x00 ∷ 0x00 ∷ 0x00 ∷ 0x00 ∷ 0x00 ∷ 0xF0 ∷ 0xFF ∷ [])
    ∷ case 12 1 2 0 (0x02 ∷ 0x6F ∷ 0x6B ∷ [])
    ∷ case 12 2 0 0 (0x6F ∷ 0x6B ∷ [])
    ∷ case 13 0 2 0 (0xC0 ∷ 0x80 ∷ [])
    ∷ []

-- -128 and -1 for 80 and FF as int8; a NaN keeps its bits; an empty span may stand at the end.
abbrev values : List Scalar
values =
    Truth false
    ∷ Truth true
    ∷ Signed (negsuc 127)
    ∷ Signed (negsuc 0)
    ∷ Signed (pos 127)
    ∷ Signed (negsuc 32767)
    ∷ Signed (negsuc 1)
    ∷ Signed (negsuc 9223372036854775807)
    ∷ Unsigned 128
    ∷ Unsigned 0x1234
    ∷ Unsigned 0x12345678
    ∷ Unsigned 18446744073709551615
    ∷ Float32 (inf true) 0xFF800000
    ∷ Float32 nan 0x7F800001
    ∷ Float32 nan 0xFFC00000
    ∷ Float64 (inf false) 0x7FF0000000000000
    ∷ Float64 nan 0xFFF0000000000001
    ∷ Span 1 2
    ∷ Span 2 0
    ∷ Span 0 2
    ∷ []

pub values-hold : map answer given ≡ map (λ (x : Scalar). Is x) values
unfolding kinds scalar.scalar_of scalar.scalar_at scalar.text_at scalar.value_of table.shape little.little little.twos utf8.run utf8.next utf8.lead_of utf8.rows ieee.of_bits ieee.of_fields ieee.odd
values-hold = refl

-- ---- refusals

abbrev refused : List ScalarCase
refused =
    -- no such type; an array, a map, a struct
    case 17 0 1 0 (0x00 ∷ [])
    ∷ case 14 0 0 0 []
    ∷ case 15 0 0 0 []
    ∷ case 16 0 1 0 (0x00 ∷ [])
    -- a length that is not the width, also outside the bytes; a count
    ∷ case 2 0 2 0 (0x00 ∷ 0x00 ∷ [])
    ∷ case 9 4 4 0 (0x00 ∷ [])
    ∷ case 1 0 1 1 (0x02 ∷ [])
    ∷ case 12 0 2 1 (0xC0 ∷ 0x80 ∷ [])
    -- one byte short; past the end, empty too; no wrap
    ∷ case 3 1 2 0 (0x00 ∷ 0x00 ∷ [])
    ∷ case 1 1 1 0 (0x02 ∷ [])
    ∷ case 13 3 0 0 (0x00 ∷ 0x00 ∷ [])
    ∷ case 12 4294967295 1 0 (0x00 ∷ [])
    -- a bool of 2; no UTF-8: an overlong form, a surrogate
    ∷ case 1 1 1 0 (0x00 ∷ 0x02 ∷ [])
    ∷ case 12 1 2 0 (0x02 ∷ 0xC0 ∷ 0x80 ∷ [])
    ∷ case 12 0 3 0 (0xED ∷ 0xA0 ∷ 0x80 ∷ [])
    ∷ []

abbrev numbers : List ℕ
numbers = 50 ∷ 50 ∷ 50 ∷ 50 ∷ 50 ∷ 50 ∷ 50 ∷ 50 ∷ 51 ∷ 51 ∷ 51 ∷ 51 ∷ 22 ∷ 23 ∷ 23 ∷ []

abbrev places : List ℕ
places = 0 ∷ 0 ∷ 0 ∷ 0 ∷ 0 ∷ 0 ∷ 0 ∷ 0 ∷ 0 ∷ 0 ∷ 0 ∷ 0 ∷ 1 ∷ 1 ∷ 0 ∷ []

pub refusals_hold : (map (λ (c : ScalarCase). scalar.scalar_number (answer c)) refused ≡ numbers) × (map (λ (c : ScalarCase). scalar.place_of (answer c)) refused ≡ places)
unfolding kinds scalar.scalar_number scalar.place_of scalar.scalar_of scalar.scalar_at scalar.text_at scalar.value_of table.shape little.little little.twos utf8.run utf8.next utf8.lead_of utf8.rows
refusals_hold = (refl, refl)
