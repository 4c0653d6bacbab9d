-- Worked cases: what `read`, and the reader with the writer's file beside ours, answer to some payloads, in numbers, and every cell of the sheet
-- afterwards, with the files that they need beside T's; and a relay, entry by entry.
use Rattle.std.specs.Prelude.{◌≡◌, List, [], ◌∷◌, ◌++◌, map, ℕ, zero, suc, ◌+◌, ◌*◌, length, take, drop, replicate}
use Rattle.value.specs.declared.Row.{Row}
use Rattle.reader.specs.Reading.{Shown}
use Rattle.reader.specs.Entry.{Outcome, outcome, read_outcome, Numbers, numbers}
use Rattle.reader.specs.Beside.{beside_outcome}
use Rattle.writer.specs.Writing.{Written}
use Rattle.writer.specs.Entry as writer
use Rattle.writer.specs.Entry.{file_outcome}
use Rattle.forward.specs.Entry.{forward_outcome}

pub record Case : Type 0 where
  pub payload : List ℕ
  pub told : Numbers
  pub cells : List ℕ

abbrev pub case_of : (payload : List ℕ) → Outcome → Case
case_of payload (outcome r sheet) = record { payload = payload; told = numbers r; cells = sheet }

-- By the schema file, for type ty and with this sheet lent, each of the cases holds.
abbrev pub Hold : (schema : List ℕ) (ty : ℕ) (sheet : List ℕ) → List Case → Type 0
Hold schema ty sheet cases = map (λ (c : Case). case_of c.payload (read_outcome schema ty c.payload sheet)) cases ≡ cases

-- The same with the writer's file beside ours.
abbrev pub HoldBeside : (ours theirs : List ℕ) (ty : ℕ) (sheet : List ℕ) → List Case → Type 0
HoldBeside ours theirs ty sheet cases = map (λ (c : Case). case_of c.payload (beside_outcome ours theirs ty c.payload sheet)) cases ≡ cases

-- ---- P1 to P10 of 01

abbrev pub P5 : List ℕ
P5 = 0x01 ∷ 0x02 ∷ 0x05 ∷ 0x00 ∷ 0x05 ∷ 0x01 ∷ 0x07 ∷ []

abbrev pub P6 : List ℕ
P6 = 0x05 ∷ 0x01 ∷ 0x01 ∷ 0x07 ∷ 0x09 ∷ []

-- Seven rows are lent, and two cells that are not a whole row.
abbrev pub lent : List ℕ
lent = replicate 30 77

abbrev pub told : (number place rows tail_place_of tail_length_of : ℕ) → Numbers
told n q k p l = record { number = n; place = q; rows = k; tail_place_of = p; tail_length_of = l; comparisons = 0 }

-- A payload that is shown: k rows in these cells, with a tail at a place of n bytes; the cells after them stay.
abbrev pub shown : (payload : List ℕ) (k place n : ℕ) (cells : List ℕ) → Case
shown payload k p n cells = record { payload = payload; told = told 0 0 k p n; cells = cells ++ drop (length cells) lent }

abbrev pub refused : (payload : List ℕ) (number place : ℕ) → Case
refused payload n q = record { payload = payload; told = told n q 0 0 0; cells = lent }

-- P1 to P10 in their order; P9 has a spare group, which is refused.
abbrev pub worked : List Case
worked =
    shown (0x01 ∷ 0x02 ∷ 0x03 ∷ 0x07 ∷ 0x02 ∷ 0x6F ∷ 0x6B ∷ 0x01 ∷ 0x00 ∷ []) 7 9 0
    (4 ∷ 0 ∷ 9 ∷ 1 ∷ 3 ∷ 2 ∷ 7 ∷ 2 ∷ 2 ∷ 2 ∷ 5 ∷ 2 ∷ 0 ∷ 3 ∷ 1 ∷ 0 ∷ 1 ∷ 5 ∷ 2 ∷ 0 ∷ 2 ∷ 7 ∷ 2 ∷ 1 ∷ 0 ∷ 8 ∷ 1 ∷ 0 ∷ [])
    ∷ shown (0x01 ∷ 0x00 ∷ []) 2 2 0 (4 ∷ 0 ∷ 2 ∷ 1 ∷ 3 ∷ 2 ∷ 0 ∷ 0 ∷ [])
    ∷ refused [] 20 0
    ∷ refused (0x00 ∷ []) 25 0
    ∷ refused P5 26 2
    ∷ shown P6 4 4 1 (4 ∷ 0 ∷ 4 ∷ 1 ∷ 3 ∷ 2 ∷ 2 ∷ 1 ∷ 2 ∷ 2 ∷ 2 ∷ 1 ∷ 0 ∷ 3 ∷ 1 ∷ 0 ∷ [])
    ∷ refused (0x01 ∷ 0x01 ∷ 0x01 ∷ 0x07 ∷ 0x09 ∷ []) 27 4
    ∷ refused (0x05 ∷ 0x01 ∷ 0x01 ∷ 0x07 ∷ []) 20 4
    ∷ refused (0x01 ∷ 0x80 ∷ 0x00 ∷ []) 21 1
    ∷ refused (0x01 ∷ 0x02 ∷ 0x01 ∷ 0x07 ∷ []) 20 4
    ∷ []

-- ---- P5 with the carrier's file beside T's

abbrev pub row : (ty place length count : ℕ) → Row
row t p l n = record { ty = t; place = p; length = l; count = n }

-- The answer, its array, and two receipts with a status each.
abbrev pub receipts : List Row
receipts = row 4 0 7 1 ∷ row 3 2 5 2 ∷ row 2 2 3 1 ∷ row 0 3 1 0 ∷ row 2 5 2 1 ∷ row 0 6 1 0 ∷ []

-- ---- the file of a carrier, by which type 2 has nine fields and so a bitmap of two bytes, and type 4 a map of uint8 to uint8; type 6 is a struct that
-- only this file has

abbrev pub carrier : List ℕ
carrier =
    6 ∷ 0 ∷ 0 ∷ 0 ∷ 0 ∷ 0 ∷ 0 ∷ 0 ∷ 0 ∷ 0 ∷ 0 ∷ 0 ∷
    12 ∷ 0 ∷ 0 ∷ 0 ∷ 0 ∷ 0 ∷ 0 ∷ 0 ∷ 0 ∷ 0 ∷ 0 ∷ 0 ∷
    16 ∷ 0 ∷ 0 ∷ 0 ∷ 0 ∷ 0 ∷ 0 ∷ 0 ∷ 9 ∷ 0 ∷ 0 ∷ 0 ∷
    14 ∷ 0 ∷ 0 ∷ 0 ∷ 2 ∷ 0 ∷ 0 ∷ 0 ∷ 0 ∷ 0 ∷ 0 ∷ 0 ∷
    16 ∷ 0 ∷ 0 ∷ 0 ∷ 9 ∷ 0 ∷ 0 ∷ 0 ∷ 3 ∷ 0 ∷ 0 ∷ 0 ∷
    15 ∷ 0 ∷ 0 ∷ 0 ∷ 0 ∷ 0 ∷ 0 ∷ 0 ∷ 0 ∷ 0 ∷ 0 ∷ 0 ∷
    16 ∷ 0 ∷ 0 ∷ 0 ∷ 0 ∷ 0 ∷ 0 ∷ 0 ∷ 1 ∷ 0 ∷ 0 ∷ 0 ∷
    0 ∷ 0 ∷ 0 ∷ 0 ∷ 0 ∷ 0 ∷ 0 ∷ 0 ∷ 1 ∷ 0 ∷ 0 ∷ 0 ∷ 1 ∷ 0 ∷ 0 ∷ 0 ∷
    0 ∷ 0 ∷ 0 ∷ 0 ∷ 1 ∷ 0 ∷ 0 ∷ 0 ∷ 0 ∷ 0 ∷ 0 ∷ 0 ∷ 1 ∷ 0 ∷ 0 ∷ 0 ∷
    0 ∷ 0 ∷ 0 ∷ 0 ∷ 1 ∷ 0 ∷ 0 ∷ 0 ∷ 0 ∷ 0 ∷ 0 ∷ 0 ∷ 1 ∷ 0 ∷ 0 ∷ 0 ∷
    0 ∷ 0 ∷ 0 ∷ 0 ∷ 1 ∷ 0 ∷ 0 ∷ 0 ∷ 0 ∷ 0 ∷ 0 ∷ 0 ∷ 1 ∷ 0 ∷ 0 ∷ 0 ∷
    0 ∷ 0 ∷ 0 ∷ 0 ∷ 1 ∷ 0 ∷ 0 ∷ 0 ∷ 3 ∷ 0 ∷ 0 ∷ 0 ∷ 0 ∷ 0 ∷ 0 ∷ 0 ∷
    0 ∷ 0 ∷ 0 ∷ 0 ∷ 1 ∷ 0 ∷ 0 ∷ 0 ∷ 5 ∷ 0 ∷ 0 ∷ 0 ∷ 1 ∷ 0 ∷ 0 ∷ 0 ∷
    1 ∷ 0 ∷ 0 ∷ 0 ∷ 2 ∷ 0 ∷ 0 ∷ 0 ∷ 3 ∷ 0 ∷ 0 ∷ 0 ∷ 12 ∷ 0 ∷ 0 ∷ 0 ∷
    2 ∷ 0 ∷ 0 ∷ 0 ∷ 4 ∷ 0 ∷ 0 ∷ 0 ∷ 255 ∷ 255 ∷ 255 ∷ 255 ∷ 255 ∷ 255 ∷ 255 ∷ 255 ∷
    84 ∷ 0 ∷ 0 ∷ 0 ∷ 180 ∷ 0 ∷ 0 ∷ 0 ∷ 212 ∷ 0 ∷ 0 ∷ 0 ∷ 1 ∷ 0 ∷ 0 ∷ 0 ∷ []

-- A receipt with the added fields 2 and 8, and a map of two keys added to the answer: the known status alone is shown, places and lengths are as written,
-- and the map's comparison is due.
abbrev pub of_carrier : List ℕ
of_carrier = 0x05 ∷ 0x01 ∷ 0x05 ∷ 0x01 ∷ 0x07 ∷ 0xAA ∷ 0xBB ∷ 0x02 ∷ 0x01 ∷ 0x09 ∷ 0x02 ∷ 0x09 ∷ []

-- Then a key that comes again in the added map; a bit of the receipt that the carrier's file does not know either; such a bit of the answer with a byte
-- for it, which is the tail, and without; and a byte too many.
abbrev pub beside_carrier : List Case
beside_carrier =
    record {
      payload = of_carrier;
      told = record { number = 0; place = 0; rows = 4; tail_place_of = 12; tail_length_of = 0; comparisons = 1 };
      cells = 4 ∷ 0 ∷ 12 ∷ 1 ∷ 3 ∷ 2 ∷ 5 ∷ 1 ∷ 2 ∷ 2 ∷ 5 ∷ 1 ∷ 0 ∷ 4 ∷ 1 ∷ 0 ∷ drop 16 lent;
    }
    ∷ refused (0x05 ∷ 0x00 ∷ 0x02 ∷ 0x01 ∷ 0x09 ∷ 0x01 ∷ 0x09 ∷ []) 24 5
    ∷ refused (0x01 ∷ 0x01 ∷ 0x01 ∷ 0x02 ∷ 0x07 ∷ 0xAA ∷ []) 26 2
    ∷ shown (0x09 ∷ 0x00 ∷ 0x77 ∷ []) 2 2 1 (4 ∷ 0 ∷ 2 ∷ 1 ∷ 3 ∷ 2 ∷ 0 ∷ 0 ∷ [])
    ∷ refused (0x09 ∷ 0x00 ∷ []) 20 2
    ∷ refused (0x01 ∷ 0x00 ∷ 0x77 ∷ []) 27 2
    ∷ []

-- The struct that only the carrier's file has, by that file alone.
abbrev pub of_theirs : List Case
of_theirs = shown (0x01 ∷ 0x07 ∷ []) 2 2 0 (6 ∷ 0 ∷ 2 ∷ 1 ∷ 0 ∷ 1 ∷ 1 ∷ 0 ∷ []) ∷ []

-- ---- files that do not extend another

-- The bytes s with others at a place.
abbrev pub patched : (s : List ℕ) (place : ℕ) (others : List ℕ) → List ℕ
patched s p x = take p s ++ (x ++ drop (p + length x) s)

-- The form YYYN with the types 2, 4 and 2, for the method entry of T's file.
abbrev pub other_form : List ℕ
other_form = 14 ∷ 0 ∷ 0 ∷ 0 ∷ 2 ∷ 0 ∷ 0 ∷ 0 ∷ 4 ∷ 0 ∷ 0 ∷ 0 ∷ 2 ∷ 0 ∷ 0 ∷ 0 ∷ []

-- ---- a bitmap that has grown, in the root

abbrev pub four : ℕ → List ℕ
four x = x ∷ 0 ∷ 0 ∷ 0 ∷ []

-- The entries of n optional fields of type 0; and the file whose type 0 is uint8 and whose type 1 is a struct of these fields.
abbrev pub optionals : ℕ → List ℕ
optionals zero = []
optionals (suc n) = four 0 ++ (four 1 ++ optionals n)

abbrev pub struct_of : ℕ → List ℕ
struct_of n =
    four 6 ++ (four 0 ++ (four 0 ++
    (four 16 ++ (four 0 ++ (four n ++
    (optionals n ++
    (four 24 ++ (four (24 + 8 * n) ++ (four (24 + 8 * n) ++ four 1)))))))))

-- Fields 0 and 7 by the file with nine fields, of which seven are known.
abbrev pub of_nine : List ℕ
of_nine = 0x81 ∷ 0x00 ∷ 0x07 ∷ 0x09 ∷ []

-- What is answered to `of_nine`, and to a byte with no bit set: by the file with seven fields alone, and with the one of nine beside it.
abbrev pub grown_alone : List Case
grown_alone = shown of_nine 2 2 2 (1 ∷ 0 ∷ 2 ∷ 1 ∷ 0 ∷ 1 ∷ 1 ∷ 0 ∷ []) ∷ shown (0x00 ∷ []) 1 1 0 (1 ∷ 0 ∷ 1 ∷ 0 ∷ []) ∷ []

abbrev pub grown_beside : List Case
grown_beside = shown of_nine 2 4 0 (1 ∷ 0 ∷ 4 ∷ 1 ∷ 0 ∷ 2 ∷ 1 ∷ 0 ∷ []) ∷ refused (0x00 ∷ []) 20 0 ∷ []

-- ---- a relay

-- The rows of P6 as a struct of type 4 by T, and where type 4 has a third field.
abbrev pub old_cells : List ℕ
old_cells = 4 ∷ 0 ∷ 4 ∷ 1 ∷ 3 ∷ 2 ∷ 2 ∷ 1 ∷ 2 ∷ 2 ∷ 2 ∷ 1 ∷ 0 ∷ 3 ∷ 1 ∷ 0 ∷ []

abbrev pub new_cells : List ℕ
new_cells = 4 ∷ 0 ∷ 5 ∷ 2 ∷ 3 ∷ 2 ∷ 2 ∷ 1 ∷ 2 ∷ 2 ∷ 2 ∷ 1 ∷ 0 ∷ 3 ∷ 1 ∷ 0 ∷ 0 ∷ 4 ∷ 1 ∷ 0 ∷ []

-- Six bytes of A5.
abbrev pub blank : List ℕ
blank = replicate 6 0xA5

-- P6 by four entries in turn: written by a new file; read by an old one, with a tail; forwarded with it by the old one, to P6 again; and read by the new
-- one, which shows the added field. The plain writer by the old file loses it.
pub record RelaysP6 (old new : List ℕ) : Type 0 where
  pub written : file_outcome new 4 new_cells P6 blank ≡ writer.outcome (Written 5) (P6 ++ (0xA5 ∷ []))
  pub read : read_outcome old 4 P6 lent ≡ outcome (Shown 4 4 1 0) (old_cells ++ drop 16 lent)
  pub forwarded : forward_outcome old 4 (take 16 (old_cells ++ drop 16 lent)) P6 4 1 blank ≡ writer.outcome (Written 5) (P6 ++ (0xA5 ∷ []))
  pub shown-again : read_outcome new 4 P6 lent ≡ outcome (Shown 5 5 0 0) (new_cells ++ drop 20 lent)
  pub lost : file_outcome old 4 old_cells P6 blank ≡ writer.outcome (Written 4) (0x01 ∷ 0x01 ∷ 0x01 ∷ 0x07 ∷ 0xA5 ∷ 0xA5 ∷ [])
