-- Worked cases over schema files: a type, a sheet's cells, their bytes, a tail's place and length and the output, with the answer. Each refusal stands where
-- those after it would come too.
use Rattle.std.specs.Prelude.{◌≡◌, List, [], ◌∷◌, ◌++◌, map, ℕ, ◌+◌, length, replicate}
use Rattle.writer.specs.Writing.{Writing}
use Rattle.writer.specs.Writing.{Written, Refused}
use Rattle.writer.specs.Entry.{outcome}
use Rattle.forward.specs.Entry.{forward_outcome}

pub record ForwardCase : Type 0 where
  pub type : ℕ
  pub cells : List ℕ
  pub source : List ℕ
  pub place : ℕ
  pub size : ℕ
  pub out : List ℕ
  pub answer : Writing
  pub after : List ℕ

-- By the schema file each of the cases is answered so: the number, the place or the length, and every byte of the output.
abbrev pub ForwardHold : (schema : List ℕ) → List ForwardCase → Type 0
ForwardHold schema cases =
    map (λ (c : ForwardCase). forward_outcome schema c.type c.cells c.source c.place c.size c.out) cases
    ≡ map (λ (c : ForwardCase). outcome c.answer c.after) cases

-- What is lent: n bytes of A5.
abbrev pub lent : (n : ℕ) → List ℕ
lent n = replicate n 0xA5

-- A case that is refused leaves the output as it was.
abbrev refuses : (type : ℕ) (cells source : List ℕ) (place size room number row : ℕ) → ForwardCase
refuses t cells source p n room k q =
    record { type = t; cells = cells; source = source; place = p; size = n; out = lent room; answer = Refused k q; after = lent room }

-- A case that is written: this payload, and `more` bytes after it.
abbrev writes : (type : ℕ) (cells source : List ℕ) (place size more : ℕ) (payload : List ℕ) → ForwardCase
writes t cells source p n more payload =
    record {
      type = t;
      cells = cells;
      source = source;
      place = p;
      size = n;
      out = lent (length payload + more);
      answer = Written (length payload);
      after = payload ++ lent more;
    }

-- ---- by 01's table T

-- P6 has an unknown bit and a tail of one byte; P2 has neither.
abbrev pub P6 : List ℕ
P6 = 0x05 ∷ 0x01 ∷ 0x01 ∷ 0x07 ∷ 0x09 ∷ []

abbrev P2 : List ℕ
P2 = 0x01 ∷ 0x00 ∷ []

-- The rows of P6 in bytes where it starts at place p; those of P2 at 0.
abbrev rows_p6 : (p : ℕ) → List ℕ
rows_p6 p = 4 ∷ p ∷ 4 ∷ 1 ∷ 3 ∷ (p + 2) ∷ 2 ∷ 1 ∷ 2 ∷ (p + 2) ∷ 2 ∷ 1 ∷ 0 ∷ (p + 3) ∷ 1 ∷ 0 ∷ []

abbrev short : List ℕ
short = 4 ∷ 0 ∷ 2 ∷ 1 ∷ 3 ∷ 2 ∷ 0 ∷ 0 ∷ []

abbrev pub worked : List ForwardCase
worked =
    -- P6 comes out as it is, with just room enough, with two bytes more, and from bytes where it starts at 2; with a byte less of room it is 52.
    writes 4 (rows_p6 0) P6 4 1 0 P6
    ∷ writes 4 (rows_p6 0) P6 4 1 2 P6
    ∷ writes 4 (rows_p6 2) (0xEE ∷ 0xEE ∷ P6) 6 1 0 P6
    ∷ refuses 4 (rows_p6 0) P6 4 1 4 52 0
    -- The tail may be longer than the unknown bits, lie within the value's bytes, and before them.
    ∷ writes 4 (rows_p6 0) P6 2 2 0 (0x05 ∷ 0x01 ∷ 0x01 ∷ 0x07 ∷ 0x01 ∷ 0x07 ∷ [])
    ∷ writes 4 (rows_p6 1) (0x09 ∷ 0x05 ∷ 0x01 ∷ 0x01 ∷ 0x07 ∷ []) 0 1 0 P6
    -- 51 before 50: the tail ends or starts past the bytes, too short for the unknown bits or not.
    ∷ refuses 4 (rows_p6 0) P6 5 1 0 51 0
    ∷ refuses 4 (rows_p6 0) P6 6 0 0 51 0
    ∷ refuses 4 short P2 3 0 0 51 0
    -- 50 before 52: shorter than the unknown bits; present without any.
    ∷ refuses 4 (rows_p6 0) P6 5 0 0 50 0
    ∷ refuses 4 short P2 0 1 0 50 0
    ∷ writes 4 short P2 2 0 1 P2
    -- The rows' faults before the tail's: 46 for a type that is no struct, no row, a row left over, an inner unknown bit.
    ∷ refuses 3 [] P6 9 9 0 46 0
    ∷ refuses 4 [] P6 9 9 0 50 0
    ∷ refuses 4 (short ++ (0 ∷ 0 ∷ 1 ∷ 0 ∷ [])) P2 9 9 0 50 2
    ∷ refuses 4 (rows_p6 0) (0x01 ∷ 0x01 ∷ 0x05 ∷ 0x07 ∷ 0x09 ∷ []) 4 9 0 50 2
    ∷ []

-- The whole is above 16,384 bytes: 7 before 52, and one byte less is 52.
abbrev pub large : List ForwardCase
large =
    refuses 4 (rows_p6 0) (0x05 ∷ 0x01 ∷ 0x01 ∷ 0x07 ∷ replicate 16381 0x09) 4 16381 0 7 0
    ∷ refuses 4 (rows_p6 0) (0x05 ∷ 0x01 ∷ 0x01 ∷ 0x07 ∷ replicate 16381 0x09) 4 16380 0 52 0
    ∷ []

-- ---- by a table of two types: uint8, and a struct of nine optional ones, which has two presence bytes

abbrev pub nine : List ℕ
nine =
    6 ∷ 0 ∷ 0 ∷ 0 ∷ 0 ∷ 0 ∷ 0 ∷ 0 ∷ 0 ∷ 0 ∷ 0 ∷ 0 ∷
    16 ∷ 0 ∷ 0 ∷ 0 ∷ 0 ∷ 0 ∷ 0 ∷ 0 ∷ 9 ∷ 0 ∷ 0 ∷ 0 ∷
    0 ∷ 0 ∷ 0 ∷ 0 ∷ 1 ∷ 0 ∷ 0 ∷ 0 ∷ 0 ∷ 0 ∷ 0 ∷ 0 ∷ 1 ∷ 0 ∷ 0 ∷ 0 ∷
    0 ∷ 0 ∷ 0 ∷ 0 ∷ 1 ∷ 0 ∷ 0 ∷ 0 ∷ 0 ∷ 0 ∷ 0 ∷ 0 ∷ 1 ∷ 0 ∷ 0 ∷ 0 ∷
    0 ∷ 0 ∷ 0 ∷ 0 ∷ 1 ∷ 0 ∷ 0 ∷ 0 ∷ 0 ∷ 0 ∷ 0 ∷ 0 ∷ 1 ∷ 0 ∷ 0 ∷ 0 ∷
    0 ∷ 0 ∷ 0 ∷ 0 ∷ 1 ∷ 0 ∷ 0 ∷ 0 ∷ 0 ∷ 0 ∷ 0 ∷ 0 ∷ 1 ∷ 0 ∷ 0 ∷ 0 ∷
    0 ∷ 0 ∷ 0 ∷ 0 ∷ 1 ∷ 0 ∷ 0 ∷ 0 ∷
    24 ∷ 0 ∷ 0 ∷ 0 ∷ 96 ∷ 0 ∷ 0 ∷ 0 ∷ 96 ∷ 0 ∷ 0 ∷ 0 ∷ 1 ∷ 0 ∷ 0 ∷ 0 ∷ []

-- Fields 0 and 8 are there, and two unknown bits, after a byte that is no part of the value.
abbrev wide : List ℕ
wide = 0x33 ∷ 0x01 ∷ 0x83 ∷ 0x07 ∷ 0x08 ∷ 0xAA ∷ 0xBB ∷ []

abbrev wide_rows : List ℕ
wide_rows = 1 ∷ 1 ∷ 4 ∷ 2 ∷ 0 ∷ 3 ∷ 1 ∷ 0 ∷ 0 ∷ 4 ∷ 1 ∷ 0 ∷ []

abbrev pub by-nine : List ForwardCase
by-nine =
    writes 1 wide_rows wide 5 2 1 (0x01 ∷ 0x83 ∷ 0x07 ∷ 0x08 ∷ 0xAA ∷ 0xBB ∷ [])
    ∷ refuses 1 wide_rows wide 5 1 9 50 0
    ∷ refuses 1 wide_rows wide 5 2 5 52 0
    ∷ []
