-- Worked cases over 01's table T: a frame, a header's kind, a type, a sheet, its bytes and the output's length, with the answer. Each refusal stands where
-- those after it would come too.
use Rattle.std.specs.Prelude.{List, [], ◌∷◌, ◌++◌, ℕ, ◌+◌, replicate}
use Rattle.frame.specs.declared.Header.{Header}
use Rattle.writer.specs.Writing.{Writing}
use Rattle.writer.specs.Writing.{Written, Refused}

pub record ValueFrameCase : Type 0 where
  pub kind : ℕ
  pub type : ℕ
  pub cells : List ℕ
  pub source : List ℕ
  pub out : List ℕ
  pub answer : Writing
  pub after : List ℕ

-- Method 1, 2, 3 and call 9.
abbrev pub header : (kind : ℕ) → Header
header kind = record { kind = kind; «package» = 1; service = 2; method = 3; correlation = 9 }

-- What is lent: n bytes of A5.
abbrev pub lent : (n : ℕ) → List ℕ
lent n = replicate n 0xA5

-- All of a frame before the payload's length.
abbrev pub front : (kind : ℕ) → List ℕ
front kind =
    0xAF ∷ 0x01 ∷ 0x01 ∷ kind ∷ 0x00 ∷ 0x01 ∷ 0x00 ∷ 0x00 ∷ 0x00 ∷ 0x02 ∷ 0x00 ∷ 0x00 ∷ 0x00 ∷ 0x03 ∷ 0x00 ∷ 0x00 ∷ 0x00 ∷
    0x09 ∷ 0x00 ∷ 0x00 ∷ 0x00 ∷ 0x00 ∷ 0x00 ∷ 0x00 ∷ 0x00 ∷ []

-- A case that is refused leaves the output as it was.
abbrev refuses : (kind type : ℕ) (cells source : List ℕ) (room number place : ℕ) → ValueFrameCase
refuses k t cells source room n q =
    record { kind = k; type = t; cells = cells; source = source; out = lent room; answer = Refused n q; after = lent room }

-- A case that is written: a frame of this payload, which is shorter than 128 bytes, and `more` bytes after it.
abbrev writes : (kind type : ℕ) (cells source : List ℕ) (more n size : ℕ) (payload : List ℕ) → ValueFrameCase
writes k t cells source more n size payload =
    record { kind = k; type = t; cells = cells; source = source; out = lent (n + more); answer = Written n; after = front k ++ (size ∷ (payload ++ lent more)) }

-- The rows of a struct 2 with the uint8 at place 1.
abbrev struct : List ℕ
struct = 2 ∷ 0 ∷ 2 ∷ 1 ∷ []

abbrev uint8 : List ℕ
uint8 = 0 ∷ 1 ∷ 1 ∷ 0 ∷ []

abbrev pub worked : List ValueFrameCase
worked =
    -- The value 01 07 in an INVOKE, with just room enough, with a byte more, with a byte less.
    writes 1 2 (struct ++ uint8) (0x01 ∷ 0x07 ∷ []) 0 28 2 (0x01 ∷ 0x07 ∷ [])
    ∷ writes 1 2 (struct ++ uint8) (0x01 ∷ 0x07 ∷ []) 1 28 2 (0x01 ∷ 0x07 ∷ [])
    ∷ refuses 1 2 (struct ++ uint8) (0x01 ∷ 0x07 ∷ []) 27 52 0
    -- The root's unknown bits are left out; nothing asks whether a value belongs to the kind.
    ∷ writes 8 2 (struct ++ uint8) (0xFD ∷ 0x07 ∷ []) 0 28 2 (0x01 ∷ 0x07 ∷ [])
    -- 4 before 46 and before all that follows: kind 0 and kind 9, with no row and no room.
    ∷ refuses 0 0 [] [] 0 4 0
    ∷ refuses 9 4294967295 uint8 [] 0 4 0
    -- 46 before a missing row: a type that is no struct, and one that there is not.
    ∷ refuses 1 0 [] [] 0 46 0
    ∷ refuses 8 4294967294 [] [] 0 46 0
    -- The rows' faults before 52, each at its row: no row, a row missing, bytes that are not there, a required bit clear, a row left over.
    ∷ refuses 1 2 [] [] 0 50 0
    ∷ refuses 1 2 struct (0x01 ∷ []) 0 50 1
    ∷ refuses 1 2 (struct ++ uint8) (0x01 ∷ []) 0 51 1
    ∷ refuses 1 2 (struct ++ uint8) (0x00 ∷ 0x07 ∷ []) 0 25 0
    ∷ refuses 1 2 (struct ++ (uint8 ++ uint8)) (0x01 ∷ 0x07 ∷ []) 0 50 2
    -- No value: an empty payload, with any bytes, and with cells that are no row; too little room; a row left over, before 52.
    ∷ writes 3 4294967295 [] [] 0 26 0 []
    ∷ writes 5 4294967295 (7 ∷ 8 ∷ 9 ∷ []) (0xFF ∷ []) 2 26 0 []
    ∷ refuses 3 4294967295 [] [] 25 52 0
    ∷ refuses 3 4294967295 uint8 (0x01 ∷ 0x07 ∷ []) 0 50 0
    ∷ refuses 3 4294967295 (struct ++ uint8) (0x01 ∷ 0x07 ∷ []) 99 50 0
    ∷ []
