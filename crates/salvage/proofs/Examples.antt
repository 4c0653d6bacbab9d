-- Worked examples over bytes: the pieces of torn records, and what the entry answers and leaves in both buffers.
use mathlib.Core.Path.{◌≡◌, refl}
use mathlib.Core.List.{List, [], ◌∷◌, ◌++◌, map}
use Prim.Native.Nat.{ℕ}
use lib.ListN.{take, drop, replicate}
use Rattle.wire.specs.Little as little
use Rattle.wire.specs.Varuint as varuint
use Rattle.frame.specs.Frame as frame
use Rattle.record.specs.Entry.{entry_length}
use Rattle.salvage.specs.Salvaging.{Salvaged, Refused}
use Rattle.salvage.specs.Pieces.{keep, skip, span_length, first_piece, pieces, pieces_of, entries_in, copy_of, span_count, spans_of}
use Rattle.salvage.specs.Salvage.{outcome, done, salvage_of}

-- the 25 bytes of INVOKE 9, method 1, 2, 3, before the payload's length
abbrev fields : List ℕ
fields = 0xAF ∷ 0x01 ∷ 0x01 ∷ 0x01 ∷ 0x00 ∷ 1 ∷ 0 ∷ 0 ∷ 0 ∷ 2 ∷ 0 ∷ 0 ∷ 0 ∷ 3 ∷ 0 ∷ 0 ∷ 0 ∷ 9 ∷ 0 ∷ 0 ∷ 0 ∷ 0 ∷ 0 ∷ 0 ∷ 0 ∷ []

-- with the payload 01 07
abbrev invoke : List ℕ
invoke = fields ++ (2 ∷ 0x01 ∷ 0x07 ∷ [])

-- from the client, C; from the server, S, which does not suit the kind; and after a byte that is no side
abbrev client : List ℕ
client = 67 ∷ invoke

abbrev server : List ℕ
server = 83 ∷ invoke

abbrev nobody : List ℕ
nobody = 68 ∷ invoke

-- a frame that says 40 bytes of payload; its start is cut off by what follows
abbrev cut : List ℕ
cut = 67 ∷ (fields ++ (40 ∷ []))

-- flags 1, and a payload above 16,384
abbrev flags : List ℕ
flags = 67 ∷ (take 4 fields ++ (1 ∷ (drop 5 fields ++ (0 ∷ []))))

abbrev large : List ℕ
large = 67 ∷ (fields ++ (0x81 ∷ 0x80 ∷ 0x01 ∷ []))

-- nothing; entries, with any side that is C or S; no side; a hole before, between and after entries; a frame cut at the end, whole and with an entry
-- inside it; frames that do not pass 5 and 7; a frame cut before its length, which takes the bytes after it for its own
pub torn_records : map pieces_of
    ([]
    ∷ (client ++ server)
    ∷ nobody
    ∷ (take 3 client ++ (client ++ (0 ∷ 0 ∷ [])))
    ∷ (client ++ (67 ∷ server))
    ∷ (client ++ cut)
    ∷ (cut ++ client)
    ∷ (flags ++ server)
    ∷ (large ++ (client ++ large))
    ∷ (take 20 client ++ client)
    ∷ [])
    ≡ []
    ∷ (keep client ∷ keep server ∷ [])
    ∷ (skip nobody ∷ [])
    ∷ (skip (take 3 client) ∷ keep client ∷ skip (0 ∷ 0 ∷ []) ∷ [])
    ∷ (keep client ∷ skip (67 ∷ []) ∷ keep server ∷ [])
    ∷ (keep client ∷ skip cut ∷ [])
    ∷ (skip cut ∷ keep client ∷ [])
    ∷ (skip flags ∷ keep server ∷ [])
    ∷ (skip large ∷ keep client ∷ skip large ∷ [])
    ∷ (keep (take 28 (take 20 client ++ client)) ∷ skip (drop 8 client) ∷ [])
    ∷ []
unfolding little.little varuint.front_var_u_int varuint.groups frame.once_whole frame.frame_payload frame.frame_of entry_length span_length first_piece pieces pieces_of
torn_records = refl

-- a hole of 3 bytes, an entry of 29, and two bytes
abbrev holed : List ℕ
holed = take 3 client ++ (client ++ (0 ∷ 0 ∷ []))

abbrev fill : ℕ → List ℕ
fill n = replicate n 165

-- room enough, with a byte and a cell to spare; a copy that is a byte too small, whatever the list; a list with room for one span and a cell more
pub salvages : map (λ (room : ℕ × ℕ). salvage_of holed (fill room.0) (fill room.1)) ((30, 5) ∷ (28, 5) ∷ (28, 0) ∷ (29, 3) ∷ [])
    ≡ outcome (Salvaged 1 29 2) (client ++ (165 ∷ [])) (0 ∷ 3 ∷ 32 ∷ 2 ∷ 165 ∷ [])
    ∷ outcome (Refused 52) (fill 28) (fill 5)
    ∷ outcome (Refused 52) (fill 28) (fill 0)
    ∷ outcome (Refused 53) (fill 29) (fill 3)
    ∷ []
unfolding little.little varuint.front_var_u_int varuint.groups frame.once_whole frame.frame_payload frame.frame_of entry_length span_length first_piece pieces pieces_of entries_in copy_of span_count spans_of done salvage_of
salvages = refl
