-- What reading a frame finds, field by field in wire order: a field is judged once it is whole. And what each answer stands for.
use Rattle.std.specs.Prelude.{ℕ, ◌+◌, Bool, ◌&&◌, cond, List, leb, eqb, length, get_or, take, drop}
use Rattle.wire.specs.Little.{little}
use Rattle.wire.specs.Varuint.{VarUInt, Number, Cut, Malformed, front_var_u_int}
use Rattle.parse.specs.Test.{test}
use Rattle.frame.specs.declared.Header.{Header}
use Rattle.frame.specs.FrameRead.{FrameRead, More, Frame, Refused}

-- Goes on with the n bytes at the front of s, once they are there, and with what is left after them.
unfoldable pub once_whole : ℕ → List ℕ → (List ℕ → List ℕ → FrameRead) → FrameRead
once_whole n s next = cond (leb n (length s)) (next (take n s) (drop n s)) More

-- The magic is AF 01.
abbrev pub is_magic : List ℕ → Bool
is_magic b = eqb (get_or b 0 0) 0xAF && eqb (get_or b 1 0) 0x01

-- One of the eight kinds.
abbrev pub known_kind : ℕ → Bool
known_kind k = leb 1 k && leb k 8

-- The payload, from its length on; the bytes end at `end`.
unfoldable pub frame_payload : ℕ → Header → VarUInt → FrameRead
frame_payload end h Cut = More
frame_payload end h Malformed = Refused 6
frame_payload end h (Number n place) = test (leb n 16384) (Refused 7) (cond (leb (place + n) end) (Frame h place n) More)

-- What is read at the front of the bytes: 25 bytes of fields, then the payload's length and the payload.
unfoldable pub frame_of : List ℕ → FrameRead
frame_of bytes =
    once_whole 2 bytes λ magic s. test (is_magic magic) (Refused 2)
    (once_whole 1 s λ version s. test (eqb (little version) 1) (Refused 3)
    (once_whole 1 s λ kind s. test (known_kind (little kind)) (Refused 4)
    (once_whole 1 s λ flags s. test (eqb (little flags) 0) (Refused 5)
    (once_whole 4 s λ «package» s.
    once_whole 4 s λ service s.
    once_whole 4 s λ method s.
    once_whole 8 s λ correlation s.
    frame_payload (length bytes)
    (record {
      kind = little kind;
      «package» = little «package»;
      service = little service;
      method = little method;
      correlation = little correlation;
    })
    (front_var_u_int s 25)))))

-- The number that comes back for an answer (docs/FORMAT.md).
abbrev pub read_number : FrameRead → ℕ
read_number More = 1
read_number (Frame h place n) = 0
read_number (Refused number) = number

-- The bytes used: the frame's length for a frame.
abbrev pub read_used : FrameRead → ℕ
read_used More = 0
read_used (Frame h place n) = place + n
read_used (Refused number) = 0
