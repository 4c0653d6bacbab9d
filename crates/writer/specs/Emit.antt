-- The encoding of a value as a walk puts it into the output: row by row, each value's bytes after those before it.
use Rattle.std.specs.Prelude.{◌≡◌, cond, List, [], ℕ, ◌+◌, ◌≤◌, min, ltb, length}
use Rattle.buffer.specs.Store.{put}
use Rattle.wire.specs.Varuint.{varuint_bytes}
use Rattle.parse.specs.Reader.{CursorOf, AnswerOf}
use Rattle.schema.specs.Table.{Shape}
use Rattle.value.specs.declared.Row.{Row}
use Rattle.value.specs.Value.{Tree, Forest, value, values}
use Rattle.value.specs.Read.{Item}
use Rattle.value.specs.Spell.{encode, encode_all}
use Rattle.walks.specs.Sink.{FinalOf, ended, final_of}
pub use Rattle.walks.specs.Sink.{stopped}

-- A length; all above 16,384 count as 16,385. Rows may share bytes, so that lengths could add up to more than a number of the machine holds.
abbrev pub cap : ℕ → ℕ
cap n = min n 16385

-- What is left of an output after bytes were put from a place on, and the place after them.
pub record PutAt (out : List ℕ) (pos : ℕ) (bs : List ℕ) (next : ℕ) (after : List ℕ) : Type 0 where
  pub holds : after ≡ put out pos bs
  pub further : next ≡ cap (pos + length bs)
  pub capped : next ≤ 16385

-- What stands before a content of n bytes of a kind from 1 to 13: the length of a string or bytes.
abbrev pub length_bytes : (kind n : ℕ) → List ℕ
length_bytes kind n = cond (ltb kind 12) [] (varuint_bytes n)

-- What a walk leaves: the place after its bytes, and the output.
pub data Emitted : Type 0 where
  emitted : (pos : ℕ) → (out : List ℕ) → Emitted

-- Bytes are put after those before them.
abbrev pub append : List ℕ → Emitted → Emitted
append bs (emitted pos out) = emitted (cap (pos + length bs)) (put out pos bs)

-- Where a walk ends.
abbrev pub Final : Type 0
Final = FinalOf Row Emitted

abbrev pub done : CursorOf Row → (pos : ℕ) → (out : List ℕ) → Final
done c pos out = ended c (emitted pos out)

-- The end of a walk that shows a value of type t by the shapes S, and of one that shows the values of the items.
unfoldable pub emit : (ℕ → Shape) → (t : ℕ) → AnswerOf Row Tree → ℕ → List ℕ → Final
emit S t o pos out = final_of (λ tree. append (encode S (value tree) t)) o (emitted pos out)

unfoldable pub emit_all : (ℕ → Shape) → List Item → AnswerOf Row Forest → ℕ → List ℕ → Final
emit_all S is o pos out = final_of (λ ts. append (encode_all S (values ts) is)) o (emitted pos out)
