-- The forwarding writer (02's term): the plain writer's bytes, with the root's unknown bits kept and a tail copied after the known fields.
use Rattle.std.specs.Prelude.{List, [], ◌∷◌, ◌++◌, Bool, not, ◌&&◌, ◌||◌, cond, ℕ, ◌+◌, leb, eqb, length, drop}
use Rattle.buffer.specs.Span.{span, inside}
use Rattle.wire.specs.Little.{little}
use Rattle.parse.specs.Reader.{AnswerOf, refused, seen}
use Rattle.schema.specs.declared.Field.{Field}
use Rattle.schema.specs.Table.{Table, Shape, shape, bitmap_bytes}
use Rattle.value.specs.declared.Row.{Row}
use Rattle.value.specs.Value.{Tree, value}
use Rattle.value.specs.Read.{on_struct_of, unknown_bits}
use Rattle.value.specs.Spell.{encode}
use Rattle.value.specs.Write.{Writing, refusal, fitted, show_root}

-- The place of the root's row, which is the first.
abbrev pub root_place : List Row → ℕ
root_place [] = 0
root_place (r ∷ rs) = r.place

-- The presence bytes of a root of the fields fs as they stand at its row's place, with the unknown bits.
abbrev pub root_bytes : List Field → List Row → (B : List ℕ) → List ℕ
root_bytes fs rs B = span B (root_place rs) (bitmap_bytes (length fs))

abbrev pub root_unknown : List Field → List Row → (B : List ℕ) → ℕ
root_unknown fs rs B = unknown_bits fs (little (root_bytes fs rs B))

-- A tail of n bytes is no shorter than the unknown bits, and not present without any.
abbrev pub suits : (unknown n : ℕ) → Bool
suits unknown n = leb unknown n && (not (eqb unknown 0) || eqb n 0)

-- What the plain writer writes, with the presence bytes that are kept in place of its own, and the tail after the known fields.
abbrev pub spliced : (bits plain tail : List ℕ) → List ℕ
spliced bits plain tail = bits ++ (drop (length bits) plain ++ tail)

-- A sheet's rows over the bytes B, with a tail of n bytes at a place of B.
module _ (rs : List Row) (B : List ℕ) (place n room : ℕ) where
  -- The tail is judged after the rows, and then the whole.
  abbrev pub with_tail : List Field → (plain : List ℕ) → Writing
  with_tail fs plain =
      cond (inside B place n)
      (cond (suits (root_unknown fs rs B) n) (fitted room (spliced (root_bytes fs rs B) plain (span B place n))) (refusal 50 0))
      (refusal 51 0)

  abbrev pub forwarding : (ℕ → Shape) → ℕ → List Field → AnswerOf Row Tree → Writing
  forwarding S t fs (refused k q) = refusal k q
  forwarding S t fs (seen tree end) = with_tail fs (encode S (value tree) t)

-- As a struct of type t by a good table.
unfoldable pub forward : Table → ℕ → List Row → (B : List ℕ) (place n room : ℕ) → Writing
forward T t rs B place n room =
    on_struct_of (shape T t) (refusal 46 0)
    (λ fs. forwarding rs B place n room (shape T) t fs (show_root (shape T) B t fs (record { left = rs; at = 0 })))

-- The number of the first fault of the tail and of the whole, with `plain` bytes before the tail; 0 where there is none. Each has place 0.
unfoldable pub fault_of : (size unknown place n plain room : ℕ) → ℕ
fault_of size unknown place n plain room =
    cond (leb (place + n) size)
    (cond (suits unknown n) (cond (leb (plain + n) 16384) (cond (leb (plain + n) room) 0 52) 7) 50)
    51
