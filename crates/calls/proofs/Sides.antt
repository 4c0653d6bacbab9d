-- Who may send a kind, which kinds are stream elements, and what the payload of a kind holds, kind by kind as 01 lists them.
use mathlib.Core.Path.{◌≡◌, refl}
use mathlib.Core.Bool.{true, false}
use mathlib.Core.List.{List, [], ◌∷◌, map as each}
use Prim.Native.Nat.{ℕ}
use borrow.Author.Tests.{ne_eqb}
use Rattle.schema.specs.declared.Method.{Method}
use Rattle.calls.specs.declared.Payload.TheVariants.{Empty, Unread}
use Rattle.calls.specs.Record.{is_input, is_output}
use Rattle.calls.specs.Judge.{right_side, typed, payload_of}

-- The kinds that there are, with one before and one after them.
abbrev numbers : List ℕ
numbers = 0 ∷ 1 ∷ 2 ∷ 3 ∷ 4 ∷ 5 ∷ 6 ∷ 7 ∷ 8 ∷ 9 ∷ []

-- The client (C) sends INVOKE, IN_STREAM, IN_CLOSE and CANCEL.
pub client-sends : each (right_side 67) numbers ≡ false ∷ true ∷ true ∷ true ∷ false ∷ false ∷ false ∷ false ∷ true ∷ false ∷ []
client-sends = refl

-- The server (S) sends OUT_STREAM, OUT_CLOSE, RESPONSE and ERROR.
pub server-sends : each (right_side 83) numbers ≡ false ∷ false ∷ false ∷ false ∷ true ∷ true ∷ true ∷ true ∷ false ∷ false ∷ []
server-sends = refl

-- Nobody else sends anything.
pub no-side : (side kind : ℕ) → (side ≡ 67 → ⊥) → (side ≡ 83 → ⊥) → right_side side kind ≡ false
no-side side kind c s = rw (ne_eqb side 67 c, ne_eqb side 83 s)

-- IN_STREAM is an element of the input stream, and OUT_STREAM of the output stream; closes and all others are none.
pub elements : (each is_input numbers ≡ false ∷ false ∷ true ∷ false ∷ false ∷ false ∷ false ∷ false ∷ false ∷ false ∷ [])
    × (each is_output numbers ≡ false ∷ false ∷ false ∷ false ∷ true ∷ false ∷ false ∷ false ∷ false ∷ false ∷ [])
elements = (refl, refl)

-- The payloads of the kinds from 1 to 8: input, input stream's element, nothing, output stream's element, nothing, output, any bytes, nothing.
pub payloads : (m : Method) → each (payload_of m) (1 ∷ 2 ∷ 3 ∷ 4 ∷ 5 ∷ 6 ∷ 7 ∷ 8 ∷ []) ≡
    typed m.input ∷ typed m.input_stream ∷ Empty ∷ typed m.output_stream ∷ Empty ∷ typed m.output ∷ Unread ∷ Empty ∷ []
unfolding payload_of
payloads m = refl
