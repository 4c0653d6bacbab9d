-- What belongs in a frame's payload, kind by kind, by the letters of the method's form.
use Rattle.std.specs.Prelude.{◌≡◌, true, false, ℕ}
use Rattle.schema.specs.declared.Method.{Method}
use Rattle.calls.specs.declared.Payload.{Payload}
use Rattle.calls.specs.declared.Payload.TheVariants.{Struct, Empty, Unread}
use Rattle.calls.specs.Forms.{letter}

-- A Y has a struct type, and the payload is a value of it; INVOKE and RESPONSE without it are empty.
-- Closes and CANCEL are empty; ERROR carries any bytes.
pub data Belongs (m : Method) : (kind : ℕ) → Payload → Type 0 where
  input : letter 8 m.form ≡ true → Belongs m 1 (Struct m.input)
  no_input : letter 8 m.form ≡ false → Belongs m 1 Empty
  in_stream : letter 2 m.form ≡ true → Belongs m 2 (Struct m.input_stream)
  in_close : Belongs m 3 Empty
  out_stream : letter 1 m.form ≡ true → Belongs m 4 (Struct m.output_stream)
  out_close : Belongs m 5 Empty
  output : letter 4 m.form ≡ true → Belongs m 6 (Struct m.output)
  no_output : letter 4 m.form ≡ false → Belongs m 6 Empty
  error : Belongs m 7 Unread
  cancel : Belongs m 8 Empty
