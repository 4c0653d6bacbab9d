-- What the step takes a payload for is what belongs there, for a good method; and only one thing belongs.
use mathlib.Core.Path.{◌≡◌, refl, sym, ◌∙◌}
use mathlib.Core.Bool.{Bool, true, false, cond}
use mathlib.Core.List.{List}
use Prim.Native.Nat.{ℕ, ◌/◌, ◌%◌, ◌≤◌, ◌<◌}
use native.Mathlib.Omega.{arith}
use lib.Dec.{eqb}
use lib.ListN.{length}
use borrow.Author.Tests.{eqb-true, eqb-false, eq-eqb, ne_eqb}
use Rattle.schema.specs.declared.Method.{Method}
use Rattle.schema.specs.Table.{Table}
use Rattle.schema.specs.Good.{Letter, GoodMethod}
use Rattle.schema.proofs.Methods.{letter-struct}
use Rattle.calls.specs.declared.Payload.{Payload}
use Rattle.calls.specs.declared.Payload.TheVariants.{Struct, Empty, Unread}
use Rattle.calls.specs.Forms.{letter}
use Rattle.calls.specs.Judge.{typed, payload_of}
use Rattle.calls.specs.Belongs.{Belongs, input, no_input, in_stream, in_close, out_stream, out_close, output, no_output, error, cancel}
use Rattle.calls.specs.Order.{MayCome}
use Rattle.calls.specs.Order as order

-- by the letters, as a function
abbrev due : Method → (kind : ℕ) → Payload
due m kind =
    cond (eqb kind 1) (cond (letter 8 m.form) (Struct m.input) Empty)
    (cond (eqb kind 2) (Struct m.input_stream)
    (cond (eqb kind 4) (Struct m.output_stream)
    (cond (eqb kind 6) (cond (letter 4 m.form) (Struct m.output) Empty) (cond (eqb kind 7) Unread Empty))))

is-due : (m : Method) {kind : ℕ} {d : Payload} → Belongs m kind d → due m kind ≡ d
is-due m (input y) = rw y
is-due m (no_input n) = rw n
is-due m (in_stream y) = refl
is-due m in_close = refl
is-due m (out_stream y) = refl
is-due m out_close = refl
is-due m (output y) = rw y
is-due m (no_output n) = rw n
is-due m error = refl
is-due m cancel = refl

-- One thing belongs in a payload.
pub belongs-once : (m : Method) {kind : ℕ} {d e : Payload} → Belongs m kind d → Belongs m kind e → d ≡ e
belongs-once m a b = sym (is-due m a) ∙ is-due m b

module _ (T : Table) (few : length T.types ≤ 256) (m : Method) (g : GoodMethod T m) where
  typed-yes : (bit t : ℕ) → Letter T bit t → bit ≡ 1 → typed t ≡ Struct t
  typed-yes bit t l y = let r = letter-struct T bit t l y in rw (ne_eqb t 4294967295 (λ e. omega (arith, r.0)))

  typed_no : (bit t : ℕ) → bit < 2 → Letter T bit t → (bit ≡ 1 → ⊥) → typed t ≡ Empty
  typed_no bit t h l n = rw (eq-eqb t 4294967295 (l.no (zero bit h n)))
    where
      zero : (bit : ℕ) → bit < 2 → (bit ≡ 1 → ⊥) → bit ≡ 0
      zero bit h n = omega arith

  -- a letter decides
  lettered : (bit t kind : ℕ) → bit < 2 → Letter T bit t → (eqb bit 1 ≡ true → Belongs m kind (Struct t)) → (eqb bit 1 ≡ false → Belongs m kind Empty)
      → Belongs m kind (typed t)
  lettered bit t kind h l has lacks = go (eqb bit 1) refl
    where
      go : (b : Bool) → eqb bit 1 ≡ b → Belongs m kind (typed t)
      go true e = rw (typed-yes bit t l (eqb-true bit 1 e)) (has e)
      go false e = rw (typed_no bit t h l (eqb-false bit 1 e)) (lacks e)

  -- INVOKE
  pub invoke-belongs : Belongs m 1 (payload_of m 1)
  unfolding payload_of
  invoke-belongs = lettered (m.form / 8 % 2) m.input 1 (omega arith) g.input input no_input

  -- a frame that may come
  pub payload-belongs : (h : List ℕ) {kind : ℕ} → MayCome m.form h kind → Belongs m kind (payload_of m kind)
  unfolding payload_of
  payload-belongs h (order.in_stream n y q) = rw (typed-yes (m.form / 2 % 2) m.input_stream g.input_stream_of (eqb-true _ 1 y)) (in_stream y)
  payload-belongs h (order.in_close n y q) = in_close
  payload-belongs h (order.out_stream n y q r) =
      let one : m.form % 2 ≡ 1 = omega (arith, eqb-true (m.form / 1 % 2) 1 y) in
      rw (typed-yes (m.form % 2) m.output_stream g.output_stream_of one) (out_stream y)
  payload-belongs h (order.out_close n y q r) = out_close
  payload-belongs h (order.response n q) = lettered (m.form / 4 % 2) m.output 6 (omega arith) g.output output no_output
  payload-belongs h order.error = error
  payload-belongs h (order.cancel n) = cancel
