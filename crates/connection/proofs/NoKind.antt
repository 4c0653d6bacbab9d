-- A kind that no frame has: no side sends it, no call allows it, it marks nothing, and its payload holds nothing.
use Rattle.std.specs.Prelude.{ℕ, ◌≤◌, ◌≢◌, Bool, true, false, not, ◌&&◌, ◌||◌, cond, eqb, leb}
use mathlib.Core.Path.{◌≡◌, refl, sym}
use native.Mathlib.Omega.{arith}
use borrow.Author.Tests.{ne_eqb, leb-true}
use Rattle.calls.specs.declared.Call.{Call}
use Rattle.calls.specs.declared.FormRow.{FormRow}
use Rattle.schema.specs.declared.Method.{Method}
use Rattle.calls.specs.declared.Payload.TheVariants.{Empty}
use Rattle.calls.specs.Judge.{right_side, payload_of}
use Rattle.calls.specs.Record.{allowed, not_allowed, at_limit, after_frame}
use Rattle.constants.specs.declared.frame_kind.FrameKind.{FrameKind}
use Rattle.constants.specs.declared.frame_kind.FrameKind.TheVariants.{Invoke, InStream, InClose, OutStream, OutClose, Response, Error, Cancel}
use Rattle.constants.specs.Kinds.{number_of_frame_kind}

none_between : (low high n : ℕ) → (low ≤ n → n ≤ high → ⊥) → (leb low n && leb n high) ≡ false
none_between low high n h = go (leb low n) (leb n high) refl refl
  where
    go : (a b : Bool) → leb low n ≡ a → leb n high ≡ b → (a && b) ≡ false
    go true true p q = absurd (h (leb-true low n p) (leb-true n high q))
    go true false p q = refl
    go false b p q = refl

neither : (a b : Bool) → ((a && false) || (b && false)) ≡ false
neither true true = refl
neither true false = refl
neither false true = refl
neither false false = refl

module _ (n : ℕ) (other : (k : FrameKind) → number_of_frame_kind k ≢ n) where
  is-not : (k : FrameKind) → eqb n (number_of_frame_kind k) ≡ false
  is-not k = ne_eqb n (number_of_frame_kind k) (λ e. other k (sym e))

  from_client : (leb 1 n && leb n 3) ≡ false
  from_client = none_between 1 3 n (λ low high. omega (arith, low, high, other Invoke, other InStream, other InClose))

  from_server : (leb 4 n && leb n 7) ≡ false
  from_server = none_between 4 7 n (λ low high. omega (arith, low, high, other OutStream, other OutClose, other Response, other Error))

  pub sent-none : (side : ℕ) → right_side side n ≡ false
  sent-none side = rw (from_client, from_server, is-not Cancel) (neither (eqb side 67) (eqb side 83))

  pub allowed-none : (row : FormRow) (c : Call) → allowed row n c ≡ false
  allowed-none row c = rw (is-not Error, is-not InStream, is-not InClose, is-not OutStream, is-not OutClose, is-not Response, is-not Cancel) (go c.cancelled)
    where
      go : (b : Bool) → (not b && false) ≡ false
      go true = refl
      go false = refl

  pub late-none : (c : Call) → not_allowed n c ≡ 14
  late-none c = rw from_server (go c.cancelled)
    where
      go : (b : Bool) → ◌≡◌ {A = ℕ} (cond (b && false) 16 14) 14
      go true = refl
      go false = refl

  pub limit-none : (c : Call) → at_limit n c ≡ false
  limit-none c = rw (is-not InStream, is-not OutStream) refl

  -- as INVOKE, which is accepted by no open call
  pub after-none : (row : FormRow) (c : Call) → after_frame row n c ≡ after_frame row 1 c
  after-none row c = rw (is-not Error, is-not InStream, is-not InClose, is-not OutStream, is-not OutClose, is-not Response, is-not Cancel) refl

  pub payload-none : (m : Method) → payload_of m n ≡ Empty
  unfolding payload_of
  payload-none m = rw (is-not Invoke, is-not InStream, is-not OutStream, is-not Response, is-not Error) refl
