-- What a frame's payload holds is a struct type of a good schema table, or nothing, or not read.
use Rattle.std.specs.Prelude.{None, Option, Some}
use mathlib.Core.Path.{◌≡◌, refl}
use mathlib.Core.Logic.{⊎_elim}
use native.Mathlib.Omega.{arith}
use borrow.Author.Tests.{eqb-true, eqb-false}
use mathlib.Core.Bool.{Bool, true, false, cond}
use mathlib.Core.List.{List}
use Prim.Native.Nat.{ℕ, ◌/◌, ◌%◌, ◌<◌}
use lib.ListN.{length}
use lib.Dec.{eqb}
use Rattle.schema.specs.declared.Method.{Method}
use Rattle.schema.specs.Table.{Table, row_at}
use Rattle.schema.specs.File.{table_of}
use Rattle.schema.specs.Check.{method_row, find_method, IsGood}
use Rattle.calls.specs.declared.Call.{Call}
use Rattle.calls.specs.declared.Frame.{Frame}
use Rattle.calls.specs.declared.Payload.{Payload}
use Rattle.calls.specs.declared.Payload.TheVariants.{Struct, Empty, Unread}
use Rattle.calls.specs.Forms.{row_of_form}
use Rattle.calls.specs.Record.{is_call, opened_call, allowed, not_allowed, at_limit, after_frame}
use Rattle.calls.specs.Slots.{slot, first_slot, record_at, own_of, full}
use Rattle.calls.specs.Judge.{right_side, typed, payload_of, names_method, Verdict, stop, goes, open_verdict, invoke_verdict, other_verdict, verdict_of, judge_of}
use Rattle.calls.specs.Apart.{verdict_due}
use Rattle.calls.specs.Step.{due_of}
use Rattle.calls.specs.Good.{GoodCalls}
use Rattle.schema.proofs.Bools.{cases}
use Rattle.schema.specs.Good.{Letter, GoodMethod}
use Rattle.schema.proofs.Goods.{good-table}
use Rattle.schema.proofs.Methods.{found-named, letter-struct}
use Rattle.calls.proofs.Searches.{found-passes}
use Rattle.calls.proofs.Kept.{call_open}
use Rattle.calls.proofs.Apart.{judged-by, due-by}
use Rattle.wire.proofs.Cases.{cond-case}

-- a payload whose type, if it has one, is a struct type of the table
pub data Sound (T : Table) : Payload → Type 0 where
  struct : (t : ℕ) → t < length T.types → (row_at T t).kind ≡ 16 → Sound T (Struct t)
  empty : Sound T Empty
  unread : Sound T Unread

module _ (T : Table) where
  -- a letter and its type
  lettered : (bit t : ℕ) → bit < 2 → Letter T bit t → Sound T (typed t)
  lettered bit t h l = ⊎_elim (λ y. go (eqb t 4294967295) (eqb-true bit 1 y)) (λ n. rw (no (eqb-false bit 1 n)) empty) (cases (eqb bit 1))
    where
      go : (b : Bool) → bit ≡ 1 → Sound T (cond b Empty (Struct t))
      go true y = empty
      go false y = let r = letter-struct T bit t l y in struct t r.0 r.1

      no : (bit ≡ 1 → ⊥) → t ≡ 4294967295
      no n = l.no (omega arith)

  pub payload-sound : (m : Method) → GoodMethod T m → (kind : ℕ) → Sound T (payload_of m kind)
  unfolding payload_of
  payload-sound m g kind = go (eqb kind 1) (eqb kind 2) (eqb kind 4) (eqb kind 6) (eqb kind 7)
    where
      go : (a b c d e : Bool) →
          Sound T
          (cond a (typed m.input)
          (cond b (typed m.input_stream) (cond c (typed m.output_stream) (cond d (typed m.output) (cond e Unread Empty)))))
      go true b c d e = lettered (m.form / 8 % 2) m.input (omega arith) g.input
      go false true c d e = lettered (m.form / 2 % 2) m.input_stream (omega arith) g.input_stream_of
      go false false true d e = lettered (m.form % 2) m.output_stream (omega arith) g.output_stream_of
      go false false false true e = lettered (m.form / 4 % 2) m.output (omega arith) g.output
      go false false false false true = unread
      go false false false false false = empty

-- ---- the payload of a judged frame, by a good schema table and a good call table
module _ (s : List ℕ) (g : IsGood s) (f : Frame) where
  abbrev T : Table
  T = table_of s

  method-sound : (m kind : ℕ) → m < length T.methods → Sound T (payload_of (method_row T m) kind)
  method-sound m kind h = payload-sound T (method_row T m) ((good-table s g).methods m h) kind

  opening-sound : (c : Call) (d : Payload) → Sound T d → (own : Option Call) (b : Bool) → Sound T (verdict_due (open_verdict c d own b))
  opening-sound c d h (Some x) b = unread
  opening-sound c d h None true = unread
  opening-sound c d h None false = h

  invoke-sound : (n : Option ℕ) → find_method T f.«package» f.service f.method ≡ n → (own : Option Call) (b : Bool)
      → Sound T (verdict_due (invoke_verdict T f.correlation n own b))
  invoke-sound None e own b = unread
  invoke-sound (Some m) e own b =
      opening-sound (opened_call m f.correlation) (payload_of (method_row T m) 1) (method-sound m 1 (found-named T f.«package» f.service f.method m e).0) own b

  call-sound : (c : Call) → c.method < length T.methods → Sound T (verdict_due (other_verdict T f (Some c)))
  call-sound c known =
      let m = method_row T c.method in
      let next = goes (after_frame (row_of_form m.form) f.kind c) (payload_of m f.kind) in
      let late = stop (not_allowed f.kind c) in
      let may = allowed (row_of_form m.form) f.kind c in
      let full = at_limit f.kind c in
      let few = cond full (stop 17) next in
      cond-case (λ (v : Verdict). Sound T (verdict_due v)) (names_method f m) (cond may few late) (stop 12)
      (λ _. cond-case (λ (v : Verdict). Sound T (verdict_due v)) may few late
      (λ _. cond-case (λ (v : Verdict). Sound T (verdict_due v)) full (stop 17) next (λ _. unread) (λ _. method-sound c.method f.kind known))
      (λ _. unread))
      (λ _. unread)

  module _ (l : List Call) (w : GoodCalls T l) where
    other-sound : Sound T (verdict_due (other_verdict T f (own_of f.correlation l)))
    unfolding own_of
    other-sound = go (first_slot (is_call f.correlation) 0 l) refl
      where
        go : (n : Option ℕ) → first_slot (is_call f.correlation) 0 l ≡ n → Sound T (verdict_due (other_verdict T f (record_at l n)))
        go None e = unread
        go (Some i) e =
            let o = call_open f.correlation (slot l i) (found-passes (is_call f.correlation) l i e) in
            call-sound (slot l i) (w.calls i o).method_exists

    pub due-sound : Sound T (due_of (judge_of T f l))
    unfolding verdict_of
    due-sound =
        let own = own_of f.correlation l in
        let n = find_method T f.«package» f.service f.method in
        let invoke = invoke_verdict T f.correlation n own (full l) in
        let other = other_verdict T f own in
        rw (due-by (judge_of T f l), judged-by T f l)
        (cond-case (λ (v : Verdict). Sound T (verdict_due v)) (right_side f.side f.kind) (cond (eqb f.kind 1) invoke other) (stop 8)
        (λ _. cond-case (λ (v : Verdict). Sound T (verdict_due v)) (eqb f.kind 1) invoke other (λ _. invoke-sound n refl own (full l)) (λ _. other-sound))
        (λ _. unread))
