-- An open call's record is good exactly where its marks are those of kinds accepted in an order that the rules allow. So each identifier of a good table
-- has a past that the table reflects.
use Rattle.std.specs.Prelude.{None, Option, Some}
use mathlib.Core.Path.{◌≡◌, refl, sym, ◌∙◌}
use mathlib.Core.Logic.{◌↔◌}
use mathlib.Core.Bool.{Bool, true, false, cond, ◌&&◌}
use mathlib.Core.List.{List, [], ◌∷◌}
use Prim.Native.Nat.{ℕ, ◌<◌}
use native.Mathlib.Omega.{arith}
use lib.ListN.{length}
use Rattle.schema.specs.Table.{Table}
use Rattle.schema.specs.Check.{method_row}
use Rattle.schema.specs.Good.{GoodSchema}
use Rattle.schema.proofs.Bools.{clash, and_i, and_left, and_right, or-false, is_false}
use Rattle.calls.specs.declared.Call.{Call}
use Rattle.calls.specs.Forms.{letter, letters_row}
use Rattle.calls.specs.Record.{implies, is_call}
use Rattle.calls.specs.Slots.{slot, first_slot, form_row, contains, own_of}
use Rattle.calls.specs.Good.{GoodCall, GoodCalls}
use Rattle.calls.specs.Order.{cancelled, MayCome, in_stream, in_close, out_stream, out_close, response, error, cancel, all_came, over, Came, begun}
use Rattle.calls.specs.Order.{next, Elements, times, closed, since, Lawful, idle, calling, Marks, nothing, call, LawfulRecord, PastIn}
use Rattle.calls.proofs.Bools.{imp_i, imp_e}
use Rattle.calls.proofs.Letters.{by-letters}
use Rattle.calls.proofs.Searches.{found-passes}
use Rattle.calls.proofs.Kept.{call_open}

-- ---- what kinds in a lawful order tell
record Told (form : ℕ) (h : List ℕ) : Type 0 where
  inputs : contains 3 h ≡ true → letter 2 form ≡ true
  outputs : contains 5 h ≡ true → letter 1 form ≡ true
  later : contains 5 h ≡ true → contains 6 h ≡ true
  no_inputs : letter 2 form ≡ false → times 2 h ≡ 0
  no_outputs : letter 1 form ≡ false → times 4 h ≡ 0
  not_over : over form h ≡ false

module _ (form : ℕ) (h : List ℕ) (t : Told form h) where
  -- one kind more
  told-next : {kind : ℕ} → MayCome form h kind → over form (kind ∷ h) ≡ false → Told form (kind ∷ h)
  told-next (in_stream n p q) o =
      record {
        inputs = t.inputs;
        outputs = t.outputs;
        later = t.later;
        no_inputs = λ z. clash (letter 2 form) p z;
        no_outputs = t.no_outputs;
        not_over = o;
      }
  told-next (in_close n p q) o =
      record {
        inputs = λ _. p;
        outputs = t.outputs;
        later = t.later;
        no_inputs = t.no_inputs;
        no_outputs = t.no_outputs;
        not_over = o;
      }
  told-next (out_stream n p q r) o =
      record {
        inputs = t.inputs;
        outputs = t.outputs;
        later = t.later;
        no_inputs = t.no_inputs;
        no_outputs = λ z. clash (letter 1 form) p z;
        not_over = o;
      }
  told-next (out_close n p q r) o =
      record {
        inputs = t.inputs;
        outputs = λ _. p;
        later = λ _. r;
        no_inputs = t.no_inputs;
        no_outputs = t.no_outputs;
        not_over = o;
      }
  told-next (response n q) o =
      record {
        inputs = t.inputs;
        outputs = t.outputs;
        later = λ _. refl;
        no_inputs = t.no_inputs;
        no_outputs = t.no_outputs;
        not_over = o;
      }
  told-next error o = clash true refl o
  told-next (cancel n) o =
      record {
        inputs = t.inputs;
        outputs = t.outputs;
        later = t.later;
        no_inputs = t.no_inputs;
        no_outputs = t.no_outputs;
        not_over = o;
      }

told : (form : ℕ) {h : List ℕ} → Came form h → Told form h
told form begun =
    record {
      inputs = λ e. clash false e refl;
      outputs = λ e. clash false e refl;
      later = λ e. clash false e refl;
      no_inputs = λ _. refl;
      no_outputs = λ _. refl;
      not_over = refl;
    }
told form (next {h} {kind} c m o) = told-next form h (told form c) m o

-- ---- kinds that leave given marks
-- RESPONSE first, then the closes, and CANCEL last
abbrev marking : (responded input output : Bool) → List ℕ
marking r i o =
    let first : List ℕ = cond r (6 ∷ []) [] in
    let second : List ℕ = cond i (3 ∷ first) first in
    cond o (5 ∷ second) second

abbrev markings : (responded input output cancel : Bool) → List ℕ
markings r i o x = cond x (8 ∷ marking r i o) (marking r i o)

abbrev Leaves : (r i o x : Bool) → List ℕ → Type 0
Leaves r i o x h = (r ≡ contains 6 h) × (i ≡ contains 3 h) × (o ≡ contains 5 h) × (x ≡ cancelled h) × (contains 7 h ≡ false) × (times 2 h ≡ 0) × (times 4 h ≡ 0)

leaves : (r i o x : Bool) → Leaves r i o x (markings r i o x)
leaves true true true true = (refl, refl, refl, refl, refl, refl, refl)
leaves true true true false = (refl, refl, refl, refl, refl, refl, refl)
leaves true true false true = (refl, refl, refl, refl, refl, refl, refl)
leaves true true false false = (refl, refl, refl, refl, refl, refl, refl)
leaves true false true true = (refl, refl, refl, refl, refl, refl, refl)
leaves true false true false = (refl, refl, refl, refl, refl, refl, refl)
leaves true false false true = (refl, refl, refl, refl, refl, refl, refl)
leaves true false false false = (refl, refl, refl, refl, refl, refl, refl)
leaves false true true true = (refl, refl, refl, refl, refl, refl, refl)
leaves false true true false = (refl, refl, refl, refl, refl, refl, refl)
leaves false true false true = (refl, refl, refl, refl, refl, refl, refl)
leaves false true false false = (refl, refl, refl, refl, refl, refl, refl)
leaves false false true true = (refl, refl, refl, refl, refl, refl, refl)
leaves false false true false = (refl, refl, refl, refl, refl, refl, refl)
leaves false false false true = (refl, refl, refl, refl, refl, refl, refl)
leaves false false false false = (refl, refl, refl, refl, refl, refl, refl)

module _ (form : ℕ) where
  -- the marks of a call that is not complete
  abbrev Unfinished : (responded input output : Bool) → Type 0
  Unfinished r i o = (r && (implies (letter 2 form) i && implies (letter 1 form) o)) ≡ false

  not_over_lem : (r i o x : Bool) → Unfinished r i o → over form (markings r i o x) ≡ false
  not_over_lem r i o x w =
      let m = leaves r i o x in
      rw (m.4, ← m.0, ← m.1, ← m.2) w

  -- with fewer closes it was not complete either
  fewer : (r i o i' o' : Bool) → (i' ≡ true → i ≡ true) → (o' ≡ true → o ≡ true) → Unfinished r i o → Unfinished r i' o'
  fewer r i o i' o' f g w =
      let a = letter 2 form in
      let b = letter 1 form in
      let closes = implies a i' && implies b o' in
      is_false (r && closes)
      (λ t.
      let both = and_right r closes t in
      clash (r && (implies a i && implies b o))
      (and_i r (implies a i && implies b o) (and_left r closes t)
      (and_i (implies a i) (implies b o)
      (imp_i a i (λ y. f (imp_e a i' (and_left (implies a i') (implies b o') both) y)))
      (imp_i b o (λ y. g (imp_e b o' (and_right (implies a i') (implies b o') both) y))))) w)

  never : {A : Type 0} → false ≡ true → A
  never e = clash false e refl

  first : (r : Bool) → Unfinished r false false → Came form (marking r false false)
  first false w = begun
  first true w = next begun (response refl refl) (not_over_lem true false false false w)

  second : (r i : Bool) → Came form (marking r false false) → (i ≡ true → letter 2 form ≡ true) → Unfinished r i false → Came form (marking r i false)
  second r false c a w = c
  second r true c a w =
      let m = leaves r false false false in
      next c (in_close (sym m.3) (a refl) (sym m.1)) (not_over_lem r true false false w)

  third : (r i o : Bool) → Came form (marking r i false) → (o ≡ true → letter 1 form ≡ true) → (o ≡ true → r ≡ true) → Unfinished r i o → Came form (marking r i o)
  third r i false c a l w = c
  third r i true c a l w =
      let m = leaves r i false false in
      next c (out_close (sym m.3) (a refl) (sym m.2) (sym m.0 ∙ l refl)) (not_over_lem r i true false w)

  fourth : (r i o x : Bool) → Came form (marking r i o) → Unfinished r i o → Came form (markings r i o x)
  fourth r i o false c w = c
  fourth r i o true c w = next c (cancel (sym (leaves r i o false).3)) (not_over_lem r i o true w)

  -- the kinds that leave the marks of a good record came in a lawful order
  came : (r i o x : Bool) → (i ≡ true → letter 2 form ≡ true) → (o ≡ true → letter 1 form ≡ true) → (o ≡ true → r ≡ true) → Unfinished r i o
      → Came form (markings r i o x)
  came r i o x a b l w =
      let started = first r (fewer r i o false false never never w) in
      fourth r i o x (third r i o (second r i started a (fewer r i o i false (λ e. e) never w)) b l w) w

-- ---- a record
module _ (T : Table) (g : GoodSchema T) (c : Call) where
  abbrev form : ℕ
  form = (method_row T c.method).form

  letters : c.method < length T.methods → form_row T c ≡ letters_row form
  letters h = let few = (g.methods c.method h).form in by-letters form (omega arith)

  good-reached : GoodCall T c → LawfulRecord T c
  good-reached w =
      let r = c.responded in
      let i = c.input_closed in
      let o = c.output_closed in
      let e = letters w.method_exists in
      let x = c.cancelled in
      let m = leaves r i o x in
      let b : Elements = record { inputs = c.input_elements; outputs = c.output_elements } in
      record {
        before = b;
        kinds = markings r i o x;
        lawful =
            calling c.method b (markings r i o x) w.method_exists
            (record { inputs = rw e at w.input_elements_of; outputs = rw e at w.output_elements_of })
            (came form r i o x (rw e at w.input_closed_of) (rw e at w.output_closed_of) w.after_response (rw e at w.not_complete));
        marks =
            record {
              method = refl;
              responded = m.0;
              input_closed_of = m.1;
              output_closed_of = m.2;
              is_cancelled = m.3;
              input_elements_of = omega (arith, m.5);
              output_elements_of = omega (arith, m.6);
              no_error = m.4;
            };
      }

  reached-good : LawfulRecord T c → GoodCall T c
  reached-good w = go w.before w.kinds w.lawful w.marks
    where
      go : (b : Elements) (h : List ℕ) → Lawful T (since c.method b h) → Marks c.method b h c → GoodCall T c
      go b h (calling _ _ _ k streams came) m =
          let t = told form came in
          let e = letters k in
          let inputs : letter 2 form ≡ false → c.input_elements ≡ 0 = λ z. omega (arith, m.input_elements_of, streams.inputs z, t.no_inputs z) in
          let outputs : letter 1 form ≡ false → c.output_elements ≡ 0 = λ z. omega (arith, m.output_elements_of, streams.outputs z, t.no_outputs z) in
          record {
            method_exists = k;
            input_closed_of = rw (e, m.input_closed_of) t.inputs;
            output_closed_of = rw (e, m.output_closed_of) t.outputs;
            after_response = rw (m.output_closed_of, m.responded) t.later;
            input_elements_of = rw e inputs;
            output_elements_of = rw e outputs;
            not_complete = rw (e, m.responded, m.input_closed_of, m.output_closed_of) (or-false (contains 7 h) (all_came form h) t.not_over).1;
          }

  -- The record of an open call is good exactly where the rules allow kinds that leave its marks.
  pub good-iff-reached : GoodCall T c ↔ LawfulRecord T c
  good-iff-reached = (good-reached, reached-good)

-- Each identifier of a good call table has a past that the rules allow and that the table reflects.
pub some-past : (T : Table) → GoodSchema T → (l : List Call) → GoodCalls T l → (id : ℕ) → PastIn T l id
unfolding own_of
some-past T g l w id = go (first_slot (is_call id) 0 l) refl
  where
    go : (i : Option ℕ) → first_slot (is_call id) 0 l ≡ i → PastIn T l id
    go None e = record { past = closed; lawful = idle; reflects = rw e nothing }
    go (Some i) e =
        let c = slot l i in
        let r = good-reached T g c (w.calls i (call_open id c (found-passes (is_call id) l i e))) in
        record { past = since c.method r.before r.kinds; lawful = r.lawful; reflects = rw e (call c.method r.before r.kinds c r.marks) }
