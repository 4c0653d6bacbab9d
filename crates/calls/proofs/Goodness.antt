-- The goodness test passes exactly for the tables that are good by the clauses of 01; the fresh table is good.
use mathlib.Core.Path.{◌≡◌, refl, sym, ap, subst}
use mathlib.Core.Logic.{⊎_elim}
use mathlib.Core.Bool.{Bool, true, false, not, cond, ◌&&◌, ◌||◌}
use mathlib.Core.List.{List, [], ◌∷◌}
use Prim.Native.Nat.{ℕ, zero, suc}
use native.Mathlib.Omega.{arith}
use lib.ListN.{length}
use lib.Dec.{eqb, ltb}
use borrow.Author.Tests.{eqb-true, eq-eqb, ltb-true, lt-ltb, not-true}
use Rattle.schema.specs.Table.{Table}
use Rattle.calls.specs.declared.Call.{Call}
use Rattle.calls.specs.declared.FormRow.{FormRow}
use Rattle.calls.specs.Record.{empty_call, implies, complete, zero_call, good_open}
use Rattle.calls.specs.Slots.{fresh_slots, slot, form_row, good_call, good_calls, open_ids, contains, distinct, good_table}
use Rattle.calls.specs.Good.{GoodCall, GoodCalls}
use Rattle.schema.proofs.Bools.{cases, clash, and_i, and_left, and_right, or_right, or_cases, not_i, is_false}
use Rattle.calls.proofs.Bools.{imp_i, imp_e}

-- ---- one record
members : (a b : ℕ) (o r i u x : Bool) (p q : ℕ) → a ≡ 0 → b ≡ 0 → o ≡ false → r ≡ false → i ≡ false → u ≡ false → x ≡ false → p ≡ 0 → q ≡ 0 →
    record {
      correlation = a;
      method = b;
      «open» = o;
      responded = r;
      input_closed = i;
      output_closed = u;
      cancelled = x;
      input_elements = p;
      output_elements = q;
    } ≡ empty_call
members a b o r i u x p q e₁ e₂ e₃ e₄ e₅ e₆ e₇ e₈ e₉ = rw (e₁, e₂, e₃, e₄, e₅, e₆, e₇, e₈, e₉)

zero_is : (c : Call) → c.«open» ≡ false → zero_call c ≡ true → c ≡ empty_call
zero_is c o z =
    let id = eqb c.correlation 0 in
    let m = eqb c.method 0 in
    let r = not c.responded in
    let i = not c.input_closed in
    let u = not c.output_closed in
    let x = not c.cancelled in
    let p = eqb c.input_elements 0 in
    let q = eqb c.output_elements 0 in
    let z₁ = and_right id (m && (r && (i && (u && (x && (p && q)))))) z in
    let z₂ = and_right m (r && (i && (u && (x && (p && q))))) z₁ in
    let z₃ = and_right r (i && (u && (x && (p && q)))) z₂ in
    let z₄ = and_right i (u && (x && (p && q))) z₃ in
    let z₅ = and_right u (x && (p && q)) z₄ in
    let z₆ = and_right x (p && q) z₅ in
    members c.correlation c.method c.«open» c.responded c.input_closed c.output_closed c.cancelled
    c.input_elements c.output_elements
    (eqb-true c.correlation 0 (and_left id (m && (r && (i && (u && (x && (p && q)))))) z))
    (eqb-true c.method 0 (and_left m (r && (i && (u && (x && (p && q))))) z₁)) o
    (not-true c.responded (and_left r (i && (u && (x && (p && q)))) z₂)) (not-true c.input_closed (and_left i (u && (x && (p && q))) z₃))
    (not-true c.output_closed (and_left u (x && (p && q)) z₄)) (not-true c.cancelled (and_left x (p && q) z₅))
    (eqb-true c.input_elements 0 (and_left p q z₆)) (eqb-true c.output_elements 0 (and_right p q z₆))

-- a count is 0, or the form has the stream
none_or : (b : Bool) (n : ℕ) → (b || eqb n 0) ≡ true → b ≡ false → n ≡ 0
none_or true n h e = clash true refl e
none_or false n h e = eqb-true n 0 h

or-zero : (b : Bool) (n : ℕ) → (b ≡ false → n ≡ 0) → (b || eqb n 0) ≡ true
or-zero true n f = refl
or-zero false n f = eq-eqb n 0 (f refl)

module _ (T : Table) (c : Call) where
  abbrev row : FormRow
  row = form_row T c

  abbrev known : Bool
  known = ltb c.method (length T.methods)

  abbrev input : Bool
  input = implies c.input_closed row.1

  abbrev output : Bool
  output = implies c.output_closed (row.3 && c.responded)

  abbrev inputs : Bool
  inputs = row.0 || eqb c.input_elements 0

  abbrev outputs : Bool
  outputs = row.2 || eqb c.output_elements 0

  abbrev incomplete : Bool
  incomplete = not (complete row c)

  open_clauses : good_open (length T.methods) row c ≡ true → GoodCall T c
  open_clauses g =
      let counts = inputs && (outputs && incomplete) in
      let g₁ = and_right known (input && (output && counts)) g in
      let g₂ = and_right input (output && counts) g₁ in
      let g₃ = and_right output counts g₂ in
      let g₄ = and_right inputs (outputs && incomplete) g₃ in
      let closed : c.output_closed ≡ true → (row.3 && c.responded) ≡ true = imp_e c.output_closed (row.3 && c.responded) (and_left output counts g₂) in
      record {
        method_exists = ltb-true c.method (length T.methods) (and_left known (input && (output && counts)) g);
        input_closed_of = imp_e c.input_closed row.1 (and_left input (output && counts) g₁);
        output_closed_of = λ o. and_left row.3 c.responded (closed o);
        after_response = λ o. and_right row.3 c.responded (closed o);
        input_elements_of = none_or row.0 c.input_elements (and_left inputs (outputs && incomplete) g₃);
        output_elements_of = none_or row.2 c.output_elements (and_left outputs incomplete g₄);
        not_complete = not-true (complete row c) (and_right outputs incomplete g₄);
      }

  open_test : GoodCall T c → good_open (length T.methods) row c ≡ true
  open_test g =
      let counts = inputs && (outputs && incomplete) in
      and_i known (input && (output && counts)) (lt-ltb c.method (length T.methods) g.method_exists)
      (and_i input (output && counts) (imp_i c.input_closed row.1 g.input_closed_of)
      (and_i output counts
      (imp_i c.output_closed (row.3 && c.responded) (λ o. and_i row.3 c.responded (g.output_closed_of o) (g.after_response o)))
      (and_i inputs (outputs && incomplete) (or-zero row.0 c.input_elements g.input_elements_of)
      (and_i outputs incomplete (or-zero row.2 c.output_elements g.output_elements_of) (not_i (complete row c) g.not_complete)))))

  call_open : good_call T c ≡ true → c.«open» ≡ true → GoodCall T c
  unfolding good_call
  call_open g o = open_clauses (rw o at g)

  call-free : good_call T c ≡ true → c.«open» ≡ false → c ≡ empty_call
  unfolding good_call
  call-free g o = zero_is c o (rw o at g)

  call-test : (c.«open» ≡ true → GoodCall T c) → (c.«open» ≡ false → c ≡ empty_call) → good_call T c ≡ true
  unfolding good_call
  call-test f z = go c.«open» refl
    where
      go : (b : Bool) → c.«open» ≡ b → cond b (good_open (length T.methods) row c) (zero_call c) ≡ true
      go true o = open_test (f o)
      go false o = subst (λ (x : Call). zero_call x ≡ true) (sym (z o)) refl

-- ---- the correlations of the open calls
open_held : (l : List Call) (j : ℕ) → (slot l j).«open» ≡ true → contains (slot l j).correlation (open_ids l) ≡ true
open_held [] j o = clash false o refl
open_held (x ∷ xs) zero o = rw (o, eq-eqb x.correlation x.correlation refl)
open_held (x ∷ xs) (suc j) o = go x.«open» (open_held xs j o)
  where
    go : (b : Bool) → contains (slot xs j).correlation (open_ids xs) ≡ true → contains (slot xs j).correlation (cond b (x.correlation ∷ open_ids xs) (open_ids xs)) ≡ true
    go true h = or_right (eqb x.correlation (slot xs j).correlation) (contains (slot xs j).correlation (open_ids xs)) h
    go false h = h

held_open : (n : ℕ) (l : List Call) → contains n (open_ids l) ≡ true → (j : ℕ) × ((slot l j).«open» ≡ true) × ((slot l j).correlation ≡ n)
held_open n [] h = clash false h refl
held_open n (x ∷ xs) h = go x.«open» refl h (held_open n xs)
  where
    later : (j : ℕ) × ((slot xs j).«open» ≡ true) × ((slot xs j).correlation ≡ n) → (j : ℕ) × ((slot (x ∷ xs) j).«open» ≡ true) × ((slot (x ∷ xs) j).correlation ≡ n)
    later r = (suc r.0, r.1, r.2)

    go : (b : Bool) → x.«open» ≡ b → contains n (cond b (x.correlation ∷ open_ids xs) (open_ids xs)) ≡ true →
        (contains n (open_ids xs) ≡ true → (j : ℕ) × ((slot xs j).«open» ≡ true) × ((slot xs j).correlation ≡ n)) →
        (j : ℕ) × ((slot (x ∷ xs) j).«open» ≡ true) × ((slot (x ∷ xs) j).correlation ≡ n)
    go true o t ih = ⊎_elim (λ e. (0, o, eqb-true x.correlation n e)) (λ e. later (ih e)) (or_cases (eqb x.correlation n) (contains n (open_ids xs)) t)
    go false o t ih = later (ih t)

abbrev Differ : List Call → Type 0
Differ l = (i j : ℕ) → (slot l i).«open» ≡ true → (slot l j).«open» ≡ true → (slot l i).correlation ≡ (slot l j).correlation → i ≡ j

-- an open record before the rest: no record of the rest is open under its correlation
module _ (x : Call) (xs : List Call) (o : x.«open» ≡ true) where
  apart : distinct (open_ids (x ∷ xs)) ≡ true → (contains x.correlation (open_ids xs) ≡ false) × (distinct (open_ids xs) ≡ true)
  apart d =
      let n = not (contains x.correlation (open_ids xs)) in
      let e : (n && distinct (open_ids xs)) ≡ true = rw o at d in
      (not-true (contains x.correlation (open_ids xs)) (and_left n (distinct (open_ids xs)) e), and_right n (distinct (open_ids xs)) e)

distinct-rest : (x : Call) (xs : List Call) → distinct (open_ids (x ∷ xs)) ≡ true → distinct (open_ids xs) ≡ true
distinct-rest x xs d = ⊎_elim (λ o. (apart x xs o d).1) (λ o. rw o at d) (cases x.«open»)

differ_of : (l : List Call) → distinct (open_ids l) ≡ true → Differ l
differ_of [] d i j p q e = clash false p refl
differ_of (x ∷ xs) d zero zero p q e = refl
differ_of (x ∷ xs) d zero (suc j) p q e =
    clash (contains x.correlation (open_ids xs)) (subst (λ (n : ℕ). contains n (open_ids xs) ≡ true) (sym e) (open_held xs j q)) (apart x xs p d).0
differ_of (x ∷ xs) d (suc i) zero p q e =
    clash (contains x.correlation (open_ids xs)) (subst (λ (n : ℕ). contains n (open_ids xs) ≡ true) e (open_held xs i p)) (apart x xs q d).0
differ_of (x ∷ xs) d (suc i) (suc j) p q e = ap suc (differ_of xs (distinct-rest x xs d) i j p q e)

later-differ : (x : Call) (xs : List Call) → Differ (x ∷ xs) → Differ xs
later-differ x xs f i j p q e = let k = f (suc i) (suc j) p q e in omega arith

distinct_of : (l : List Call) → Differ l → distinct (open_ids l) ≡ true
distinct_of [] f = refl
distinct_of (x ∷ xs) f = go x.«open» refl (distinct_of xs (later-differ x xs f))
  where
    none : x.«open» ≡ true → contains x.correlation (open_ids xs) ≡ true → ⊥
    none o h = let r = held_open x.correlation xs h in let k = f 0 (suc r.0) o r.1 (sym r.2) in omega arith

    go : (b : Bool) → x.«open» ≡ b → distinct (open_ids xs) ≡ true → distinct (cond b (x.correlation ∷ open_ids xs) (open_ids xs)) ≡ true
    go true o ih =
        and_i (not (contains x.correlation (open_ids xs))) (distinct (open_ids xs))
        (not_i (contains x.correlation (open_ids xs)) (is_false (contains x.correlation (open_ids xs)) (none o))) ih
    go false o ih = ih

-- ---- the whole table
module _ (T : Table) where
  good-empty : good_call T empty_call ≡ true
  unfolding good_call
  good-empty = refl

  good-at : (l : List Call) (i : ℕ) → good_calls T l ≡ true → good_call T (slot l i) ≡ true
  good-at [] i g = good-empty
  good-at (x ∷ xs) zero g = and_left (good_call T x) (good_calls T xs) g
  good-at (x ∷ xs) (suc i) g = good-at xs i (and_right (good_call T x) (good_calls T xs) g)

  good-all : (l : List Call) → ((i : ℕ) → good_call T (slot l i) ≡ true) → good_calls T l ≡ true
  good-all [] f = refl
  good-all (x ∷ xs) f = and_i (good_call T x) (good_calls T xs) (f 0) (good-all xs (λ i. f (suc i)))

  module _ (l : List Call) where
    pub good-clauses : good_table T l ≡ true → GoodCalls T l
    unfolding good_table
    good-clauses g =
        let at : (i : ℕ) → good_call T (slot l i) ≡ true = λ i. good-at l i (and_left (good_calls T l) (distinct (open_ids l)) g) in
        record {
          free_zero = λ i o. call-free T (slot l i) (at i) o;
          differ = differ_of l (and_right (good_calls T l) (distinct (open_ids l)) g);
          calls = λ i o. call_open T (slot l i) (at i) o;
        }

    pub good-test : GoodCalls T l → good_table T l ≡ true
    unfolding good_table
    good-test g =
        and_i (good_calls T l) (distinct (open_ids l)) (good-all l (λ i. call-test T (slot l i) (g.calls i) (g.free_zero i)))
        (distinct_of l g.differ)

  -- The fresh table is good: antt computes the test over its 128 records.
  pub fresh-good : good_table T fresh_slots ≡ true
  unfolding good_table good_call
  fresh-good = refl
