-- The slots of the call table in cells: the record at each, searches, the count of open calls, and the loop that tests whether the table is good.
use Rattle.std.specs.Prelude.{None, Some}
use mathlib.Core.Path.{◌≡◌, refl, sym, ap, subst, ◌∙◌}
use mathlib.Core.Bool.{Bool, true, false, cond, ◌&&◌, ◌||◌}
use mathlib.Core.List.{List, [], ◌∷◌}
use Prim.Native.Nat.{ℕ, zero, suc, ◌+◌, ◌*◌, ◌%◌, ◌≤◌, ◌<◌}
use native.Mathlib.Omega.{arith}
use lib.Dec.{eqb, ltb}
use lib.ListN.{length, get_or, take, set}
use lib.Seq.{get_or-take, set_out}
use borrow.Author.Tests.{eqb-true, ltb-true, ltb-false, le-ltb, le-leb}
use Rattle.schema.proofs.Bools.{and_left, and_right}
use Rattle.schema.specs.Table.{Table}
use Rattle.calls.specs.declared.Call.{Call}
use Rattle.calls.specs.declared.FormRow.{FormRow}
use Rattle.calls.specs.Record.{empty_call, good_open}
use Rattle.calls.specs.Slots.{slot, count_open, good_call, good_table, form_row}
use Rattle.connection.specs.Slots.{all_from, good_count}
use Rattle.wire.proofs.Cases.{differ}
use Rattle.cells.specs.Kept.{SameCalls}
use Rattle.cells.specs.Records.{call_of, call_at, calls_from, calls_of, CountsOpen, plain, plain_from, are_calls}
use Rattle.cells.proofs.Tables.{calls-long, too_few}

-- ---- the record at a slot

from_at : (cells : List ℕ) (k n i : ℕ) → i < n → get_or (calls_from cells k n) i empty_call ≡ call_at cells (k + i)
unfolding calls_from
from_at cells k zero i h = absurd (omega arith)
from_at cells k (suc n) zero h =
    let e : k ≡ k + 0 = omega arith in
    ap (λ (j : ℕ). call_at cells j) e
from_at cells k (suc n) (suc i) h =
    let e : suc k + i ≡ k + suc i = omega arith in
    from_at cells (suc k) n i (omega arith) ∙ ap (λ (j : ℕ). call_at cells j) e

pub slot_is : (cells : List ℕ) (i : ℕ) → i < 128 → slot (calls_of cells) i ≡ call_at cells i
slot_is cells i h =
    let e : 0 + i ≡ i = omega arith in
    from_at cells 0 128 i h ∙ ap (λ (j : ℕ). call_at cells j) e

open_is : (cells : List ℕ) (i : ℕ) → (call_at cells i).«open» ≡ eqb (get_or cells (3 * i + 2) 0 % 2) 1
unfolding call_of
open_is cells i = refl

id-is : (cells : List ℕ) (i : ℕ) → (call_at cells i).correlation ≡ get_or cells (3 * i) 0
unfolding call_of
id-is cells i = refl

pub open_at : (cells : List ℕ) (i : ℕ) → i < 128 → (slot (calls_of cells) i).«open» ≡ eqb (get_or cells (3 * i + 2) 0 % 2) 1
open_at cells i h = ap (λ (c : Call). c.«open») (slot_is cells i h) ∙ open_is cells i

pub correlation_at : (cells : List ℕ) (i : ℕ) → i < 128 → (slot (calls_of cells) i).correlation ≡ get_or cells (3 * i) 0
correlation_at cells i h = ap (λ (c : Call). c.correlation) (slot_is cells i h) ∙ id-is cells i

pub long : (cells : List ℕ) → length (calls_of cells) ≡ 128
long cells = calls-long cells 0 128

-- Of the cells none past the 384th is a record's.
from-taken : (cells : List ℕ) (i n : ℕ) → i + n ≤ 128 → calls_from (take 384 cells) i n ≡ calls_from cells i n
unfolding calls_from
from-taken cells i zero h = refl
from-taken cells i (suc n) h =
    let a = get_or-take 384 cells (3 * i) 0 (omega arith) in
    let b = get_or-take 384 cells (3 * i + 1) 0 (omega arith) in
    let c = get_or-take 384 cells (3 * i + 2) 0 (omega arith) in
    let more = from-taken cells (suc i) n (omega arith) in
    λ k. call_of (a k) (b k) (c k) ∷ more k

pub taken_calls : (cells : List ℕ) → calls_of (take 384 cells) ≡ calls_of cells
taken_calls cells = from-taken cells 0 128 (omega arith)

-- ---- a record that is told at a glance

-- one that is free
pub free-good : (T : Table) (id method marks : ℕ) → (eqb id 0 && (eqb method 0 && eqb marks 0)) ≡ true → true ≡ (plain method marks && good_call T (call_of id method marks))
unfolding call_of good_call
free-good T id method marks t =
    let rest = and_right (eqb id 0) (eqb method 0 && eqb marks 0) t in
    let a : id ≡ 0 = eqb-true id 0 (and_left (eqb id 0) (eqb method 0 && eqb marks 0) t) in
    let b : method ≡ 0 = eqb-true method 0 (and_left (eqb method 0) (eqb marks 0) rest) in
    let c : marks ≡ 0 = eqb-true marks 0 (and_right (eqb method 0) (eqb marks 0) rest) in
    rw (a, b, c)

shut : (t a b : Bool) → (t && (true && (true && ((a || true) && ((b || true) && true))))) ≡ t
shut false a b = refl
shut true true true = refl
shut true true false = refl
shut true false true = refl
shut true false false = refl

-- an open record without marks and elements is good where its method is
opened-row : (k : ℕ) (row : FormRow) (id method : ℕ) → good_open k row (call_of id method 1) ≡ ltb (method % 4294967296) k
unfolding call_of
opened-row k row id method = shut (ltb (method % 4294967296) k) row.0 row.2

opened_open : (id method : ℕ) → (call_of id method 1).«open» ≡ true
unfolding call_of
opened_open id method = refl

opened-call : (T : Table) (id method : ℕ) → good_call T (call_of id method 1) ≡ ltb (method % 4294967296) (length T.methods)
unfolding good_call
opened-call T id method = rw (opened_open id method) (opened-row (length T.methods) (form_row T (call_of id method 1)) id method)

pub opened-good : (T : Table) (id method marks k : ℕ) → k ≡ length T.methods → k ≤ 256 → marks ≡ 1
    → ltb method k ≡ (plain method marks && good_call T (call_of id method marks))
opened-good T id method marks k count few e =
    subst (λ (n : ℕ). ltb method k ≡ (plain method n && good_call T (call_of id method n))) (sym e) (go (ltb method 4294967296) refl)
  where
    go : (b : Bool) → ltb method 4294967296 ≡ b → ltb method k ≡ ((b && true) && good_call T (call_of id method 1))
    go true t =
        let m : method % 4294967296 ≡ method = omega (arith, ltb-true method 4294967296 t) in
        ap (ltb method) count ∙ sym (opened-call T id method ∙ ap (λ (n : ℕ). ltb n (length T.methods)) m)
    go false t = le-ltb method k (omega (arith, ltb-false method 4294967296 t, few))

-- ---- cells that are a call table

plain-all : (cells : List ℕ) (i n : ℕ) → all_from (λ j. plain (get_or cells (3 * j + 1) 0) (get_or cells (3 * j + 2) 0)) i n ≡ plain_from cells i n
unfolding all_from plain_from
plain-all cells i zero = refl
plain-all cells i (suc n) = ap (λ (b : Bool). plain (get_or cells (3 * i + 1) 0) (get_or cells (3 * i + 2) 0) && b) (plain-all cells (suc i) n)

plain-taken : (cells : List ℕ) (i n : ℕ) → i + n ≤ 128 → plain_from (take 384 cells) i n ≡ plain_from cells i n
unfolding plain_from
plain-taken cells i zero h = refl
plain-taken cells i (suc n) h =
    let a = get_or-take 384 cells (3 * i + 1) 0 (omega arith) in
    let b = get_or-take 384 cells (3 * i + 2) 0 (omega arith) in
    let more = plain-taken cells (suc i) n (omega arith) in
    λ k. plain (a k) (b k) && more k

-- the 384 cells alone hold the same table
pub same_taken : (cells : List ℕ) → SameCalls (take 384 cells) cells
same_taken cells = (taken_calls cells, plain-taken cells 0 128 (omega arith))

pub few-bad : (T : Table) (cells : List ℕ) → length cells < 384 → false ≡ (are_calls cells && good_table T (calls_of cells))
few-bad T cells h = ap (λ (b : Bool). b && good_table T (calls_of cells)) (too_few cells h)

some-same : {m n : ℕ} → Some m ≡ Some n → m ≡ n
some-same e = cc

open_few : (l : List Call) → count_open l ≤ length l
open_few [] = omega arith
open_few (x ∷ xs) = go x.«open» (open_few xs)
  where
    go : (b : Bool) → count_open xs ≤ length xs → cond b (suc (count_open xs)) (count_open xs) ≤ suc (length xs)
    go true h = omega (arith, h)
    go false h = omega (arith, h)

-- what the loop over the records says of cells with the same table
module _ (T : Table) (cells taken : List ℕ) (same : SameCalls taken cells) (enough : 384 ≤ length cells) where
  abbrev fits : ℕ → Bool
  fits j = plain (get_or taken (3 * j + 1) 0) (get_or taken (3 * j + 2) 0)

  all-good : (all_from fits 0 128 && good_table T (calls_of taken)) ≡ (are_calls cells && good_table T (calls_of cells))
  unfolding are_calls
  all-good = rw (plain-all taken 0 128, same.1, same.0, le-leb 384 (length cells) enough)

  pub good-counted : (n : ℕ) → Some n ≡ good_count fits T (calls_of taken) → (true ≡ (are_calls cells && good_table T (calls_of cells))) × CountsOpen cells n
  good-counted n e = go (all_from fits 0 128 && good_table T (calls_of taken)) all-good e
    where
      go : (b : Bool) → b ≡ (are_calls cells && good_table T (calls_of cells)) → Some n ≡ cond b (Some (count_open (calls_of taken))) None
          → (true ≡ (are_calls cells && good_table T (calls_of cells))) × CountsOpen cells n
      go true q e =
          let count : n ≡ count_open (calls_of cells) = some-same e ∙ ap count_open same.0 in
          (q, (count, omega (arith, count, open_few (calls_of cells), long cells)))
      go false q e = differ cc

  pub bad-counted : None ≡ good_count fits T (calls_of taken) → false ≡ (are_calls cells && good_table T (calls_of cells))
  bad-counted e = go (all_from fits 0 128 && good_table T (calls_of taken)) e ∙ all-good
    where
      go : (b : Bool) → None ≡ cond b (Some (count_open (calls_of taken))) None → false ≡ b
      go true e = differ cc
      go false e = refl

-- ---- a record changed

-- the calls open after a record is put at a slot
pub count_set : (l : List Call) (i : ℕ) (c : Call) → i < length l
    → count_open (set l i c) + cond (slot l i).«open» 1 0 ≡ count_open l + cond c.«open» 1 0
count_set [] i c h = absurd (omega arith)
count_set (x ∷ xs) zero c h = go x.«open» c.«open» (count_open xs)
  where
    go : (a b : Bool) (n : ℕ) → cond b (suc n) n + cond a 1 0 ≡ cond a (suc n) n + cond b 1 0
    go true true n = refl
    go true false n = omega arith
    go false true n = omega arith
    go false false n = refl
count_set (x ∷ xs) (suc i) c h = go x.«open» (count_set xs i c (omega arith))
  where
    m : ℕ
    m = cond (slot xs i).«open» 1 0

    k : ℕ
    k = cond c.«open» 1 0

    go : (a : Bool) → count_open (set xs i c) + m ≡ count_open xs + k
        → cond a (suc (count_open (set xs i c))) (count_open (set xs i c)) + m ≡ cond a (suc (count_open xs)) (count_open xs) + k
    go true e = omega (arith, e)
    go false e = e

-- the same of the table in cells, as the code counts
pub open_set : (cells : List ℕ) (i n a b : ℕ) (c old : Call) → i < 128 → n ≡ count_open (calls_of cells) → a ≡ cond c.«open» 1 0
    → old ≡ slot (calls_of cells) i → b ≡ cond old.«open» 1 0 → n + a ≡ count_open (set (calls_of cells) i c) + b
open_set cells i n a b c old h count new was bit =
    let k = count_set (calls_of cells) i c (omega (arith, long cells, h)) in
    let e : b ≡ cond (slot (calls_of cells) i).«open» 1 0 = bit ∙ ap (λ (x : Call). cond x.«open» 1 0) was in
    omega (arith, k, count, new, e)

pub open_same : (cells : List ℕ) (i n : ℕ) (c : Call) → 128 ≤ i → n ≡ count_open (calls_of cells) → n ≡ count_open (set (calls_of cells) i c)
open_same cells i n c h count = count ∙ ap count_open (sym (set_out (calls_of cells) i c (omega (arith, long cells, h))))
