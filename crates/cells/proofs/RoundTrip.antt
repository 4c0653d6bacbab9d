-- A call table survives being stored in cells and read back, and so do cells that are a call table; one record put at a slot.
use mathlib.Core.Path.{◌≡◌, refl, sym, ap, subst, ◌∙◌}
use mathlib.Core.Logic.{◌↔◌, ⊎_elim}
use mathlib.Core.Bool.{Bool, true, false, cond, ◌&&◌}
use mathlib.Core.List.{List, [], ◌∷◌, ◌++◌}
use Prim.Native.Nat.{ℕ, zero, suc, ◌+◌, ◌*◌, ◌/◌, ◌%◌, ◌≤◌, ◌<◌}
use native.Mathlib.Omega.{arith}
use lib.Dec.{eqb, leb, ltb, lit≤}
use borrow.Author.Tests.{eqb-true, eqb-false, leb-true, le-leb, ltb-true, ltb-false, lt-ltb}
use lib.ListN.{length, get_or, set, take, drop, replicate, length-set, take-append-drop}
use lib.Seq.{sets, set_out, take_all, drop-cons, length-sets, length-take-le}
use Rattle.buffer.proofs.Stores.{sets-later}
use Rattle.wire.proofs.Cases.{zeros}
use Rattle.schema.proofs.Bools.{cases, and_i, and_left, and_right}
use Rattle.calls.specs.declared.Call.{Call}
use Rattle.calls.specs.Record.{empty_call}
use Rattle.connection.specs.Step.{fresh_table}
use Rattle.cells.specs.Cells.{stored}
use Rattle.cells.specs.Records.{call_of, call_at, calls_from, calls_of, marks_of, record_cells, cells_of, plain, plain_from, are_calls, AreCalls, FitsCall, CallsFit}
use Rattle.cells.proofs.Stores.{sets-stored}
use Rattle.cells.proofs.Tables.{calls-long}

-- ---- one record

bit-small : (b : Bool) → cond b 1 0 ≤ 1
bit-small true = lit≤ tt
bit-small false = lit≤ tt

bit-told : (b : Bool) → eqb (cond b 1 0) 1 ≡ b
bit-told true = refl
bit-told false = refl

bit_is : (n : ℕ) → n < 2 → cond (eqb n 1) 1 0 ≡ n
bit_is zero h = refl
bit_is (suc zero) h = refl
bit_is (suc (suc n)) h = absurd (omega arith)

-- five bits and two counts, each read from the number that they make
module _ (a b c d e f g : ℕ) (p : a ≤ 1) (q : b ≤ 1) (r : c ≤ 1) (s : d ≤ 1) (t : e ≤ 1) (u : f < 65536) (v : g < 65536) where
  abbrev all : ℕ
  all = a + 2 * b + 4 * c + 8 * d + 16 * e + 32 * f + 2097152 * g

  bit_1 : all % 2 ≡ a
  bit_1 = omega arith

  bit_2 : all / 2 % 2 ≡ b
  bit_2 = omega arith

  bit_4 : all / 4 % 2 ≡ c
  bit_4 = omega arith

  bit_8 : all / 8 % 2 ≡ d
  bit_8 = omega arith

  bit_16 : all / 16 % 2 ≡ e
  bit_16 = omega arith

  inputs-back : all / 32 % 65536 ≡ f
  inputs-back = omega arith

  outputs-back : all / 2097152 % 65536 ≡ g
  outputs-back = omega arith

five-bits : (n : ℕ) → n % 2 + 2 * (n / 2 % 2) + 4 * (n / 4 % 2) + 8 * (n / 8 % 2) + 16 * (n / 16 % 2) ≡ n % 32
five-bits n =
    let a : n / 2 ≡ 2 * (n / 4) + n / 2 % 2 = omega arith in
    let b : n / 4 ≡ 2 * (n / 8) + n / 4 % 2 = omega arith in
    let c : n / 8 ≡ 2 * (n / 16) + n / 8 % 2 = omega arith in
    let d : n / 16 ≡ 2 * (n / 32) + n / 16 % 2 = omega arith in
    omega arith

all-bits : (n : ℕ) → n < 137438953472 → n % 32 + 32 * (n / 32 % 65536) + 2097152 * (n / 2097152 % 65536) ≡ n
all-bits n h =
    let a : n / 32 ≡ 65536 * (n / 2097152) + n / 32 % 65536 = omega arith in
    let b : n / 2097152 % 65536 ≡ n / 2097152 = omega arith in
    omega arith

below_two : (n : ℕ) → n % 2 < 2
below_two n = omega arith

-- A record survives its cells.
pub record_back : (c : Call) → FitsCall c → call_of c.correlation c.method (marks_of c) ≡ c
unfolding call_of
record_back c h =
    let o : ℕ = cond c.«open» 1 0 in
    let r : ℕ = cond c.responded 1 0 in
    let i : ℕ = cond c.input_closed 1 0 in
    let u : ℕ = cond c.output_closed 1 0 in
    let x : ℕ = cond c.cancelled 1 0 in
    let m = c.input_elements in
    let n = c.output_elements in
    let a = bit-small c.«open» in
    let b = bit-small c.responded in
    let d = bit-small c.input_closed in
    let e = bit-small c.output_closed in
    let f = bit-small c.cancelled in
    let v = h.inputs in
    let w = h.outputs in
    let one : ℕ → Bool = λ k. eqb k 1 in
    let method : c.method % 4294967296 ≡ c.method = omega (arith, h.method) in
    let first : eqb (marks_of c % 2) 1 ≡ c.«open» = ap one (bit_1 o r i u x m n a b d e f v w) ∙ bit-told c.«open» in
    let second : eqb (marks_of c / 2 % 2) 1 ≡ c.responded = ap one (bit_2 o r i u x m n a b d e f v w) ∙ bit-told c.responded in
    let third : eqb (marks_of c / 4 % 2) 1 ≡ c.input_closed = ap one (bit_4 o r i u x m n a b d e f v w) ∙ bit-told c.input_closed in
    let fourth : eqb (marks_of c / 8 % 2) 1 ≡ c.output_closed = ap one (bit_8 o r i u x m n a b d e f v w) ∙ bit-told c.output_closed in
    let fifth : eqb (marks_of c / 16 % 2) 1 ≡ c.cancelled = ap one (bit_16 o r i u x m n a b d e f v w) ∙ bit-told c.cancelled in
    let sixth : marks_of c / 32 % 65536 ≡ m = inputs-back o r i u x m n a b d e f v w in
    let seventh : marks_of c / 2097152 % 65536 ≡ n = outputs-back o r i u x m n a b d e f v w in
    λ k.
    record {
      correlation = c.correlation;
      method = method k;
      «open» = first k;
      responded = second k;
      input_closed = third k;
      output_closed = fourth k;
      cancelled = fifth k;
      input_elements = sixth k;
      output_elements = seventh k;
    }

-- The cells of a record that was read are those that it was read from.
pub record_plain : (id method marks : ℕ) → method < 4294967296 → marks < 137438953472 → record_cells (call_of id method marks) ≡ id ∷ method ∷ marks ∷ []
unfolding call_of
record_plain id method marks few small =
    let bit : (n : ℕ) → cond (eqb (n % 2) 1) 1 0 ≡ n % 2 = λ n. bit_is (n % 2) (below_two n) in
    let number : method % 4294967296 ≡ method = omega arith in
    rw (number, bit marks, bit (marks / 2), bit (marks / 4), bit (marks / 8), bit (marks / 16), five-bits marks, all-bits marks small)

-- ---- the whole table

-- three cells more at the front, and one record later
later : (a b m : ℕ) (cells : List ℕ) (i n : ℕ) → calls_from (a ∷ b ∷ m ∷ cells) (suc i) n ≡ calls_from cells i n
unfolding calls_from
later a b m cells i zero = refl
later a b m cells i (suc n) =
    let two : 3 * suc i + 2 ≡ suc (suc (suc (3 * i + 2))) = omega arith in
    let one : 3 * suc i + 1 ≡ suc (suc (suc (3 * i + 1))) = omega arith in
    let none : 3 * suc i ≡ suc (suc (suc (3 * i))) = omega arith in
    rw (two, one, none) (ap (λ (l : List Call). call_at cells i ∷ l) (later a b m cells (suc i) n))

front-back : (l : List Call) (rest : List ℕ) → CallsFit l → calls_from (cells_of l ++ rest) 0 (length l) ≡ l
unfolding calls_from cells_of
front-back [] rest h = refl
front-back (c ∷ cs) rest h =
    let one = record_back c (h 0) in
    let more = later c.correlation c.method (marks_of c) (cells_of cs ++ rest) 0 (length cs) ∙ front-back cs rest (λ i. h (suc i)) in
    λ k. (one k) ∷ (more k)

pub cells-long : (l : List Call) → length (cells_of l) ≡ 3 * length l
unfolding cells_of
cells-long [] = refl
cells-long (c ∷ cs) = let e = cells-long cs in omega arith

stored-long : (cells values : List ℕ) → length (stored cells values) ≡ length cells
stored-long cells values = ap length (sym (sets-stored cells values)) ∙ length-sets cells 0 values

pub stored-whole : (cells values : List ℕ) → length values ≤ length cells → stored cells values ≡ values ++ drop (length values) cells
unfolding stored
stored-whole cells values h = rw (take_all (length cells) values h)

-- A call table survives being stored and read back, in as many cells as it needs.
pub table-back : (cells : List ℕ) (l : List Call) → length l ≡ 128 → CallsFit l → 384 ≤ length cells → calls_of (stored cells (cells_of l)) ≡ l
table-back cells l n h room =
    let long = cells-long l in
    rw (stored-whole cells (cells_of l) (omega arith), ← n) (front-back l (drop (length (cells_of l)) cells) h)

-- ---- any cells are a table

-- Whatever the cells, they hold 128 records, whose method numbers have 32 bits and whose counts have 16.
pub loaded-long : (cells : List ℕ) → length (calls_of cells) ≡ 128
loaded-long cells = calls-long cells 0 128

record_small : (id method marks : ℕ) → FitsCall (call_of id method marks)
unfolding call_of
record_small id method marks = record { method = omega arith; inputs = omega arith; outputs = omega arith }

pub none-fits : FitsCall empty_call
none-fits = record { method = lit≤ tt; inputs = lit≤ tt; outputs = lit≤ tt }

loaded-from : (cells : List ℕ) (i n : ℕ) → CallsFit (calls_from cells i n)
unfolding calls_from
loaded-from cells i zero j = none-fits
loaded-from cells i (suc n) zero = record_small (get_or cells (3 * i) 0) (get_or cells (3 * i + 1) 0) (get_or cells (3 * i + 2) 0)
loaded-from cells i (suc n) (suc j) = loaded-from cells (suc i) n j

pub loaded-fits : (cells : List ℕ) → CallsFit (calls_of cells)
loaded-fits cells = loaded-from cells 0 128

-- ---- cells that are a call table

abbrev plain_at_lem : List ℕ → ℕ → Bool
plain_at_lem cells i = plain (get_or cells (3 * i + 1) 0) (get_or cells (3 * i + 2) 0)

plain_at : (cells : List ℕ) (i n : ℕ) → plain_from cells i n ≡ true → (j : ℕ) → i ≤ j → j < i + n → plain_at_lem cells j ≡ true
unfolding plain_from
plain_at cells i zero t j low high = absurd (omega arith)
plain_at cells i (suc n) t j low high =
    ⊎_elim
    (λ e. subst (λ (k : ℕ). plain_at_lem cells k ≡ true) (eqb-true i j e) (and_left (plain_at_lem cells i) (plain_from cells (suc i) n) t))
    (λ e. let ne = eqb-false i j e in plain_at cells (suc i) n (and_right (plain_at_lem cells i) (plain_from cells (suc i) n) t) j (above i j low ne) (omega arith))
    (cases (eqb i j))
  where
    above : (i j : ℕ) → i ≤ j → (i ≡ j → ⊥) → suc i ≤ j
    above i j low ne = omega arith

all_plain : (cells : List ℕ) (i n : ℕ) → ((j : ℕ) → i ≤ j → j < i + n → plain_at_lem cells j ≡ true) → plain_from cells i n ≡ true
unfolding plain_from
all_plain cells i zero f = refl
all_plain cells i (suc n) f =
    and_i (plain_at_lem cells i) (plain_from cells (suc i) n) (f i (omega arith) (omega arith)) (all_plain cells (suc i) n (λ j low high. f j (omega arith) (omega arith)))

-- The test passes exactly for the cells that are a call table.
pub are-calls-iff : (cells : List ℕ) → (are_calls cells ≡ true) ↔ AreCalls cells
unfolding are_calls
are-calls-iff cells = (told, test)
  where
    told : are_calls cells ≡ true → AreCalls cells
    told t =
        let each : (i : ℕ) → i < 128 → plain_at_lem cells i ≡ true = λ i h.
        plain_at cells 0 128 (and_right (leb 384 (length cells)) (plain_from cells 0 128) t) i (omega arith) h in
        record {
          enough = leb-true 384 (length cells) (and_left (leb 384 (length cells)) (plain_from cells 0 128) t);
          methods = λ i h. ltb-true (get_or cells (3 * i + 1) 0) 4294967296 (and_left (ltb (get_or cells (3 * i + 1) 0) 4294967296) (ltb (get_or cells (3 * i + 2) 0) 137438953472) (each i h));
          marks = λ i h. ltb-true (get_or cells (3 * i + 2) 0) 137438953472 (and_right (ltb (get_or cells (3 * i + 1) 0) 4294967296) (ltb (get_or cells (3 * i + 2) 0) 137438953472) (each i h));
        }

    test : AreCalls cells → are_calls cells ≡ true
    test w =
        and_i (leb 384 (length cells)) (plain_from cells 0 128) (le-leb 384 (length cells) w.enough)
        (all_plain cells 0 128
        (λ j low high.
        and_i (ltb (get_or cells (3 * j + 1) 0) 4294967296) (ltb (get_or cells (3 * j + 2) 0) 137438953472)
        (lt-ltb (get_or cells (3 * j + 1) 0) 4294967296 (w.methods j high)) (lt-ltb (get_or cells (3 * j + 2) 0) 137438953472 (w.marks j high))))

-- three cells more at the front, and one record later
plain-later : (a b m : ℕ) (cells : List ℕ) (i n : ℕ) → plain_from (a ∷ b ∷ m ∷ cells) (suc i) n ≡ plain_from cells i n
unfolding plain_from
plain-later a b m cells i zero = refl
plain-later a b m cells i (suc n) =
    let two : 3 * suc i + 2 ≡ suc (suc (suc (3 * i + 2))) = omega arith in
    let one : 3 * suc i + 1 ≡ suc (suc (suc (3 * i + 1))) = omega arith in
    rw (two, one) (ap (λ (t : Bool). plain_at_lem cells i && t) (plain-later a b m cells (suc i) n))

marks-small : (c : Call) → FitsCall c → marks_of c < 137438953472
marks-small c h =
    let a = bit-small c.«open» in
    let b = bit-small c.responded in
    let d = bit-small c.input_closed in
    let e = bit-small c.output_closed in
    let f = bit-small c.cancelled in
    omega (arith, h.inputs, h.outputs, a, b, d, e, f)

front-plain : (l : List Call) (rest : List ℕ) → CallsFit l → plain_from (cells_of l ++ rest) 0 (length l) ≡ true
unfolding plain_from cells_of
front-plain [] rest h = refl
front-plain (c ∷ cs) rest h =
    and_i (plain c.method (marks_of c)) (plain_from (cells_of (c ∷ cs) ++ rest) 1 (length cs))
    (and_i (ltb c.method 4294967296) (ltb (marks_of c) 137438953472) (lt-ltb c.method 4294967296 (h 0).method) (lt-ltb (marks_of c) 137438953472 (marks-small c (h 0))))
    (plain-later c.correlation c.method (marks_of c) (cells_of cs ++ rest) 0 (length cs) ∙ front-plain cs rest (λ i. h (suc i)))

-- The cells of a table are a call table.
pub stored-calls : (cells : List ℕ) (l : List Call) → length l ≡ 128 → CallsFit l → 384 ≤ length cells → are_calls (stored cells (cells_of l)) ≡ true
unfolding are_calls
stored-calls cells l n h room =
    let long = cells-long l in
    let enough : 384 ≤ length (stored cells (cells_of l)) = omega (arith, stored-long cells (cells_of l)) in
    and_i (leb 384 (length (stored cells (cells_of l)))) (plain_from (stored cells (cells_of l)) 0 128) (le-leb 384 (length (stored cells (cells_of l))) enough)
    (rw (stored-whole cells (cells_of l) (omega arith), ← n) (front-plain l (drop (length (cells_of l)) cells) h))

-- the records' cells, read and written again
cells-from : (cells : List ℕ) → AreCalls cells → (i n : ℕ) → i + n ≤ 128 → cells_of (calls_from cells i n) ≡ take (3 * n) (drop (3 * i) cells)
unfolding calls_from cells_of
cells-from cells w i zero h = refl
cells-from cells w i (suc n) h =
    let enough = w.enough in
    let three : 3 * suc n ≡ suc (suc (suc (3 * n))) = omega arith in
    let next : suc (suc (suc (3 * i))) ≡ 3 * suc i = omega arith in
    let one : suc (3 * i) ≡ 3 * i + 1 = omega arith in
    let two : suc (suc (3 * i)) ≡ 3 * i + 2 = omega arith in
    let own = record_plain (get_or cells (3 * i) 0) (get_or cells (3 * i + 1) 0) (get_or cells (3 * i + 2) 0) (w.methods i (omega arith)) (w.marks i (omega arith)) in
    ap (λ (r : List ℕ). r ++ cells_of (calls_from cells (suc i) n)) own
    ∙ ap (λ (r : List ℕ). get_or cells (3 * i) 0 ∷ get_or cells (3 * i + 1) 0 ∷ get_or cells (3 * i + 2) 0 ∷ r) (cells-from cells w (suc i) n (omega arith))
    ∙ sym (rw (three, drop-cons cells (3 * i) 0 (omega arith), drop-cons cells (suc (3 * i)) 0 (omega arith), drop-cons cells (suc (suc (3 * i))) 0 (omega arith), next, two, one))

-- Such cells stay as they are where the table that they hold is stored again.
pub cells-kept : (cells : List ℕ) → AreCalls cells → stored cells (cells_of (calls_of cells)) ≡ cells
cells-kept cells w =
    let enough = w.enough in
    let own : cells_of (calls_of cells) ≡ take 384 cells = cells-from cells w 0 128 (omega arith) in
    let long : length (take 384 cells) ≡ 384 = length-take-le 384 cells enough in
    rw own (stored-whole cells (take 384 cells) (omega arith) ∙ rw long (take-append-drop 384 cells))

-- ---- the fresh table

-- Cells that are all zero hold the fresh table.
zero-call : call_of 0 0 0 ≡ empty_call
unfolding call_of
zero-call = refl

zero-from : (n i k : ℕ) → calls_from (replicate n 0) i k ≡ replicate k empty_call
unfolding calls_from
zero-from n i zero = refl
zero-from n i (suc k) =
    rw (zeros n (3 * i), zeros n (3 * i + 1), zeros n (3 * i + 2), zero-call) (ap (λ (l : List Call). empty_call ∷ l) (zero-from n (suc i) k))

pub zeros-fresh : (n : ℕ) → calls_of (replicate n 0) ≡ fresh_table.slots
zeros-fresh n = zero-from n 0 128

-- ---- a record put at a slot

-- three cells more at the front
sets-three : (a b m : ℕ) (l : List ℕ) (k : ℕ) (vs : List ℕ) → sets (a ∷ b ∷ m ∷ l) (suc (suc (suc k))) vs ≡ a ∷ b ∷ m ∷ sets l k vs
sets-three a b m l k vs =
    sets-later a (b ∷ m ∷ l) (suc (suc k)) vs
    ∙ ap (◌∷◌ a) (sets-later b (m ∷ l) (suc k) vs
    ∙ ap (◌∷◌ b) (sets-later m l k vs))

-- its three cells among those of all records
set-cells : (cs : List Call) (rest : List ℕ) (i : ℕ) (c : Call) → i < length cs → cells_of (set cs i c) ++ rest ≡ sets (cells_of cs ++ rest) (3 * i) (record_cells c)
unfolding cells_of
set-cells [] rest i c h = absurd (omega arith)
set-cells (x ∷ xs) rest zero c h = refl
set-cells (x ∷ xs) rest (suc i) c h =
    let three : suc (suc (suc (3 * i))) ≡ 3 * suc i = omega arith in
    ap (λ (r : List ℕ). x.correlation ∷ x.method ∷ marks_of x ∷ r) (set-cells xs rest i c (omega arith))
    ∙ sym (sets-three x.correlation x.method (marks_of x) (cells_of xs ++ rest) (3 * i) (record_cells c))
    ∙ ap (λ (k : ℕ). sets (cells_of (x ∷ xs) ++ rest) k (record_cells c)) three

-- Cells that are a call table, with a record at a slot: the cells of the table with that record.
pub slot-stored : (cells : List ℕ) (i : ℕ) (c : Call) → are_calls cells ≡ true
    → cond (ltb i 128) (sets cells (3 * i) (record_cells c)) cells ≡ stored cells (cells_of (set (calls_of cells) i c))
slot-stored cells i c t = go (ltb i 128) refl
  where
    l : List Call
    l = calls_of cells

    w : AreCalls cells
    w = (are-calls-iff cells).0 t

    rest : List ℕ
    rest = drop (length (cells_of l)) cells

    room : length (cells_of l) ≤ length cells
    room = omega (arith, cells-long l, calls-long cells 0 128, w.enough)

    kept : cells_of l ++ rest ≡ cells
    kept = sym (stored-whole cells (cells_of l) room) ∙ cells-kept cells w

    same : length (cells_of (set l i c)) ≡ length (cells_of l)
    same = cells-long (set l i c) ∙ ap (λ (n : ℕ). 3 * n) (length-set l i c) ∙ sym (cells-long l)

    go : (b : Bool) → ltb i 128 ≡ b → cond b (sets cells (3 * i) (record_cells c)) cells ≡ stored cells (cells_of (set l i c))
    go true e =
        let h : i < length l = omega (arith, ltb-true i 128 e, calls-long cells 0 128) in
        ap (λ (x : List ℕ). sets x (3 * i) (record_cells c)) (sym kept)
        ∙ sym (set-cells l rest i c h)
        ∙ ap (λ (n : ℕ). cells_of (set l i c) ++ drop n cells) (sym same)
        ∙ sym (stored-whole cells (cells_of (set l i c)) (omega (arith, same, room)))
    go false e =
        let h : length l ≤ i = omega (arith, ltb-false i 128 e, calls-long cells 0 128) in
        sym (ap (λ (x : List Call). stored cells (cells_of x)) (set_out l i c h) ∙ cells-kept cells w)
