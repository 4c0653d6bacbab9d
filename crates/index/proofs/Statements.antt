-- What an index and a look-up promise: about the entries' answers, over bytes.
use mathlib.Core.Path.{◌≡◌, refl, sym, ap, subst, ◌∙◌}
use mathlib.Core.Bool.{Bool, true, false, cond}
use mathlib.Core.List.Memᴰ
use mathlib.Core.List.{List, [], ◌∷◌, ◌++◌, Memᴰ}
use mathlib.Core.Logic.{◌↔◌, ◌⊎◌, inl, inr, ⊎_elim}
use Prim.Native.Nat.{ℕ, suc, ◌+◌, ◌*◌, ◌^◌, ◌≤◌, ◌<◌}
use native.Mathlib.Omega.{arith}
use native.Mathlib.Decide.{dec_le}
use borrow.Author.Tests.{lt-ltb, le-ltb, eq-eqb, ne_eqb, eqb-true, eqb-false}
use lib.Dec.{eqb}
use lib.ListN.{length, take, drop}
use lib.Seq.{take_at}
use Rattle.wire.specs.Little.{Bytes}
use Rattle.wire.proofs.Numbers.{bytes-parts, bytes_drop, little-below}
use Rattle.wire.proofs.Cases.{differ}
use Rattle.schema.specs.Checked.{Checked}
use Rattle.schema.specs.Checked.{Good, Refused as Faulty}
use Rattle.schema.specs.File.{table_of}
use Rattle.schema.specs.Check.{checked, IsGood}
use Rattle.schema.proofs.Faults.{refused-iff as schema-refused}
use Rattle.schema.proofs.Numbered.{listed as schema-listed, listed-bounds}
use Rattle.schema.proofs.Bools.{cases, clash, is_false}
use Rattle.frame.specs.declared.Header.{Header}
use Rattle.frame.specs.Frame.{frame_of}
use Rattle.frame.specs.IsFrame.{IsFrame, frame}
use Rattle.frame.proofs.Frames.{read-is-frame}
use Rattle.calls.specs.declared.Call.{Call}
use Rattle.receiver.specs.Claims as line
use Rattle.receiver.specs.Fresh.{received_fresh}
use Rattle.receiver.specs.Run.{fresh_tallies}
use Rattle.receiver.proofs.Numbered.{listed}
use Rattle.replay.specs.Run.{sheet, fresh_calls, answer_to, header_in, Entry, Run, run_of}
use Rattle.replay.specs.Runs.{Runs, at-end, halting, answering}
use Rattle.replay.proofs.Turns.{listed-frame}
use Rattle.replay.proofs.Replays as replay
use Rattle.index.specs.Indexing.{Made, Refused}
use Rattle.index.specs.Finding.{Printed, Refused as Unprinted}
use Rattle.index.specs.Row.{Row, row_of, rows_of, insert, ordered, Rising, no_row, of_call}
use Rattle.index.specs.Index.{index_bytes, rows_for, Outcome, outcome, index_into, make_index}
use Rattle.index.specs.IsIndex.{RowFits, RowsFit, none_left, one-fits, IsIndex, rows_in, count_in, size_in, is_index}
use Rattle.index.specs.Text.{heading, line_text, lines_text, stopped_text, text_of, call_lines, call_text}
use Rattle.index.specs.Claims.{Has, Accepted, Refuses, bad_table, too_long, no_room, Judges, right, other_record, no_index, Finds, prints, no_space}
use Rattle.index.specs.LookUp as look
use Rattle.index.proofs.Orders.{Below, none_below, one_below, below_more, Later, ordered-rising, ordered-has, ordered-length, call-ordered, by_call, call-rising}
use Rattle.index.proofs.Orders.{call-is, call_not, call_none, of-call-iff, by_first, insert-here, insert-later, insert-last, ordered-none, ordered-one}
use Rattle.index.proofs.Readings.{index_reads, reads-index, index-long}
use Rattle.index.proofs.Turns.{run-later, run-below, run_short, table-refused, record_refused, record_indexed}

-- ---- rows and entries

-- an entry's row has its three numbers
row_had : {c p n : ℕ} (es : List Entry) → Memᴰ (record { correlation = c; place = p; answer = n }) (rows_of es) → Has es c p n
row_had [] m = elim m [ ]
row_had {c = c} {p = p} {n = n} (e ∷ es) m =
    ⊎_elim
    (λ k.
    record {
      entry = e;
      there = Memᴰ.head refl;
      correlation-is = sym (ap (λ (r : Row). r.correlation) k);
      place_is = sym (ap (λ (r : Row). r.place) k);
      answer-is = sym (ap (λ (r : Row). r.answer) k);
    })
    (λ k.
    let w = row_had {c = c} {p = p} {n = n} es k in
    record { entry = w.entry; there = Memᴰ.tail w.there; correlation-is = w.correlation-is; place_is = w.place_is; answer-is = w.answer-is })
    (Memᴰ.cases_cons m)

row-there : (e : Entry) (es : List Entry) → Memᴰ e es → Memᴰ (row_of e) (rows_of es)
row-there e [] m = elim m [ ]
row-there e (x ∷ es) m = ⊎_elim (λ k. Memᴰ.head (ap row_of k)) (λ k. Memᴰ.tail (row-there e es k)) (Memᴰ.cases_cons m)

row_has : {c p n : ℕ} {es : List Entry} → Has es c p n → Memᴰ (record { correlation = c; place = p; answer = n }) (rows_of es)
row_has {c = c} {p = p} {n = n} {es = es} w =
    let same : row_of w.entry ≡ record { correlation = c; place = p; answer = n } =
    λ i. record { correlation = w.correlation-is i; place = w.place_is i; answer = w.answer-is i } in
    subst (λ (r : Row). Memᴰ r (rows_of es)) same (row-there w.entry es w.there)

row-each : (es : List Entry) → length (rows_of es) ≡ length es
row-each [] = refl
row-each (e ∷ es) = ap suc (row-each es)

-- ---- the rows of an index

module _ (schema entries : List ℕ) where
  abbrev run : List Row
  run = rows_of (run_of schema entries).entries

  later : Later 0 run
  unfolding run_of
  later = run-later (replay.run_is schema (length entries) 0 entries fresh_calls (omega arith))

  -- "16-byte rows of correlation, entry place and answer, strictly rising by correlation and then place"
  pub rows-rising : Rising (rows_for schema entries)
  unfolding rows_for
  rows-rising = ordered-rising [] run 0 no_row none_below later

  -- "it covers exactly the entries the listing prints": a row with this correlation, place and answer is there exactly where an entry of the record's run
  -- has them, and there are as many rows as entries.
  pub rows-cover : (c p n : ℕ) → Memᴰ (record { correlation = c; place = p; answer = n }) (rows_for schema entries) ↔ Has (run_of schema entries).entries c p n
  unfolding rows_for
  rows-cover c p n = (
    λ w. ⊎_elim (λ m. elim m [ ]) (λ m. row_had (run_of schema entries).entries m) ((ordered-has [] run).0 w),
    λ w. (ordered-has [] run).1 (inr (row_has w)),
  )

  pub rows-many : length (rows_for schema entries) ≡ length (run_of schema entries).entries
  unfolding rows_for
  rows-many = ordered-length [] run ∙ omega (arith, row-each (run_of schema entries).entries)

  -- The rows of one call are those of its entries, in the record's order.
  pub call_rows : (c : ℕ) → of_call c (rows_for schema entries) ≡ of_call c run
  unfolding rows_for
  call_rows c = call-ordered c [] run 0 no_row none_below later ∙ ap (λ (t : List Row). t ++ of_call c run) (call_none c)

-- ---- the rows of one call

-- A row is among those of a call exactly where it has that correlation.
pub call-has : (c : ℕ) (r : Row) (rows : List Row) → Memᴰ r (of_call c rows) ↔ (Memᴰ r rows × (r.correlation ≡ c))
call-has c r rows = (only rows, has rows)
  where
    on : {l m : List Row} → l ≡ m → Memᴰ r l → Memᴰ r m
    on e w = subst (Memᴰ r) e w

    only : (rows : List Row) → Memᴰ r (of_call c rows) → Memᴰ r rows × (r.correlation ≡ c)
    only [] w = absurd (Memᴰ.not-nil (on (call_none c) w))
    only (s ∷ rows) w =
        by_call c s
        (λ e.
        ⊎_elim
        (λ k. (Memᴰ.head k, ap (λ (x : Row). x.correlation) k ∙ (of-call-iff c s).0 e))
        (λ m. let below = only rows m in (Memᴰ.tail below.0, below.1))
        (Memᴰ.cases_cons (on (call-is c s rows e) w)))
        (λ e. let below = only rows (on (call_not c s rows e) w) in (Memᴰ.tail below.0, below.1))

    has : (rows : List Row) → Memᴰ r rows × (r.correlation ≡ c) → Memᴰ r (of_call c rows)
    has [] w = absurd (Memᴰ.not-nil w.0)
    has (s ∷ rows) w =
        ⊎_elim
        (λ k. on (sym (call-is c s rows ((of-call-iff c s).1 (sym (ap (λ (x : Row). x.correlation) k) ∙ w.1)))) (Memᴰ.head k))
        (λ m.
        by_call c s
        (λ e. on (sym (call-is c s rows e)) (Memᴰ.tail (has rows (m, w.1))))
        (λ e. on (sym (call_not c s rows e)) (has rows (m, w.1))))
        (Memᴰ.cases_cons w.0)

-- They rise strictly, too: with one correlation, by place.
pub call-rises : (c : ℕ) (schema entries : List ℕ) → Rising (of_call c (rows_for schema entries))
call-rises c schema entries = call-rising c (rows_for schema entries) (rows-rising schema entries)

-- ---- an index that was made

-- a number of an answer has 32 bits
small-number : {n place : ℕ} → line.AnswerNumber n place → n < 4294967296
small-number line.accepted = omega arith
small-number (line.frame low high) = omega arith
small-number (line.call low high) = omega arith
small-number (line.value place low high) = omega arith
small-number (line.pairs place) = omega arith
small-number (line.payload low high) = omega arith
small-number (line.shape low high) = omega arith
small-number (line.row place low high) = omega arith

-- a correlation has 64
small-correlation : {h : Header} {p f : List ℕ} → IsFrame h p f → Bytes f → h.correlation < 2 ^ 64
small-correlation (frame {h = h} {«package» = a} {service = b} {method = m} {correlation = c} {payload = p} size low high p4 s4 m4 c8 spells small) w =
    let rest₃ = c ++ (size ++ p) in
    let rest₂ = m ++ rest₃ in
    let rest₁ = b ++ rest₂ in
    let five : Bytes (a ++ rest₁) = bytes_drop (0xAF ∷ 0x01 ∷ 0x01 ∷ h.kind ∷ 0x00 ∷ (a ++ rest₁)) 5 w in
    let one = (bytes-parts (a ++ rest₁) a rest₁ refl five).1 in
    let two = (bytes-parts rest₁ b rest₂ refl one).1 in
    let three = (bytes-parts rest₂ m rest₃ refl two).1 in
    let four = (bytes-parts rest₃ c (size ++ p) refl three).0 in
    subst (λ (x : ℕ). x < 2 ^ 64) c8.value (little-below c 8 four (omega (arith, c8.width)))

header-small : (s : List ℕ) (side : ℕ) (bytes : List ℕ) (l : List Call) → ((answer_to s side bytes l).used ≡ 0 → ⊥) → Bytes bytes → (header_in (frame_of bytes)).correlation < 2 ^ 64
header-small s side bytes l z b =
    let w = read-is-frame bytes (listed-frame s side bytes l z).1.1 in
    small-correlation w.is (bytes-parts bytes w.frame w.rest w.split b).0

number_small : (s : List ℕ) (side : ℕ) (bytes : List ℕ) (l : List Call) → (answer_to s side bytes l).number < 2 ^ 32
unfolding answer_to received_fresh
number_small s side bytes l = small-number (listed s side bytes sheet (fresh_tallies (table_of s)) l)

bytes-tail : (b : ℕ) (s : List ℕ) → Bytes (b ∷ s) → Bytes s
bytes-tail b s w = bytes_drop (b ∷ s) 1 w

run-fit : {s : List ℕ} {p : ℕ} {left : List ℕ} {l : List Call} {r : Run} → Runs s p left l r → Bytes left → Below 4294967296 (rows_of r.entries) → RowsFit (rows_of r.entries)
run-fit at-end b w = none_left
run-fit (halting e) b w = none_left
run-fit {s} {p} (answering {side = side} {bytes = bytes} {l = l} e k) b (one_below h w) =
    let a = answer_to s side bytes l in
    one-fits
    (record { correlation = header-small s side bytes l e.uses (bytes-tail side bytes b); place = h; answer = number_small s side bytes l })
    (run-fit k (bytes_drop bytes a.used (bytes-tail side bytes b)) w)

fit-insert : (r : Row) {rows : List Row} → RowFits r → RowsFit rows → RowsFit (insert r rows)
fit-insert r f none_left = subst RowsFit (sym (insert-last r)) (one-fits f none_left)
fit-insert r f (one-fits {r = s} {rows = rows} g w) =
    by_first r s
    (λ h. subst RowsFit (sym (insert-here r s rows h)) (one-fits f (one-fits g w)))
    (λ h. subst RowsFit (sym (insert-later r s rows h)) (one-fits g (fit-insert r f w)))

fit-ordered : (done rows : List Row) → RowsFit done → RowsFit rows → RowsFit (ordered done rows)
fit-ordered done [] w none_left = subst RowsFit (sym (ordered-none done)) w
fit-ordered done (r ∷ rows) w (one-fits f k) = subst RowsFit (sym (ordered-one done r rows)) (fit-ordered (insert r done) rows (fit-insert r f w) k)

module _ (schema entries : List ℕ) (b : Bytes entries) (small : length entries ≤ 65536) where
  rows_fit : RowsFit (rows_for schema entries)
  unfolding rows_for run_of
  rows_fit =
      let r = replay.run_is schema (length entries) 0 entries fresh_calls (omega arith) in
      fit-ordered [] _ none_left (run-fit r b (below_more (omega (arith, small)) (run-below r)))

  rows_few : length (rows_for schema entries) < 2 ^ 32
  rows_few = omega (arith, small, run_short schema entries)

  -- An index made from a record is an index, for that record.
  pub made-index : IsIndex (index_bytes (rows_for schema entries) (length entries)) (rows_for schema entries) (length entries)
  made-index = record { is = refl; rising = rows-rising schema entries; fit = rows_fit; count = rows_few; small = omega (arith, small) }

-- ---- making it

into-made : (text out : List ℕ) (n : ℕ) → length text ≡ n → n ≤ length out → outcome (Made n) (text ++ drop n out) ≡ index_into text out
unfolding index_into
into-made text out n e h =
    rw (le-ltb (length out) (length text) (omega (arith, e, h))) (λ i. outcome (Made (sym e i)) (text ++ drop (sym e i) out))

into-refused : (text out : List ℕ) → length out < length text → outcome (Refused 52 0) out ≡ index_into text out
unfolding index_into
into-refused text out h = rw (lt-ltb (length out) (length text) h)

same_size : {n m : ℕ} → Made n ≡ Made m → n ≡ m
same_size e = cc

-- each way that it can end
ways : (schema entries out : List ℕ) (P : Outcome → Type 0)
    → ((number place : ℕ) → checked schema ≡ Faulty number place → P (outcome (Refused number place) out))
    → (IsGood schema → 65536 < length entries → P (outcome (Refused 45 0) out))
    → (IsGood schema → length entries ≤ 65536 → length out < 16 * length (rows_for schema entries) + 16 → P (outcome (Refused 52 0) out))
    → (IsGood schema → length entries ≤ 65536 → 16 * length (rows_for schema entries) + 16 ≤ length out
    → P (outcome (Made (16 * length (rows_for schema entries) + 16)) (index_bytes (rows_for schema entries) (length entries) ++ drop (16 * length (rows_for schema entries) + 16) out)))
    → P (make_index schema entries out)
ways schema entries out P faulty long full fine = by-check (checked schema) refl
  where
    by-room : checked schema ≡ Good → length entries ≤ 65536 → P (index_into (index_bytes (rows_for schema entries) (length entries)) out)
    by-room g l = elim (dec_le (16 * length (rows_for schema entries) + 16) (length out)) [
      | yes h ↦ subst P (into-made (index_bytes (rows_for schema entries) (length entries)) out (16 * length (rows_for schema entries) + 16) (index-long (rows_for schema entries) (length entries)) h) (fine g l h)
      | no h ↦ subst P (into-refused (index_bytes (rows_for schema entries) (length entries)) out (omega (arith, h, index-long (rows_for schema entries) (length entries)))) (full g l (omega arith))
    ]

    by-check : (v : Checked) → checked schema ≡ v → P (make_index schema entries out)
    by-check (Faulty number place) e = subst P (table-refused schema entries out (Faulty number place) (sym e) refl) (faulty number place e)
    by-check Good e = elim (dec_le (length entries) 65536) [
      | yes l ↦ subst P (record_indexed schema entries out Good (sym e) refl l) (by-room e l)
      | no l ↦ subst P (record_refused schema entries out Good (sym e) refl (omega arith)) (long e (omega arith))
    ]

not_made : {A : Type 0} {number place n : ℕ} {out after : List ℕ} → outcome (Refused number place) out ≡ outcome (Made n) after → A
not_made e = let f : _ = ap (λ (o : Outcome). o.answer) e in differ cc

same_number : {n q n' q' : ℕ} → Refused n q ≡ Refused n' q' → n ≡ n'
same_number e = cc

same_place : {n q n' q' : ℕ} → Refused n q ≡ Refused n' q' → q ≡ q'
same_place e = cc

module _ (schema entries out : List ℕ) where
  same-refusal : {n q n' q' : ℕ} → Refused n q ≡ Refused n' q' → Refuses schema entries out n q → Refuses schema entries out n' q'
  same-refusal {n} {q} {n'} {q'} e w =
      subst (λ (k : ℕ). Refuses schema entries out n' k) (same_place e) (subst (λ (k : ℕ). Refuses schema entries out k q) (same_number e) w)

  -- An index is made exactly where the schema table is good, the record short enough and the output large enough; it is then the index of the record's rows.
  pub made-iff : (n : ℕ) (after : List ℕ) → (make_index schema entries out ≡ outcome (Made n) after) ↔ Accepted schema entries out n after
  made-iff n after = (made, making)
    where
      made : make_index schema entries out ≡ outcome (Made n) after → Accepted schema entries out n after
      made =
          ways schema entries out (λ o. o ≡ outcome (Made n) after → Accepted schema entries out n after) (λ k q e. not_made) (λ g l. not_made) (λ g l h. not_made)
          (λ g l h e.
          let size : 16 * length (rows_for schema entries) + 16 ≡ n = same_size (ap (λ (o : Outcome). o.answer) e) in
          record {
            good = g;
            small = l;
            size = sym size;
            fits = omega (arith, size, h);
            after_is = sym (ap (λ (o : Outcome). o.out) e) ∙ ap (λ (k : ℕ). index_bytes (rows_for schema entries) (length entries) ++ drop k out) size;
          })

      making : Accepted schema entries out n after → make_index schema entries out ≡ outcome (Made n) after
      making a =
          let long = index-long (rows_for schema entries) (length entries) in
          sym (record_indexed schema entries out Good (sym a.good) refl a.small)
          ∙ sym (into-made (index_bytes (rows_for schema entries) (length entries)) out n (long ∙ sym a.size) a.fits)
          ∙ ap (outcome (Made n)) (sym a.after_is)

  -- It is refused exactly for these faults, the table's, 45 and 52 in this order, and leaves the output as it was.
  pub refused-iff : (number place : ℕ) (after : List ℕ) → (make_index schema entries out ≡ outcome (Refused number place) after) ↔ (Refuses schema entries out number place × (after ≡ out))
  refused-iff number place after = (refused-for, λ w. for-refused w.0 ∙ ap (outcome (Refused number place)) (sym w.1))
    where
      told : {n q : ℕ} → Refuses schema entries out n q → outcome (Refused n q) out ≡ outcome (Refused number place) after → Refuses schema entries out number place × (after ≡ out)
      told {n} {q} f e =
          let same = ap (λ (o : Outcome). o.answer) e in
          (same-refusal same f, sym (ap (λ (o : Outcome). o.out) e))

      refused-for : make_index schema entries out ≡ outcome (Refused number place) after → Refuses schema entries out number place × (after ≡ out)
      refused-for =
          ways schema entries out (λ o. o ≡ outcome (Refused number place) after → Refuses schema entries out number place × (after ≡ out))
          (λ k q e. told (bad_table ((schema-refused schema k q).0 e)))
          (λ g l. told (too_long g l))
          (λ g l h. told (no_room g l h))
          (λ g l h e. not_made (sym e))

      for-refused : {n q : ℕ} → Refuses schema entries out n q → make_index schema entries out ≡ outcome (Refused n q) out
      for-refused (bad_table {number = n} {place = q} f) = sym (table-refused schema entries out (Faulty n q) (sym ((schema-refused schema n q).1 f)) refl)
      for-refused (too_long g l) = sym (record_refused schema entries out Good (sym g) refl l)
      for-refused (no_room g l h) =
          sym (record_indexed schema entries out Good (sym g) refl l)
          ∙ sym (into-refused (index_bytes (rows_for schema entries) (length entries)) out (omega (arith, h, index-long (rows_for schema entries) (length entries))))

-- ---- the look-up

-- "Refusals: 65 index shape or order, 66 record of another length, 65 first": of any bytes a look-up either accepts an index whose rows rise strictly, for
-- a record of that length, or gives 66 or 65 and looks at no row.
pub judged : (index : List ℕ) (size : ℕ) → Bytes index → Judges index size (look.stopped_number index size) (rows_in (look.looked index size) index)
unfolding look.stopped_number look.looked rows_in
judged index size b =
    let told : (n : ℕ) → look.stopped_number index size ≡ n → Judges index size n (rows_in (cond (eqb n 0) (count_in index) 0) index)
    → Judges index size (look.stopped_number index size) (rows_in (look.looked index size) index) =
    λ n v w. subst (λ (k : ℕ). Judges index size k (rows_in (cond (eqb k 0) (count_in index) 0) index)) (sym v) w in
    ⊎_elim
    (λ (e : is_index index ≡ true).
    let w = reads-index index b e in
    ⊎_elim
    (λ (f : eqb (size_in index) size ≡ true). told 0 (rw (e, f)) (right (subst (IsIndex index (rows_in (count_in index) index)) (eqb-true (size_in index) size f) w)))
    (λ (f : eqb (size_in index) size ≡ false). told 66 (rw (e, f)) (other_record w (λ q. eqb-false (size_in index) size f q)))
    (cases (eqb (size_in index) size)))
    (λ (e : is_index index ≡ false). told 65 (rw e) (no_index (λ rows n w. clash (is_index index) (index_reads w).passes e)))
    (cases (is_index index))

module _ (index : List ℕ) (size c : ℕ) where
  -- "for exactly the rows of one correlation, in order, and last `stopped` and 0"
  pub rows-printed : {rows : List Row} → IsIndex index rows size → (look.stopped_number index size ≡ 0) × (look.look_text index size c ≡ text_of (of_call c rows) 0)
  unfolding look.stopped_number look.looked look.look_text
  rows-printed {rows} w =
      let r = index_reads w in
      let v : look.stopped_number index size ≡ 0 = rw (r.passes, eq-eqb (size_in index) size r.size_is) in
      (v, rw v (ap (λ (l : List Row). text_of (of_call c l) 0) r.rows_are))

  -- "or, without rows, the refusal"
  pub other-printed : {rows : List Row} {n : ℕ} → IsIndex index rows n → (n ≡ size → ⊥) → (look.stopped_number index size ≡ 66) × (look.look_text index size c ≡ text_of [] 66)
  unfolding look.stopped_number look.looked look.look_text rows_in of_call
  other-printed w h =
      let r = index_reads w in
      let v : look.stopped_number index size ≡ 66 = rw (r.passes, ne_eqb (size_in index) size (λ q. h (sym r.size_is ∙ q))) in
      (v, rw v)

  pub none-printed : Bytes index → ((rows : List Row) (n : ℕ) → IsIndex index rows n → ⊥) → (look.stopped_number index size ≡ 65) × (look.look_text index size c ≡ text_of [] 65)
  unfolding look.stopped_number look.looked look.look_text rows_in of_call
  none-printed b none =
      let e : is_index index ≡ false = is_false (is_index index) (λ t. none (rows_in (count_in index) index) (size_in index) (reads-index index b t)) in
      let v : look.stopped_number index size ≡ 65 = rw e in
      (v, rw v)

-- What a look-up answers and leaves: the text at the start of the output where it fits, or 52.
pub look-up-fits : (index entries : List ℕ) (c : ℕ) (out : List ℕ) → let text = look.look_text index (length entries) c in length text ≤ length out
    → look.look_up index entries c out ≡ look.outcome (Printed (look.stopped_number index (length entries)) (length text)) (text ++ drop (length text) out)
unfolding look.look_up look.printed_text
look-up-fits index entries c out h = rw (le-ltb (length out) (length (look.look_text index (length entries) c)) h)

pub look-up-full : (index entries : List ℕ) (c : ℕ) (out : List ℕ) → length out < length (look.look_text index (length entries) c)
    → look.look_up index entries c out ≡ look.outcome (Unprinted 52) out
unfolding look.look_up look.printed_text
look-up-full index entries c out h = rw (lt-ltb (length out) (length (look.look_text index (length entries) c)) h)

-- So for any index, record, correlation and output: the lines of exactly the call's rows of an index that is accepted, or none, and last the verdict.
pub looked-up : (index entries : List ℕ) (c : ℕ) (out : List ℕ) → Bytes index → Finds index (length entries) c out (look.look_up index entries c out)
unfolding look.look_text
looked-up index entries c out b =
    let size = length entries in
    let text = look.look_text index size c in
    let w = judged index size b in
    elim (dec_le (length text) (length out)) [
      | yes h ↦ subst (Finds index size c out) (sym (look-up-fits index entries c out h)) (prints text w refl h)
      | no h ↦ subst (Finds index size c out) (sym (look-up-full index entries c out (omega arith))) (no_space w (omega arith))
    ]

-- what was judged is the verdict, and gives the text
judged-text : (index : List ℕ) (size c : ℕ) {number : ℕ} {rows : List Row} → Bytes index → Judges index size number rows
    → (look.stopped_number index size ≡ number) × (look.look_text index size c ≡ text_of (of_call c rows) number)
judged-text index size c b (right w) = rows-printed index size c w
judged-text index size c b (other_record w h) =
    let (v, t) = other-printed index size c w h in
    (v, t ∙ ap (λ (l : List Row). text_of l 66) (sym (call_none c)))
judged-text index size c b (no_index none) =
    let (v, t) = none-printed index size c b none in
    (v, t ∙ ap (λ (l : List Row). text_of l 65) (sym (call_none c)))

-- It answers and leaves nothing else.
pub looked-up-iff : (index entries : List ℕ) (c : ℕ) (out : List ℕ) → Bytes index → (o : look.Outcome)
    → (look.look_up index entries c out ≡ o) ↔ Finds index (length entries) c out o
looked-up-iff index entries c out b o = (λ e. subst (Finds index (length entries) c out) e (looked-up index entries c out b), found)
  where
    found : {o : look.Outcome} → Finds index (length entries) c out o → look.look_up index entries c out ≡ o
    found (prints text j e h) =
        let (v, t) = judged-text index (length entries) c b j in
        let same = t ∙ sym e in
        look-up-fits index entries c out (subst (λ (u : List ℕ). length u ≤ length out) (sym same) h)
        ∙ λ i. look.outcome (Printed (v i) (length (same i))) (same i ++ drop (length (same i)) out)
    found (no_space j h) =
        let (v, t) = judged-text index (length entries) c b j in
        look-up-full index entries c out (subst (λ (u : List ℕ). length out < length u) (sym t) h)

-- ---- made and looked up

-- the lines of a call's rows are those of its entries
call-lines : (c : ℕ) (es : List Entry) → lines_text (of_call c (rows_of es)) ≡ call_lines c es
unfolding lines_text call_lines of_call
call-lines c [] = refl
call-lines c (e ∷ es) =
    ⊎_elim
    (λ (t : eqb e.header.correlation c ≡ true). rw t (ap (λ (u : List ℕ). line_text e.place e.answer.number ++ u) (call-lines c es)))
    (λ (t : eqb e.header.correlation c ≡ false). rw t (call-lines c es))
    (cases (eqb e.header.correlation c))

-- An index made from a record is accepted for it, and the text of a call is the place and the answer of exactly the entries of that correlation in the
-- record's run, in order.
pub call-text : (schema entries out : List ℕ) {n : ℕ} {after : List ℕ} → make_index schema entries out ≡ outcome (Made n) after → Bytes entries → (c : ℕ)
    → (look.stopped_number (take n after) (length entries) ≡ 0) × (look.look_text (take n after) (length entries) c ≡ call_text c (run_of schema entries).entries)
unfolding text_of call_text
call-text schema entries out {n} {after} e b c =
    let a = (made-iff schema entries out n after).0 e in
    let rows = rows_for schema entries in
    let size = length entries in
    let front : take n after ≡ index_bytes rows size = ap (take n) a.after_is ∙ take_at (index_bytes rows size) (drop n out) n (index-long rows size ∙ sym a.size) in
    let w = rows-printed (index_bytes rows size) size c (made-index schema entries b a.small) in (
      ap (λ (s : List ℕ). look.stopped_number s size) front ∙ w.0,
      ap (λ (s : List ℕ). look.look_text s size c) front
          ∙ w.1
          ∙ ap (λ (l : List Row). text_of l 0) (call_rows schema entries c)
          ∙ ap (λ (u : List ℕ). heading ++ u ++ stopped_text 0) (call-lines c (run_of schema entries).entries),
    )

-- Both entries in turn: what is made from a record, looked up with the record, prints this text where it fits.
pub call-found : (schema entries out : List ℕ) {n : ℕ} {after : List ℕ} → make_index schema entries out ≡ outcome (Made n) after → Bytes entries
    → (c : ℕ) (page : List ℕ) → let text = call_text c (run_of schema entries).entries in length text ≤ length page
    → look.look_up (take n after) entries c page ≡ look.outcome (Printed 0 (length text)) (text ++ drop (length text) page)
call-found schema entries out {n} {after} e b c page h =
    let w = call-text schema entries out e b c in
    let text = w.1 in
    look-up-fits (take n after) entries c page (subst (λ (u : List ℕ). length u ≤ length page) (sym text) h)
    ∙ λ i. look.outcome (Printed (w.0 i) (length (text i))) (text i ++ drop (length (text i)) page)

-- ---- numbers

-- No refusal has the number of what is made.
pub refused-above : (schema entries out : List ℕ) {number place : ℕ} → (make_index schema entries out).answer ≡ Refused number place → 1 ≤ number
refused-above schema entries out {number} {place} e =
    of-fault ((refused-iff schema entries out number place (make_index schema entries out).out).0 (λ i. outcome (e i) (make_index schema entries out).out)).0
  where
    of-fault : {n q : ℕ} → Refuses schema entries out n q → 1 ≤ n
    of-fault (bad_table {number = n} {place = q} f) = omega (arith, (listed-bounds (table_of schema) (schema-listed schema n q ((schema-refused schema n q).1 f))).0)
    of-fault (too_long g l) = omega arith
    of-fault (no_room g l h) = omega arith

-- What follows `stopped` is 0, 65 or 66.
pub verdict-known : (index : List ℕ) (size : ℕ) → (look.stopped_number index size ≡ 0) ⊎ ((look.stopped_number index size ≡ 65) ⊎ (look.stopped_number index size ≡ 66))
unfolding look.stopped_number
verdict-known index size = go (is_index index) (eqb (size_in index) size)
  where
    go : (a b : Bool) → let n : ℕ = cond {A = ℕ} a (cond {A = ℕ} b 0 66) 65 in (n ≡ 0) ⊎ ((n ≡ 65) ⊎ (n ≡ 66))
    go true true = inl refl
    go true false = inr (inr refl)
    go false b = inr (inl refl)
