-- What a salvage promises: about covers of a record, and about the entry's answers and both buffers.
use mathlib.Core.Path.{◌≡◌, refl, sym, ap, subst, ◌∙◌}
use mathlib.Core.Logic.{◌↔◌}
use mathlib.Core.List.{List, [], ◌∷◌, ◌++◌, map, append_assoc}
use Prim.Native.Nat.{ℕ, ◌+◌, ◌*◌, ◌≤◌, ◌<◌}
use native.Mathlib.Decide.{dec_le}
use native.Mathlib.Omega.{arith}
use lib.ListN.{length, take, drop, length-append}
use lib.Seq.{take_at}
use Rattle.wire.proofs.Cases.{differ}
use Rattle.record.specs.IsEntry.{Entries, no_more, one_more}
use Rattle.record.proofs.Entries.{entry-least}
use Rattle.salvage.specs.Salvaging.{Salvaged, Refused}
use Rattle.salvage.specs.Pieces.{Piece, keep, skip, pieces_of, bytes_of, entries_in, copy_of, span_count, spans_of}
use Rattle.salvage.specs.Salvage.{Outcome, outcome, filled, done, salvage_of}
use Rattle.salvage.specs.Cover.{NoSpan, Cover, end, entry, span, Accepted, Refuses, too_long, copy-small, list-small}
use Rattle.salvage.proofs.Covers.{covered, one-cover}
use Rattle.salvage.proofs.Outcomes.{spans-length, long-refused, copy-refused, list-refused, accepted}

-- ---- covers

-- The pieces are the record, byte for byte.
pub whole_record : {s : List ℕ} {ps : List Piece} → Cover s ps → bytes_of ps ≡ s
unfolding bytes_of
whole_record end = refl
whole_record (entry {e = e} is w) = ap (λ (l : List ℕ). e ++ l) (whole_record w)
whole_record (span {g = g} some none apart w) = ap (λ (l : List ℕ). g ++ l) (whole_record w)

spans-after : (at : ℕ) (before after : List Piece) → spans_of at (before ++ after) ≡ spans_of at before ++ spans_of (at + length (bytes_of before)) after
unfolding spans_of bytes_of
spans-after at [] after = let e : at + 0 ≡ at = omega arith in rw e
spans-after at (keep e ∷ before) after =
    let l : at + length (e ++ bytes_of before) ≡ at + length e + length (bytes_of before) = omega (arith, length-append e (bytes_of before)) in
    rw l (spans-after (at + length e) before after)
spans-after at (skip g ∷ before) after =
    let l : at + length (g ++ bytes_of before) ≡ at + length g + length (bytes_of before) = omega (arith, length-append g (bytes_of before)) in
    rw l (ap (λ (r : List ℕ). at ∷ length g ∷ r) (spans-after (at + length g) before after))

-- A span is listed with the number of bytes before it and its length, and after the spans before it.
pub span-listed : (before after : List Piece) (g : List ℕ) → let at = length (bytes_of before) in
    spans_of 0 (before ++ (skip g ∷ after)) ≡ spans_of 0 before ++ (at ∷ length g ∷ spans_of (at + length g) after)
unfolding spans_of
span-listed before after g =
    let zero : 0 + length (bytes_of before) ≡ length (bytes_of before) = omega arith in
    spans-after 0 before (skip g ∷ after)
    ∙ ap (λ (k : ℕ). spans_of 0 before ++ (k ∷ length g ∷ spans_of (k + length g) after)) zero

-- A kept entry is copied after those before it, and counts once.
pub entry-copied : (before after : List Piece) (e : List ℕ) → (copy_of (before ++ (keep e ∷ after)) ≡ copy_of before ++ (e ++ copy_of after))
    × (entries_in (before ++ (keep e ∷ after)) ≡ entries_in before ++ (e ∷ entries_in after))
unfolding copy_of entries_in
entry-copied [] after e = (refl, refl)
entry-copied (keep g ∷ before) after e =
    let w = entry-copied before after e in
    (ap (λ (l : List ℕ). g ++ l) w.0 ∙ sym (append_assoc g (copy_of before) (e ++ copy_of after)), ap (λ (l : List (List ℕ)). g ∷ l) w.1)
entry-copied (skip g ∷ before) after e = entry-copied before after e

-- What is kept of a record is whole entries, no longer than the record.
pub copy-entries : {s : List ℕ} {ps : List Piece} → Cover s ps → Entries (copy_of ps) (entries_in ps)
unfolding copy_of entries_in
copy-entries end = no_more
copy-entries (entry is w) = one_more is (copy-entries w)
copy-entries (span some none apart w) = copy-entries w

pub copy-shorter : {s : List ℕ} {ps : List Piece} → Cover s ps → length (copy_of ps) ≤ length s
unfolding copy_of
copy-shorter end = omega arith
copy-shorter (entry {e = e} {s = s} {ps = ps} is w) = omega (arith, length-append e s, length-append e (copy_of ps), copy-shorter w)
copy-shorter (span {g = g} {s = s} some none apart w) = omega (arith, length-append g s, copy-shorter w)

-- Between two spans lies an entry of at least 27 bytes, and a span has a byte.
pub spans-most : {s : List ℕ} {ps : List Piece} → Cover s ps → 28 * span_count ps ≤ length s + 27
unfolding span_count
spans-most w = (counted w).0
  where
    counted : {s : List ℕ} {ps : List Piece} → Cover s ps → (28 * span_count ps ≤ length s + 27) × (NoSpan ps → 28 * span_count ps ≤ length s)
    counted end = (omega arith, λ _. omega arith)
    counted (entry {e = e} {s = s} is w) =
        let l = length-append e s in
        (omega (arith, (counted w).0, entry-least is, l), λ _. omega (arith, (counted w).0, entry-least is, l))
    counted (span {g = g} {s = s} some none apart w) = (omega (arith, (counted w).1 apart, some, length-append g s), λ t. absurd t)

-- A record of whole entries is covered by them.
entries-cover : {s : List ℕ} {es : List (List ℕ)} → Entries s es → Cover s (map keep es)
entries-cover no_more = end
entries-cover (one_more is w) = entry is (entries-cover w)

record AllKept (s : List ℕ) (es : List (List ℕ)) (ps : List Piece) : Type 0 where
  entries : entries_in ps ≡ es
  copy : copy_of ps ≡ s
  count : span_count ps ≡ 0
  spans : (at : ℕ) → spans_of at ps ≡ []

all-kept : {s : List ℕ} {es : List (List ℕ)} → Entries s es → AllKept s es (map keep es)
unfolding entries_in copy_of span_count spans_of
all-kept no_more = record { entries = refl; copy = refl; count = refl; spans = λ at. refl }
all-kept (one_more {e = e} is w) =
    let k = all-kept w in
    record {
      entries = ap (λ (l : List (List ℕ)). e ∷ l) k.entries;
      copy = ap (λ (l : List ℕ). e ++ l) k.copy;
      count = k.count;
      spans = λ at. k.spans (at + length e);
    }

-- A record without spans is whole entries.
pub no-spans-whole : {s : List ℕ} {ps : List Piece} → Cover s ps → span_count ps ≡ 0 → Entries s (entries_in ps)
unfolding span_count entries_in
no-spans-whole end z = no_more
no-spans-whole (entry is w) z = one_more is (no-spans-whole w z)
no-spans-whole (span some none apart w) z = absurd (omega arith)

-- ---- the entry's answers

-- each way that a salvage can end
ways : (torn copy spans : List ℕ) (P : Outcome → Type 0) → let ps = pieces_of torn in
    (65536 < length torn → P (outcome (Refused 45) copy spans))
    → (length torn ≤ 65536 → length copy < length (copy_of ps) → P (outcome (Refused 52) copy spans))
    → (length torn ≤ 65536 → length (copy_of ps) ≤ length copy → length spans < length (spans_of 0 ps) → P (outcome (Refused 53) copy spans))
    → (length torn ≤ 65536 → length (copy_of ps) ≤ length copy → length (spans_of 0 ps) ≤ length spans → P (done ps copy spans))
    → P (salvage_of torn copy spans)
ways torn copy spans P long full unlisted fine = elim (dec_le (length torn) 65536) [
  | no l ↦ subst P (long-refused torn copy spans (omega arith)) (long (omega arith))
  | yes l ↦ elim (dec_le (length (copy_of (pieces_of torn))) (length copy)) [
    | no f ↦ subst P (copy-refused torn copy spans l (omega arith)) (full l (omega arith))
    | yes f ↦ elim (dec_le (length (spans_of 0 (pieces_of torn))) (length spans)) [
      | no r ↦ subst P (list-refused torn copy spans l f (omega arith)) (unlisted l f (omega arith))
      | yes r ↦ subst P (accepted torn copy spans l f r) (fine l f r)
    ]
  ]
]

not_done : {A : Type 0} {number n b m : ℕ} {copy spans copied listed : List ℕ} → outcome (Refused number) copy spans ≡ outcome (Salvaged n b m) copied listed → A
not_done e = let f : _ = ap (λ (o : Outcome). o.answer) e in differ cc

same_number : {number number' : ℕ} → Refused number ≡ Refused number' → number ≡ number'
same_number e = cc

module _ (torn copy spans : List ℕ) (n b m : ℕ) (copied listed : List ℕ) where
  -- the counts of the pieces, and what fills the buffers
  done-accepted : length torn ≤ 65536 → length (copy_of (pieces_of torn)) ≤ length copy → length (spans_of 0 (pieces_of torn)) ≤ length spans
      → done (pieces_of torn) copy spans ≡ outcome (Salvaged n b m) copied listed → Accepted torn copy spans n b m copied listed
  unfolding done
  done-accepted small fits room e =
      let ps = pieces_of torn in
      let answer : Salvaged (length (entries_in ps)) (length (copy_of ps)) (span_count ps) ≡ Salvaged n b m = ap (λ (o : Outcome). o.answer) e in
      let bytes : length (copy_of ps) ≡ b = cc answer in
      let holes : span_count ps ≡ m = cc answer in
      let cells : length (spans_of 0 ps) ≡ 2 * m = omega (arith, spans-length 0 ps, holes) in
      record {
        pieces = ps;
        cover = covered torn;
        small = small;
        entries = cc answer;
        bytes = bytes;
        holes = holes;
        fits = omega (arith, bytes, fits);
        spans_fit = omega (arith, cells, room);
        copied_is = sym (ap (λ (o : Outcome). o.copy) e) ∙ ap (λ (k : ℕ). copy_of ps ++ drop k copy) bytes;
        listed-is = sym (ap (λ (o : Outcome). o.spans) e) ∙ ap (λ (k : ℕ). spans_of 0 ps ++ drop k spans) cells;
      }

  accepted-done : Accepted torn copy spans n b m copied listed → salvage_of torn copy spans ≡ outcome (Salvaged n b m) copied listed
  unfolding done
  accepted-done a =
      let ps = pieces_of torn in
      let is : ps ≡ a.pieces = one-cover a.cover in
      let entries : length (entries_in ps) ≡ n = ap (λ (l : List Piece). length (entries_in l)) is ∙ a.entries in
      let bytes : length (copy_of ps) ≡ b = ap (λ (l : List Piece). length (copy_of l)) is ∙ a.bytes in
      let holes : span_count ps ≡ m = ap span_count is ∙ a.holes in
      let cells : length (spans_of 0 ps) ≡ 2 * m = omega (arith, spans-length 0 ps, holes) in
      let copy_is : filled copy (copy_of ps) ≡ copied = ap (λ (k : ℕ). copy_of ps ++ drop k copy) bytes ∙ ap (λ (l : List Piece). copy_of l ++ drop b copy) is ∙ sym a.copied_is in
      let list-is : filled spans (spans_of 0 ps) ≡ listed = ap (λ (k : ℕ). spans_of 0 ps ++ drop k spans) cells ∙ ap (λ (l : List Piece). spans_of 0 l ++ drop (2 * m) spans) is ∙ sym a.listed-is in
      sym (accepted torn copy spans a.small (omega (arith, bytes, a.fits)) (omega (arith, cells, a.spans_fit)))
      ∙ λ i. outcome (Salvaged (entries i) (bytes i) (holes i)) (copy_is i) (list-is i)

  -- A salvage is accepted exactly where the record is short enough and both buffers have room. Kept entries and listed spans then are a cover of the
  -- record, the one that there is; the answer counts them, the copy starts with the entries and the list with the spans, and past them both are as they
  -- were.
  pub salvaged_iff : (salvage_of torn copy spans ≡ outcome (Salvaged n b m) copied listed) ↔ Accepted torn copy spans n b m copied listed
  salvaged_iff = (ways torn copy spans (λ o. o ≡ outcome (Salvaged n b m) copied listed → Accepted torn copy spans n b m copied listed) (λ l. not_done) (λ l f. not_done) (λ l f r. not_done) done-accepted, accepted-done)

module _ (torn copy spans : List ℕ) where
  not_refused : {A : Type 0} {number : ℕ} {copied listed : List ℕ} → done (pieces_of torn) copy spans ≡ outcome (Refused number) copied listed → A
  unfolding done
  not_refused e = not_done (sym e)

  -- A salvage is refused exactly for these faults, 45, 52 and 53 in this order, and leaves both buffers as they were.
  pub refused-iff : (number : ℕ) (copied listed : List ℕ) → (salvage_of torn copy spans ≡ outcome (Refused number) copied listed) ↔ (Refuses torn copy spans number × ((copied ≡ copy) × (listed ≡ spans)))
  refused-iff number copied listed = (refused-for, λ w. for-refused w.0 ∙ λ i. outcome (Refused number) (sym w.1.0 i) (sym w.1.1 i))
    where
      told : {fault : ℕ} → Refuses torn copy spans fault → outcome (Refused fault) copy spans ≡ outcome (Refused number) copied listed → Refuses torn copy spans number × ((copied ≡ copy) × (listed ≡ spans))
      told f e = (
        subst (Refuses torn copy spans) (same_number (ap (λ (o : Outcome). o.answer) e)) f,
        (sym (ap (λ (o : Outcome). o.copy) e), sym (ap (λ (o : Outcome). o.spans) e)),
      )

      refused-for : salvage_of torn copy spans ≡ outcome (Refused number) copied listed → Refuses torn copy spans number × ((copied ≡ copy) × (listed ≡ spans))
      refused-for =
          ways torn copy spans (λ o. o ≡ outcome (Refused number) copied listed → Refuses torn copy spans number × ((copied ≡ copy) × (listed ≡ spans)))
          (λ l. told (too_long l))
          (λ l f. told (copy-small l (covered torn) f))
          (λ l f r. told (list-small l (covered torn) f (omega (arith, r, spans-length 0 (pieces_of torn)))))
          (λ l f r. not_refused)

      for-refused : {fault : ℕ} → Refuses torn copy spans fault → salvage_of torn copy spans ≡ outcome (Refused fault) copy spans
      for-refused (too_long l) = sym (long-refused torn copy spans l)
      for-refused (copy-small {ps = ps} l w f) = sym (copy-refused torn copy spans l (omega (arith, f, ap (λ (q : List Piece). length (copy_of q)) (one-cover w))))
      for-refused (list-small {ps = ps} l w f r) =
          let is = one-cover w in
          sym (list-refused torn copy spans l (omega (arith, f, ap (λ (q : List Piece). length (copy_of q)) is)) (omega (arith, r, spans-length 0 (pieces_of torn), ap span_count is)))

-- A copy as long as the record and 4,682 cells are always enough.
pub room-enough : (torn copy spans : List ℕ) {number : ℕ} → length torn ≤ 65536 → length torn ≤ length copy → 4682 ≤ length spans
    → (salvage_of torn copy spans).answer ≡ Refused number → ⊥
room-enough torn copy spans {number} small fits room e =
    enough ((refused-iff torn copy spans number (salvage_of torn copy spans).copy (salvage_of torn copy spans).spans).0
    (λ i. outcome (e i) (salvage_of torn copy spans).copy (salvage_of torn copy spans).spans)).0
  where
    enough : {fault : ℕ} → Refuses torn copy spans fault → ⊥
    enough (too_long l) = absurd (omega (arith, l, small))
    enough (copy-small l w f) = absurd (omega (arith, copy-shorter w, f, fits))
    enough (list-small l w f r) = absurd (omega (arith, spans-most w, small, room, r))

-- No refusal has the number of what is accepted.
pub refused-bounds : (torn copy spans : List ℕ) {number : ℕ} → (salvage_of torn copy spans).answer ≡ Refused number → (45 ≤ number) × (number ≤ 53)
refused-bounds torn copy spans {number} e =
    of-fault ((refused-iff torn copy spans number (salvage_of torn copy spans).copy (salvage_of torn copy spans).spans).0
    (λ i. outcome (e i) (salvage_of torn copy spans).copy (salvage_of torn copy spans).spans)).0
  where
    of-fault : {fault : ℕ} → Refuses torn copy spans fault → (45 ≤ fault) × (fault ≤ 53)
    of-fault (too_long l) = (omega arith, omega arith)
    of-fault (copy-small l w f) = (omega arith, omega arith)
    of-fault (list-small l w f r) = (omega arith, omega arith)

-- A record of whole entries is copied whole, with no span: the list stays as it was.
pub whole-copied : (s : List ℕ) (es : List (List ℕ)) (copy spans : List ℕ) → Entries s es → length s ≤ 65536 → length s ≤ length copy
    → salvage_of s copy spans ≡ outcome (Salvaged (length es) (length s) 0) (s ++ drop (length s) copy) spans
whole-copied s es copy spans w small fits =
    let k = all-kept w in
    (salvaged_iff s copy spans (length es) (length s) 0 (s ++ drop (length s) copy) spans).1
    (record {
      pieces = map keep es;
      cover = entries-cover w;
      small = small;
      entries = ap length k.entries;
      bytes = ap length k.copy;
      holes = k.count;
      fits = fits;
      spans_fit = omega arith;
      copied_is = ap (λ (l : List ℕ). l ++ drop (length s) copy) (sym k.copy);
      listed-is = ap (λ (l : List ℕ). l ++ spans) (sym (k.spans 0));
    })

-- Where no span is listed, the record is whole entries.
pub unlisted-whole : (s copy spans : List ℕ) {n b : ℕ} {copied listed : List ℕ} → salvage_of s copy spans ≡ outcome (Salvaged n b 0) copied listed → (es : List (List ℕ)) × (Entries s es × (length es ≡ n))
unlisted-whole s copy spans {n} {b} {copied} {listed} e =
    let a = (salvaged_iff s copy spans n b 0 copied listed).0 e in
    (entries_in a.pieces, (no-spans-whole a.cover a.holes, a.entries))

-- Salvaging the copy keeps all of it.
pub copy-kept : (torn copy spans : List ℕ) {n b m : ℕ} {copied listed : List ℕ} → salvage_of torn copy spans ≡ outcome (Salvaged n b m) copied listed
    → (copy' spans' : List ℕ) → b ≤ length copy'
    → salvage_of (take b copied) copy' spans' ≡ outcome (Salvaged n b 0) (take b copied ++ drop b copy') spans'
copy-kept torn copy spans {n} {b} {m} {copied} {listed} e copy' spans' fits =
    let a = (salvaged_iff torn copy spans n b m copied listed).0 e in
    let kept = copy_of a.pieces in
    let is : take b copied ≡ kept = ap (take b) a.copied_is ∙ take_at kept (drop b copy) b a.bytes in
    let again = whole-copied kept (entries_in a.pieces) copy' spans' (copy-entries a.cover) (omega (arith, copy-shorter a.cover, a.small)) (omega (arith, a.bytes, fits)) in
    ap (λ (l : List ℕ). salvage_of l copy' spans') is
    ∙ again
    ∙ (λ i. outcome (Salvaged (a.entries i) (a.bytes i) 0) (kept ++ drop (a.bytes i) copy') spans')
    ∙ ap (λ (l : List ℕ). outcome (Salvaged n b 0) (l ++ drop b copy') spans') (sym is)
