-- The listed cells, two a span: what they say about the record.
use mathlib.Core.Path.{◌≡◌, refl, sym, ap, subst, ◌∙◌}
use mathlib.Core.List.{List, [], ◌∷◌, ◌++◌, append_assoc}
use Prim.Native.Nat.{ℕ, zero, suc, ◌+◌, ◌*◌, ◌≤◌, ◌<◌}
use native.Mathlib.Omega.{arith}
use lib.ListN.{length, get_or, drop, length-append}
use lib.Seq.{drop-append-add}
use Rattle.record.specs.IsEntry.{NoEntry}
use Rattle.record.proofs.Entries.{entry-least}
use Rattle.salvage.specs.Salvaging.{Salvaged}
use Rattle.salvage.specs.Pieces.{Piece, spans_of}
use Rattle.salvage.specs.Salvage.{outcome, salvage_of}
use Rattle.salvage.specs.Cover.{NoSpan, Cover, end, entry, span, ListedSpan}
use Rattle.salvage.proofs.Outcomes.{spans-length}
use Rattle.salvage.proofs.Statements.{salvaged_iff}

-- the cells of spans, none of which starts before a place; an entry at least lies between one and the next
data ListedSpans (torn : List ℕ) : (from : ℕ) → List ℕ → Type 0 where
  no_cells : {from : ℕ} → ListedSpans torn from []
  two_cells : {from place size : ℕ} {cells : List ℕ} → from ≤ place → ListedSpan torn place size → ListedSpans torn (place + size + 27) cells
      → ListedSpans torn from (place ∷ size ∷ cells)

-- those of a cover of what follows u; after a span comes an entry
cover-listed : (torn u : List ℕ) {s : List ℕ} {ps : List Piece} → torn ≡ u ++ s → Cover s ps
    → ((from : ℕ) → from ≤ length u → ListedSpans torn from (spans_of (length u) ps))
    × ((from : ℕ) → NoSpan ps → from ≤ length u + 27 → ListedSpans torn from (spans_of (length u) ps))
unfolding spans_of
cover-listed torn u is end = (λ from h. no_cells, λ from t h. no_cells)
cover-listed torn u is (entry {e = e} {s = s} {ps = ps} one w) =
    let r = cover-listed torn (u ++ e) (is ∙ sym (append_assoc u e s)) w in
    let l = length-append u e in
    let go : (from : ℕ) → from ≤ length u + 27 → ListedSpans torn from (spans_of (length u + length e) ps) = λ from h.
    subst (λ (k : ℕ). ListedSpans torn from (spans_of k ps)) l (r.0 from (omega (arith, l, h, entry-least one))) in
    (λ from h. go from (omega (arith, h)), λ from t h. go from h)
cover-listed torn u is (span {g = g} {s = s} {ps = ps} some none apart w) =
    let r = cover-listed torn (u ++ g) (is ∙ sym (append_assoc u g s)) w in
    let l = length-append u g in
    let one : ListedSpan torn (length u) (length g) =
    record {
      some = some;
      inside = omega (arith, ap length is, length-append u (g ++ s), length-append g s);
      none = λ k h. subst (λ (t : List ℕ). NoEntry t) (sym (ap (drop (length u + k)) is ∙ drop-append-add u (g ++ s) k)) (none k h);
    } in
    let others : ListedSpans torn (length u + length g + 27) (spans_of (length u + length g) ps) =
    subst (λ (k : ℕ). ListedSpans torn (length u + length g + 27) (spans_of k ps)) l (r.1 (length u + length g + 27) apart (omega (arith, l))) in
    (λ from h. two_cells h one others, λ from t h. absurd t)

-- the two cells of a span, and the first cell of the next
span-at : {torn : List ℕ} {from : ℕ} {cells : List ℕ} → ListedSpans torn from cells → (rest : List ℕ) (i : ℕ) → 2 * i < length cells
    → ListedSpan torn (get_or (cells ++ rest) (2 * i) 0) (get_or (cells ++ rest) (2 * i + 1) 0)
span-at no_cells rest i h = absurd (omega arith)
span-at (two_cells a one w) rest zero h = one
span-at (two_cells a one w) rest (suc i) h =
    let e : 2 * suc i ≡ suc (suc (2 * i)) = omega arith in
    let f : 2 * suc i + 1 ≡ suc (suc (2 * i + 1)) = omega arith in
    rw (f, e) (span-at w rest i (omega (arith, h)))

next-at : {torn : List ℕ} {from : ℕ} {cells : List ℕ} → ListedSpans torn from cells → (rest : List ℕ) (i : ℕ) → 2 * i + 2 < length cells
    → get_or (cells ++ rest) (2 * i) 0 + get_or (cells ++ rest) (2 * i + 1) 0 + 27 ≤ get_or (cells ++ rest) (2 * i + 2) 0
next-at no_cells rest i h = absurd (omega arith)
next-at (two_cells a one no_cells) rest zero h = absurd (omega arith)
next-at (two_cells a one (two_cells b two w)) rest zero h = b
next-at (two_cells a one w) rest (suc i) h =
    let e : 2 * suc i ≡ suc (suc (2 * i)) = omega arith in
    let f : 2 * suc i + 1 ≡ suc (suc (2 * i + 1)) = omega arith in
    let g : 2 * suc i + 2 ≡ suc (suc (2 * i + 2)) = omega arith in
    rw (g, f, e) (next-at w rest i (omega (arith, h)))

-- Each listed span, by its two cells, has a byte at least and lies in the record, and no entry starts in it. Between its end and the place of the next
-- there are at least the 27 bytes of an entry.
pub listed-spans : (torn copy spans : List ℕ) {n b m : ℕ} {copied listed : List ℕ} → salvage_of torn copy spans ≡ outcome (Salvaged n b m) copied listed
    → (i : ℕ) → i < m → let place = get_or listed (2 * i) 0 in let size = get_or listed (2 * i + 1) 0 in
    ListedSpan torn place size × (i + 1 < m → place + size + 27 ≤ get_or listed (2 * i + 2) 0)
listed-spans torn copy spans {n} {b} {m} {copied} {listed} e i h =
    let a = (salvaged_iff torn copy spans n b m copied listed).0 e in
    let cells = spans_of 0 a.pieces in
    let count : length cells ≡ 2 * m = spans-length 0 a.pieces ∙ ap (λ (k : ℕ). 2 * k) a.holes in
    let w : ListedSpans torn 0 cells = (cover-listed torn [] refl a.cover).0 0 (omega arith) in
    let rest = drop (2 * m) spans in
    rw a.listed-is (span-at w rest i (omega (arith, count, h)), λ l. next-at w rest i (omega (arith, count, l)))
