-- The turns of the loops, in the code's own terms.
use mathlib.Core.Path.{◌≡◌, refl, sym, ap, ◌∙◌}
use mathlib.Core.Bool.{Bool, true, false}
use mathlib.Core.List.{List, [], ◌∷◌, ◌++◌}
use Prim.Native.Nat.{ℕ, zero, suc, ◌+◌, ◌-◌, ◌≤◌, ◌<◌}
use native.Mathlib.Omega.{arith}
use lib.ListN.{length, take, drop, get_or, length-append, length-drop, drop_of_length-le}
use lib.Seq.{take_all, drop-cons, drop-drop, length-take-le, sets, length-sets, sets-eq}
use Rattle.buffer.specs.Store.{written}
use Rattle.buffer.proofs.Stores.{sets-written, sets-append}
use Rattle.wire.proofs.Cases.{differ}
use Rattle.std.specs.Prelude.{Option, Some, None, is_some}
use Rattle.record.specs.Entry.{entry_length, answered}
use Rattle.record.proofs.Entries.{entry-inside}
use Rattle.salvage.specs.Pieces.{Piece, keep, skip, bytes_in, is_kept, span_length, first_piece, pieces_of, entries_in, copy_of, span_count, spans_of}
use Rattle.salvage.specs.Salvage.{filled, measure_of}
use Rattle.salvage.proofs.Splits.{forward-step, forward-stop, forward-end, forward-inside, forward-split, first-skip, first-keep, first-front, pieces_end, pieces-turn}

-- the bytes from a place on
pub rest_of : (s : List ℕ) (i : ℕ) → take (length s - i) (drop i s) ≡ drop i s
rest_of s i = take_all (length s - i) (drop i s) (omega (arith, length-drop i s))

-- ---- what the answer to whether an entry starts tells of its length

no_answer : (n : ℕ) → is_some (answered n) ≡ false → n ≡ 0
no_answer zero e = refl
no_answer (suc n) e = differ cc

an-answer : (n : ℕ) → is_some (answered n) ≡ true → n ≡ 0 → ⊥
an-answer zero e z = differ cc
an-answer (suc n) e z = absurd (omega (arith, z))

none-is : (n : ℕ) → None ≡ answered n → n ≡ 0
none-is n e = no_answer n (ap is_some (sym e))

some-is : (n k : ℕ) → Some k ≡ answered n → (k ≡ n) × (n ≡ 0 → ⊥)
some-is n k e = (value n e, an-answer n (ap is_some (sym e)))
  where
    value : (n : ℕ) → Some k ≡ answered n → k ≡ n
    value zero e = cc
    value (suc n) e = cc

-- ---- forward

-- it is so far from a place, and what is left gives the same end
module _ (s : List ℕ) (i far : ℕ) (sofar : i + span_length (drop i s) ≡ far) where
  pub place-passed : i < length s → entry_length (drop i s) ≡ 0 → (i + 1) + span_length (drop (i + 1) s) ≡ far
  place-passed h z =
      let split : drop i s ≡ get_or s i 0 ∷ drop (suc i) s = drop-cons s i 0 h in
      let next : i + 1 ≡ suc i = omega arith in
      let step : span_length (drop i s) ≡ suc (span_length (drop (suc i) s)) =
      ap span_length split ∙ forward-step (get_or s i 0) (drop (suc i) s) (ap entry_length (sym split) ∙ z) in
      rw next (omega (arith, step, sofar))

  pub place_found : (entry_length (drop i s) ≡ 0 → ⊥) → i ≡ far
  place_found z = omega (arith, forward-stop (drop i s) z, sofar)

  pub forward-over : length s ≤ i → i ≡ far
  forward-over h = omega (arith, ap span_length (drop_of_length-le s h) ∙ forward-end, sofar)

  -- by the answer whether an entry starts there
  module _ (r : Option ℕ) (is : r ≡ answered (entry_length (take (length s - i) (drop i s)))) where
    here : r ≡ answered (entry_length (drop i s))
    here = is ∙ ap (λ (l : List ℕ). answered (entry_length l)) (rest_of s i)

    pub forward-on : i < length s → is_some r ≡ false → (i + 1) + span_length (drop (i + 1) s) ≡ far
    forward-on h e = place-passed h (no_answer (entry_length (drop i s)) (rw here at e))

    pub forward-found : is_some r ≡ true → i ≡ far
    forward-found e = place_found (an-answer (entry_length (drop i s)) (rw here at e))

  -- past so many places at once
  pub forward-past : (n : ℕ) → n ≤ span_length (drop i s) → (i + n) + span_length (drop (i + n) s) ≡ far
  forward-past n h =
      let e : span_length (drop i s) ≡ n + span_length (drop (i + n) s) =
      forward-split n (drop i s) h ∙ ap (λ (l : List ℕ). n + span_length l) (drop-drop n i s) in
      omega (arith, e, sofar)

-- ---- the first piece

module _ (s : List ℕ) where
  pub piece-skipped : None ≡ answered (entry_length s) → (m : ℕ) → m ≡ span_length s
      → (false ≡ is_kept (first_piece s)) × (m ≡ length (bytes_in (first_piece s)))
  piece-skipped e m far =
      rw (first-skip s (none-is (entry_length s) e)) (refl, far ∙ sym (length-take-le (span_length s) s (forward-inside s)))

  pub piece-kept : (n : ℕ) → Some n ≡ answered (entry_length s) → (true ≡ is_kept (first_piece s)) × (n ≡ length (bytes_in (first_piece s)))
  piece-kept n e =
      let k = some-is (entry_length s) n e in
      rw (first-keep s k.1) (refl, k.0 ∙ sym (length-take-le (entry_length s) s (entry-inside s)))

as_kept : (p : Piece) → is_kept p ≡ true → p ≡ keep (bytes_in p)
as_kept (keep e) h = refl
as_kept (skip g) h = differ cc

as_skipped : (p : Piece) → is_kept p ≡ false → p ≡ skip (bytes_in p)
as_skipped (keep e) h = differ cc
as_skipped (skip g) h = refl

-- ---- one piece more

-- the piece at a place: whether it is kept, and its length
pub record PieceAt (torn : List ℕ) (at : ℕ) (kept : Bool) (n : ℕ) : Type 0 where
  pub inside : at < length torn
  pub kept-is : kept ≡ is_kept (first_piece (take (length torn - at) (drop at torn)))
  pub size_is : n ≡ length (bytes_in (first_piece (take (length torn - at) (drop at torn))))

module _ (torn : List ℕ) (at : ℕ) {kept : Bool} {n : ℕ} (w : PieceAt torn at kept n) where
  whole : take (length torn - at) (drop at torn) ≡ drop at torn
  whole = rest_of torn at

  size : n ≡ length (bytes_in (first_piece (drop at torn)))
  size = w.size_is ∙ ap (λ (l : List ℕ). length (bytes_in (first_piece l))) whole

  there : kept ≡ is_kept (first_piece (drop at torn))
  there = w.kept-is ∙ ap (λ (l : List ℕ). is_kept (first_piece l)) whole

  pub piece-bounds : (0 < n) × (at + n ≤ length torn)
  piece-bounds =
      let f = first-front (drop at torn) in
      let l = length-drop at torn in
      (omega (arith, size, f.some (omega (arith, l, w.inside))), omega (arith, size, f.inside, l, w.inside))

  -- the bytes of the piece
  abbrev part : List ℕ
  part = take n (drop at torn)

  piece_is : bytes_in (first_piece (drop at torn)) ≡ part
  piece_is = (first-front (drop at torn)).is ∙ ap (λ (k : ℕ). take k (drop at torn)) (sym size)

  pub part_length : length part ≡ n
  part_length = length-take-le n (drop at torn) (omega (arith, piece-bounds.1, length-drop at torn))

  left : pieces_of (drop at torn) ≡ first_piece (drop at torn) ∷ pieces_of (drop (at + n) torn)
  left =
      pieces-turn (drop at torn) (omega (arith, length-drop at torn, w.inside))
      ∙ ap (λ (l : List ℕ). first_piece (drop at torn) ∷ pieces_of l) (ap (λ (k : ℕ). drop k (drop at torn)) (sym size) ∙ drop-drop n at torn)

  pub left-kept : kept ≡ true → pieces_of (drop at torn) ≡ keep part ∷ pieces_of (drop (at + n) torn)
  left-kept h = left ∙ ap (λ (p : Piece). p ∷ pieces_of (drop (at + n) torn)) (as_kept (first_piece (drop at torn)) (sym there ∙ h) ∙ ap keep piece_is)

  pub left-skipped : kept ≡ false → pieces_of (drop at torn) ≡ skip part ∷ pieces_of (drop (at + n) torn)
  left-skipped h = left ∙ ap (λ (p : Piece). p ∷ pieces_of (drop (at + n) torn)) (as_skipped (first_piece (drop at torn)) (sym there ∙ h) ∙ ap skip piece_is)

-- the record at its end
pieces-over : (torn : List ℕ) (at : ℕ) → length torn ≤ at → pieces_of (drop at torn) ≡ []
pieces-over torn at h = ap pieces_of (drop_of_length-le torn h) ∙ pieces_end

-- ---- what is made of the pieces, one piece after the other

module _ (g : List ℕ) (ps : List Piece) where
  entries-keep : length (entries_in (keep g ∷ ps)) ≡ suc (length (entries_in ps))
  unfolding entries_in
  entries-keep = refl

  entries-skip : entries_in (skip g ∷ ps) ≡ entries_in ps
  unfolding entries_in
  entries-skip = refl

  pub copy-keep : copy_of (keep g ∷ ps) ≡ g ++ copy_of ps
  unfolding copy_of
  copy-keep = refl

  pub copy-skip : copy_of (skip g ∷ ps) ≡ copy_of ps
  unfolding copy_of
  copy-skip = refl

  count-keep : span_count (keep g ∷ ps) ≡ span_count ps
  unfolding span_count
  count-keep = refl

  count-skip : span_count (skip g ∷ ps) ≡ suc (span_count ps)
  unfolding span_count
  count-skip = refl

  spans-keep : (at : ℕ) → spans_of at (keep g ∷ ps) ≡ spans_of (at + length g) ps
  unfolding spans_of
  spans-keep at = refl

  spans-skip : (at : ℕ) → spans_of at (skip g ∷ ps) ≡ at ∷ length g ∷ spans_of (at + length g) ps
  unfolding spans_of
  spans-skip at = refl

none_left : (length (entries_in []) ≡ 0) × ((copy_of [] ≡ []) × ((span_count [] ≡ 0) × ((at : ℕ) → spans_of at [] ≡ [])))
unfolding entries_in copy_of span_count spans_of
none_left = (refl, (refl, (refl, λ at. refl)))

-- ---- counting

-- what was counted up to a place, and what is left, are all
pub record Counted (torn : List ℕ) (entries bytes spans at : ℕ) : Type 0 where
  pub entries-all : entries + length (entries_in (pieces_of (drop at torn))) ≡ length (entries_in (pieces_of torn))
  pub bytes-all : bytes + length (copy_of (pieces_of (drop at torn))) ≡ length (copy_of (pieces_of torn))
  pub spans_all : spans + span_count (pieces_of (drop at torn)) ≡ span_count (pieces_of torn)
  pub entries-few : entries ≤ at
  pub bytes-few : bytes ≤ at
  pub spans-few : spans ≤ at

pub counted_none : (torn : List ℕ) → Counted torn 0 0 0 0
counted_none torn =
    record { entries-all = omega arith; bytes-all = omega arith; spans_all = omega arith; entries-few = omega arith; bytes-few = omega arith; spans-few = omega arith }

module _ (torn : List ℕ) {entries bytes spans at : ℕ} (sofar : Counted torn entries bytes spans at) where
  module _ {kept : Bool} {n : ℕ} (w : PieceAt torn at kept n) where
    pub counted-kept : kept ≡ true → Counted torn (entries + 1) (bytes + n) spans (at + n)
    counted-kept h =
        let e = left-kept torn at w h in
        let g = take n (drop at torn) in
        let ps = pieces_of (drop (at + n) torn) in
        let some = (piece-bounds torn at w).0 in
        record {
          entries-all = omega (arith, sofar.entries-all, ap (λ (l : List Piece). length (entries_in l)) e, entries-keep g ps);
          bytes-all = omega (arith, sofar.bytes-all, ap (λ (l : List Piece). length (copy_of l)) e, ap length (copy-keep g ps), length-append g (copy_of ps), part_length torn at w);
          spans_all = omega (arith, sofar.spans_all, ap span_count e, count-keep g ps);
          entries-few = omega (arith, sofar.entries-few, some);
          bytes-few = omega (arith, sofar.bytes-few);
          spans-few = omega (arith, sofar.spans-few);
        }

    pub counted-skipped : kept ≡ false → Counted torn entries bytes (spans + 1) (at + n)
    counted-skipped h =
        let e = left-skipped torn at w h in
        let g = take n (drop at torn) in
        let ps = pieces_of (drop (at + n) torn) in
        let some = (piece-bounds torn at w).0 in
        record {
          entries-all = omega (arith, sofar.entries-all, ap (λ (l : List Piece). length (entries_in l)) e, ap length (entries-skip g ps));
          bytes-all = omega (arith, sofar.bytes-all, ap (λ (l : List Piece). length (copy_of l)) e, ap length (copy-skip g ps));
          spans_all = omega (arith, sofar.spans_all, ap span_count e, count-skip g ps);
          entries-few = omega (arith, sofar.entries-few);
          bytes-few = omega (arith, sofar.bytes-few);
          spans-few = omega (arith, sofar.spans-few, some);
        }

  pub counted-all : length torn ≤ at → record { entries = entries; bytes = bytes; spans = spans } ≡ measure_of (pieces_of torn)
  counted-all h =
      let e = pieces-over torn at h in
      let z = none_left in
      let a : entries ≡ length (entries_in (pieces_of torn)) = omega (arith, sofar.entries-all, ap (λ (l : List Piece). length (entries_in l)) e, z.0) in
      let b : bytes ≡ length (copy_of (pieces_of torn)) = omega (arith, sofar.bytes-all, ap (λ (l : List Piece). length (copy_of l)) e, ap length z.1.0) in
      let d : spans ≡ span_count (pieces_of torn) = omega (arith, sofar.spans_all, ap span_count e, z.1.1.0) in
      λ i. record { entries = a i; bytes = b i; spans = d i }

-- ---- copying and listing

-- The buffers up to a place: what is left of the pieces has room after what was put, and gives the same end as all of them.
pub record Put (torn copy₀ spans₀ copy spans : List ℕ) (pos row at : ℕ) : Type 0 where
  pub copy-long : length copy ≡ length copy₀
  pub spans-long : length spans ≡ length spans₀
  pub copy-room : pos + length (copy_of (pieces_of (drop at torn))) ≤ length copy
  pub spans-room : row + length (spans_of at (pieces_of (drop at torn))) ≤ length spans
  pub copied : sets copy pos (copy_of (pieces_of (drop at torn))) ≡ sets copy₀ 0 (copy_of (pieces_of torn))
  pub listed : sets spans row (spans_of at (pieces_of (drop at torn))) ≡ sets spans₀ 0 (spans_of 0 (pieces_of torn))

pub put-none : (torn copy spans : List ℕ) → length (copy_of (pieces_of torn)) ≤ length copy → length (spans_of 0 (pieces_of torn)) ≤ length spans → Put torn copy spans copy spans 0 0 0
put-none torn copy spans h g =
    record { copy-long = refl; spans-long = refl; copy-room = omega (arith, h); spans-room = omega (arith, g); copied = refl; listed = refl }

module _ (torn copy₀ spans₀ copy spans : List ℕ) (pos row at : ℕ) (sofar : Put torn copy₀ spans₀ copy spans pos row at) where
  module _ {kept : Bool} {n : ℕ} (w : PieceAt torn at kept n) where
    module _ (h : kept ≡ true) where
      left-copy : copy_of (pieces_of (drop at torn)) ≡ take n (drop at torn) ++ copy_of (pieces_of (drop (at + n) torn))
      left-copy = ap copy_of (left-kept torn at w h) ∙ copy-keep (take n (drop at torn)) (pieces_of (drop (at + n) torn))

      same-spans : spans_of at (pieces_of (drop at torn)) ≡ spans_of (at + n) (pieces_of (drop (at + n) torn))
      same-spans =
          ap (spans_of at) (left-kept torn at w h)
          ∙ spans-keep (take n (drop at torn)) (pieces_of (drop (at + n) torn)) at
          ∙ ap (λ (k : ℕ). spans_of (at + k) (pieces_of (drop (at + n) torn))) (part_length torn at w)

      pub entry-room : pos + n ≤ length copy
      entry-room = omega (arith, sofar.copy-room, ap length left-copy, length-append (take n (drop at torn)) (copy_of (pieces_of (drop (at + n) torn))), part_length torn at w)

      pub put-kept : (copied : List ℕ) → copied ≡ written copy pos (take n (drop at torn)) → Put torn copy₀ spans₀ copied spans (pos + n) row (at + n)
      put-kept after e =
          let g = take n (drop at torn) in
          let rest = copy_of (pieces_of (drop (at + n) torn)) in
          let size = part_length torn at w in
          let put : after ≡ sets copy pos g = e ∙ sym (sets-written copy pos g (omega (arith, size, entry-room))) in
          let long : length after ≡ length copy = ap length put ∙ length-sets copy pos g in
          record {
            copy-long = long ∙ sofar.copy-long;
            spans-long = sofar.spans-long;
            copy-room = omega (arith, long, sofar.copy-room, ap length left-copy, length-append g rest, size);
            spans-room = omega (arith, sofar.spans-room, ap length same-spans);
            copied = ap (λ (l : List ℕ). sets l (pos + n) rest) put
                ∙ ap (λ (k : ℕ). sets (sets copy pos g) (pos + k) rest) (sym size)
                ∙ sym (sets-append copy pos g rest)
                ∙ ap (sets copy pos) (sym left-copy)
                ∙ sofar.copied;
            listed = ap (sets spans row) (sym same-spans) ∙ sofar.listed;
          }

    module _ (h : kept ≡ false) where
      same_copy : copy_of (pieces_of (drop at torn)) ≡ copy_of (pieces_of (drop (at + n) torn))
      same_copy = ap copy_of (left-skipped torn at w h) ∙ copy-skip (take n (drop at torn)) (pieces_of (drop (at + n) torn))

      left-spans : spans_of at (pieces_of (drop at torn)) ≡ at ∷ n ∷ spans_of (at + n) (pieces_of (drop (at + n) torn))
      left-spans =
          ap (spans_of at) (left-skipped torn at w h)
          ∙ spans-skip (take n (drop at torn)) (pieces_of (drop (at + n) torn)) at
          ∙ ap (λ (k : ℕ). at ∷ k ∷ spans_of (at + k) (pieces_of (drop (at + n) torn))) (part_length torn at w)

      pub span-room : row + 2 ≤ length spans
      span-room = omega (arith, sofar.spans-room, ap length left-spans)

      pub put-skipped : (listed : List ℕ) → listed ≡ sets spans row (at ∷ n ∷ []) → Put torn copy₀ spans₀ copy listed pos (row + 2) (at + n)
      put-skipped after e =
          let rest = spans_of (at + n) (pieces_of (drop (at + n) torn)) in
          let long : length after ≡ length spans = ap length e ∙ length-sets spans row (at ∷ n ∷ []) in
          record {
            copy-long = sofar.copy-long;
            spans-long = long ∙ sofar.spans-long;
            copy-room = omega (arith, sofar.copy-room, ap length same_copy);
            spans-room = omega (arith, long, sofar.spans-room, ap length left-spans);
            copied = ap (sets copy pos) (sym same_copy) ∙ sofar.copied;
            listed = ap (λ (l : List ℕ). sets l (row + 2) rest) e
                ∙ sym (sets-append spans row (at ∷ n ∷ []) rest)
                ∙ ap (sets spans row) (sym left-spans)
                ∙ sofar.listed;
          }

  module _ (over : length torn ≤ at) (room : length (copy_of (pieces_of torn)) ≤ length copy₀) (cells : length (spans_of 0 (pieces_of torn)) ≤ length spans₀) where
    pub put_copy : copy ≡ filled copy₀ (copy_of (pieces_of torn))
    put_copy =
        let zero : 0 + length (copy_of (pieces_of torn)) ≡ length (copy_of (pieces_of torn)) = omega arith in
        sym (ap (λ (l : List Piece). sets copy pos (copy_of l)) (pieces-over torn at over) ∙ ap (sets copy pos) none_left.1.0)
        ∙ sofar.copied
        ∙ sets-eq (copy_of (pieces_of torn)) copy₀ 0 (omega (arith, room))
        ∙ ap (λ (k : ℕ). copy_of (pieces_of torn) ++ drop k copy₀) zero

    pub put-spans : spans ≡ filled spans₀ (spans_of 0 (pieces_of torn))
    put-spans =
        let zero : 0 + length (spans_of 0 (pieces_of torn)) ≡ length (spans_of 0 (pieces_of torn)) = omega arith in
        sym (ap (λ (l : List Piece). sets spans row (spans_of at l)) (pieces-over torn at over) ∙ ap (sets spans row) (none_left.1.1.1 at))
        ∙ sofar.listed
        ∙ sets-eq (spans_of 0 (pieces_of torn)) spans₀ 0 (omega (arith, cells))
        ∙ ap (λ (k : ℕ). spans_of 0 (pieces_of torn) ++ drop k spans₀) zero
