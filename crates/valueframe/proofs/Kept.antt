-- Laws of the part of the output into which the payload is written first: what stands there afterwards, and that what was kept comes back.
use mathlib.Core.Path.{◌≡◌, refl, sym, ap, subst, ◌∙◌}
use mathlib.Core.Logic.{⊎_elim}
use mathlib.Core.Bool.{true, false, false≢true, ◌&&◌}
use mathlib.Core.List.{List, ◌++◌, append_assoc, append-nil}
use Prim.Native.Nat.{ℕ, ◌+◌, ◌-◌, ◌≤◌, ◌<◌}
use native.Mathlib.Omega.{arith}
use borrow.Author.Tests.{eqb-true, leb-true}
use borrow.Rule.Slice.PartMut.{put_mid, same_len_mid, put_same, mid_len}
use lib.Dec.{eqb, leb}
use lib.ListN.{length, take, drop, drop_of_length-le, take-append-drop}
use lib.Seq.{take-length, take_at, drop_at, drop-append-le, drop-drop, length-take-le}
use Rattle.buffer.specs.Span.{span}
use Rattle.buffer.specs.Store.{put}
use Rattle.buffer.specs.Store as store
use Rattle.buffer.proofs.Stores.{put_whole}
use Rattle.wire.specs.Varuint.{varuint_bytes}
use Rattle.schema.proofs.Bools.{cases, and_left, and_right}
use Rattle.frame.specs.declared.Header.{Header}
use Rattle.frame.specs.Written.{front_bytes, frame_bytes}
use Rattle.value.specs.Write.{Writing, refusal, written}
use Rattle.writer.specs.Writing as code
use Rattle.writer.specs.Writing.{Written, Refused}
use Rattle.writer.specs.Emit.{PutAt}
use Rattle.writer.specs.Entry.{outcome, length_of, Fronts}
use Rattle.writer.proofs.Entries.{length-written, written-length}
use Rattle.valueframe.specs.Entry.{frame_in}
use Rattle.valueframe.specs.Part.{belongs, part_after}
use Rattle.valueframe.proofs.Entries.{in_refused, in_room, in_written, before-payload, behind-front}

-- ---- what is kept comes back

pub put_back : (part kept kept' part' part'' : List ℕ) {r r' : ℕ} → length part ≤ length kept → PutAt kept 0 (span part 0 (length part)) r kept'
    → length part' ≡ length part → PutAt part' 0 (span kept' 0 (length part)) r' part'' → part'' ≡ part
put_back part kept kept' part' part'' room keeps same puts =
    let held : kept' ≡ part ++ drop (length part) kept = keeps.holds ∙ ap (put kept 0) (take-length part) ∙ put_whole kept part room in
    let back : span kept' 0 (length part) ≡ part = ap (take (length part)) held ∙ take_at part (drop (length part) kept) (length part) refl in
    puts.holds ∙ ap (put part' 0) back ∙ put_whole part' part (omega arith)
    ∙ ap (λ (x : List ℕ). part ++ x) (drop_of_length-le part' {i = length part} (omega arith)) ∙ append-nil part

-- ---- the part

pub refused-elsewhere : (a : code.Writing) {n q : ℕ} (start size : ℕ) → a ≡ Refused n q → belongs a start size ≡ false
unfolding belongs
refused-elsewhere a start size e = rw e

pub belongs-there : {n start size : ℕ} → belongs (Written n) start size ≡ true → (25 + length (varuint_bytes n) ≡ start) × (n ≤ size)
unfolding belongs
belongs-there {n} {start} {size} b = (
  eqb-true (25 + length (varuint_bytes n)) start (and_left (eqb (25 + length (varuint_bytes n)) start) (leb n size) b),
  leb-true n size (and_right (eqb (25 + length (varuint_bytes n)) start) (leb n size) b),
)

pub there-tested : (a : code.Writing) (n place start size : ℕ) → a ≡ Written n → place ≡ 25 + length (varuint_bytes n) → (eqb place start && leb n size) ≡ belongs a start size
unfolding belongs
there-tested a n place start size e at = rw (e, at)

module _ (w : Writing) (start : ℕ) (part : List ℕ) where
  pub part-other : belongs (length_of w) start (length part) ≡ false → part_after w start part ≡ part
  unfolding part_after
  part-other b = go w b
    where
      go : (w : Writing) → belongs (length_of w) start (length part) ≡ false → part_after w start part ≡ part
      go (refusal n q) b = refl
      go (written p) b = rw b

  part-written : (p : List ℕ) → w ≡ written p → belongs (length_of w) start (length part) ≡ true → part_after w start part ≡ p ++ drop (length p) part
  unfolding part_after
  part-written p is b =
      let there : belongs (Written (length p)) start (length part) ≡ true = subst (λ (x : Writing). belongs (length_of x) start (length part) ≡ true) is b in
      rw (is, there)

  -- what the walk put stays where it belongs
  pub part-there : belongs (length_of w) start (length part) ≡ true → (part' : List ℕ) → Fronts w part part' → part' ≡ part_after w start part
  unfolding belongs
  part-there b part' front = go w refl b
    where
      go : (v : Writing) → w ≡ v → belongs (length_of v) start (length part) ≡ true → part' ≡ part_after w start part
      go (refusal n q) is b = absurd (false≢true b)
      go (written p) is b = front p is (belongs-there b).1 ∙ sym (part-written p is (ap (λ (v : Writing). belongs (length_of v) start (length part)) is ∙ b))

-- ---- the output with that part

module _ (w : Writing) (start end : ℕ) (out part' : List ℕ) (within : start ≤ end) (inside : end ≤ length out)
    (after : part' ≡ part_after w start (take (end - start) (drop start out))) where
  abbrev part : List ℕ
  part = take (end - start) (drop start out)

  size : length part ≡ end - start
  size = mid_len start end out inside

  -- a payload that does not belong there leaves the output as it was
  pub output-same : belongs (length_of w) start (end - start) ≡ false → put_mid start (end - start) out part' ≡ out
  output-same b =
      let b' : belongs (length_of w) start (length part) ≡ false = rw size b in
      ap (put_mid start (end - start) out) (after ∙ part-other w start part b') ∙ put_same start (end - start) out

  -- so does one whose frame is too long for the output
  pub output-small : (n : ℕ) → length_of w ≡ Written n → length out < 25 + length (varuint_bytes n) + n → belongs (length_of w) start (end - start) ≡ false
  output-small n e l = ⊎_elim (λ b. absurd (never (belongs-there (sym (ap (λ (a : code.Writing). belongs a start (end - start)) e) ∙ b)))) (λ b. b) (cases (belongs (length_of w) start (end - start)))
    where
      never : (25 + length (varuint_bytes n) ≡ start) × (n ≤ end - start) → ⊥
      never (at, fits) = omega arith

  -- one that belongs there stands in its place
  pub output-there : (p : List ℕ) → w ≡ written p → belongs (length_of w) start (end - start) ≡ true
      → (25 + length (varuint_bytes (length p)) ≡ start) × (drop start (put_mid start (end - start) out part') ≡ p ++ drop (start + length p) out)
  output-there p is b =
      let b' : belongs (length_of w) start (length part) ≡ true = rw size b in
      let (at, fits) = belongs-there (sym (ap (λ (v : Writing). belongs (length_of v) start (end - start)) is) ∙ b) in
      let long : length (take start out) ≡ start = length-take-le start out (omega arith) in
      let rest = drop (end - start) (drop start out) in (
        at,
        drop_at (take start out) (part' ++ rest) start long
            ∙ ap (λ (x : List ℕ). x ++ rest) (after ∙ part-written w start part p is b')
            ∙ append_assoc p (drop (length p) part) rest
            ∙ ap (λ (x : List ℕ). p ++ x) (sym (drop-append-le (length p) part rest (omega (arith, size, fits))) ∙ ap (drop (length p)) (take-append-drop (end - start) (drop start out)) ∙ drop-drop (length p) start out),
      )

  -- ---- the frame in that output
  module _ (h : Header) (same : length part' ≡ length part) where
    abbrev first : List ℕ
    first = put_mid start (end - start) out part'

    long : length first ≡ length out
    long = same_len_mid start (end - start) out part' same

    pub keep-refused : (n q : ℕ) → length_of w ≡ Refused n q → outcome (Refused n q) first ≡ frame_in h out w
    keep-refused n q e =
        ap (outcome (Refused n q)) (output-same (refused-elsewhere (length_of w) start (end - start) e)) ∙ in_refused h out w n q e

    module _ (n place : ℕ) (e : length_of w ≡ Written n) (at : place ≡ 25 + length (varuint_bytes n)) where
      pub keep-full : length first < place + n → outcome (Refused 52 0) first ≡ frame_in h out w
      keep-full full =
          let l : length out < place + n = subst (λ (k : ℕ). k < place + n) long full in
          let small : length out < 25 + length (varuint_bytes n) + n = rw (← at) l in
          ap (outcome (Refused 52 0)) (output-same (output-small n e small)) ∙ in_room h out w n place e at l

      module _ (fits : place + n ≤ length first) (mid : List ℕ) (front : mid ≡ store.written first 0 (front_bytes h n)) where
        room : place + n ≤ length out
        room = subst (λ (k : ℕ). place + n ≤ k) long fits

        pub keep-elsewhere : belongs (length_of w) start (end - start) ≡ false → (p : List ℕ) → w ≡ written p
            → outcome (Written (place + n)) (put_mid place ((place + n) - place) mid p) ≡ frame_in h out w
        keep-elsewhere b p is =
            let size : length p ≡ n = written-length is e in
            let unchanged = output-same b in
            let at' : place ≡ 25 + length (varuint_bytes (length p)) = rw size at in
            let front' : mid ≡ store.written out 0 (front_bytes h (length p)) = rw size (front ∙ ap (λ (x : List ℕ). store.written x 0 (front_bytes h n)) unchanged) in
            let framed : put_mid place ((place + n) - place) mid p ≡ frame_bytes h p ++ drop (place + n) out = rw (← size) (behind-front h out p place at' (rw size room) mid front') in
            in_written h out w n place e at room p is _ framed

        pub keep-there : belongs (length_of w) start (end - start) ≡ true → outcome (Written (place + n)) mid ≡ frame_in h out w
        keep-there b =
            let (p, is, size) = length-written w e in
            let (at₁, there) = output-there p is b in
            let at' : place ≡ 25 + length (varuint_bytes (length p)) = rw size at in
            let there' : drop place first ≡ p ++ drop (place + length p) out = subst (λ (k : ℕ). drop k first ≡ p ++ drop (k + length p) out) (sym (at' ∙ at₁)) there in
            let front' : mid ≡ store.written first 0 (front_bytes h (length p)) = rw size front in
            let framed : mid ≡ frame_bytes h p ++ drop (place + n) out =
            subst (λ (k : ℕ). mid ≡ frame_bytes h p ++ drop (place + k) out) size (before-payload h out p place at' first mid front' there') in
            in_written h out w n place e at room p is mid framed
