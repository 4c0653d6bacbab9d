-- Laws of a run: one entry at a time, the function and the relation, and where the entries stand.
use mathlib.Core.Path.{◌≡◌, refl, sym, ap, subst, ◌∙◌}
use mathlib.Core.Bool.{true, false}
use mathlib.Core.List.Memᴰ
use mathlib.Core.List.{List, [], ◌∷◌, Memᴰ}
use mathlib.Core.Logic.{◌↔◌, ⊎_elim}
use Prim.Native.Nat.{ℕ, zero, suc, ◌+◌, ◌-◌, ◌≤◌, ◌<◌}
use native.Mathlib.Omega.{arith}
use lib.ListN.{length, take, drop, get_or, length-drop, drop_of_length-le}
use lib.Seq.{drop-cons, drop-drop, get_or-drop, take_all}
use Rattle.schema.proofs.Bools.{cases, clash}
use Rattle.frame.specs.Frame.{frame_of}
use Rattle.calls.specs.declared.Call.{Call}
use Rattle.receiver.specs.Received.{Received}
use Rattle.replay.specs.Run.{fresh_calls, answer_to, stops, Entry, entry_of, Run, halted, onward, run_from, run_of}
use Rattle.replay.specs.Runs.{GoesOn, Runs, at-end, halting, answering, StandsIn}
use Rattle.replay.proofs.Turns.{used-bounds, listed-frame, goes-on-iff, stops-there}

-- ---- one turn

module _ (s : List ℕ) (k place side : ℕ) (bytes : List ℕ) (l : List Call) where
  pub run-stop : let a = answer_to s side bytes l in stops side a.number a.used ≡ true
      → run_from s (suc k) place (side ∷ bytes) l ≡ halted a.number (length (side ∷ bytes))
  unfolding run_from
  run-stop e = rw e

  pub run-turn : let a = answer_to s side bytes l in stops side a.number a.used ≡ false
      → run_from s (suc k) place (side ∷ bytes) l
      ≡ onward (entry_of place side bytes a) (run_from s k (place + 1 + a.used) (drop a.used bytes) a.table.slots)
  unfolding run_from
  run-turn e = rw e

pub run_end : (s : List ℕ) (k place : ℕ) (l : List Call) → run_from s k place [] l ≡ halted 0 0
unfolding run_from
run_end s zero place l = refl
run_end s (suc k) place l = refl

-- what is left after an entry is no longer
after-shorter : (used : ℕ) (bytes : List ℕ) → length (drop used bytes) ≤ length bytes
after-shorter used bytes = rw length-drop (omega arith)

-- ---- the function and the relation

-- The function gives a run.
pub run_is : (s : List ℕ) (k place : ℕ) (left : List ℕ) (l : List Call) → length left ≤ k → Runs s place left l (run_from s k place left l)
run_is s zero place [] l h = subst (Runs s place [] l) (sym (run_end s zero place l)) at-end
run_is s zero place (side ∷ bytes) l h = absurd (omega arith)
run_is s (suc k) place [] l h = subst (Runs s place [] l) (sym (run_end s (suc k) place l)) at-end
run_is s (suc k) place (side ∷ bytes) l h =
    let a = answer_to s side bytes l in
    ⊎_elim
    (λ e. subst (Runs s place (side ∷ bytes) l) (sym (run-stop s k place side bytes l e)) (halting (λ w. clash _ e ((goes-on-iff s side bytes l).1 w))))
    (λ e.
    subst (Runs s place (side ∷ bytes) l) (sym (run-turn s k place side bytes l e))
    (answering ((goes-on-iff s side bytes l).0 e) (run_is s k (place + 1 + a.used) (drop a.used bytes) a.table.slots (omega (arith, h, after-shorter a.used bytes)))))
    (cases (stops side a.number a.used))

-- There is no other.
pub one-run : {s : List ℕ} {place : ℕ} {left : List ℕ} {l : List Call} {r : Run} → Runs s place left l r → (k : ℕ) → length left ≤ k → run_from s k place left l ≡ r
one-run {s} {place} {left} {l} at-end k h = run_end s k place l
one-run (halting e) zero h = absurd (omega arith)
one-run {s} {place} (halting {side = side} {bytes = bytes} {l = l} e) (suc k) h = run-stop s k place side bytes l (stops-there s side bytes l e)
one-run (answering e w) zero h = absurd (omega arith)
one-run {s} {place} (answering {side = side} {bytes = bytes} {l = l} e w) (suc k) h =
    let a = answer_to s side bytes l in
    run-turn s k place side bytes l ((goes-on-iff s side bytes l).1 e)
    ∙ ap (onward (entry_of place side bytes a)) (one-run w k (omega (arith, h, after-shorter a.used bytes)))

-- The run of a record is the one that the relation has.
pub run-iff : (s entries : List ℕ) (r : Run) → (run_of s entries ≡ r) ↔ Runs s 0 entries fresh_calls r
unfolding run_of
run-iff s entries r = (λ e. subst (Runs s 0 entries fresh_calls) e (run_is s (length entries) 0 entries fresh_calls (omega arith)), λ w. one-run w (length entries) (omega arith))

-- ---- where the entries stand

-- the bytes after the first of those at a place
after_first : (entries : List ℕ) (p b : ℕ) (bytes : List ℕ) → b ∷ bytes ≡ drop p entries → bytes ≡ drop (p + 1) entries
after_first entries p b bytes e = ap (drop 1) e ∙ drop-drop 1 p entries

stands_here : (s entries : List ℕ) (p side : ℕ) (bytes : List ℕ) (l : List Call) → side ∷ bytes ≡ drop p entries → GoesOn side (answer_to s side bytes l)
    → StandsIn entries (entry_of p side bytes (answer_to s side bytes l))
stands_here s entries p side bytes l e w =
    let none : p + 0 ≡ p = omega arith in
    let f = listed-frame s side bytes l w.uses in
    record {
      inside = omega (arith, ap length e, length-drop p entries);
      side = sym (ap (λ (l : List ℕ). get_or l 0 0) e ∙ get_or-drop p entries 0 0 ∙ ap (λ (k : ℕ). get_or entries k 0) none);
      is = w;
      start = f.0;
      size = f.1.0;
      frame = ap frame_of (sym (after_first entries p side bytes e)) ∙ f.1.1;
    }

run-stands : (entries : List ℕ) {s : List ℕ} {p : ℕ} {left : List ℕ} {l : List Call} {r : Run} → Runs s p left l r → left ≡ drop p entries
    → (e : Entry) → Memᴰ e r.entries → StandsIn entries e
run-stands entries at-end is e m = elim m [ ]
run-stands entries (halting h) is e m = elim m [ ]
run-stands entries {s} {p} (answering {side = side} {bytes = bytes} {l = l} h w) is e m =
    let a = answer_to s side bytes l in
    let rest : drop a.used bytes ≡ drop (p + 1 + a.used) entries = ap (drop a.used) (after_first entries p side bytes is) ∙ drop-drop a.used (p + 1) entries in
    ⊎_elim
    (λ k. subst (StandsIn entries) (sym k) (stands_here s entries p side bytes l is h))
    (λ k. run-stands entries w rest e k)
    (Memᴰ.cases_cons m)

-- Each entry of a record's run stands at its place in the record.
pub entries-stand : (s entries : List ℕ) (e : Entry) → Memᴰ e (run_of s entries).entries → StandsIn entries e
unfolding run_of
entries-stand s entries e m = run-stands entries (run_is s (length entries) 0 entries fresh_calls (omega arith)) refl e m

-- ---- the code's turn

pub tail_of : (entries : List ℕ) (at : ℕ) → take (length entries - (at + 1)) (drop (at + 1) entries) ≡ drop (at + 1) entries
tail_of entries at = take_all (length entries - (at + 1)) (drop (at + 1) entries) (rw length-drop (omega arith))

-- What is left of a record from a place on, with these calls: k more entries are enough.
abbrev pub rest_run : (s entries : List ℕ) (k at : ℕ) (l : List Call) → Run
rest_run s entries k at l = run_from s k at (drop at entries) l

-- The entry at a place, in the code's own terms.
module _ (s entries : List ℕ) (at : ℕ) (l : List Call) (h : at < length entries) (bytes : List ℕ) (tail : bytes ≡ drop (at + 1) entries)
    (side : ℕ) (first : side ≡ get_or entries at 0) (r : Received) (is : r ≡ answer_to s side bytes l) where
  pub split_at : drop at entries ≡ side ∷ bytes
  split_at = let e : at + 1 ≡ suc at = omega arith in rw (first, tail, e) (drop-cons entries at 0 h)

  pub left-long : length entries - at ≡ length (side ∷ bytes)
  left-long = sym (length-drop at entries) ∙ ap length split_at

  pub rest-stop : (k : ℕ) → stops side r.number r.used ≡ true → rest_run s entries (suc k) at l ≡ halted r.number (length entries - at)
  rest-stop k e =
      ap (λ (left : List ℕ). run_from s (suc k) at left l) split_at
      ∙ run-stop s k at side bytes l (rw is at e)
      ∙ rw (is, left-long)

  pub rest-turn : (k : ℕ) → stops side r.number r.used ≡ false
      → rest_run s entries (suc k) at l ≡ onward (entry_of at side bytes r) (rest_run s entries k (at + 1 + r.used) r.table.slots)
  rest-turn k e =
      ap (λ (left : List ℕ). run_from s (suc k) at left l) split_at
      ∙ run-turn s k at side bytes l (rw is at e)
      ∙ ap (λ (a : Received). onward (entry_of at side bytes a) (run_from s k (at + 1 + a.used) (drop a.used bytes) a.table.slots)) (sym is)
      ∙ ap (λ (left : List ℕ). onward (entry_of at side bytes r) (run_from s k (at + 1 + r.used) left r.table.slots))
      (ap (drop r.used) tail ∙ drop-drop r.used (at + 1) entries)

  pub entry-bounds : stops side r.number r.used ≡ false → (26 ≤ r.used) × (at + 1 + r.used ≤ length entries)
  entry-bounds e =
      let b = used-bounds s side bytes l ((goes-on-iff s side bytes l).0 (ap (λ (x : Received). stops side x.number x.used) (sym is) ∙ e)).uses in
      let n : length bytes ≡ length entries - (at + 1) = ap length tail ∙ length-drop (at + 1) entries in
      let u : r.used ≡ (answer_to s side bytes l).used = ap (λ (x : Received). x.used) is in
      (omega (arith, b.0, u), omega (arith, b.1, u, n))

pub rest_end : (s entries : List ℕ) (k at : ℕ) (l : List Call) → length entries ≤ at → rest_run s entries k at l ≡ halted 0 0
rest_end s entries k at l h = ap (λ (left : List ℕ). run_from s k at left l) (drop_of_length-le entries h) ∙ run_end s k at l
