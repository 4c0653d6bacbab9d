-- Laws of the listing's entries: each turn of the listing, by the run that it prints.
use mathlib.Core.Path.{◌≡◌, refl, sym, ap, ◌∙◌}
use mathlib.Core.Bool.{true, false}
use mathlib.Core.List.{List, [], ◌∷◌, ◌++◌, append_assoc}
use mathlib.Core.Logic.{⊎_elim}
use Prim.Native.Nat.{ℕ, zero, suc, ◌+◌, ◌-◌, ◌≤◌, ◌<◌}
use native.Mathlib.Omega.{arith}
use lib.ListN.{length, drop, get_or, drop_of_length-le}
use lib.Seq.{drop-drop}
use Rattle.schema.proofs.Bools.{cases}
use Rattle.frame.specs.declared.Header.{Header}
use Rattle.frame.specs.Frame.{frame_of}
use Rattle.calls.specs.declared.Call.{Call}
use Rattle.connection.specs.declared.CallTable.{CallTable}
use Rattle.connection.specs.Step.{fresh_table}
use Rattle.receiver.specs.Received.{Received}
use Rattle.text.specs.Text.{Shown, put_on}
use Rattle.text.proofs.Texts.{put_both}
use Rattle.replay.specs.Run.{fresh_calls, answer_to, header_in, stops, Run, onward, entry_of, run_from, run_of}
use Rattle.replay.proofs.Replays as replay
use Rattle.listing.specs.Text.{line_text, stopped_text}
use Rattle.listing.specs.Listing.{run_lines, run_text, entries_text}

-- ---- one turn

-- an entry's line stands before those of the rest
text-onward : (entry place side : ℕ) (bytes : List ℕ) (a : Received) (r : Run)
    → run_text entry (onward (entry_of place side bytes a) r) ≡ line_text entry side (header_in (frame_of bytes)) a ++ run_text (entry + 1) r
unfolding run_text run_lines
text-onward entry place side bytes a r = append_assoc (line_text entry side (header_in (frame_of bytes)) a) (run_lines (entry + 1) r.entries) (stopped_text r.number r.left)

text-halted : (entry number left : ℕ) → run_text entry (record { entries = []; number = number; left = left }) ≡ stopped_text number left
unfolding run_text run_lines
text-halted entry number left = refl

run_none : (s : List ℕ) (place : ℕ) (left : List ℕ) (l : List Call) → run_from s zero place left l ≡ record { entries = []; number = 0; left = 0 }
unfolding run_from
run_none s place left l = refl

-- the place is not printed
text-place : (s : List ℕ) (k p q entry : ℕ) (left : List ℕ) (l : List Call) → run_text entry (run_from s k p left l) ≡ run_text entry (run_from s k q left l)
text-place s zero p q entry left l = ap (run_text entry) (run_none s p left l ∙ sym (run_none s q left l))
text-place s (suc k) p q entry [] l = ap (run_text entry) (replay.run_end s (suc k) p l ∙ sym (replay.run_end s (suc k) q l))
text-place s (suc k) p q entry (side ∷ bytes) l =
    let a = answer_to s side bytes l in
    ⊎_elim
    (λ e. ap (run_text entry) (replay.run-stop s k p side bytes l e ∙ sym (replay.run-stop s k q side bytes l e)))
    (λ e.
    ap (run_text entry) (replay.run-turn s k p side bytes l e)
    ∙ text-onward entry p side bytes a _
    ∙ ap (λ (t : List ℕ). line_text entry side (header_in (frame_of bytes)) a ++ t) (text-place s k (p + 1 + a.used) (q + 1 + a.used) (entry + 1) (drop a.used bytes) a.table.slots)
    ∙ sym (text-onward entry q side bytes a _)
    ∙ sym (ap (run_text entry) (replay.run-turn s k q side bytes l e)))
    (cases (stops side a.number a.used))

module _ (s : List ℕ) (k entry side : ℕ) (bytes : List ℕ) (l : List Call) where
  pub stop-turn : stops side (answer_to s side bytes l).number (answer_to s side bytes l).used ≡ true
      → entries_text s (suc k) entry (side ∷ bytes) l ≡ stopped_text (answer_to s side bytes l).number (length (side ∷ bytes))
  unfolding entries_text
  stop-turn e = ap (run_text entry) (replay.run-stop s k 0 side bytes l e) ∙ text-halted entry _ _

  pub line-turn : let a = answer_to s side bytes l in stops side a.number a.used ≡ false
      → entries_text s (suc k) entry (side ∷ bytes) l
      ≡ line_text entry side (header_in (frame_of bytes)) a ++ entries_text s k (entry + 1) (drop a.used bytes) a.table.slots
  unfolding entries_text
  line-turn e =
      let a = answer_to s side bytes l in
      ap (run_text entry) (replay.run-turn s k 0 side bytes l e)
      ∙ text-onward entry 0 side bytes a _
      ∙ ap (λ (t : List ℕ). line_text entry side (header_in (frame_of bytes)) a ++ t) (text-place s k (0 + 1 + a.used) 0 (entry + 1) (drop a.used bytes) a.table.slots)

pub end-turn : (s : List ℕ) (k entry : ℕ) (l : List Call) → entries_text s k entry [] l ≡ stopped_text 0 0
unfolding entries_text
end-turn s k entry l = ap (run_text entry) (replay.run_end s k 0 l) ∙ text-halted entry 0 0

-- What is left of the entries, from a place on, put on the page as it is gives the whole; k more entries are enough.
pub record Rest (s entries : List ℕ) (whole page : Shown) (entry at : ℕ) (l : List Call) : Type 0 where
  pub most : ℕ
  pub enough : length entries ≤ at + most
  pub ends : put_on page (entries_text s most entry (drop at entries) l) ≡ whole

pub rest_first : (s entries : List ℕ) (page : Shown) (t : CallTable) → t ≡ fresh_table
    → Rest s entries (put_on page (run_text 1 (run_of s entries))) page 1 0 t.slots
unfolding fresh_calls entries_text run_of
rest_first s entries page t e =
    record { most = length entries; enough = omega arith; ends = ap (λ (k : CallTable). put_on page (entries_text s (length entries) 1 entries k.slots)) e }

module _ (s entries : List ℕ) (whole page : Shown) (entry at : ℕ) (l : List Call) (w : Rest s entries whole page entry at l) where
  pub rest_end : length entries ≤ at → put_on page (stopped_text 0 0) ≡ whole
  rest_end h =
      ap (put_on page) (sym (ap (λ (left : List ℕ). entries_text s w.most entry left l) (drop_of_length-le entries h) ∙ end-turn s w.most entry l)) ∙ w.ends

  -- the entry at the place
  module _ (h : at < length entries) (bytes : List ℕ) (tail : bytes ≡ drop (at + 1) entries) (side : ℕ) (first : side ≡ get_or entries at 0)
      (r : Received) (is : r ≡ answer_to s side bytes l) where
    abbrev split : drop at entries ≡ side ∷ bytes
    split = replay.split_at s entries at l h bytes tail side first r is

    abbrev left-long : length entries - at ≡ length (side ∷ bytes)
    left-long = replay.left-long s entries at l h bytes tail side first r is

    some : w.most ≡ suc (w.most - 1)
    some = omega (arith, w.enough)

    pub rest_stop : stops side r.number r.used ≡ true → put_on page (stopped_text r.number (length entries - at)) ≡ whole
    rest_stop e =
        ap (put_on page)
        (ap (λ (n : ℕ). stopped_text r.number n) left-long
        ∙ sym (ap (λ (n : ℕ). entries_text s n entry (drop at entries) l) some
        ∙ ap (λ (left : List ℕ). entries_text s (suc (w.most - 1)) entry left l) split
        ∙ stop-turn s (w.most - 1) entry side bytes l (rw is at e)
        ∙ ap (λ (x : Received). stopped_text x.number (length (side ∷ bytes))) (sym is)))
        ∙ w.ends

    pub rest_line : stops side r.number r.used ≡ false → (26 ≤ r.used) → (x : Header) → x ≡ header_in (frame_of bytes)
        → Rest s entries whole (put_on page (line_text entry side x r)) (entry + 1) (at + 1 + r.used) r.table.slots
    rest_line e least x header =
        record {
          most = w.most - 1;
          enough = omega (arith, w.enough);
          ends =
              put_both page (line_text entry side x r) (entries_text s (w.most - 1) (entry + 1) (drop (at + 1 + r.used) entries) r.table.slots)
              ∙ ap (put_on page)
              (ap (λ (y : Header). line_text entry side y r ++ entries_text s (w.most - 1) (entry + 1) (drop (at + 1 + r.used) entries) r.table.slots) header
              ∙ sym (ap (λ (n : ℕ). entries_text s n entry (drop at entries) l) some
              ∙ ap (λ (left : List ℕ). entries_text s (suc (w.most - 1)) entry left l) split
              ∙ line-turn s (w.most - 1) entry side bytes l (rw is at e)
              ∙ ap (λ (x : Received). line_text entry side (header_in (frame_of bytes)) x ++ entries_text s (w.most - 1) (entry + 1) (drop x.used bytes) x.table.slots) (sym is)
              ∙ ap (λ (left : List ℕ). line_text entry side (header_in (frame_of bytes)) r ++ entries_text s (w.most - 1) (entry + 1) left r.table.slots)
              (ap (drop r.used) tail ∙ drop-drop r.used (at + 1) entries)))
              ∙ w.ends;
        }
