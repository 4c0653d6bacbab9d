-- Laws of a run: what an answer depends on, and the bytes that it uses.
use mathlib.Core.Path.{◌≡◌, refl, sym, ap, ◌∙◌}
use mathlib.Core.Bool.{Bool, true, false, cond, not, ◌&&◌, ◌||◌}
use mathlib.Core.List.{List}
use mathlib.Core.Logic.{◌↔◌, ◌⊎◌, inl, inr, ⊎_elim}
use Prim.Native.Nat.{ℕ, ◌+◌, ◌/◌, ◌≤◌}
use native.Mathlib.Omega.{arith}
use borrow.Author.Tests.{eq-eqb, ne_eqb, eqb-true, eqb-false}
use lib.Dec.{eqb}
use lib.ListN.{length, take, drop, length-replicate}
use Rattle.schema.specs.File.{table_of}
use Rattle.schema.proofs.Bools.{cases, clash, and_i, or_left, or_right, or-false, or-neither, not_i}
use Rattle.frame.specs.declared.Header.{Header}
use Rattle.frame.specs.FrameRead.{FrameRead, More, Frame, Refused}
use Rattle.frame.specs.Frame.{frame_of, read_used}
use Rattle.frame.proofs.Frames.{read-is-frame}
use Rattle.frame.proofs.Answers.{used-inside}
use Rattle.record.proofs.Entries.{frame-least}
use Rattle.calls.specs.declared.Call.{Call}
use Rattle.calls.specs.Judged.{Refused as JudgedRefused}
use Rattle.calls.specs.declared.Tally.{Tally}
use Rattle.calls.specs.Numbers.{uses_frame}
use Rattle.calls.specs.Judge.{judge_of, verdict_of}
use Rattle.connection.specs.Step.{step_of}
use Rattle.calls.proofs.Sides.{no-side}
use Rattle.reader.specs.Entry.{room}
use Rattle.receiver.specs.Received.{Received}
use Rattle.receiver.specs.Answer.{Effect, stopped}
use Rattle.receiver.specs.Planning.{frame_from}
use Rattle.receiver.specs.Receive.{frame_settled, frame_effect}
use Rattle.receiver.specs.Run.{fresh_tallies}
use Rattle.receiver.specs.Fresh.{FreshEffect, fresh_effect, received_fresh}
use Rattle.receiver.proofs.Ways.{Way, stops, judges, ways}
use Rattle.receiver.proofs.FreshRows.{used-by-number, same-room}
use Rattle.replay.specs.Run.{sheet, answer_to, header_in, stops as stops_at}
use Rattle.replay.specs.Runs.{GoesOn}

-- ---- the sheet

-- "The sheet has 4,096 rows."
pub sheet-rows : room sheet ≡ 4096
sheet-rows = ap (λ (n : ℕ). n / 4) (length-replicate {A = ℕ} 16384 0)

pub by-sheet : (s : List ℕ) (side : ℕ) (bytes cells : List ℕ) (l : List Call) → room cells ≡ room sheet
    → (r : Received) (after : List ℕ) → fresh_effect r after ≡ received_fresh s side bytes cells l → r ≡ answer_to s side bytes l
unfolding answer_to
by-sheet s side bytes cells l space r after h = ap (λ (a : FreshEffect). a.answer) h ∙ same-room s side bytes cells l sheet space

-- ---- bytes used

used-least : (bytes : List ℕ) → (read_used (frame_of bytes) ≡ 0 → ⊥) → 26 ≤ read_used (frame_of bytes)
used-least bytes = go (frame_of bytes) refl
  where
    go : (v : FrameRead) → frame_of bytes ≡ v → (read_used v ≡ 0 → ⊥) → 26 ≤ read_used v
    go More e z = absurd (z refl)
    go (Refused n) e z = absurd (z refl)
    go (Frame h place n) e z = let w = read-is-frame bytes e in omega (arith, w.end, frame-least w.is)

module _ (s : List ℕ) (side : ℕ) (bytes : List ℕ) (l : List Call) (z : (answer_to s side bytes l).used ≡ 0 → ⊥) where
  pub used-frame : (answer_to s side bytes l).used ≡ read_used (frame_of bytes)
  unfolding answer_to
  used-frame = go (uses_frame (received_fresh s side bytes sheet l).answer.number) (used-by-number s side bytes sheet l)
    where
      go : (b : Bool) → (received_fresh s side bytes sheet l).answer.used ≡ cond b (read_used (frame_of bytes)) 0
          → (received_fresh s side bytes sheet l).answer.used ≡ read_used (frame_of bytes)
      go true e = e
      go false e = absurd (z e)

  -- An entry that uses bytes takes 27 at least, its side's among them, and lies in the record.
  pub used-bounds : (26 ≤ (answer_to s side bytes l).used) × ((answer_to s side bytes l).used ≤ length bytes)
  used-bounds = rw used-frame (used-least bytes (λ h. z (used-frame ∙ h)), used-inside bytes)

  -- It has a whole frame, whose header its line shows.
  pub listed-frame : (place : ℕ) × ((n : ℕ) × (frame_of bytes ≡ Frame (header_in (frame_of bytes)) place n))
  unfolding header_in
  listed-frame = go (frame_of bytes) (λ h. z (used-frame ∙ h))
    where
      go : (v : FrameRead) → (read_used v ≡ 0 → ⊥) → (place : ℕ) × ((n : ℕ) × (v ≡ Frame (header_in v) place n))
      go More h = absurd (h refl)
      go (Refused n) h = absurd (h refl)
      go (Frame h place n) _ = (place, (n, refl))

-- ---- where a run stops

-- An answer that uses bytes is 8 where the side is neither C nor S.
module _ (s : List ℕ) (side : ℕ) (bytes : List ℕ) (l : List Call) (client : side ≡ 67 → ⊥) (server : side ≡ 83 → ⊥) where
  unsent : (h : Header) → judge_of (table_of s) (frame_from side h) l ≡ JudgedRefused 8
  unfolding judge_of verdict_of
  unsent h = rw (no-side side h.kind client server)

  unsent-number : (h : Header) (payload : List ℕ) (size : ℕ) (ts : List Tally) → (frame_effect s (frame_from side h) payload size sheet ts l).answer.number ≡ 8
  unfolding frame_effect frame_settled step_of
  unsent-number h payload size ts = rw (unsent h)

  pub no-sender : ((answer_to s side bytes l).used ≡ 0) ⊎ ((answer_to s side bytes l).number ≡ 8)
  unfolding answer_to received_fresh stopped
  no-sender = go (ways s side bytes sheet (fresh_tallies (table_of s)) l)
    where
      go : {x : Effect} → Way s side bytes sheet (fresh_tallies (table_of s)) l x → (x.answer.used ≡ 0) ⊎ (x.answer.number ≡ 8)
      go (stops {n} {q} w) = inl refl
      go (judges h place n w e) = inr (unsent-number h (take n (drop place bytes)) (place + n) (fresh_tallies (table_of s)))

-- The run goes on exactly where there is an entry.
pub goes-on-iff : (s : List ℕ) (side : ℕ) (bytes : List ℕ) (l : List Call) →
    let a = answer_to s side bytes l in (stops_at side a.number a.used ≡ false) ↔ GoesOn side a
goes-on-iff s side bytes l = (going, entering)
  where
    a : Received
    a = answer_to s side bytes l

    other : Bool
    other = not (eqb side 67 || eqb side 83)

    sender : (a.used ≡ 0 → ⊥) → (eqb a.number 8 && other) ≡ false → (side ≡ 67) ⊎ (side ≡ 83)
    sender some e =
        ⊎_elim (λ c. inl (eqb-true side 67 c))
        (λ c. ⊎_elim (λ d. inr (eqb-true side 83 d))
        (λ d. ⊎_elim (λ z. absurd (some z))
        (λ n. clash (eqb a.number 8 && other) (and_i (eqb a.number 8) other (eq-eqb a.number 8 n) (not_i (eqb side 67 || eqb side 83) (or-neither (eqb side 67) (eqb side 83) c d))) e)
        (no-sender s side bytes l (eqb-false side 67 c) (eqb-false side 83 d)))
        (cases (eqb side 83)))
        (cases (eqb side 67))

    going : stops_at side a.number a.used ≡ false → GoesOn side a
    going e =
        let w = or-false (eqb a.used 0) (eqb a.number 8 && other) e in
        let some = eqb-false a.used 0 w.0 in
        record {
          is_side = sender some w.1;
          uses = some;
        }

    and_none : (b c : Bool) → c ≡ true → (b && not c) ≡ false
    and_none true true e = refl
    and_none true false e = sym e
    and_none false c e = refl

    entering : GoesOn side a → stops_at side a.number a.used ≡ false
    entering w =
        or-neither (eqb a.used 0) (eqb a.number 8 && other) (ne_eqb a.used 0 w.uses)
        (and_none (eqb a.number 8) (eqb side 67 || eqb side 83)
        (⊎_elim (λ c. or_left (eqb side 67) (eqb side 83) (eq-eqb side 67 c)) (λ d. or_right (eqb side 67) (eqb side 83) (eq-eqb side 83 d)) w.is_side))

-- Where there is none, it stops.
pub stops-there : (s : List ℕ) (side : ℕ) (bytes : List ℕ) (l : List Call) →
    let a = answer_to s side bytes l in (GoesOn side a → ⊥) → stops_at side a.number a.used ≡ true
stops-there s side bytes l none =
    let a = answer_to s side bytes l in
    ⊎_elim (λ e. e) (λ e. absurd (none ((goes-on-iff s side bytes l).0 e))) (cases (stops_at side a.number a.used))
