-- What `write_value_frame` writes is read back, by `read_frame` with `read`, and by `receive`.
use mathlib.Core.Path.{◌≡◌, refl, sym, ap, subst, ◌∙◌}
use mathlib.Core.List.{List, ◌++◌}
use Prim.Native.Nat.{ℕ, ◌+◌, ◌-◌, ◌/◌, ◌≤◌}
use native.Mathlib.Omega.{arith}
use lib.ListN.{length, take, drop, replicate, length-replicate}
use lib.Seq.{take_at}
use Rattle.schema.specs.File.{table_of}
use Rattle.frame.specs.declared.Header.{Header}
use Rattle.frame.specs.Written.{frame_bytes, output_of, ReadBack}
use Rattle.frame.specs.Frame.{frame_of, read_used}
use Rattle.frame.specs.IsFrame.{HeaderFits}
use Rattle.frame.proofs.Writes.{length-frame}
use Rattle.frame.proofs.ReadBack as frame
use Rattle.reader.specs.Entry.{room}
use Rattle.writer.specs.Writing.{Written}
use Rattle.writer.specs.Entry as writer
use Rattle.writer.proofs.Outcomes.{written_is}
use Rattle.valueframe.specs.Entry.{frame_outcome}
use Rattle.valueframe.specs.Claims as turn
use Rattle.valueframe.proofs.InTurn.{payload-good, written-iff_in_turn}
use Rattle.calls.specs.Order.{Past, Ruling}
use Rattle.receiver.specs.Answer.{used_of}
use Rattle.receiver.specs.Order.{Said, said, Answered, Reflected}
use Rattle.receiver.specs.Order as order
use Rattle.receiver.specs.Claims.{Front}
use Rattle.receiver.specs.Planning.{frame_from}
use Rattle.receiver.specs.Run.{Event, Input, State, state_from}
use Rattle.receiver.proofs.Answers.{used-by-number}
use Rattle.receiver.proofs.Runs.{by_order}
use Rattle.promises.specs.ValueFrames.{Carries, value, none, RuledNext, CountedNext, received_next, ReceivedBack}
use Rattle.promises.proofs.ReadBack.{read_back}

module _ (h : Header) (fits : HeaderFits h) (s : List ℕ) (ty : ℕ) (sheet B out : List ℕ) (m : ℕ) (out' : List ℕ)
    (e : frame_outcome h s ty sheet B out ≡ writer.outcome (Written m) out') where
  -- the two in turn, with a buffer of zeros between them
  abbrev mid : List ℕ
  mid = replicate 16384 0

  in_turn : turn.InTurn h s ty sheet B mid out m out'
  in_turn = (written-iff_in_turn h s ty sheet B out mid (omega (arith, length-replicate {A = ℕ} 16384 0)) m out').0 e

  carries : (after : List ℕ) → length sheet / 4 ≤ room after → Carries s ty sheet B after in_turn.payload
  carries after rows = go in_turn.payload in_turn.first
    where
      go : (p : List ℕ) → turn.Payload s ty sheet B mid p → Carries s ty sheet B after p
      go _ (turn.none good t l) = none t
      go _ (turn.value n mid' w) =
          let (fs, v, is, shows, reads) = read_back s ty sheet B mid n mid' w after rows in
          let (bs, _, size, front, _) = written_is s ty sheet B mid n mid' w in
          let long : length (take n mid') ≡ n = ap length front ∙ size in
          value (take n mid') fs v is shows (rw long reads)

  -- the frame is what was written
  written-frame : take m out' ≡ frame_bytes h in_turn.payload
  unfolding output_of
  written-frame =
      ap (take m) in_turn.after
      ∙ take_at (frame_bytes h in_turn.payload) (drop m out) m ((frame.written-iff h in_turn.payload (length out) m).0 in_turn.then).size

  back_read : (rest : List ℕ) → ReadBack h in_turn.payload (take m out' ++ rest) m
  back_read rest = rw written-frame (frame.read_back h in_turn.payload (length out) fits in_turn.then rest)

  -- What was written, followed by anything, is read as a frame with the same header, and `read` shows its payload as the value that the sheet shows over
  -- its bytes, in a sheet with rows enough. Every header of the entry fits its fields.
  pub frame-read-back : (after : List ℕ) → length sheet / 4 ≤ room after
      → (p : List ℕ) × Carries s ty sheet B after p × ((rest : List ℕ) → ReadBack h p (take m out' ++ rest) m)
  frame-read-back after rows = (in_turn.payload, carries after rows, back_read)

  -- The frame is its front, and then the payload.
  whole_length : (m - length in_turn.payload) + length in_turn.payload ≡ m
  whole_length =
      let size = ((frame.written-iff h in_turn.payload (length out) m).0 in_turn.then).size in
      omega (arith, size, length-frame h in_turn.payload)

  -- The same by `receive`, in any history from a good call table of 128 slots with as many tally rows as methods, for a frame that may come next.
  pub received-back : (st : State) (past : ℕ → Past) → Reflected (table_of s) st.calls st.tallies past → (is : List Event) (side : ℕ)
      → (after : List ℕ) → length sheet / 4 ≤ room after → (rest : List ℕ)
      → (p : List ℕ) × Carries s ty sheet B after p × ReceivedBack s ty p after st past is side h m (take m out' ++ rest)
  received-back st past stands is side after rows rest =
      let good = payload-good s ty sheet B mid in_turn.payload in_turn.first in
      let p = in_turn.payload in
      let back = back_read rest in
      let bytes = take m out' ++ rest in
      let w : Front side bytes (frame_from side h) =
      record {
        header = h;
        place = m - length p;
        size = length p;
        whole = back.reads;
        seen = record { side = refl; kind = refl; «package» = refl; service = refl; method = refl; correlation = refl };
      } in
      let i : Input = record { side = side; bytes = bytes; sheet = after } in
      let says : (ruling : Ruling) (y : Said) → RuledNext s st past is side h ruling → Answered s p after ruling y → (x : Said)
      → CountedNext s st past is side h after y x → said (received_next s st is side bytes after) ≡ x =
      λ ruling y may a x counts. (by_order s good st past stands is i (frame_from side h) w x).1
      (record {
        ruling = ruling;
        ruled = may;
        payload_said = y;
        answered = subst (λ (q : List ℕ). Answered s q after ruling y) (sym back.payload) a;
        counted = counts;
      }) in
      let now = state_from s st is in
      let length-used : read_used (frame_of bytes) ≡ m = ap read_used back.reads ∙ whole_length in
      let used_all = used-by-number s side bytes after now.tallies now.calls ∙ ap (used_of (received_next s st is side bytes after).answer.number) length-used in (
        p,
        carries after rows,
        record { value = λ may. says _ _ may (order.value ty); none = λ none may. says _ _ may (order.empty none); error = λ may. says _ _ may order.error; used = used_all },
      )
