-- The listing of whole entries prints a line for each, in order; and so does that of a salvaged copy, for the entries that were kept.
use mathlib.Core.Path.{◌≡◌, refl, sym, ap, ap₂, subst, ◌∙◌}
use mathlib.Core.Bool.{Bool, true, false, ◌&&◌}
use mathlib.Core.List.{List, [], ◌∷◌, ◌++◌}
use mathlib.Core.Logic.{⊎_elim}
use Prim.Native.Nat.{ℕ, zero, suc, ◌+◌, ◌-◌, ◌*◌, ◌≤◌}
use native.Mathlib.Omega.{arith}
use borrow.Author.Tests.{eqb-true, eqb-false, le-ltb}
use lib.Dec.{eqb, ltb}
use lib.ListN.{length, take, drop, length-append}
use lib.Seq.{take_at, drop_at}
use Rattle.schema.specs.File.{table_of}
use Rattle.schema.specs.Check.{IsGood}
use Rattle.schema.proofs.Bools.{cases, or_left, or-neither}
use Rattle.frame.specs.declared.Header.{Header}
use Rattle.frame.specs.FrameRead.{FrameRead}
use Rattle.frame.specs.Frame.{frame_of, read_used}
use Rattle.frame.specs.IsFrame.{IsFrame}
use Rattle.frame.proofs.Theorems.{frame-read, starts}
use Rattle.frame.proofs.Frames.{frame-reads}
use Rattle.record.specs.IsEntry.{Side, client, server, entry as made_of, Entries, no_more, one_more}
use Rattle.record.proofs.Entries.{frame-least}
use Rattle.salvage.specs.Salvaging.{Salvaged}
use Rattle.salvage.specs.Pieces.{pieces_of, entries_in, copy_of}
use Rattle.salvage.specs.Salvage.{outcome, salvage_of}
use Rattle.salvage.proofs.Covers.{covered, one-cover}
use Rattle.salvage.proofs.Statements.{salvaged_iff, copy-entries, copy-shorter}
use Rattle.calls.specs.declared.Call.{Call}
use Rattle.calls.specs.Slots.{good_table}
use Rattle.calls.proofs.Goodness.{fresh-good}
use Rattle.calls.proofs.Limits.{FewIn, few-wide, few-fresh}
use Rattle.receiver.specs.Fresh.{FreshEffect}
use Rattle.receiver.specs.Received.{Received}
use Rattle.receiver.proofs.Ways.{front_of}
use Rattle.receiver.proofs.FreshRows.{rest-ignored, stays-good, few-more, used-or-rows}
use Rattle.listing.specs.Text.{heading, line_text, stopped_text}
use Rattle.replay.specs.Run.{sheet, fresh_calls, answer_to, header_in, stops, run_of}
use Rattle.replay.proofs.Turns.{used-frame}
use Rattle.listing.specs.Listing.{entries_text, listing}
use Rattle.listing.specs.Lines.{joined, lines_of, Lines, no-entry, too_few-rows, one_line}
use Rattle.listing.proofs.Turns.{stop-turn, line-turn, end-turn}

-- The entries' bytes are the record.
pub joined_is : {s : List ℕ} {es : List (List ℕ)} → Entries s es → joined es ≡ s
unfolding joined
joined_is no_more = refl
joined_is (one_more {e = e} is w) = ap (λ (l : List ℕ). e ++ l) (joined_is w)

never : (b : Bool) → (b && false) ≡ false
never true = refl
never false = refl

-- C or S does not stop a listing that uses bytes
side-goes : {side : ℕ} → Side side → (number used : ℕ) → eqb used 0 ≡ false → stops side number used ≡ false
side-goes client number used e = or-neither (eqb used 0) _ e (never (eqb number 8))
side-goes server number used e = or-neither (eqb used 0) _ e (never (eqb number 8))

-- An entry takes two bytes at least.
few-entries : {s : List ℕ} {es : List (List ℕ)} → Entries s es → 2 * length es ≤ length s
few-entries no_more = omega arith
few-entries (one_more {s = rest} (made_of {side = side} {frame = f} who is) w) =
    omega (arith, few-entries w, frame-least is, length-append (side ∷ f) rest)

module _ (schema : List ℕ) where
  -- what follows a frame does not show in its answer
  same_answer : (side : ℕ) {h : Header} {p f : List ℕ} → IsFrame h p f → (rest : List ℕ) (l : List Call) → answer_to schema side (f ++ rest) l ≡ answer_to schema side f l
  unfolding answer_to
  same_answer side {h} {p} {f} is rest l =
      ap (λ (a : FreshEffect). a.answer) (rest-ignored schema side f sheet l _ (front_of side f h (length f - length p) (length p) (frame-reads is)) rest)

  lines_end : (entry : ℕ) (l : List Call) → lines_of schema entry [] l ≡ stopped_text 0 0
  unfolding lines_of
  lines_end entry l = refl

  lines-stop : (entry side : ℕ) (f : List ℕ) (es : List (List ℕ)) (l : List Call) → eqb (answer_to schema side f l).used 0 ≡ true
      → lines_of schema entry ((side ∷ f) ∷ es) l ≡ stopped_text (answer_to schema side f l).number (length (joined ((side ∷ f) ∷ es)))
  unfolding lines_of
  lines-stop entry side f es l e = rw e

  lines-turn : (entry side : ℕ) (f : List ℕ) (es : List (List ℕ)) (l : List Call) → let a = answer_to schema side f l in eqb a.used 0 ≡ false
      → lines_of schema entry ((side ∷ f) ∷ es) l ≡ line_text entry side (header_in (frame_of f)) a ++ lines_of schema (entry + 1) es a.table.slots
  unfolding lines_of
  lines-turn entry side f es l e = rw e

  -- The entries of a record, one after the other, are listed as the list of them.
  pub entries-listed : {s : List ℕ} {es : List (List ℕ)} → Entries s es → (most n : ℕ) (l : List Call) → length s ≤ most → entries_text schema most n s l ≡ lines_of schema n es l
  entries-listed no_more most n l h = end-turn schema most n l ∙ sym (lines_end n l)
  entries-listed (one_more {e = e} {s = rest} {es = es} (made_of {side = side} {h = header} {payload = p} {frame = f} who is) w) zero n l h = absurd (omega arith)
  entries-listed (one_more {e = e} {s = rest} {es = es} (made_of {side = side} {h = header} {payload = p} {frame = f} who is) w) (suc most) n l h =
      let a = answer_to schema side f l in
      let long = answer_to schema side (f ++ rest) l in
      let same : long ≡ a = same_answer side is rest l in
      let all : joined ((side ∷ f) ∷ es) ≡ side ∷ (f ++ rest) = joined_is (one_more (made_of who is) w) in
      let reads : frame_of (f ++ rest) ≡ frame_of f = frame-read rest is ∙ sym (frame-reads is) in
      ⊎_elim
      (λ z.
      stop-turn schema most n side (f ++ rest) l (or_left (eqb long.used 0) _ (ap (λ (r : Received). eqb r.used 0) same ∙ z))
      ∙ ap₂ stopped_text (ap (λ (r : Received). r.number) same) (ap length (sym all))
      ∙ sym (lines-stop n side f es l z))
      (λ z.
      let size : long.used ≡ length f = used-frame schema side (f ++ rest) l (λ u. eqb-false a.used 0 z (sym (ap (λ (r : Received). r.used) same) ∙ u)) ∙ used_all is rest in
      let left : drop long.used (f ++ rest) ≡ rest = drop_at f rest long.used (sym size) in
      line-turn schema most n side (f ++ rest) l (side-goes who long.number long.used (ap (λ (r : Received). eqb r.used 0) same ∙ z))
      ∙ ap (λ (b : List ℕ). line_text n side (header_in (frame_of (f ++ rest))) long ++ entries_text schema most (n + 1) b long.table.slots) left
      ∙ ap₂ (λ (v : FrameRead) (r : Received). line_text n side (header_in v) r ++ entries_text schema most (n + 1) rest r.table.slots) reads same
      ∙ ap (λ (t : List ℕ). line_text n side (header_in (frame_of f)) a ++ t) (entries-listed w most (n + 1) a.table.slots (omega (arith, h, length-append f rest)))
      ∙ sym (lines-turn n side f es l z))
      (cases (eqb a.used 0))
    where
      used_all : {h : Header} {p f : List ℕ} → IsFrame h p f → (rest : List ℕ) → read_used (frame_of (f ++ rest)) ≡ length f
      used_all is rest = ap read_used (frame-read rest is) ∙ (starts rest is).end

  -- The listing of a record of whole entries, by a good schema file: the heading, and then a line for each entry.
  pub listing-whole : {s : List ℕ} {es : List (List ℕ)} → IsGood schema → length schema ≤ 65536 → length s ≤ 65536 → Entries s es → listing schema s ≡ heading ++ lines_of schema 1 es fresh_calls
  unfolding listing entries_text run_of
  listing-whole {s} {es} good small short w =
      rw (or-neither (ltb 65536 (length schema)) (ltb 65536 (length s)) (le-ltb 65536 (length schema) small) (le-ltb 65536 (length s) short), good)
      (ap (λ (t : List ℕ). heading ++ t) (entries-listed w (length s) 1 fresh_calls (omega arith)))

  -- The listing of a salvaged copy, by a good schema file, prints the kept entries in order.
  pub copy-listed : (torn copy spans : List ℕ) {n b m : ℕ} {copied listed : List ℕ} → IsGood schema → length schema ≤ 65536
      → salvage_of torn copy spans ≡ outcome (Salvaged n b m) copied listed
      → listing schema (take b copied) ≡ heading ++ lines_of schema 1 (entries_in (pieces_of torn)) fresh_calls
  copy-listed torn copy spans {n} {b} {m} {copied} {listed} good small e =
      let a = (salvaged_iff torn copy spans n b m copied listed).0 e in
      let kept : take b copied ≡ copy_of a.pieces = ap (take b) a.copied_is ∙ take_at (copy_of a.pieces) (drop b copy) b a.bytes in
      ap (listing schema) kept
      ∙ listing-whole good small (omega (arith, copy-shorter a.cover, a.small)) (copy-entries a.cover)
      ∙ ap (λ (es : List (List ℕ)). heading ++ lines_of schema 1 es fresh_calls) (ap entries_in (sym (one-cover a.cover)))

  -- ---- where a listing of whole entries stops

  -- an answer to a whole frame that uses no bytes has 30, where no call is at the element limit
  unused-rows : (side : ℕ) {h : Header} {p f : List ℕ} → IsFrame h p f → (l : List Call) → IsGood schema → good_table (table_of schema) l ≡ true → FewIn 65534 l
      → eqb (answer_to schema side f l).used 0 ≡ true → (answer_to schema side f l).number ≡ 30
  unfolding answer_to
  unused-rows side {h} {p} {f} is l good held few z =
      ⊎_elim
      (λ u. absurd (omega (arith, u, eqb-true (answer_to schema side f l).used 0 z, frame-least is)))
      (λ r. r)
      (used-or-rows schema side f sheet l good held few (frame-reads is))

  held_after : (side : ℕ) (f : List ℕ) (l : List Call) → good_table (table_of schema) l ≡ true → good_table (table_of schema) (answer_to schema side f l).table.slots ≡ true
  unfolding answer_to
  held_after side f l held = stays-good schema side f sheet l held

  few-after : (side : ℕ) (f : List ℕ) (l : List Call) (most : ℕ) → FewIn most l → FewIn (suc most) (answer_to schema side f l).table.slots
  unfolding answer_to
  few-after side f l most few = few-more schema side f sheet l most few

  -- Whole entries by good tables are listed one line each, and the listing stops early only at 30. There are too few of them for the element limit.
  pub entries-lines : {s : List ℕ} {es : List (List ℕ)} → Entries s es → (n most : ℕ) (l : List Call) → IsGood schema → good_table (table_of schema) l ≡ true
      → FewIn most l → most + length es ≤ 65535 → Lines schema n es l (lines_of schema n es l)
  entries-lines no_more n most l good held few small = subst (Lines schema n [] l) (sym (lines_end n l)) no-entry
  entries-lines (one_more {e = e} {s = rest} {es = es} (made_of {side = side} {h = header} {payload = p} {frame = f} who is) w) n most l good held few small =
      let a = answer_to schema side f l in
      ⊎_elim
      (λ z.
      let rows = unused-rows side is l good held (few-wide most 65534 l (omega (arith, small)) few) z in
      let text = lines-stop n side f es l z ∙ ap (λ (k : ℕ). stopped_text k (length (joined ((side ∷ f) ∷ es)))) rows in
      subst (Lines schema n ((side ∷ f) ∷ es) l) (sym text) (too_few-rows rows))
      (λ z.
      subst (Lines schema n ((side ∷ f) ∷ es) l) (sym (lines-turn n side f es l z))
      (one_line (entries-lines w (n + 1) (suc most) a.table.slots good (held_after side f l held) (few-after side f l most few) (omega (arith, small)))))
      (cases (eqb a.used 0))

  -- So is a salvaged copy of a record of at most 65,536 bytes.
  pub kept-lines : (torn : List ℕ) → IsGood schema → length torn ≤ 65536
      → Lines schema 1 (entries_in (pieces_of torn)) fresh_calls (lines_of schema 1 (entries_in (pieces_of torn)) fresh_calls)
  unfolding fresh_calls
  kept-lines torn good small =
      let w = copy-entries (covered torn) in
      entries-lines w 1 0 fresh_calls good (fresh-good (table_of schema)) few-fresh (omega (arith, few-entries w, copy-shorter (covered torn), small))
