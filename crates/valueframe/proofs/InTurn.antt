-- The one write is the value writer and then the frame writer: it accepts exactly where the two do with room enough between them, and gives their bytes.
use mathlib.Core.Path.{◌≡◌, refl, sym, ap, subst, ◌∙◌}
use mathlib.Core.Logic.{◌↔◌, ⊎_elim}
use mathlib.Core.Bool.{Bool, true, false, cond}
use mathlib.Core.List.{List, ◌++◌}
use Prim.Native.Nat.{ℕ, ◌≤◌, ◌<◌}
use native.Mathlib.Decide.{ℕ_discrete, dec_lt}
use native.Mathlib.Omega.{arith}
use borrow.Author.Tests.{leb-true, leb-false, le-leb, lt-leb}
use lib.Dec.{leb}
use lib.ListN.{length, drop}
use lib.Seq.{take-append_seam}
use Rattle.wire.proofs.Cases.{differ}
use Rattle.schema.specs.Checked.{Refused as Faulty}
use Rattle.schema.specs.Table.{row_at}
use Rattle.schema.specs.File.{table_of}
use Rattle.schema.specs.Check.{checked, IsGood}
use Rattle.schema.proofs.Faults.{refused-iff as schema-refused}
use Rattle.schema.proofs.Goods.{good-table, kind-within}
use Rattle.frame.specs.declared.Header.{Header}
use Rattle.frame.specs.Frame.{known_kind}
use Rattle.frame.specs.Written.{frame_bytes, output_of}
use Rattle.frame.specs.Written as frame
use Rattle.frame.proofs.Tests.{known-bounds, bounds-known}
use Rattle.frame.proofs.ReadBack.{written-iff, refused-iff}
use Rattle.value.specs.Sheet.{rows_of}
use Rattle.value.specs.Write.{Writing, refusal, written, write}
use Rattle.value.proofs.Writing.{not_written}
use Rattle.writer.specs.Writing.{Written, Refused}
use Rattle.writer.specs.Entry.{outcome, outcome_of, payload_by, length_of, within_room}
use Rattle.writer.proofs.Entries.{room-last, payload-small, payload-other}
use Rattle.writer.proofs.Outcomes.{taken-apart, refused-apart, write-by, refused-from, written-good, written_is}
use Rattle.valueframe.specs.Entry.{payload_for, framed, value_frame, frame_outcome}
use Rattle.valueframe.specs.Claims.{Payload, value, none, InTurn, Unwritten, table, kind, surplus, full}
use Rattle.valueframe.proofs.Entries.{payload-value, payload-empty, payload-surplus, payload-limit, frame-kind, frame-by, file-refused, file-good}

-- ---- the room

within-fits : (room : ℕ) (p : List ℕ) → length p ≤ room → within_room room (written p) ≡ written p
within-fits room p l = rw (le-leb (length p) room l)

within-written : (room : ℕ) (w : Writing) (p : List ℕ) → within_room room w ≡ written p → (w ≡ written p) × (length p ≤ room)
within-written room (refusal n q) p e = differ cc
within-written room (written bs) p e = go (leb (length bs) room) refl e
  where
    go : (b : Bool) → leb (length bs) room ≡ b → cond b (written bs) (refusal 52 0) ≡ written p → (written bs ≡ written p) × (length p ≤ room)
    go true l e = let same : bs ≡ p = cc in (e, subst (λ (x : List ℕ). length x ≤ room) same (leb-true (length bs) room l))
    go false l e = differ cc

within-refused : (room : ℕ) (p : List ℕ) {n q : ℕ} → within_room room (written p) ≡ refusal n q → (room < length p) × (refusal 52 0 ≡ refusal n q)
within-refused room p {n} {q} e = go (leb (length p) room) refl e
  where
    go : (b : Bool) → leb (length p) room ≡ b → cond b (written p) (refusal 52 0) ≡ refusal n q → (room < length p) × (refusal 52 0 ≡ refusal n q)
    go true l e = differ cc
    go false l e = (leb-false (length p) room l, e)

within-full : (room : ℕ) (p : List ℕ) → room < length p → within_room room (written p) ≡ refusal 52 0
within-full room p l = rw (lt-leb (length p) room l)

module _ (s : List ℕ) (ty : ℕ) (cells B mid : List ℕ) where
  -- with room for every payload the value writer answers the payload, or its refusal
  enough : 16384 ≤ length mid → write (table_of s) ty (rows_of cells) B (length mid) ≡ payload_by s ty cells B
  enough room = room-last s ty cells B (length mid) ∙ go (payload_by s ty cells B) refl
    where
      go : (w : Writing) → payload_by s ty cells B ≡ w → within_room (length mid) w ≡ w
      go (refusal n q) e = refl
      go (written p) e = within-fits (length mid) p (omega (arith, payload-small s ty cells B p e))

  -- no table has the type number 4294967295: the value writer answers 46
  pub no-type : IsGood s → ty ≡ 4294967295 → payload_by s ty cells B ≡ refusal 46 0
  no-type good e =
      payload-other s good ty cells B (row_at (table_of s) ty) refl
      (λ k. let there = kind-within (table_of s) ty (λ z. omega arith) in omega (arith, there, (good-table s good).few_types))

  -- ---- the payload

  pub payload-good : (p : List ℕ) → Payload s ty cells B mid p → IsGood s
  payload-good _ (value n mid' e) = written-good s ty cells B mid n mid' e
  payload-good _ (none good t l) = good

  payload-is : (p : List ℕ) → Payload s ty cells B mid p → payload_for s ty cells B ≡ written p
  payload-is _ (none good t l) = payload-empty s ty cells B t l
  payload-is _ (value n mid' e) =
      let (bs, w, _, front, _) = written_is s ty cells B mid n mid' e in
      let by : payload_by s ty cells B ≡ written bs = (within-written (length mid) (payload_by s ty cells B) bs (sym (room-last s ty cells B (length mid)) ∙ w)).0 in
      let good = written-good s ty cells B mid n mid' e in
      payload-value s ty cells B (λ t. not_written (sym (no-type good t) ∙ by)) ∙ by ∙ ap written (sym front)

  payload-of : IsGood s → 16384 ≤ length mid → (p : List ℕ) → payload_for s ty cells B ≡ written p → Payload s ty cells B mid p
  payload-of good room p e = elim (ℕ_discrete ty 4294967295) [
    | yes t ↦ elim (dec_lt (length cells) 4) [
      | yes l ↦ subst (Payload s ty cells B mid) (same (sym (payload-empty s ty cells B t l) ∙ e)) (none good t l)
      | no l ↦ not_written (sym (payload-surplus s ty cells B t (omega arith)) ∙ e)
    ]
    | no some ↦
        let by : payload_by s ty cells B ≡ written p = sym (payload-value s ty cells B some) ∙ e in
        let w = write-by s ty cells B mid good ∙ ap (outcome_of mid) (enough room ∙ by) in
        subst (Payload s ty cells B mid) (take-append_seam p (drop (length p) mid)) (value (length p) (p ++ drop (length p) mid) w)
  ]
    where
      same : {x y : List ℕ} → written x ≡ written y → x ≡ y
      same e = cc

-- ---- the frame

module _ (h : Header) (s : List ℕ) (ty : ℕ) (cells B out : List ℕ) where
  whole-good : IsGood s → frame_outcome h s ty cells B out ≡ outcome_of out (value_frame h s ty cells B (length out))
  whole-good good = sym (file-good h s ty cells B out (outcome_of out (value_frame h s ty cells B (length out))) good refl)

  -- what a frame holds
  frame-of : (bs : List ℕ) → value_frame h s ty cells B (length out) ≡ written bs
      → (p : List ℕ) × (known_kind h.kind ≡ true) × (payload_for s ty cells B ≡ written p) × (bs ≡ frame_bytes h p) × (length bs ≤ length out)
  unfolding value_frame
  frame-of bs e = go (known_kind h.kind) refl (payload_for s ty cells B) refl e
    where
      go : (b : Bool) → known_kind h.kind ≡ b → (w : Writing) → payload_for s ty cells B ≡ w → cond b (within_room (length out) (framed h w)) (refusal 4 0) ≡ written bs
          → (p : List ℕ) × (known_kind h.kind ≡ true) × (payload_for s ty cells B ≡ written p) × (bs ≡ frame_bytes h p) × (length bs ≤ length out)
      go false k w is e = differ cc
      go true k (refusal n q) is e = differ cc
      go true k (written p) is e =
          let (same, fits) = within-written (length out) (written (frame_bytes h p)) bs e in
          let same' : frame_bytes h p ≡ bs = cc in
          (p, k, is, sym same', fits)

  -- Where the value writer accepts, in any buffer, and then the frame writer, the one write accepts and gives their bytes.
  pub in_turn-written : (mid : List ℕ) (m : ℕ) (out' : List ℕ) → InTurn h s ty cells B mid out m out' → frame_outcome h s ty cells B out ≡ outcome (Written m) out'
  unfolding output_of
  in_turn-written mid m out' t =
      let p = t.payload in
      let good = payload-good s ty cells B mid p t.first in
      let a = (written-iff h p (length out) m).0 t.then in
      let known = bounds-known h.kind a.least a.most in
      let w : value_frame h s ty cells B (length out) ≡ written (frame_bytes h p) =
      frame-by h s ty cells B out known (payload-is s ty cells B mid p t.first) ∙ within-fits (length out) (frame_bytes h p) (omega (arith, a.size, a.fits)) in
      whole-good good ∙ ap (outcome_of out) w ∙ ap (λ (n : ℕ). outcome (Written n) (frame_bytes h p ++ drop n out)) a.size ∙ ap (outcome (Written m)) (sym t.after)

  written_in_turn : (mid : List ℕ) → 16384 ≤ length mid → (m : ℕ) (out' : List ℕ) → frame_outcome h s ty cells B out ≡ outcome (Written m) out' → InTurn h s ty cells B mid out m out'
  unfolding frame_outcome output_of
  written_in_turn mid room m out' e =
      let (bs, good, w, size, _, o) = taken-apart (checked s) (value_frame h s ty cells B (length out)) out m out' e in
      let (p, k, is, same, fits) = frame-of bs w in
      let known = known-bounds h.kind k in
      let a : frame.Accepted h p (length out) m =
      record {
        least = known.0;
        most = known.1;
        small = payload-limit s ty cells B (ap length_of is);
        size = sym (ap length same) ∙ size;
        fits = omega arith;
      } in
      record {
        payload = p;
        first = payload-of s ty cells B mid good room p is;
        then = (written-iff h p (length out) m).1 a;
        after = o ∙ ap (λ (x : List ℕ). x ++ drop m out) same;
      }

  -- It accepts exactly where the two do with room enough between them, and gives their bytes.
  pub written-iff_in_turn : (mid : List ℕ) → 16384 ≤ length mid → (m : ℕ) (out' : List ℕ)
      → (frame_outcome h s ty cells B out ≡ outcome (Written m) out') ↔ InTurn h s ty cells B mid out m out'
  written-iff_in_turn mid room m out' = (written_in_turn mid room m out', in_turn-written mid m out')

  -- ---- the refusals

  module _ (mid : List ℕ) (room : 16384 ≤ length mid) where
    abbrev Because : (n q : ℕ) → Type 0
    Because n q = Unwritten h s ty cells B mid (length out) n q

    moved : {n q m p : ℕ} → Because m p → refusal m p ≡ refusal n q → Because n q
    moved {n} {q} {m} {p} b e =
        let f : m ≡ n = cc in
        let g : p ≡ q = cc in
        subst (Because n) g (subst (λ (x : ℕ). Because x p) f b)

    because : IsGood s → {n q : ℕ} → value_frame h s ty cells B (length out) ≡ refusal n q → Because n q
    unfolding value_frame
    because good {n} {q} e = go (known_kind h.kind) refl (payload_for s ty cells B) refl e
      where
        refused : {n q : ℕ} → known_kind h.kind ≡ true → payload_for s ty cells B ≡ refusal n q → Because n q
        refused {n} {q} k is = elim (ℕ_discrete ty 4294967295) [
          | yes t ↦ elim (dec_lt (length cells) 4) [
            | yes l ↦ not_written (sym is ∙ payload-empty s ty cells B t l)
            | no l ↦ moved (surplus good (known-bounds h.kind k).0 (known-bounds h.kind k).1 t (omega arith)) (sym (payload-surplus s ty cells B t (omega arith)) ∙ is)
          ]
          | no some ↦
              let by = enough s ty cells B mid room ∙ sym (payload-value s ty cells B some) ∙ is in
              value (known-bounds h.kind k).0 (known-bounds h.kind k).1 some n q (write-by s ty cells B mid good ∙ ap (outcome_of mid) by)
        ]

        unknown : known_kind h.kind ≡ false → (1 ≤ h.kind) × (h.kind ≤ 8) → ⊥
        unknown k (low, high) = let bad = sym k ∙ bounds-known h.kind low high in differ cc

        go : (b : Bool) → known_kind h.kind ≡ b → (w : Writing) → payload_for s ty cells B ≡ w → cond b (within_room (length out) (framed h w)) (refusal 4 0) ≡ refusal n q → Because n q
        go false k w is e = moved (kind good (unknown k)) e
        go true k (refusal n' q') is e = moved (refused k is) e
        go true k (written p) is e =
            let (l, same) = within-refused (length out) (frame_bytes h p) e in
            let low = known-bounds h.kind k in
            let small = payload-limit s ty cells B (ap length_of is) in
            moved (full p (payload-of s ty cells B mid good room p is) ((refused-iff h p (length out) 52).1 (frame.full low.0 low.1 small l))) same

    refused-by : IsGood s → {n q : ℕ} → value_frame h s ty cells B (length out) ≡ refusal n q → frame_outcome h s ty cells B out ≡ outcome (Refused n q) out
    refused-by good e = whole-good good ∙ ap (outcome_of out) e

    payload-refused : IsGood s → known_kind h.kind ≡ true → {n q : ℕ} → payload_for s ty cells B ≡ refusal n q → frame_outcome h s ty cells B out ≡ outcome (Refused n q) out
    payload-refused good k is = refused-by good (frame-by h s ty cells B out k is)

    faulty : (n q : ℕ) → checked s ≡ Faulty n q → frame_outcome h s ty cells B out ≡ outcome (Refused n q) out
    faulty n q e = sym (file-refused h s ty cells B out n q e)

    other-kind : IsGood s → ((1 ≤ h.kind) × (h.kind ≤ 8) → ⊥) → frame_outcome h s ty cells B out ≡ outcome (Refused 4 0) out
    other-kind good w = go (known_kind h.kind) refl
      where
        go : (b : Bool) → known_kind h.kind ≡ b → frame_outcome h s ty cells B out ≡ outcome (Refused 4 0) out
        go true k = absurd (w (known-bounds h.kind k))
        go false k = whole-good good ∙ sym (frame-kind h s ty cells B out k)

    too_small : (number : ℕ) (p : List ℕ) → frame.Unwritten h p (length out) number → number ≡ 52 → (known_kind h.kind ≡ true) × (length out < length (frame_bytes h p))
    too_small _ p (frame.kind w) e = absurd (omega arith)
    too_small _ p (frame.long low high l) e = absurd (omega arith)
    too_small _ p (frame.full low high small l) e = (bounds-known h.kind low high, l)

    because-refused : {n q : ℕ} → Because n q → frame_outcome h s ty cells B out ≡ outcome (Refused n q) out
    because-refused (table n q e) = faulty n q ((schema-refused s n q).1 e)
    because-refused (kind good w) = other-kind good w
    because-refused (value low high some n q e) =
        ⊎_elim (faulty n q)
        (λ (good, w). payload-refused good (bounds-known h.kind low high) (payload-value s ty cells B some ∙ sym (enough s ty cells B mid room) ∙ w))
        (refused-from s ty cells B mid n q mid e).1
    because-refused (surplus good low high t l) = payload-refused good (bounds-known h.kind low high) (payload-surplus s ty cells B t l)
    because-refused (full p first e) =
        let (k, l) = too_small 52 p ((refused-iff h p (length out) 52).0 e) refl in
        let good = payload-good s ty cells B mid p first in
        refused-by good (frame-by h s ty cells B out k (payload-is s ty cells B mid p first) ∙ within-full (length out) (frame_bytes h p) l)

    refused-because : {n q : ℕ} {out' : List ℕ} → frame_outcome h s ty cells B out ≡ outcome (Refused n q) out' → Because n q × (out' ≡ out)
    unfolding frame_outcome
    refused-because {n} {q} {out'} e =
        let (same, why) = refused-apart (checked s) (value_frame h s ty cells B (length out)) out n q out' e in
        (⊎_elim (λ bad. table n q ((schema-refused s n q).0 bad)) (λ (good, w). because good w) why, same)

    -- It refuses exactly for these reasons, which stand in no order, and leaves the output as it was.
    pub refused-iff-unwritten : (n q : ℕ) (out' : List ℕ)
        → (frame_outcome h s ty cells B out ≡ outcome (Refused n q) out') ↔ (Unwritten h s ty cells B mid (length out) n q × (out' ≡ out))
    refused-iff-unwritten n q out' = (refused-because, λ (b, same). because-refused b ∙ ap (outcome (Refused n q)) (sym same))
