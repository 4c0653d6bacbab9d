-- Laws of the entry: what each of its returns shows of the whole writing.
use mathlib.Core.Path.{◌≡◌, refl, sym, ap, ◌∙◌}
use mathlib.Core.Bool.{true, false}
use mathlib.Core.List.{List, [], ◌∷◌, ◌++◌, append_assoc}
use Prim.Native.Nat.{ℕ, ◌+◌, ◌-◌, ◌/◌, ◌≤◌, ◌<◌}
use native.Mathlib.Decide.{ℕ_discrete}
use native.Mathlib.Omega.{arith}
use borrow.Author.Tests.{eq-eqb, ne_eqb, le-leb, lt-leb}
use borrow.Rule.Slice.PartMut.{put_mid, Post-is, mid_len}
use lib.Dec.{leb}
use lib.ListN.{length, take, drop}
use Rattle.buffer.specs.Store as store
use Rattle.wire.specs.Varuint.{varuint_bytes}
use Rattle.wire.proofs.Cases.{differ}
use Rattle.schema.specs.Checked.{Good, Refused as Faulty}
use Rattle.schema.specs.Check.{checked}
use Rattle.frame.specs.declared.Header.{Header}
use Rattle.frame.specs.Frame.{known_kind}
use Rattle.frame.specs.Written.{front_bytes, frame_bytes, output_of}
use Rattle.frame.proofs.Writes.{length_front, length-frame, frame-wrote}
use Rattle.value.specs.declared.Row.{Row}
use Rattle.value.specs.Sheet.{rows_of}
use Rattle.value.specs.Write.{Writing, refusal, written}
use Rattle.value.proofs.Sheets.{length-rows}
use Rattle.writer.specs.Writing.{Written, Refused}
use Rattle.writer.specs.Entry.{Outcome, outcome, outcome_of, payload_by, length_of, within_room}
use Rattle.writer.proofs.Entries.{length-refused, length-written, written-length, payload-small}
use Rattle.valueframe.specs.Entry.{empty_by, payload_for, framed, frame_in, value_frame, frame_outcome}

-- ---- the payload

pub empty-none : (cells : List ℕ) → length cells < 4 → empty_by (rows_of cells) ≡ written []
empty-none cells l = go (rows_of cells) (length-rows cells)
  where
    go : (rs : List Row) → length rs ≡ length cells / 4 → empty_by rs ≡ written []
    go [] e = refl
    go (r ∷ rs) e = absurd (omega arith)

pub empty-surplus : (cells : List ℕ) → 4 ≤ length cells → empty_by (rows_of cells) ≡ refusal 50 0
empty-surplus cells l = go (rows_of cells) (length-rows cells)
  where
    go : (rs : List Row) → length rs ≡ length cells / 4 → empty_by rs ≡ refusal 50 0
    go [] e = absurd (omega arith)
    go (r ∷ rs) e = refl

module _ (s : List ℕ) (ty : ℕ) (cells B : List ℕ) where
  pub payload-value : (ty ≡ 4294967295 → ⊥) → payload_for s ty cells B ≡ payload_by s ty cells B
  unfolding payload_for
  payload-value h = rw (ne_eqb ty 4294967295 h)

  module _ (none : ty ≡ 4294967295) where
    payload-none : payload_for s ty cells B ≡ empty_by (rows_of cells)
    unfolding payload_for
    payload-none = rw (eq-eqb ty 4294967295 none)

    pub payload-empty : length cells < 4 → payload_for s ty cells B ≡ written []
    payload-empty l = payload-none ∙ empty-none cells l

    pub payload-surplus : 4 ≤ length cells → payload_for s ty cells B ≡ refusal 50 0
    payload-surplus l = payload-none ∙ empty-surplus cells l

-- within the limit
pub value-limit : (s : List ℕ) (ty : ℕ) (cells B : List ℕ) {n : ℕ} → length_of (payload_by s ty cells B) ≡ Written n → n ≤ 16384
value-limit s ty cells B e =
    let (p, is, size) = length-written (payload_by s ty cells B) e in
    omega (arith, size, payload-small s ty cells B p is)

pub payload-limit : (s : List ℕ) (ty : ℕ) (cells B : List ℕ) {n : ℕ} → length_of (payload_for s ty cells B) ≡ Written n → n ≤ 16384
payload-limit s ty cells B {n} e = elim (ℕ_discrete ty 4294967295) [
  | yes none ↦ go (rows_of cells) (ap length_of (sym (payload-none s ty cells B none)) ∙ e)
  | no some ↦ value-limit s ty cells B (ap length_of (sym (payload-value s ty cells B some)) ∙ e)
]
  where
    go : (rs : List Row) → length_of (empty_by rs) ≡ Written n → n ≤ 16384
    go [] e = let z : 0 ≡ n = cc in omega arith
    go (r ∷ rs) e = differ cc

-- ---- the frame of a payload

module _ (h : Header) (out : List ℕ) (w : Writing) where
  pub in_refused : (n q : ℕ) → length_of w ≡ Refused n q → outcome (Refused n q) out ≡ frame_in h out w
  in_refused n q e = sym (ap (frame_in h out) (length-refused w e))

  module _ (n place : ℕ) (e : length_of w ≡ Written n) (at : place ≡ 25 + length (varuint_bytes n)) where
    frame-size : (p : List ℕ) → length p ≡ n → length (frame_bytes h p) ≡ place + n
    frame-size p size = length-frame h p ∙ rw (size, at)

    pub in_room : length out < place + n → outcome (Refused 52 0) out ≡ frame_in h out w
    in_room l =
        let (p, is, size) = length-written w e in
        let long = frame-size p size in
        let a : leb (length (frame_bytes h p)) (length out) ≡ false = lt-leb (length (frame_bytes h p)) (length out) (omega arith) in
        rw (is, a)

    pub in_written : place + n ≤ length out → (p : List ℕ) → w ≡ written p → (out' : List ℕ) → out' ≡ frame_bytes h p ++ drop (place + n) out
        → outcome (Written (place + n)) out' ≡ frame_in h out w
    in_written l p is out' after =
        let long = frame-size p (written-length is e) in
        let a : leb (length (frame_bytes h p)) (length out) ≡ true = le-leb (length (frame_bytes h p)) (length out) (omega arith) in
        rw (is, a, long, after)

module _ (h : Header) (out p : List ℕ) (place : ℕ) (at : place ≡ 25 + length (varuint_bytes (length p))) where
  abbrev Framed : List ℕ → Type 0
  Framed out' = out' ≡ frame_bytes h p ++ drop (place + length p) out

  -- the front, put before a payload that stands in its place
  pub before-payload : (mid out' : List ℕ) → out' ≡ store.written mid 0 (front_bytes h (length p)) → drop place mid ≡ p ++ drop (place + length p) out → Framed out'
  unfolding frame_bytes
  before-payload mid out' front there =
      let long = length_front h (length p) in
      let front-size : 0 + length (front_bytes h (length p)) ≡ place = omega (arith, long, at) in
      front ∙ ap (λ (k : ℕ). front_bytes h (length p) ++ drop k mid) front-size
      ∙ ap (λ (x : List ℕ). front_bytes h (length p) ++ x) there
      ∙ sym (append_assoc (front_bytes h (length p)) p (drop (place + length p) out))

  -- the front, and then the payload put behind it
  pub behind-front : place + length p ≤ length out → (mid : List ℕ) → mid ≡ store.written out 0 (front_bytes h (length p)) → Framed (put_mid place ((place + length p) - place) mid p)
  unfolding output_of
  behind-front room mid front =
      let room' : 25 + length (varuint_bytes (length p)) + length p ≤ length out = rw (← at) room in
      ap (λ (rest : List ℕ). take place mid ++ (p ++ rest)) (Post-is place (place + length p) mid (omega arith)) ∙ rw at (frame-wrote out h p room' front refl)

-- the part behind the front has room for the payload
pub part_length : (place n room : ℕ) (mid : List ℕ) → length mid ≡ room → place + n ≤ room → n ≡ length (take ((place + n) - place) (drop place mid))
part_length place n room mid same l = let e = mid_len place (place + n) mid (omega arith) in omega arith

-- the frame without a payload
pub in_empty : (h : Header) (out cells : List ℕ) (place : ℕ) → length cells < 4 → place ≡ 25 + length (varuint_bytes 0) → place ≤ length out
    → (out' : List ℕ) → out' ≡ store.written out 0 (front_bytes h 0) → outcome (Written place) out' ≡ frame_in h out (empty_by (rows_of cells))
in_empty h out cells place l at room out' front =
    let z : place + 0 ≡ place = omega arith in
    let none = empty-none cells l in
    let framed = before-payload h out [] place at out out' front (ap (λ (k : ℕ). drop k out) (sym z)) in
    ap (λ (k : ℕ). outcome (Written k) out') (sym z) ∙ in_written h out (empty_by (rows_of cells)) 0 place (ap length_of none) at (omega arith) [] none out' framed

-- ---- the whole writing by a good table

module _ (h : Header) (s : List ℕ) (ty : ℕ) (cells B out : List ℕ) where
  abbrev whole : Writing
  whole = value_frame h s ty cells B (length out)

  pub frame-kind : known_kind h.kind ≡ false → outcome (Refused 4 0) out ≡ outcome_of out whole
  unfolding value_frame
  frame-kind k = rw k

  module _ (known : known_kind h.kind ≡ true) where
    pub frame-by : {w : Writing} → payload_for s ty cells B ≡ w → value_frame h s ty cells B (length out) ≡ within_room (length out) (framed h w)
    unfolding value_frame
    frame-by e = rw (known, e)

    pub frame-value : (ty ≡ 4294967295 → ⊥) → (x : Outcome) → x ≡ frame_in h out (payload_by s ty cells B) → x ≡ outcome_of out whole
    frame-value some x e = e ∙ ap (outcome_of out) (sym (frame-by (payload-value s ty cells B some)))

    pub frame-empty : ty ≡ 4294967295 → (x : Outcome) → x ≡ frame_in h out (empty_by (rows_of cells)) → x ≡ outcome_of out whole
    frame-empty none x e = e ∙ ap (outcome_of out) (sym (frame-by (payload-none s ty cells B none)))

-- ---- any table

module _ (h : Header) (s : List ℕ) (ty : ℕ) (cells B out : List ℕ) where
  pub file-refused : (n q : ℕ) → checked s ≡ Faulty n q → outcome (Refused n q) out ≡ frame_outcome h s ty cells B out
  unfolding frame_outcome
  file-refused n q e = rw e

  pub file-good : (x : Outcome) → checked s ≡ Good → x ≡ outcome_of out (value_frame h s ty cells B (length out)) → x ≡ frame_outcome h s ty cells B out
  unfolding frame_outcome
  file-good x e f = rw e f
