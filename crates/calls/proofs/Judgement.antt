-- What a judgement tells: a frame that opens a call, a frame that goes to an open one, and a release.
use Rattle.std.specs.Prelude.{None, Option, Some}
use mathlib.Core.Path.{◌≡◌, refl, sym, ◌∙◌, ap, subst}
use mathlib.Core.Bool.{Bool, true, false, cond}
use mathlib.Core.List.{List}
use Prim.Native.Nat.{ℕ}
use lib.Dec.{eqb}
use borrow.Author.Tests.{eqb-true, eqb-false, eq-eqb, ne_eqb}
use Rattle.wire.proofs.Cases.{differ, chosen, passed_over}
use Rattle.schema.specs.declared.Method.{Method}
use Rattle.schema.specs.Table.{Table}
use Rattle.schema.specs.Check.{method_row, find_method, is_missing}
use Rattle.calls.specs.declared.Call.{Call}
use Rattle.calls.specs.declared.Frame.{Frame}
use Rattle.calls.specs.declared.Payload.{Payload}
use Rattle.calls.specs.declared.Payload.TheVariants.{Unread}
use Rattle.calls.specs.Judged.{Opens, Goes}
use Rattle.calls.specs.Forms.{row_of_form}
use Rattle.calls.specs.Record.{is_call, is_free, empty_call, opened_call, allowed, not_allowed, at_limit, after_frame}
use Rattle.calls.specs.Slots.{slot, first_slot, slot_of, record_at, own_of, full, form_row}
use Rattle.calls.specs.Judge.{right_side, payload_of, names_method, Verdict, stop, opens, goes, open_verdict, invoke_verdict, call_verdict, other_verdict, verdict_of, release_verdict, placed, slot_for, judge_of, judge_release}

-- ---- the slot
module _ (s : ℕ) where
  placed-opens : (v : Verdict) (j : ℕ) (c : Call) (d : Payload) → placed s v ≡ Opens j c d → (s ≡ j) × (v ≡ opens c d)
  placed-opens (stop n) j c d e = differ cc
  placed-opens (opens x p) j c d e = let a : s ≡ j = cc in let b : x ≡ c = cc in let q : p ≡ d = cc in (a, λ i. opens (b i) (q i))
  placed-opens (goes x p) j c d e = differ cc

  placed-goes : (v : Verdict) (i : ℕ) (c : Call) (d : Payload) → placed s v ≡ Goes i c d → (s ≡ i) × (v ≡ goes c d)
  placed-goes (stop n) i c d e = differ cc
  placed-goes (opens x p) i c d e = differ cc
  placed-goes (goes x p) i c d e = let a : s ≡ i = cc in let b : x ≡ c = cc in let q : p ≡ d = cc in (a, λ k. goes (b k) (q k))

module _ (l : List Call) where
  -- no record of its own: no slot
  pub own-none : (id : ℕ) → own_of id l ≡ None → first_slot (is_call id) 0 l ≡ None
  unfolding own_of
  own-none id = go (first_slot (is_call id) 0 l)
    where
      go : (f : Option ℕ) → record_at l f ≡ None → f ≡ None
      go None e = refl
      go (Some i) e = differ cc

  -- a record of its own stands in a slot
  pub own-one : (id i : ℕ) (c : Call) → own_of id l ≡ Some c → slot_of (first_slot (is_call id) 0 l) ≡ i → (first_slot (is_call id) 0 l ≡ Some i) × (c ≡ slot l i)
  unfolding own_of
  own-one id i c = go (first_slot (is_call id) 0 l)
    where
      go : (f : Option ℕ) → record_at l f ≡ Some c → slot_of f ≡ i → (f ≡ Some i) × (c ≡ slot l i)
      go None e s = differ cc
      go (Some k) e s = let same : slot l k ≡ c = cc in (ap Some s, sym same ∙ ap (slot l) s)

  -- the record of the call that is found
  pub own_at : (id i : ℕ) → first_slot (is_call id) 0 l ≡ Some i → own_of id l ≡ Some (slot l i)
  unfolding own_of
  own_at id i e = rw e

  not_full : (j : ℕ) → full l ≡ false → slot_of (first_slot is_free 0 l) ≡ j → first_slot is_free 0 l ≡ Some j
  unfolding full
  not_full j = go (first_slot is_free 0 l)
    where
      go : (f : Option ℕ) → is_missing f ≡ false → slot_of f ≡ j → f ≡ Some j
      go None e s = differ cc
      go (Some k) e s = ap Some s

-- ---- the judgement without a slot
module _ (T : Table) (f : Frame) where
  abbrev id : ℕ
  id = f.correlation

  abbrev found_method : Option ℕ
  found_method = find_method T f.«package» f.service f.method

  abbrev right : Bool
  right = right_side f.side f.kind

  -- INVOKE
  open_opens : (new c : Call) (p d : Payload) (own : Option Call) (b : Bool) → open_verdict new p own b ≡ opens c d → (new ≡ c) × (own ≡ None) × (b ≡ false)
  open_opens new c p d (Some x) b e = differ cc
  open_opens new c p d None true e = differ cc
  open_opens new c p d None false e = let q : new ≡ c = cc in (q, refl, refl)

  open_never : (new c : Call) (p d : Payload) (own : Option Call) (b : Bool) → open_verdict new p own b ≡ goes c d → ⊥
  open_never new c p d (Some x) b e = differ cc
  open_never new c p d None true e = differ cc
  open_never new c p d None false e = differ cc

  -- of the method that its identifiers name; the identifier is not open, and there is room
  pub record Invoked (own : Option Call) (b : Bool) (c : Call) : Type 0 where
    pub method : ℕ
    pub is_method : found_method ≡ Some method
    pub is_invoke : f.kind ≡ 1
    pub is_new : c ≡ opened_call method id
    pub not_open : own ≡ None
    pub not_full_lem : b ≡ false

  invoke-opens : (g : Option ℕ) (own : Option Call) (b : Bool) (c : Call) (d : Payload) → found_method ≡ g → f.kind ≡ 1 → invoke_verdict T id g own b ≡ opens c d → Invoked own b c
  invoke-opens None own b c d m k e = differ cc
  invoke-opens (Some n) own b c d m k e =
      let r = open_opens (opened_call n id) c (payload_of (method_row T n) 1) d own b e in
      record { method = n; is_method = m; is_invoke = k; is_new = sym r.0; not_open = r.1; not_full_lem = r.2 }

  invoke-never : (g : Option ℕ) (own : Option Call) (b : Bool) (c : Call) (d : Payload) → invoke_verdict T id g own b ≡ goes c d → ⊥
  invoke-never None own b c d e = differ cc
  invoke-never (Some n) own b c d e = open_never (opened_call n id) c (payload_of (method_row T n) 1) d own b e

  -- the others
  module _ (m : Method) (x : Call) where
    abbrev next : Verdict
    next = goes (after_frame (row_of_form m.form) f.kind x) (payload_of m f.kind)

    -- below the element limit
    abbrev few : Verdict
    few = cond (at_limit f.kind x) (stop 17) next

    abbrev late : Verdict
    late = stop (not_allowed f.kind x)

    abbrev may : Bool
    may = allowed (row_of_form m.form) f.kind x

    call-goes : (c : Call) (d : Payload) → call_verdict m f x ≡ goes c d → (may ≡ true) × (at_limit f.kind x ≡ false) × (c ≡ after_frame (row_of_form m.form) f.kind x)
    call-goes c d e =
        let r = chosen may few late (λ q. differ cc) (chosen (names_method f m) (cond may few late) (stop 12) (λ q. differ cc) e).1 in
        let w = passed_over (at_limit f.kind x) (stop 17) next (λ q. differ cc) r.1 in
        let q : next ≡ goes c d = w.1 in
        (r.0, w.0, cc)

    call-never : (c : Call) (d : Payload) → call_verdict m f x ≡ opens c d → ⊥
    call-never c d e =
        let r = chosen may few late (λ q. differ cc) (chosen (names_method f m) (cond may few late) (stop 12) (λ q. differ cc) e).1 in
        let q : next ≡ opens c d = (passed_over (at_limit f.kind x) (stop 17) next (λ q. differ cc) r.1).1 in
        differ cc

  -- to the open call x, where it is allowed; its record then is c
  pub record Reached (own : Option Call) (c : Call) : Type 0 where
    pub call : Call
    pub is_other : f.kind ≡ 1 → ⊥
    pub is_open_lem : own ≡ Some call
    pub is_allowed : allowed (form_row T call) f.kind call ≡ true
    pub is_below : at_limit f.kind call ≡ false
    pub is_next : c ≡ after_frame (form_row T call) f.kind call

  other_goes : (own : Option Call) (c : Call) (d : Payload) → (f.kind ≡ 1 → ⊥) → other_verdict T f own ≡ goes c d → Reached own c
  other_goes None c d n e = differ cc
  other_goes (Some x) c d n e =
      let r = call-goes (method_row T x.method) x c d e in
      record { call = x; is_other = n; is_open_lem = refl; is_allowed = r.0; is_below = r.1; is_next = r.2 }

  other-never : (own : Option Call) (c : Call) (d : Payload) → other_verdict T f own ≡ opens c d → ⊥
  other-never None c d e = differ cc
  other-never (Some x) c d e = call-never (method_row T x.method) x c d e

  -- every frame
  module _ (own : Option Call) (b : Bool) (c : Call) (d : Payload) where
    abbrev invoke : Verdict
    invoke = invoke_verdict T id found_method own b

    abbrev other : Verdict
    other = other_verdict T f own

    pub verdict-opens : verdict_of T f own b ≡ opens c d → Invoked own b c
    unfolding verdict_of
    verdict-opens e =
        let r = chosen right (cond (eqb f.kind 1) invoke other) (stop 8) (λ q. differ cc) e in
        let s = chosen (eqb f.kind 1) invoke other (other-never own c d) r.1 in
        invoke-opens found_method own b c d refl (eqb-true f.kind 1 s.0) s.1

    pub verdict-goes : verdict_of T f own b ≡ goes c d → Reached own c
    unfolding verdict_of
    verdict-goes e =
        let r = chosen right (cond (eqb f.kind 1) invoke other) (stop 8) (λ q. differ cc) e in
        let s = passed_over (eqb f.kind 1) invoke other (invoke-never found_method own b c d) r.1 in
        other_goes own c d (eqb-false f.kind 1 s.0) s.1

-- ---- a frame
module _ (T : Table) (f : Frame) (l : List Call) where
  -- the frame opens a call at slot j, of the method that its identifiers name; the identifier is not open, and j is the lowest free slot
  pub record Opening (j : ℕ) (c : Call) : Type 0 where
    pub method : ℕ
    pub is_method : find_method T f.«package» f.service f.method ≡ Some method
    pub is_invoke : f.kind ≡ 1
    pub is_new : c ≡ opened_call method f.correlation
    pub not_open : first_slot (is_call f.correlation) 0 l ≡ None
    pub lowest : first_slot is_free 0 l ≡ Some j

  -- the frame goes to the open call at slot i, where it is allowed; its record then is c
  pub record Going (i : ℕ) (c : Call) : Type 0 where
    pub is_other : f.kind ≡ 1 → ⊥
    pub is_own : first_slot (is_call f.correlation) 0 l ≡ Some i
    pub is_allowed : allowed (form_row T (slot l i)) f.kind (slot l i) ≡ true
    pub is_below : at_limit f.kind (slot l i) ≡ false
    pub is_next : c ≡ after_frame (form_row T (slot l i)) f.kind (slot l i)

  abbrev v : Verdict
  v = verdict_of T f (own_of f.correlation l) (full l)

  pub judged-opens : (j : ℕ) (c : Call) (d : Payload) → judge_of T f l ≡ Opens j c d → Opening j c
  unfolding judge_of
  judged-opens j c d e =
      let p = placed-opens (slot_for f l) v j c d e in
      let w = verdict-opens T f (own_of f.correlation l) (full l) c d p.1 in
      let s : slot_of (first_slot is_free 0 l) ≡ j = rw (eq-eqb f.kind 1 w.is_invoke) at p.0 in
      record {
        method = w.method;
        is_method = w.is_method;
        is_invoke = w.is_invoke;
        is_new = w.is_new;
        not_open = own-none l f.correlation w.not_open;
        lowest = not_full l j w.not_full_lem s;
      }

  pub judged-goes : (i : ℕ) (c : Call) (d : Payload) → judge_of T f l ≡ Goes i c d → Going i c
  unfolding judge_of
  judged-goes i c d e =
      let p = placed-goes (slot_for f l) v i c d e in
      let w = verdict-goes T f (own_of f.correlation l) (full l) c d p.1 in
      let s : slot_of (first_slot (is_call f.correlation) 0 l) ≡ i = rw (ne_eqb f.kind 1 w.is_other) at p.0 in
      let o = own-one l f.correlation i w.call w.is_open_lem s in
      record {
        is_other = w.is_other;
        is_own = o.0;
        is_allowed = subst (λ (x : Call). allowed (form_row T x) f.kind x ≡ true) o.1 w.is_allowed;
        is_below = subst (λ (x : Call). at_limit f.kind x ≡ false) o.1 w.is_below;
        is_next = w.is_next ∙ ap (λ (x : Call). after_frame (form_row T x) f.kind x) o.1;
      }

-- ---- a release
module _ (id : ℕ) (l : List Call) where
  -- the cancelled call at slot i is ended
  pub record Releasing (i : ℕ) (c : Call) : Type 0 where
    pub is_own : first_slot (is_call id) 0 l ≡ Some i
    pub is_cancelled : (slot l i).cancelled ≡ true
    pub is_next : c ≡ empty_call

  release-goes : (own : Option Call) (c : Call) (d : Payload) → release_verdict own ≡ goes c d → (x : Call) × (own ≡ Some x) × (x.cancelled ≡ true) × (c ≡ empty_call)
  release-goes None c d e = differ cc
  release-goes (Some x) c d e =
      let r = chosen x.cancelled (goes empty_call Unread) (stop 14) (λ q. differ cc) e in
      let q : goes empty_call Unread ≡ goes c d = r.1 in
      (x, refl, r.0, cc)

  release-never : (own : Option Call) (c : Call) (d : Payload) → release_verdict own ≡ opens c d → ⊥
  release-never None c d e = differ cc
  release-never (Some x) c d e =
      let q : goes empty_call Unread ≡ opens c d = (chosen x.cancelled (goes empty_call Unread) (stop 14) (λ q. differ cc) e).1 in differ cc

  pub released-goes : (i : ℕ) (c : Call) (d : Payload) → judge_release id l ≡ Goes i c d → Releasing i c
  unfolding judge_release
  released-goes i c d e =
      let p = placed-goes (slot_of (first_slot (is_call id) 0 l)) (release_verdict (own_of id l)) i c d e in
      let w = release-goes (own_of id l) c d p.1 in
      let o = own-one l id i w.0 w.1 p.0 in
      record { is_own = o.0; is_cancelled = subst (λ (x : Call). x.cancelled ≡ true) o.1 w.2; is_next = w.3 }

  pub released-never : (j : ℕ) (c : Call) (d : Payload) → judge_release id l ≡ Opens j c d → ⊥
  unfolding judge_release
  released-never j c d e =
      release-never (own_of id l) c d (placed-opens (slot_of (first_slot (is_call id) 0 l)) (release_verdict (own_of id l)) j c d e).1
