-- What a judged frame or release raises, by the own record alone; and that the calls of a method open now follow what rises.
use Rattle.std.specs.Prelude.{None, Option, Some}
use mathlib.Core.Path.{◌≡◌, refl, sym, ◌∙◌, ap, subst}
use mathlib.Core.Logic.{◌⊎◌, inl, inr}
use mathlib.Core.Bool.{Bool, true, false, cond, ◌&&◌}
use mathlib.Core.List.{List, [], ◌∷◌}
use Prim.Native.Nat.{ℕ, zero, suc, ◌+◌, ◌<◌}
use native.Mathlib.Omega.{arith}
use lib.ListN.{length, set}
use lib.Dec.{eqb}
use borrow.Author.Tests.{eq-eqb, ne_eqb, not-true}
use Rattle.schema.specs.Table.{Table}
use Rattle.schema.specs.Check.{find_method}
use Rattle.schema.proofs.Bools.{clash, or-false}
use Rattle.schema.proofs.Methods.{found-named}
use Rattle.wire.proofs.Cases.{differ}
use Rattle.calls.specs.declared.Call.{Call}
use Rattle.calls.specs.declared.Frame.{Frame}
use Rattle.calls.specs.declared.Payload.{Payload}
use Rattle.calls.specs.Judged.{Judged}
use Rattle.calls.specs.Judged.{Refused, Opens, Goes}
use Rattle.calls.specs.declared.Tally.{Tally}
use Rattle.calls.specs.declared.Figure.{Figure}
use Rattle.calls.specs.declared.Figure.TheVariants.{Nothing, Opened, Completed, Errored, Cancelled, Failed}
use Rattle.calls.specs.declared.Rise.{Rise}
use Rattle.calls.specs.Numbers.{ends_call}
use Rattle.calls.specs.Record.{counting, empty_call, is_call, is_free, complete, marked, ends}
use Rattle.calls.specs.Slots.{fresh_slots, slot, form_row, own_of, full}
use Rattle.calls.specs.Judge.{Verdict, stop, opens, goes, verdict_of, judge_of, release_verdict, judge_release}
use Rattle.calls.specs.Step.{number_after, slots_after, due_of, receive, release}
use Rattle.calls.specs.Counting.{no_tally, no_rise, ending, rise_of, release_rise, figure_by, raised}
pub use Rattle.calls.specs.Counting.{row_after}
use Rattle.calls.specs.Apart.{verdict, call_method, verdict_rise, verdict_release_rise}
use Rattle.calls.specs.Good.{GoodCalls}
use Rattle.calls.specs.Figures.{open_of, Balanced}
use Rattle.calls.proofs.Searches.{found_in, found-passes}
use Rattle.calls.proofs.Judgement.{judged-opens, judged-goes, released-goes, released-never, own_at, verdict-opens, verdict-goes}
use Rattle.calls.proofs.Kept.{call_open}
use Rattle.calls.proofs.Apart.{judged-by, released-by}

-- ---- by the own record

module _ (T : Table) (f : Frame) (l : List Call) where
  by-own : (J : Judged) → judge_of T f l ≡ J → rise_of f.kind l J ≡ verdict_rise f.kind (own_of f.correlation l) (verdict J)
  unfolding rise_of
  by-own (Refused n) e = refl
  by-own (Opens j c d) e = refl
  by-own (Goes i c d) e = rw (own_at l f.correlation i (judged-goes T f l i c d e).is_own)

  -- A frame raises what its own record and the judgement without a slot tell.
  pub rise-by : rise_of f.kind l (judge_of T f l) ≡ verdict_rise f.kind (own_of f.correlation l) (verdict_of T f (own_of f.correlation l) (full l))
  rise-by = by-own (judge_of T f l) refl ∙ ap (verdict_rise f.kind (own_of f.correlation l)) (judged-by T f l)

module _ (id : ℕ) (l : List Call) where
  released-own : (J : Judged) → judge_release id l ≡ J → release_rise l J ≡ verdict_release_rise (own_of id l) (verdict J)
  unfolding release_rise
  released-own (Refused n) e = refl
  released-own (Opens j c d) e = refl
  released-own (Goes i c d) e = rw (own_at l id i (released-goes id l i c d e).is_own)

  pub release-rise-by : release_rise l (judge_release id l) ≡ verdict_release_rise (own_of id l) (release_verdict (own_of id l))
  release-rise-by = released-own (judge_release id l) refl ∙ ap (verdict_release_rise (own_of id l)) (released-by id l)

-- ---- the row is that of the call's method

module _ (T : Table) (f : Frame) where
  invoked-row : (own : Option Call) (m : ℕ) → f.kind ≡ 1 → find_method T f.«package» f.service f.method ≡ Some m → call_method T f own ≡ Some m
  invoked-row None m k e = rw (eq-eqb f.kind 1 k) e
  invoked-row (Some c) m k e = rw (eq-eqb f.kind 1 k) e

  other_row : (own : Option Call) (x c : Call) (d : Payload) → own ≡ Some x → (f.kind ≡ 1 → ⊥) → call_method T f own ≡ Some (verdict_rise f.kind own (goes c d)).row
  other_row None x c d e n = differ cc
  other_row (Some y) x c d e n = rw (ne_eqb f.kind 1 n)

  module _ (own : Option Call) (b : Bool) where
    raised_by : (v : Verdict) → verdict_of T f own b ≡ v → (verdict_rise f.kind own v ≡ no_rise) ⊎ (call_method T f own ≡ Some (verdict_rise f.kind own v).row)
    raised_by (stop n) e = inl refl
    raised_by (opens c d) e =
        let w = verdict-opens T f own b c d e in
        inr (invoked-row own w.method w.is_invoke w.is_method ∙ sym (ap (λ (x : Call). Some x.method) w.is_new))
    raised_by (goes c d) e =
        let w = verdict-goes T f own b c d e in
        inr (other_row own w.call c d w.is_open_lem w.is_other)

    -- Nothing rises, or in the row of the method that the frame is about.
    pub rise-method : let r = verdict_rise f.kind own (verdict_of T f own b) in (r ≡ no_rise) ⊎ (call_method T f own ≡ Some r.row)
    rise-method = raised_by (verdict_of T f own b) refl

-- ---- what rises in a row

-- a figure that opens a call, and one that ends a call
opens_by : Figure → ℕ
opens_by Nothing = 0
opens_by Opened = 1
opens_by Completed = 0
opens_by Errored = 0
opens_by Cancelled = 0
opens_by Failed = 0

closes_by : Figure → ℕ
closes_by Nothing = 0
closes_by Opened = 0
closes_by Completed = 1
closes_by Errored = 1
closes_by Cancelled = 1
closes_by Failed = 1

abbrev ended : Tally → ℕ
ended t = t.completed + t.errored + t.cancelled + t.failed

raises : (t : Tally) (f : Figure) → ((raised t f).opened ≡ t.opened + opens_by f) × (ended (raised t f) ≡ ended t + closes_by f)
unfolding raised opens_by closes_by
raises t Nothing = (omega arith, omega arith)
raises t Opened = (refl, omega arith)
raises t Completed = (omega arith, omega arith)
raises t Errored = (omega arith, omega arith)
raises t Cancelled = (omega arith, omega arith)
raises t Failed = (omega arith, omega arith)

-- ---- the calls of a method that are open

abbrev is_of : ℕ → Call → Bool
is_of m c = c.«open» && eqb c.method m

-- one record changed
open_set : (m : ℕ) (l : List Call) (i : ℕ) (x : Call) → i < length l → open_of m (set l i x) + counting (is_of m (slot l i)) 0 ≡ open_of m l + counting (is_of m x) 0
open_set m [] i x h = absurd (omega arith)
open_set m (y ∷ ys) zero x h = go (is_of m y) (is_of m x)
  where
    go : (a b : Bool) → counting b (open_of m ys) + counting a 0 ≡ counting a (open_of m ys) + counting b 0
    go true true = refl
    go true false = omega arith
    go false true = omega arith
    go false false = refl
open_set m (y ∷ ys) (suc i) x h = go (is_of m y) (open_set m ys i x (omega arith))
  where
    go : (a : Bool) → open_of m (set ys i x) + counting (is_of m (slot ys i)) 0 ≡ open_of m ys + counting (is_of m x) 0
        → counting a (open_of m (set ys i x)) + counting (is_of m (slot ys i)) 0 ≡ counting a (open_of m ys) + counting (is_of m x) 0
    go true e = omega arith
    go false e = e

-- one call more, one fewer, or as many
plus : (a r b q : Bool) (x y : ℕ) → a ≡ false → b ≡ true → x + counting (a && r) 0 ≡ y + counting (b && q) 0 → x ≡ y + cond q 1 0
plus true r b q x y s t e = clash true refl s
plus false r true true x y s t e = omega arith
plus false r true false x y s t e = omega arith
plus false r false q x y s t e = clash false t refl

minus : (a q : Bool) (x y : ℕ) → a ≡ true → x + counting (a && q) 0 ≡ y + 0 → x + cond q 1 0 ≡ y
minus true true x y s e = omega arith
minus true false x y s e = omega arith
minus false q x y s e = clash false s refl

as_many : (a q : Bool) (x y : ℕ) → a ≡ true → x + counting (a && q) 0 ≡ y + counting q 0 → x ≡ y
as_many true true x y s e = omega arith
as_many true false x y s e = omega arith
as_many false q x y s e = clash false s refl

-- Of the calls of method m: what is open after a step with these records, where the rise r is the step's and the number n its answer.
abbrev Follows : ℕ → Rise → (number : ℕ) → (l l' : List Call) → Type 0
Follows m r n l l' =
    let f = figure_by r n in
    open_of m l' + cond (eqb r.row m) (closes_by f) 0 ≡ open_of m l + cond (eqb r.row m) (opens_by f) 0

-- Where nothing rises, no number counts.
pub no_figure : (n : ℕ) → figure_by no_rise n ≡ Nothing
unfolding figure_by
no_figure n = go (eqb n 0) (ends_call n)
  where
    go : (a b : Bool) → cond a Nothing (cond b Nothing Nothing) ≡ Nothing
    go true b = refl
    go false true = refl
    go false false = refl

stop-follows : (m n : ℕ) (l : List Call) → Follows m no_rise n l l
unfolding opens_by closes_by
stop-follows m n l = rw (no_figure n) refl

-- a figure by which a call ends
end_figure : (a b : Bool) → let f = cond a (cond b Cancelled Errored) Completed in (closes_by f ≡ 1) × (opens_by f ≡ 0)
unfolding opens_by closes_by
end_figure true true = (refl, refl)
end_figure true false = (refl, refl)
end_figure false b = (refl, refl)

-- the call at slot i is over, by a figure that ends a call
over-follows : (m : ℕ) (l : List Call) (i : ℕ) (f : Figure) → i < length l → (slot l i).«open» ≡ true → (closes_by f ≡ 1) × (opens_by f ≡ 0) →
    let q = eqb (slot l i).method m in open_of m (set l i empty_call) + cond q (closes_by f) 0 ≡ open_of m l + cond q (opens_by f) 0
over-follows m l i f h o e =
    let q = eqb (slot l i).method m in
    rw (e.0, e.1) (go q (minus (slot l i).«open» q (open_of m (set l i empty_call)) (open_of m l) o (open_set m l i empty_call h)))
  where
    go : (b : Bool) → open_of m (set l i empty_call) + cond b 1 0 ≡ open_of m l → open_of m (set l i empty_call) + cond b 1 0 ≡ open_of m l + cond b 0 0
    go true e = omega arith
    go false e = omega arith

module _ (T : Table) (f : Frame) (l : List Call) (m : ℕ) where
  opened_one : (j : ℕ) (c : Call) (d : Payload) → judge_of T f l ≡ Opens j c d → open_of m (set l j c) ≡ open_of m l + cond (eqb c.method m) 1 0
  opened_one j c d e =
      let w = judged-opens T f l j c d e in
      plus (slot l j).«open» (eqb (slot l j).method m) c.«open» (eqb c.method m) (open_of m (set l j c)) (open_of m l)
      (not-true (slot l j).«open» (found-passes is_free l j w.lowest)) (ap (λ (x : Call). x.«open») w.is_new) (open_set m l j c (found_in is_free l j w.lowest))

  opens-follows : (p j : ℕ) (c : Call) (d : Payload) → judge_of T f l ≡ Opens j c d → Follows m (rise_of f.kind l (Opens j c d)) p l (slots_after (Opens j c d) p l)
  unfolding rise_of figure_by opens_by closes_by
  opens-follows p j c d e = go (eqb p 0) (ends_call p)
    where
      None : (x : Bool) → open_of m (set l j c) + cond x 0 0 ≡ open_of m (set l j c)
      None true = omega arith
      None false = omega arith

      go : (a b : Bool) → open_of m (cond a (set l j c) l) + cond (eqb c.method m) (closes_by (cond a Opened (cond b Nothing Nothing))) 0
          ≡ open_of m l + cond (eqb c.method m) (opens_by (cond a Opened (cond b Nothing Nothing))) 0
      go true b = None (eqb c.method m) ∙ opened_one j c d e
      go false true = refl
      go false false = refl

  module _ (i : ℕ) (c : Call) (d : Payload) (e : judge_of T f l ≡ Goes i c d) where
    abbrev own : Call
    own = slot l i

    abbrev here : i < length l
    here = found_in (is_call f.correlation) l i (judged-goes T f l i c d e).is_own

    is_open : own.«open» ≡ true
    is_open = call_open f.correlation own (found-passes (is_call f.correlation) l i (judged-goes T f l i c d e).is_own)

    abbrev Counted : Call → Type 0
    Counted x =
        let q = eqb own.method m in
        open_of m (set l i x) + cond q (closes_by (ending f.kind own x)) 0 ≡ open_of m l + cond q (opens_by (ending f.kind own x)) 0

    -- A frame that does not end the call counts nowhere; so CANCEL does not.
    goes_on : ends (form_row T own) f.kind own ≡ false → ending f.kind own (marked f.kind own) ≡ Nothing
    goes_on t =
        ap (λ (b : Bool). cond b (cond own.cancelled Cancelled Errored) Nothing)
        (or-false (eqb f.kind 7) (complete (form_row T own) (marked f.kind own)) t).0

    by_end : (z : Bool) → ends (form_row T own) f.kind own ≡ z → Counted (cond z empty_call (marked f.kind own))
    unfolding opens_by closes_by
    by_end true t = over-follows m l i (ending f.kind own empty_call) here is_open (end_figure (eqb f.kind 7) own.cancelled)
    by_end false t =
        let x = marked f.kind own in
        let q = eqb own.method m in
        subst (λ (y : Figure). open_of m (set l i x) + cond q (closes_by y) 0 ≡ open_of m l + cond q (opens_by y) 0) (sym (goes_on t))
        (ap (λ (n : ℕ). n + cond q 0 0) (as_many own.«open» q (open_of m (set l i x)) (open_of m l) is_open (open_set m l i x here)))

    goes-follows : (p : ℕ) → Follows m (rise_of f.kind l (Goes i c d)) p l (slots_after (Goes i c d) p l)
    unfolding rise_of figure_by opens_by closes_by
    goes-follows p = go (eqb p 0) (ends_call p)
      where
        q : Bool
        q = eqb own.method m

        go : (a b : Bool) → open_of m (cond a (set l i c) (cond b (set l i empty_call) l)) + cond q (closes_by (cond a (ending f.kind own c) (cond b Failed Nothing))) 0
            ≡ open_of m l + cond q (opens_by (cond a (ending f.kind own c) (cond b Failed Nothing))) 0
        go true b = subst Counted (sym (judged-goes T f l i c d e).is_next) (by_end (ends (form_row T own) f.kind own) refl)
        go false true = over-follows m l i Failed here is_open (refl, refl)
        go false false = refl

  frame-follows : (p : ℕ) (J : Judged) → judge_of T f l ≡ J → Follows m (rise_of f.kind l J) (number_after J p) l (slots_after J p l)
  unfolding rise_of
  frame-follows p (Refused n) e = stop-follows m n l
  frame-follows p (Opens j c d) e = opens-follows p j c d e
  frame-follows p (Goes i c d) e = goes-follows i c d e p

release-follows : (id : ℕ) (l : List Call) (m p : ℕ) → ends_call p ≡ false → (J : Judged) → judge_release id l ≡ J → Follows m (release_rise l J) (number_after J p) l (slots_after J p l)
unfolding release_rise figure_by opens_by closes_by
release-follows id l m p n (Refused k) e = stop-follows m k l
release-follows id l m p n (Opens j c d) e = absurd (released-never id l j c d e)
release-follows id l m p n (Goes i c d) e =
    let w = released-goes id l i c d e in
    let here = found_in (is_call id) l i w.is_own in
    let is_open = call_open id (slot l i) (found-passes (is_call id) l i w.is_own) in
    rw (n, w.is_next) (go (eqb p 0) (over-follows m l i Cancelled here is_open (refl, refl)))
  where
    q : Bool
    q = eqb (slot l i).method m

    go : (a : Bool) → open_of m (set l i empty_call) + cond q 1 0 ≡ open_of m l + cond q 0 0 →
        open_of m (cond a (set l i empty_call) l) + cond q (closes_by (cond a Cancelled Nothing)) 0 ≡ open_of m l + cond q (opens_by (cond a Cancelled Nothing)) 0
    go true h = h
    go false h = refl

-- ---- the figure of an answer

-- The payload's number and the answer's raise the same.
pub figure_answered : (kind : ℕ) (l : List Call) (J : Judged) (p : ℕ) → figure_by (rise_of kind l J) (number_after J p) ≡ figure_by (rise_of kind l J) p
unfolding rise_of
figure_answered kind l (Refused n) p = no_figure n ∙ sym (no_figure p)
figure_answered kind l (Opens j c d) p = refl
figure_answered kind l (Goes i c d) p = refl

pub release_figure : (l : List Call) (J : Judged) (p : ℕ) → figure_by (release_rise l J) (number_after J p) ≡ figure_by (release_rise l J) p
unfolding release_rise
release_figure l (Refused n) p = no_figure n ∙ sym (no_figure p)
release_figure l (Opens j c d) p = no_figure p ∙ sym (no_figure p)
release_figure l (Goes i c d) p = refl

-- Nothing rises, or in a row of a method that the schema has.
abbrev pub Known : Table → Rise → Type 0
Known T r = (r ≡ no_rise) ⊎ (r.row < length T.methods)

module _ (T : Table) (l : List Call) (g : GoodCalls T l) where
  frame_row : (f : Frame) (J : Judged) → judge_of T f l ≡ J → Known T (rise_of f.kind l J)
  unfolding rise_of
  frame_row f (Refused n) e = inl refl
  frame_row f (Opens j c d) e =
      let w = judged-opens T f l j c d e in
      inr (subst (λ (x : Call). x.method < length T.methods) (sym w.is_new) (found-named T f.«package» f.service f.method w.method w.is_method).0)
  frame_row f (Goes i c d) e =
      let o = call_open f.correlation (slot l i) (found-passes (is_call f.correlation) l i (judged-goes T f l i c d e).is_own) in
      inr (g.calls i o).method_exists

  pub frame-known : (f : Frame) → Known T (rise_of f.kind l (judge_of T f l))
  frame-known f = frame_row f (judge_of T f l) refl

  release-row : (id : ℕ) (J : Judged) → judge_release id l ≡ J → Known T (release_rise l J)
  unfolding release_rise
  release-row id (Refused n) e = inl refl
  release-row id (Opens j c d) e = inl refl
  release-row id (Goes i c d) e =
      let o = call_open id (slot l i) (found-passes (is_call id) l i (released-goes id l i c d e).is_own) in
      inr (g.calls i o).method_exists

  pub release-known : (id : ℕ) → Known T (release_rise l (judge_release id l))
  release-known id = release-row id (judge_release id l) refl

-- ---- the balance of a row

balanced : (m : ℕ) (r : Rise) (n : ℕ) (l l' : List Call) → Follows m r n l l' → (t : Tally) → Balanced m t l → Balanced m (row_after m r n t) l'
balanced m r n l l' w t b = go (eqb r.row m) w
  where
    go : (q : Bool) → open_of m l' + cond q (closes_by (figure_by r n)) 0 ≡ open_of m l + cond q (opens_by (figure_by r n)) 0
        → Balanced m (cond q (raised t (figure_by r n)) t) l'
    go true e = let x = raises t (figure_by r n) in record { balance = omega (arith, e, x.0, x.1, b.balance) }
    go false e = record { balance = omega (arith, e, b.balance) }

-- A frame keeps every row in balance,
pub frame-balanced : (T : Table) (f : Frame) (l : List Call) (reading : Payload → ℕ) (m : ℕ) (t : Tally) → Balanced m t l →
    let r = receive T f reading l in Balanced m (row_after m (rise_of f.kind l (judge_of T f l)) r.number t) r.slots
unfolding receive
frame-balanced T f l reading m t =
    let J = judge_of T f l in
    let p = reading (due_of J) in
    balanced m (rise_of f.kind l J) (number_after J p) l (slots_after J p l) (frame-follows T f l m p J refl) t

-- and so does a release, accepted or not.
pub release-balanced : (id n : ℕ) (l : List Call) → ends_call n ≡ false → (m : ℕ) (t : Tally) → Balanced m t l →
    let r = release id n l in Balanced m (row_after m (release_rise l (judge_release id l)) r.number t) r.slots
unfolding release
release-balanced id n l k m t =
    let J = judge_release id l in
    balanced m (release_rise l J) (number_after J n) l (slots_after J n l) (release-follows id l m n k J refl) t

-- The fresh table and a fresh row are in balance.
pub fresh-balanced : (m : ℕ) → Balanced m no_tally fresh_slots
fresh-balanced m = record { balance = refl }
