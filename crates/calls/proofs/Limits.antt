-- No record ever counts more than 65,535 elements either way, and each step counts one more at most.
use Rattle.std.specs.Prelude.{None, Option, Some}
use mathlib.Core.Path.{◌≡◌, refl, sym, subst}
use mathlib.Core.Bool.{Bool, true, false, cond, ◌&&◌, ◌||◌}
use mathlib.Core.List.{List, [], ◌∷◌}
use Prim.Native.Nat.{ℕ, zero, suc, ◌≤◌}
use native.Mathlib.Omega.{arith}
use lib.Dec.{eqb, lit≤}
use lib.ListN.{set, replicate}
use borrow.Author.Tests.{eqb-false, ne_eqb}
use Rattle.wire.proofs.Cases.{cond-case, differ}
use Rattle.schema.specs.Table.{Table}
use Rattle.schema.proofs.Bools.{or-false}
use Rattle.calls.specs.declared.Call.{Call}
use Rattle.calls.specs.declared.Frame.{Frame}
use Rattle.calls.specs.declared.Payload.{Payload}
use Rattle.calls.specs.Judged.{Judged}
use Rattle.calls.specs.Judged.{Refused, Opens, Goes}
use Rattle.calls.specs.Numbers.{ends_call}
pub use Rattle.calls.specs.Limits.{FewElements, FewIn}
use Rattle.calls.specs.Record.{empty_call, is_call, is_input, is_output, at_limit, counting, marked, ends}
use Rattle.calls.specs.Slots.{slot, first_slot, form_row, fresh_slots, record_at, own_of}
use Rattle.calls.specs.Judge.{judge_of, judge_release}
use Rattle.calls.specs.Step.{slots_after, due_of, receive, release}
use Rattle.calls.proofs.Judgement.{judged-opens, judged-goes, released-goes, released-never}

none-few : (most : ℕ) → FewElements most empty_call
none-few most = record { inputs = omega arith; outputs = omega arith }

-- one more, below the limit
one_more : (b : Bool) (n : ℕ) → (b && eqb n 65535) ≡ false → n ≤ 65535 → counting b n ≤ 65535
one_more true n e h = let k = eqb-false n 65535 e in below n k h
  where
    below : (n : ℕ) → (n ≡ 65535 → ⊥) → n ≤ 65535 → counting true n ≤ 65535
    below n k h = omega arith
one_more false n e h = h

marked-few : (kind : ℕ) (c : Call) → at_limit kind c ≡ false → FewElements 65535 c → FewElements 65535 (marked kind c)
marked-few kind c e w =
    let both = or-false (is_input kind && eqb c.input_elements 65535) (is_output kind && eqb c.output_elements 65535) e in
    record { inputs = one_more (is_input kind) c.input_elements both.0 w.inputs; outputs = one_more (is_output kind) c.output_elements both.1 w.outputs }

-- one more at most
grown : (b : Bool) (n most : ℕ) → n ≤ most → counting b n ≤ suc most
grown true n most h = omega arith
grown false n most h = omega arith

marked-grown : (kind : ℕ) (c : Call) (most : ℕ) → FewElements most c → FewElements (suc most) (marked kind c)
marked-grown kind c most w =
    record { inputs = grown (is_input kind) c.input_elements most w.inputs; outputs = grown (is_output kind) c.output_elements most w.outputs }

module _ {most : ℕ} where
  set-few : (l : List Call) (i : ℕ) (x : Call) → FewElements most x → FewIn most l → FewIn most (set l i x)
  set-few [] i x w h k = h k
  set-few (y ∷ ys) zero x w h zero = w
  set-few (y ∷ ys) zero x w h (suc k) = h (suc k)
  set-few (y ∷ ys) (suc i) x w h zero = h zero
  set-few (y ∷ ys) (suc i) x w h (suc k) = set-few ys i x w (λ n. h (suc n)) k

  -- the records that a step writes
  stepped-few : (l : List Call) (p : ℕ) (J : Judged) → FewIn most l → ((j : ℕ) (c : Call) (d : Payload) → J ≡ Opens j c d → FewElements most c)
      → ((i : ℕ) (c : Call) (d : Payload) → J ≡ Goes i c d → FewElements most c) → FewIn most (slots_after J p l)
  stepped-few l p (Refused n) h f g = h
  stepped-few l p (Opens j c d) h f g = cond-case (FewIn most) (eqb p 0) (set l j c) l (λ _. set-few l j c (f j c d refl) h) (λ _. h)
  stepped-few l p (Goes i c d) h f g =
      cond-case (FewIn most) (eqb p 0) (set l i c) (cond (ends_call p) (set l i empty_call) l) (λ _. set-few l i c (g i c d refl) h)
      (λ _. cond-case (FewIn most) (ends_call p) (set l i empty_call) l (λ _. set-few l i empty_call (none-few most) h) (λ _. h))

-- A step keeps every count at 65,535 at most,
pub few-stays : (T : Table) (f : Frame) (reading : Payload → ℕ) (l : List Call) → FewIn 65535 l → FewIn 65535 (receive T f reading l).slots
unfolding receive
few-stays T f reading l h =
    stepped-few l (reading (due_of (judge_of T f l))) (judge_of T f l) h
    (λ j c d e. subst (FewElements 65535) (sym (judged-opens T f l j c d e).is_new) (record { inputs = lit≤ tt; outputs = lit≤ tt }))
    (λ i c d e.
    let w = judged-goes T f l i c d e in
    let own = slot l i in
    subst (FewElements 65535) (sym w.is_next)
    (cond-case (FewElements 65535) (ends (form_row T own) f.kind own) empty_call (marked f.kind own) (λ _. none-few 65535) (λ _. marked-few f.kind own w.is_below (h i))))

-- and so does a release.
pub few-released : (id n : ℕ) (l : List Call) → FewIn 65535 l → FewIn 65535 (release id n l).slots
unfolding release
few-released id n l h =
    stepped-few l n (judge_release id l) h
    (λ j c d e. absurd (released-never id l j c d e))
    (λ i c d e. subst (FewElements 65535) (sym (released-goes id l i c d e).is_next) (none-few 65535))

-- A step counts one element more at most.
pub few-more : (T : Table) (f : Frame) (reading : Payload → ℕ) (most : ℕ) (l : List Call) → FewIn most l → FewIn (suc most) (receive T f reading l).slots
unfolding receive
few-more T f reading most l h =
    stepped-few l (reading (due_of (judge_of T f l))) (judge_of T f l) (λ i. record { inputs = omega (arith, (h i).inputs); outputs = omega (arith, (h i).outputs) })
    (λ j c d e. subst (FewElements (suc most)) (sym (judged-opens T f l j c d e).is_new) (record { inputs = omega arith; outputs = omega arith }))
    (λ i c d e.
    let w = judged-goes T f l i c d e in
    let own = slot l i in
    subst (FewElements (suc most)) (sym w.is_next)
    (cond-case (FewElements (suc most)) (ends (form_row T own) f.kind own) empty_call (marked f.kind own) (λ _. none-few (suc most)) (λ _. marked-grown f.kind own most (h i))))

-- ---- below the limit

-- the record of a call that is open is one of a slot
own-few : (most id : ℕ) (l : List Call) → FewIn most l → (c : Call) → own_of id l ≡ Some c → FewElements most c
unfolding own_of
own-few most id l h c = go (first_slot (is_call id) 0 l)
  where
    go : (at : Option ℕ) → record_at l at ≡ Some c → FewElements most c
    go (Some i) e = let same : slot l i ≡ c = cc in subst (FewElements most) same (h i)
    go None e = differ cc

-- A call that counts less than 65,535 elements is not at its limit.
pub few-below : (id : ℕ) (l : List Call) → FewIn 65534 l → (kind : ℕ) (c : Call) → own_of id l ≡ Some c → at_limit kind c ≡ false
few-below id l h kind c e =
    let w = own-few 65534 id l h c e in
    let ins : eqb c.input_elements 65535 ≡ false = ne_eqb c.input_elements 65535 (λ z. omega (arith, z, w.inputs)) in
    let outs : eqb c.output_elements 65535 ≡ false = ne_eqb c.output_elements 65535 (λ z. omega (arith, z, w.outputs)) in
    rw (ins, outs) (go (is_input kind) (is_output kind))
  where
    go : (a b : Bool) → ((a && false) || (b && false)) ≡ false
    go true true = refl
    go true false = refl
    go false true = refl
    go false false = refl

-- What counts few counts no more than that.
pub few-wide : (most more : ℕ) (l : List Call) → most ≤ more → FewIn most l → FewIn more l
few-wide most more l h few i = record { inputs = omega (arith, (few i).inputs, h); outputs = omega (arith, (few i).outputs, h) }

-- A fresh table counts none.
pub few-fresh : FewIn 0 fresh_slots
few-fresh i = go 128 i
  where
    go : (n i : ℕ) → FewElements 0 (slot (replicate n empty_call) i)
    go zero i = none-few 0
    go (suc n) zero = none-few 0
    go (suc n) (suc i) = go n i
