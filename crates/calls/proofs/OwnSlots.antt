-- The judgement of a frame at its slot is the judgement over the call table, and so is what it raises.
use Rattle.std.specs.Prelude.{Option}
use mathlib.Core.Path.{◌≡◌, refl, sym, ap, ◌∙◌}
use mathlib.Core.Bool.{Bool, true, false, cond}
use mathlib.Core.List.{List}
use Prim.Native.Nat.{ℕ}
use lib.Dec.{eqb}
use borrow.Author.Tests.{eq-eqb}
use Rattle.schema.specs.Table.{Table}
use Rattle.schema.specs.Check.{is_missing}
use Rattle.schema.proofs.Bools.{clash}
use Rattle.calls.specs.declared.Call.{Call}
use Rattle.calls.specs.declared.Frame.{Frame}
use Rattle.calls.specs.Judged.{Judged}
use Rattle.calls.specs.declared.OwnSlot.{OwnSlot}
use Rattle.calls.specs.Record.{is_call, is_free}
use Rattle.calls.specs.Slots.{first_slot, slot_of, own_of, full}
use Rattle.calls.specs.Judge.{verdict_of, release_verdict, placed, judge_of, judge_release}
use Rattle.calls.specs.Counting.{rise_of, release_rise}
use Rattle.calls.specs.Apart.{verdict, verdict_rise, verdict_release_rise}
use Rattle.calls.specs.OwnSlots.{own_slot_of, judged_at}
use Rattle.calls.proofs.Apart.{judged-by, released-by, room-aside}
use Rattle.calls.proofs.Rises.{rise-by, release-rise-by}

module _ (T : Table) (f : Frame) (l : List Call) where
  abbrev pub frame_slot : OwnSlot
  frame_slot = own_slot_of f.correlation (eqb f.kind 1) l

  pub judged-by-slot : judged_at T f frame_slot ≡ judge_of T f l
  unfolding judged_at judge_of full
  judged-by-slot = go (eqb f.kind 1) refl
    where
      own : Option Call
      own = own_of f.correlation l

      free : Option ℕ
      free = first_slot is_free 0 l

      there : Option ℕ
      there = first_slot (is_call f.correlation) 0 l

      go : (b : Bool) → eqb f.kind 1 ≡ b
          → placed (slot_of (cond b free there)) (verdict_of T f own (is_missing (cond b free there))) ≡ placed (cond b (slot_of free) (slot_of there)) (verdict_of T f own (is_missing free))
      go true e = refl
      go false e =
          ap (placed (slot_of there)) (room-aside T f own (is_missing there) (is_missing free) (λ k. clash (eqb f.kind 1) (eq-eqb f.kind 1 k) e))

  pub rise-by-slot : verdict_rise f.kind frame_slot.own (verdict (judged_at T f frame_slot)) ≡ rise_of f.kind l (judge_of T f l)
  rise-by-slot =
      ap (λ (J : Judged). verdict_rise f.kind (own_of f.correlation l) (verdict J)) judged-by-slot
      ∙ ap (verdict_rise f.kind (own_of f.correlation l)) (judged-by T f l)
      ∙ sym (rise-by T f l)

module _ (id : ℕ) (l : List Call) where
  abbrev pub call_slot : OwnSlot
  call_slot = own_slot_of id false l

  abbrev pub released_slot : Judged
  released_slot = placed (slot_of call_slot.slot) (release_verdict call_slot.own)

  pub release-by-slot : released_slot ≡ judge_release id l
  unfolding judge_release
  release-by-slot = refl

  pub release-rise-by-slot : verdict_release_rise call_slot.own (verdict released_slot) ≡ release_rise l (judge_release id l)
  release-rise-by-slot =
      ap (λ (J : Judged). verdict_release_rise (own_of id l) (verdict J)) release-by-slot
      ∙ ap (verdict_release_rise (own_of id l)) (released-by id l)
      ∙ sym (release-rise-by id l)
