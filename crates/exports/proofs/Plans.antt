-- A plan over cells, by whether they are a call table; and an answer put back into the cells.
use mathlib.Core.Path.{◌≡◌, refl, sym, ap, subst, ◌∙◌}
use mathlib.Core.Bool.{Bool, true, false, cond, ◌&&◌}
use mathlib.Core.List.{List}
use Prim.Native.Nat.{ℕ, ◌*◌}
use lib.Dec.{ltb}
use lib.ListN.{set}
use lib.Seq.{sets}
use Rattle.schema.specs.Checked.{Checked}
use Rattle.schema.specs.Checked.{Good, Refused as Faulty}
use Rattle.schema.specs.Table.{Table}
use Rattle.schema.specs.File.{table_of}
use Rattle.schema.specs.Check.{checked}
use Rattle.calls.specs.declared.Call.{Call}
use Rattle.calls.specs.declared.Change.{Change}
use Rattle.calls.specs.Judged.{Judged}
use Rattle.calls.specs.Judged.{Refused as JudgedRefused}
use Rattle.calls.specs.Step.{number_after, slots_after, Changes}
use Rattle.connection.specs.Step.{step_of}
use Rattle.calls.specs.Slots.{good_table, count_open}
use Rattle.calls.specs.Judge.{judge_release}
use Rattle.calls.specs.Counting.{release_rise}
use Rattle.calls.specs.OwnSlots.{own_slot_of}
use Rattle.reader.specs.Entry.{numbers}
use Rattle.receiver.specs.Done.{Done}
use Rattle.receiver.specs.Plan.{Plan}
use Rattle.receiver.specs.Next.{Refused as NextRefused}
use Rattle.receiver.specs.Answer.{used_of, answer_in}
use Rattle.receiver.specs.Planning.{on_good, on_calls, stop_plan, judged_plan, tables_fault, call_plan, good_plan, plan_of, release_plan, Fitted}
use Rattle.receiver.proofs.Returns.{checked_plan, checked-fitted, plan-faulty, plan-good, calls-fault, calls-right, call-planned}
use Rattle.cells.specs.Records.{record_cells, cells_of, calls_of, CountsOpen, are_calls}
use Rattle.cells.specs.Cells.{stored}
use Rattle.cells.proofs.Tables.{calls-long}
use Rattle.cells.proofs.RoundTrip.{slot-stored}
use Rattle.exports.specs.Answers.{refused_plan, kept_of, call_cells, RefusedCells}

-- ---- a plan by the tables

refused-checked : (v : Checked) → refused_plan v ≡ on_good v stop_plan (stop_plan 15 0)
refused-checked Good = refl
refused-checked (Faulty n q) = refl

module _ (cells schema : List ℕ) (rows : ℕ) where
  abbrev l : List Call
  l = calls_of cells

  abbrev T : Table
  T = table_of schema

  abbrev pub good_cells : Bool
  good_cells = are_calls cells && good_table T l

  module _ (side : ℕ) (bytes : List ℕ) where
    known-plan : (is_table : Bool)
        → cond is_table (plan_of schema side bytes rows l) (refused_plan (checked schema)) ≡ checked_plan schema (good_plan (is_table && good_table T l) rows T side bytes l)
    unfolding plan_of
    known-plan true = refl
    known-plan false = refused-checked (checked schema)

    -- the frame's plan lies in the bytes
    pub cells-plan : (r : Plan) → r ≡ checked_plan schema (good_plan good_cells rows T side bytes l) → {k : ℕ} → CountsOpen cells k
        → (r ≡ cond (are_calls cells) (plan_of schema side bytes rows l) (refused_plan (checked schema))) × (Fitted schema bytes r.next × CountsOpen cells k)
    cells-plan r e n =
        (e ∙ sym (known-plan (are_calls cells)), (subst (λ (x : Plan). Fitted schema bytes x.next) (sym e) (checked-fitted schema good_cells rows side bytes l), n))

  module _ (id : ℕ) where
    abbrev release : Plan
    release = judged_plan (judge_release id l) (release_rise l (judge_release id l)) 0 0

    abbrev next : Plan
    next = on_calls good_cells rows T (λ number. stop_plan number 0) release

    known-release : (is_table : Bool)
        → cond is_table (release_plan schema l id rows) (refused_plan (checked schema)) ≡ checked_plan schema (on_calls (is_table && good_table T l) rows T (λ number. stop_plan number 0) release)
    unfolding release_plan
    known-release true = refl
    known-release false = refused-checked (checked schema)

    module _ (v : Checked) (is : v ≡ checked schema) (r : Plan) where
      abbrev Planned : Type 0
      Planned = r ≡ cond (are_calls cells) (release_plan schema l id rows) (refused_plan (checked schema))

      planned : r ≡ checked_plan schema next → Planned
      planned e = e ∙ sym (known-release (are_calls cells))

      pub cells-faulty : (n q : ℕ) → v ≡ Faulty n q → r ≡ stop_plan n q → Planned
      cells-faulty n q e x = planned (plan-faulty schema next v is r n q e x)

      module _ (g : v ≡ Good) (k : ℕ) (test : k ≡ tables_fault good_cells rows T) where
        pub cells-stop : (k ≡ 0 → ⊥) → r ≡ stop_plan k 0 → Planned
        cells-stop n x = planned (plan-good schema next v is r g (x ∙ calls-fault good_cells rows T (λ number. stop_plan number 0) release k test n))

        pub cells-call : k ≡ 0 → r ≡ call_plan (own_slot_of id false l) → Planned
        cells-call z x =
            planned (plan-good schema next v is r g (call-planned id l r x ∙ calls-right good_cells rows T (λ number. stop_plan number 0) release k test z))

-- ---- a plan settled

-- Cells that are no call table: the judgement stops.
pub refused-stops : (is_table : Bool) (x p : Plan) (v : Checked) (J : Judged) → p ≡ cond is_table x (refused_plan v) → ((n q : ℕ) → p.next ≡ NextRefused n q → J ≡ JudgedRefused n)
    → is_table ≡ false → (n : ℕ) × (J ≡ JudgedRefused n)
refused-stops is_table x p v J e f k = go v (e ∙ ap (λ (b : Bool). cond b x (refused_plan v)) k)
  where
    go : (v : Checked) → p ≡ refused_plan v → (n : ℕ) × (J ≡ JudgedRefused n)
    go Good h = (15, f 15 0 (ap (λ (y : Plan). y.next) h))
    go (Faulty n q) h = (n, f n q (ap (λ (y : Plan). y.next) h))

-- ---- the answer

module _ (cells : List ℕ) (d : Done) where
  abbrev slots : List Call
  slots = calls_of cells

  abbrev J : Judged
  J = d.judged

  abbrev n : ℕ
  n = (numbers d.reading).number

  module _ (payload number : ℕ) (change : Change) (is : payload ≡ n) (num : number ≡ number_after J payload) (ch : Changes J payload change) where
    number_is : number ≡ number_after J n
    number_is = num ∙ ap (number_after J) is

    after_is : set slots change.slot change.call ≡ slots_after J n slots
    after_is = ch.after slots (calls-long cells 0 128) ∙ ap (λ (k : ℕ). slots_after J k slots) is

    pub answer-kept : (used calls : ℕ) → used ≡ used_of number d.size → calls ≡ count_open (set slots change.slot change.call)
        → record { number = number; used = used; «open» = calls } ≡ kept_of (answer_in d slots)
    unfolding step_of
    answer-kept used calls u o =
        let a : used ≡ used_of (number_after J n) d.size = u ∙ ap (λ (k : ℕ). used_of k d.size) number_is in
        let b : calls ≡ count_open (slots_after J n slots) = o ∙ ap count_open after_is in
        λ i. record { number = number_is i; used = a i; «open» = b i }

    pub answer-table : RefusedCells cells J
        → cond (ltb change.slot 128) (sets cells (3 * change.slot) (record_cells change.call)) cells ≡ call_cells cells (answer_in d slots).table.slots
    unfolding step_of
    answer-table f = go (are_calls cells) refl
      where
        go : (b : Bool) → are_calls cells ≡ b
            → cond (ltb change.slot 128) (sets cells (3 * change.slot) (record_cells change.call)) cells ≡ cond b (stored cells (cells_of (slots_after J n slots))) cells
        go true e = slot-stored cells change.slot change.call e ∙ ap (λ (x : List Call). stored cells (cells_of x)) after_is
        go false e =
            let past : ltb change.slot 128 ≡ false = ap (λ (k : ℕ). ltb k 128) (ch.nowhere (f e).0 (f e).1) in
            rw past
