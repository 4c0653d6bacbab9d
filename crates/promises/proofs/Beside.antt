-- What the reader with the writer's file beside ours answers and leaves in the sheet.
use mathlib.Core.Path.{◌≡◌, refl, sym, ap, ◌∙◌, subst}
use mathlib.Core.Logic.{◌⊎◌, inl, inr, ⊎_elim, ◌↔◌}
use mathlib.Core.List.{List, [], ◌∷◌, ◌++◌}
use mathlib.Core.Option.{none}
use mathlib.Core.Bool.{Bool, true, false}
use Prim.Native.Nat.{ℕ, ◌*◌, ◌/◌, ◌≤◌}
use native.Mathlib.Omega.{arith}
use lib.ListN.{length, take, replicate, length-replicate}
use Rattle.wire.proofs.Cases.{differ}
use Rattle.schema.specs.declared.Field.{Field}
use Rattle.schema.specs.Checked.{Checked}
use Rattle.schema.specs.Checked.{Good, Refused as Faulty}
use Rattle.schema.specs.Extended.{Yes}
use Rattle.schema.specs.Table.{Shape, unknown, scalar, text, array, map, struct}
use Rattle.schema.specs.File.{table_of}
use Rattle.schema.specs.Check.{checked, IsGood}
use Rattle.schema.specs.Extend.{Widens, widened, extension}
use Rattle.schema.proofs.Bools.{cases}
use Rattle.schema.proofs.Faults.{refused-iff as schema-refused}
use Rattle.schema.proofs.Goods.{good-table}
use Rattle.schema.proofs.Extending.{widens-iff, widens_same}
use Rattle.value.specs.declared.Row.{Row}
use Rattle.value.specs.Value.{Tree, Value, value, size}
use Rattle.value.specs.Read.{on_struct_of, root_bits, unknown_bits, Reading, refusal, accepted, read}
use Rattle.value.specs.Sheet.{rows_of}
use Rattle.value.specs.Spell.{RootSpells}
use Rattle.value.specs.Fits.{Shows, ShowsKnown}
use Rattle.value.specs.Added.{reached, first_added, without, NoneAdded}
use Rattle.value.specs.Claims.{DelimitedTree}
use Rattle.value.specs.Numbered.{ValueFault, within-list, many-pairs}
use Rattle.value.proofs.Numbers.{fault-number as root-fault-number}
use Rattle.value.specs.Beside.{read_beside, RightfulBeside, TooFewRows, BesideReason, no-struct, too_long, faulty, too_few-rows, ShownAs, DelimitedBeside, SomeOf, root_length}
use Rattle.value.proofs.Telling.{shows-known}
use Rattle.value.proofs.Reading.{sized}
use Rattle.value.proofs.Sheets.{length-rows}
use Rattle.value.proofs.BesideStatements as value
use Rattle.reader.specs.Reading.{Shown, Refused}
use Rattle.flat.specs.Sheet.{shown_in}
use Rattle.reader.specs.Entry.{Outcome, outcome, outcome_of, room, read_outcome}
use Rattle.reader.specs.Beside.{beside_payload, beside_outcome}
use Rattle.writer.specs.Writing.{Written}
use Rattle.writer.specs.Entry as writer
use Rattle.writer.specs.Entry.{file_outcome}
use Rattle.promises.specs.Claims.{shapes, first_rows, ReadsAs}
use Rattle.promises.specs.Beside.{ReadsBeside, NewBeside, Unextended, RefusedBeside, by-ours, by-theirs, no-extension, by-payload}
use Rattle.promises.proofs.Entries.{shown-rows, rows_back, shown_rest, shown-length, accepted-from, refused-from, read_by, read-faulty, shown-from}
use Rattle.promises.proofs.Refusals.{file-numbers}
use Rattle.promises.proofs.Reading as alone
use Rattle.promises.proofs.ReadBack.{written-spelled, read_back}
use Rattle.promises.proofs.Extension as extending

-- ---- the tables

module _ (ours theirs : List ℕ) (ty : ℕ) (payload sheet : List ℕ) where
  -- 40 to 44 are judged for ours first, and then for theirs.
  pub ours-first : (n q : ℕ) → checked ours ≡ Faulty n q → beside_outcome ours theirs ty payload sheet ≡ outcome (Refused n q) sheet
  unfolding beside_outcome
  ours-first n q e = rw e

  pub theirs-next : IsGood ours → (n q : ℕ) → checked theirs ≡ Faulty n q → beside_outcome ours theirs ty payload sheet ≡ outcome (Refused n q) sheet
  unfolding beside_outcome
  theirs-next good n q e = rw (good, e)

  module _ (good : IsGood ours) (good' : IsGood theirs) where
    iff : widened (table_of ours) (table_of theirs) ≡ true ↔ Widens (table_of ours) (table_of theirs)
    iff = widens-iff (table_of ours) (table_of theirs) (good-table ours good) (good-table theirs good')

    pub beside-by : Widens (table_of ours) (table_of theirs)
        → beside_outcome ours theirs ty payload sheet ≡ outcome_of sheet (read_beside (table_of ours) (table_of theirs) ty payload (room sheet))
    unfolding beside_outcome beside_payload
    beside-by x = rw (good, good', iff.1 x)

    -- Where theirs does not extend ours, bitmaps aside, the answer is 47 at 0, whatever the type and the payload are.
    pub unextended : (Widens (table_of ours) (table_of theirs) → ⊥) → beside_outcome ours theirs ty payload sheet ≡ outcome (Refused 47 0) sheet
    unfolding beside_outcome
    unextended h = ⊎_elim (λ e. absurd (h (iff.0 e))) (λ (e : widened (table_of ours) (table_of theirs) ≡ false). rw (good, good', e)) (cases (widened (table_of ours) (table_of theirs)))

  -- Every refusal is one of the request's list and leaves the sheet as it was; the order is in the laws before and after this one.
  pub listed : (n q : ℕ) (after : List ℕ) → beside_outcome ours theirs ty payload sheet ≡ outcome (Refused n q) after
      → RefusedBeside ours theirs ty payload (room sheet) n q × (after ≡ sheet)
  listed n q after e = go (checked ours) (checked theirs) refl refl
    where
      told : (o : Outcome) → beside_outcome ours theirs ty payload sheet ≡ o → o ≡ outcome (Refused n q) after
      told o k = sym k ∙ e

      at : (m p : ℕ) → outcome (Refused m p) sheet ≡ outcome (Refused n q) after → RefusedBeside ours theirs ty payload (room sheet) m p
          → RefusedBeside ours theirs ty payload (room sheet) n q × (after ≡ sheet)
      at m p k r =
          let a : m ≡ n = cc in
          let b : p ≡ q = cc in
          let c : sheet ≡ after = cc in
          (subst (RefusedBeside ours theirs ty payload (room sheet) n) b (subst (λ (i : ℕ). RefusedBeside ours theirs ty payload (room sheet) i p) a r), sym c)

      both : IsGood ours → IsGood theirs → (b : Bool) → widened (table_of ours) (table_of theirs) ≡ b
          → RefusedBeside ours theirs ty payload (room sheet) n q × (after ≡ sheet)
      both good good' true k =
          let x = (iff good good').0 k in
          let (a, s) = refused-from sheet (read_beside (table_of ours) (table_of theirs) ty payload (room sheet)) n q after (told _ (beside-by good good' x)) in
          (by-payload good good' x (value.refused-listed (table_of ours) (table_of theirs) (good-table ours good) (good-table theirs good') x ty payload (room sheet) n q a), s)
      both good good' false k =
          let not_so : Widens (table_of ours) (table_of theirs) → ⊥ = λ x. let z = (iff good good').1 x in differ cc in
          at 47 0 (told _ (unextended good good' not_so)) (no-extension good good' not_so)

      go : (c c' : Checked) → checked ours ≡ c → checked theirs ≡ c' → RefusedBeside ours theirs ty payload (room sheet) n q × (after ≡ sheet)
      go (Faulty m p) c' k k' = at m p (told _ (ours-first m p k)) (by-ours ((schema-refused ours m p).0 k))
      go Good (Faulty m p) k k' = at m p (told _ (theirs-next k m p k')) (by-theirs k ((schema-refused theirs m p).0 k'))
      go Good Good k k' = both k k' _ refl

  -- Only by good files, of which theirs extends ours but for the bitmaps, is anything shown.
  pub shown-good : (k place n c : ℕ) (after : List ℕ) → beside_outcome ours theirs ty payload sheet ≡ outcome (Shown k place n c) after
      → IsGood ours × IsGood theirs × Widens (table_of ours) (table_of theirs)
  shown-good k place n c after e = go (checked ours) (checked theirs) refl refl
    where
      refuses : {A : Type 0} (m p : ℕ) → beside_outcome ours theirs ty payload sheet ≡ outcome (Refused m p) sheet → A
      refuses m p f = let z = sym e ∙ f in differ cc

      both : IsGood ours → IsGood theirs → (b : Bool) → widened (table_of ours) (table_of theirs) ≡ b → IsGood ours × IsGood theirs × Widens (table_of ours) (table_of theirs)
      both good good' true w = (good, good', (iff good good').0 w)
      both good good' false w = refuses 47 0 (unextended good good' (λ x. let z = (iff good good').1 x in differ cc))

      go : (v v' : Checked) → checked ours ≡ v → checked theirs ≡ v' → IsGood ours × IsGood theirs × Widens (table_of ours) (table_of theirs)
      go (Faulty m p) v' h h' = refuses m p (ours-first m p h)
      go Good (Faulty m p) h h' = refuses m p (theirs-next h m p h')
      go Good Good h h' = both h h' _ refl

-- ---- the numbers

fault-number : {n : ℕ} → ValueFault n → (20 ≤ n) × (n ≤ 31)
fault-number (within-list h k) = omega arith
fault-number many-pairs = omega arith

-- A payload's refusals are 7 to 46, and 46 is only for a type that is no struct of ours.
payload-number : (S S' : ℕ → Shape) (t : ℕ) (payload : List ℕ) (rows : ℕ) {n p : ℕ} → BesideReason S S' t payload rows n p
    → (7 ≤ n) × (n ≤ 46) × (n ≡ 46 → (fs : List Field) → S t ≡ struct fs → ⊥)
payload-number S S' t payload rows (no-struct h) = (omega arith, omega arith, λ e. h)
payload-number S S' t payload rows (too_long h) = (omega arith, omega arith, λ e. absurd (omega arith))
payload-number S S' t payload rows (faulty fs u x rest st short e f) = let k = fault-number (root-fault-number f) in (omega arith, omega arith, λ e. absurd (omega arith))
payload-number S S' t payload rows (too_few-rows fs st h) = (omega arith, omega arith, λ e. absurd (omega arith))

module _ (ours theirs : List ℕ) (ty : ℕ) (payload sheet : List ℕ) where
  only-unextended : {n q : ℕ} → RefusedBeside ours theirs ty payload (room sheet) n q → n ≡ 47 → Unextended ours theirs
  only-unextended (by-ours {n} {q} k) e = absurd (omega (arith, file-numbers ours n q k))
  only-unextended (by-theirs {n} {q} good k) e = absurd (omega (arith, file-numbers theirs n q k))
  only-unextended (no-extension good good' h) e = (good, good', h)
  only-unextended (by-payload good good' x l) e = let z = payload-number _ _ ty payload (room sheet) l in absurd (omega arith)

  number_of : {n q : ℕ} → RefusedBeside ours theirs ty payload (room sheet) n q → (7 ≤ n) × (n ≤ 47)
  number_of (by-ours {n} {q} k) = let b = file-numbers ours n q k in omega arith
  number_of (by-theirs {n} {q} good k) = let b = file-numbers theirs n q k in omega arith
  number_of (no-extension good good' h) = omega arith
  number_of (by-payload good good' x l) = let z = payload-number _ _ ty payload (room sheet) l in omega arith

  -- No refusal has the number 0: all are 7 to 47.
  pub refused-numbers : (n q : ℕ) (after : List ℕ) → beside_outcome ours theirs ty payload sheet ≡ outcome (Refused n q) after → (7 ≤ n) × (n ≤ 47)
  refused-numbers n q after e = number_of (listed ours theirs ty payload sheet n q after e).0

  -- 47 comes exactly where both files are good and theirs does not extend ours, bitmaps aside; so it comes before 46 and all that is of the payload.
  pub unextended-iff : (beside_outcome ours theirs ty payload sheet ≡ outcome (Refused 47 0) sheet) ↔ Unextended ours theirs
  unextended-iff = (
    λ e. only-unextended (listed ours theirs ty payload sheet 47 0 sheet e).0 refl,
    λ (good, good', h). unextended ours theirs ty payload sheet good good' h,
  )

  module _ (good : IsGood ours) (good' : IsGood theirs) (widens : Widens (table_of ours) (table_of theirs)) where
    by : beside_outcome ours theirs ty payload sheet ≡ outcome_of sheet (read_beside (table_of ours) (table_of theirs) ty payload (room sheet))
    by = beside-by ours theirs ty payload sheet good good' widens

    none-of-ours : ((fs : List Field) → shapes ours ty ≡ struct fs → ⊥) → read_beside (table_of ours) (table_of theirs) ty payload (room sheet) ≡ refusal 46 0
    unfolding read_beside
    none-of-ours h = go (shapes ours ty) refl _
      where
        go : (s : Shape) → shapes ours ty ≡ s → (answer : Reading) → on_struct_of s (refusal 46 0) (λ _. answer) ≡ refusal 46 0
        go (struct fs) e answer = absurd (h fs e)
        go unknown e answer = refl
        go (scalar _) e answer = refl
        go (text _) e answer = refl
        go (array _) e answer = refl
        go (map _ _) e answer = refl

    -- After 47, 46 comes exactly for a type that is no struct of ours, whatever it is by theirs.
    pub no-struct-iff : (beside_outcome ours theirs ty payload sheet ≡ outcome (Refused 46 0) sheet) ↔ ((fs : List Field) → shapes ours ty ≡ struct fs → ⊥)
    no-struct-iff = (
      λ e.
          let a = (refused-from sheet (read_beside (table_of ours) (table_of theirs) ty payload (room sheet)) 46 0 sheet (sym by ∙ e)).0 in
          let l = value.refused-listed (table_of ours) (table_of theirs) (good-table ours good) (good-table theirs good') widens ty payload (room sheet) 46 0 a in
          (payload-number _ _ ty payload (room sheet) l).2 refl,
      λ h. by ∙ ap (outcome_of sheet) (none-of-ours h),
    )

-- ---- one file twice

-- With ours and theirs the same file the answer and the sheet are those of `read`, for every file, type, payload and sheet.
pub same-file : (s : List ℕ) (ty : ℕ) (payload sheet : List ℕ) → beside_outcome s s ty payload sheet ≡ read_outcome s ty payload sheet
same-file s ty payload sheet = go (checked s) refl
  where
    go : (v : Checked) → checked s ≡ v → beside_outcome s s ty payload sheet ≡ read_outcome s ty payload sheet
    go Good good =
        beside-by s s ty payload sheet good good (widens_same (table_of s))
        ∙ ap (outcome_of sheet) (value.same-table (table_of s) ty payload (room sheet))
        ∙ sym (read_by s ty payload sheet good)
    go (Faulty n q) e = ours-first s s ty payload sheet n q e ∙ sym (read-faulty s ty payload sheet n q e)

-- ---- a struct of ours

-- There are as many rows as the value that they show has values.
known-size : (S : ℕ → Shape) (payload : List ℕ) (ty : ℕ) (rs : List Row) (w : Value) → ShowsKnown S payload ty rs w → length rs ≡ size w
known-size S payload ty rs w (tree, r, _, u) = sym (ap length r) ∙ sized tree ∙ ap size u

module _ (ours theirs : List ℕ) (good : IsGood ours) (good' : IsGood theirs) (widens : Widens (table_of ours) (table_of theirs))
    (ty : ℕ) (fs : List Field) (st : shapes ours ty ≡ struct fs) where
  -- It has its fields in theirs too, and perhaps more.
  pub gains : (gs : List Field) × (shapes theirs ty ≡ struct (fs ++ gs))
  gains = value.gains (table_of ours) (table_of theirs) (good-table ours good) (good-table theirs good') widens ty fs st

  module _ (payload sheet : List ℕ) where
    abbrev answer : Reading
    answer = read_beside (table_of ours) (table_of theirs) ty payload (room sheet)

    is : beside_outcome ours theirs ty payload sheet ≡ outcome_of sheet answer
    is = beside-by ours theirs ty payload sheet good good' widens

    delimits : (rs : List Row) (place n comparisons : ℕ)
        → (answer ≡ accepted rs place n comparisons) ↔ DelimitedBeside (shapes ours) (shapes theirs) ty payload (room sheet) rs place n comparisons
    delimits = value.rows-beside (table_of ours) (table_of theirs) (good-table ours good) (good-table theirs good') widens ty fs st payload (room sheet)

    from : (k place n comparisons : ℕ) (after : List ℕ) → beside_outcome ours theirs ty payload sheet ≡ outcome (Shown k place n comparisons) after
        → (rs : List Row) × (answer ≡ accepted rs place n comparisons) × (length rs ≡ k) × (after ≡ shown_in sheet rs)
    from k place n comparisons after e = accepted-from sheet answer k place n comparisons after (sym is ∙ e)

    -- A payload is accepted exactly with the rows of a tree that fits it and delimits its bytes by theirs, without the added fields: rows keep type, place
    -- and length, a struct's count is that of the fields that ours knows and whose bits are set. Every cell of every row is so decided.
    pub rows-beside : (k place n comparisons : ℕ) (after : List ℕ)
        → (beside_outcome ours theirs ty payload sheet ≡ outcome (Shown k place n comparisons) after)
        ↔ ((rs : List Row) × DelimitedBeside (shapes ours) (shapes theirs) ty payload (room sheet) rs place n comparisons × (length rs ≡ k) × (after ≡ shown_in sheet rs))
    rows-beside k place n comparisons after = (
      λ e. let (rs, a, l, o) = from k place n comparisons after e in (rs, (delimits rs place n comparisons).0 a, l, o),
      λ (rs, d, l, o). rw (o, ← l) (is ∙ ap (outcome_of sheet) ((delimits rs place n comparisons).1 d)),
    )

    -- with k rows
    shown_as : (w : Value) (place n comparisons : ℕ) (rs : List Row) (k : ℕ) → length rs ≡ k → size w ≡ k → answer ≡ accepted rs place n comparisons
        → ShowsKnown (shapes ours) payload ty rs w → ReadsBeside ours theirs ty payload sheet w place n comparisons
    shown_as w place n comparisons rs k l z e shows =
        let (_, _, _, _, fits) = (delimits rs place n comparisons).0 e in
        rw (z, ← l) (
          shown_in sheet rs,
          is ∙ ap (outcome_of sheet) e,
          rw (shown-rows sheet rs) shows,
          shown-length sheet rs fits,
          shown_rest sheet rs,
        )

    reads_of : (w : Value) (place n comparisons : ℕ) → ShownAs (shapes ours) ty payload answer w place n comparisons → ReadsBeside ours theirs ty payload sheet w place n comparisons
    reads_of w place n comparisons (rs, e, shows) = shown_as w place n comparisons rs (size w) (known-size (shapes ours) payload ty rs w shows) refl e shows

    of-reads : (w : Value) (place n comparisons : ℕ) → ReadsBeside ours theirs ty payload sheet w place n comparisons → ShownAs (shapes ours) ty payload answer w place n comparisons
    of-reads w place n comparisons (after, e, shows, _, _) =
        let (rs, a, l, o) = from (size w) place n comparisons after e in
        (rs, a, subst (λ (l : List Row). ShowsKnown (shapes ours) payload ty l w) (rows_back sheet rs (size w) after l o) shows)

    -- What is accepted the reader by theirs alone accepts too, given a row for each value, with the same tail and the same key comparisons due. The rows
    -- shown here are some of its rows, in their order, with type, place and length as there.
    pub theirs-accepts : (k place n comparisons : ℕ) (after : List ℕ) → beside_outcome ours theirs ty payload sheet ≡ outcome (Shown k place n comparisons) after
        → (k' : ℕ) × ((sheet' : List ℕ) → k' ≤ room sheet'
        → (after' : List ℕ) × (read_outcome theirs ty payload sheet' ≡ outcome (Shown k' place n comparisons) after') × SomeOf (first_rows k after) (first_rows k' after'))
    theirs-accepts k place n comparisons after e =
        let (rs, a, l, o) = from k place n comparisons after e in
        let (rs', some, h) = value.theirs-accepts (table_of ours) (table_of theirs) (good-table ours good) (good-table theirs good') widens ty fs st payload (room sheet) rs place n comparisons a in
        let same : first_rows k after ≡ rs = rows_back sheet rs k after l o in (
          length rs',
          λ sheet' f. (shown_in sheet' rs', read_by theirs ty payload sheet' good' ∙ ap (outcome_of sheet') (h (room sheet') f), rw (same, shown-rows sheet' rs') some),
        )

    -- The comparisons are never above 258,048.
    pub comparisons-within : (k place n comparisons : ℕ) (after : List ℕ) → beside_outcome ours theirs ty payload sheet ≡ outcome (Shown k place n comparisons) after → comparisons ≤ 258048
    comparisons-within k place n comparisons after e =
        let (rs, a, _, _) = from k place n comparisons after e in
        value.comparisons-within (table_of ours) (table_of theirs) (good-table ours good) (good-table theirs good') widens ty fs st payload (room sheet) rs place n comparisons a

    module _ (fs' : List Field) (st' : shapes theirs ty ≡ struct fs') where
      abbrev shown-iff : (w : Value) (place n comparisons : ℕ) → ShownAs (shapes ours) ty payload answer w place n comparisons
          ↔ ((v : Value) × (without (shapes ours) v ty ≡ w) × RightfulBeside (shapes ours) (shapes theirs) ty fs' payload (room sheet) v place n comparisons)
      shown-iff = value.shown-iff-spelled (table_of ours) (table_of theirs) (good-table ours good) (good-table theirs good') widens ty fs st fs' st' payload (room sheet)

      -- A payload is accepted and shown as w exactly when by theirs it spells, within the limits, a value that is w without its added fields. The tail is
      -- what follows the fields that theirs knows, and the key comparisons due are those of the whole value.
      pub shown-iff-spelled : (w : Value) (place n comparisons : ℕ)
          → ReadsBeside ours theirs ty payload sheet w place n comparisons
          ↔ ((v : Value) × (without (shapes ours) v ty ≡ w) × RightfulBeside (shapes ours) (shapes theirs) ty fs' payload (room sheet) v place n comparisons)
      shown-iff-spelled w place n comparisons = (
        λ r. (shown-iff w place n comparisons).0 (of-reads w place n comparisons r),
        λ q. reads_of w place n comparisons ((shown-iff w place n comparisons).1 q),
      )

      -- There is no tail exactly where the root sets no bit unknown to theirs.
      pub tail-iff-unknown : (k place n comparisons : ℕ) (after : List ℕ) → beside_outcome ours theirs ty payload sheet ≡ outcome (Shown k place n comparisons) after
          → (n ≡ 0) ↔ (unknown_bits fs' (root_bits fs' payload) ≡ 0)
      tail-iff-unknown k place n comparisons after e =
          let (k', h) = theirs-accepts k place n comparisons after e in
          let cells = replicate {A = ℕ} (4 * k') 0 in
          let (after', e', _) = h cells (omega (arith, length-replicate {A = ℕ} (4 * k') 0)) in
          alone.tail-iff-unknown theirs ty fs' st' payload cells k' place n comparisons after' e'

      -- A refusal is one that the reader by theirs alone gives with every sheet; or it is 30, for a payload that is otherwise right. So 26 is a bit unknown
      -- to theirs, and every refusal of a payload stands where theirs puts it, in added fields too.
      pub refused-iff : (n q : ℕ) → (beside_outcome ours theirs ty payload sheet ≡ outcome (Refused n q) sheet)
          ↔ (((sheet' : List ℕ) → read_outcome theirs ty payload sheet' ≡ outcome (Refused n q) sheet')
          ⊎ ((n ≡ 30) × (q ≡ 0) × TooFewRows (shapes ours) (shapes theirs) ty fs' payload (room sheet)))
      refused-iff n q = (
        λ e. ⊎_elim (λ h. inl (λ sheet'. read_by theirs ty payload sheet' good' ∙ ap (outcome_of sheet') (h (room sheet')))) inr
            (both.0 (refused-from sheet answer n q sheet (sym is ∙ e)).0),
        λ h. is ∙ ap (outcome_of sheet) (both.1 (⊎_elim (λ f. inl (every-room f)) inr h)),
      )
        where
          both : (answer ≡ refusal n q)
              ↔ (((rows : ℕ) → read (table_of theirs) ty payload rows ≡ refusal n q) ⊎ ((n ≡ 30) × (q ≡ 0) × TooFewRows (shapes ours) (shapes theirs) ty fs' payload (room sheet)))
          both = value.refused-iff (table_of ours) (table_of theirs) (good-table ours good) (good-table theirs good') widens ty fs st fs' st' payload (room sheet) n q

          every-room : ((sheet' : List ℕ) → read_outcome theirs ty payload sheet' ≡ outcome (Refused n q) sheet') → (rows : ℕ) → read (table_of theirs) ty payload rows ≡ refusal n q
          every-room f rows =
              let cells = replicate {A = ℕ} (4 * rows) 0 in
              let r : room cells ≡ rows = omega (arith, length-replicate {A = ℕ} (4 * rows) 0) in
              let a = (refused-from cells (read (table_of theirs) ty payload (room cells)) n q cells (sym (read_by theirs ty payload cells good') ∙ f cells)).0 in
              rw r at a

      -- Every value that their rules allow, whoever wrote it, is shown without its added fields, given rows enough; with fewer rows the answer is 30.
      pub new-shown : (v : Value) → RootSpells (shapes theirs) fs' v payload [] → length payload ≤ 16384 → NewBeside ours theirs ty payload sheet v
      new-shown v q short = (
        λ h. reads_of _ (length payload) 0 _ (value.new-shown (table_of ours) (table_of theirs) (good-table ours good) (good-table theirs good') widens ty fs st fs' st' payload (room sheet) v q short h),
        λ h. (refused-iff 30 0).1 (inr (refl, refl, (v, [], q, short, h))),
      )

      -- What is shown here and then accepted by the plain writer by ours, as just the rows shown over the payload, is read back by ours as the value with the
      -- same known fields and nothing else, and with no tail.
      pub shown-then-written : (k place n comparisons : ℕ) (after : List ℕ) → beside_outcome ours theirs ty payload sheet ≡ outcome (Shown k place n comparisons) after
          → (out : List ℕ) (m : ℕ) (out' : List ℕ) → file_outcome ours ty (take (4 * k) after) payload out ≡ writer.outcome (Written m) out'
          → (sheet' : List ℕ) → k ≤ room sheet'
          → (v : Value) × RightfulBeside (shapes ours) (shapes theirs) ty fs' payload (room sheet) v place n comparisons
          × ReadsAs ours ty fs (take m out') sheet' (without (shapes ours) v ty) m 0
      shown-then-written k place n comparisons after e out m out' w sheet' h =
          let (rs, a, k-is, after_is) = from k place n comparisons after e in
          let same : first_rows k after ≡ rs = rows_back sheet rs k after k-is after_is in
          let few : length (take (4 * k) after) / 4 ≤ room sheet' = omega (arith, length-rows (take (4 * k) after), ap length same, k-is, h) in
          let (hs, x, hs-is, shows, r) = read_back ours ty (take (4 * k) after) payload out m out' w sheet' few in
          let f : hs ≡ fs = cc in
          let known = shows-known (shapes ours) ty hs hs-is payload x (first_rows k after) shows in
          let (v, u, q) = (shown-iff x place n comparisons).0 (rs, a, subst (λ (l : List Row). ShowsKnown (shapes ours) payload ty l x) same known) in
          let r' : ReadsAs ours ty fs (take m out') sheet' x m 0 = subst (λ (l : List Field). ReadsAs ours ty l (take m out') sheet' x m 0) f r in
          (v, q, subst (λ (y : Value). ReadsAs ours ty fs (take m out') sheet' y m 0) (sym u) r')

  -- What the writer by theirs writes of a struct that ours has is shown without its added fields, given rows enough: 26 never comes.
  pub written-shown : (cells B out : List ℕ) (n : ℕ) (out' : List ℕ) → file_outcome theirs ty cells B out ≡ writer.outcome (Written n) out'
      → (gs : List Field) × (v : Value)
      × (shapes theirs ty ≡ struct (fs ++ gs))
      × Shows (shapes theirs) B ty (fs ++ gs) (rows_of cells) v
      × ((sheet : List ℕ) → NewBeside ours theirs ty (take n out') sheet v)
  written-shown cells B out n out' e =
      let (gs, st') = gains in
      let (v, shows, q, short) = written-spelled theirs ty (fs ++ gs) st' cells B out n out' e in
      (gs, v, st', shows, λ sheet. new-shown (take n out') sheet (fs ++ gs) st' v q short)

-- ---- under an extension without grown bitmaps, where bitmaps keep their bytes: beside the reader by ours alone

length-root : (n : ℕ) (rs : List Row) → length (root_length n rs) ≡ length rs
length-root n [] = refl
length-root n (r ∷ rs) = refl

module _ (ours theirs : List ℕ) (yes : extension ours theirs ≡ Yes) (ty : ℕ) (fs gs : List Field) (st : shapes ours ty ≡ struct fs)
    (st' : shapes theirs ty ≡ struct (fs ++ gs)) (payload sheet : List ℕ) where
  goods : IsGood ours × IsGood theirs
  goods = extending.goods ours theirs yes

  wide : Widens (table_of ours) (table_of theirs)
  wide = (extending.extends ours theirs yes).widens

  -- Where both readers accept, with any two sheets, they show one value, by the same rows but for the root's length, which here reaches over the added
  -- fields. For a bitmap that has grown neither this nor the next holds: the reader by ours alone takes the further bitmap byte for a field's.
  pub both-accept : (k place n c : ℕ) (after : List ℕ) → read_outcome ours ty payload sheet ≡ outcome (Shown k place n c) after
      → (sheet' : List ℕ) (k' place' n' c' : ℕ) (after' : List ℕ) → beside_outcome ours theirs ty payload sheet' ≡ outcome (Shown k' place' n' c') after'
      → (k' ≡ k)
      × (first_rows k' after' ≡ root_length place' (first_rows k after))
      × ((v : Value) × Shows (shapes ours) payload ty fs (first_rows k after) v × ShowsKnown (shapes ours) payload ty (first_rows k' after') v)
  both-accept k place n c after e sheet' k' place' n' c' after' e' =
      let (rs, a, l, o) = shown-from ours ty payload sheet goods.0 k place n c after e in
      let (rs', a', l', o') = from ours theirs goods.0 goods.1 wide ty fs st payload sheet' k' place' n' c' after' e' in
      let same : first_rows k after ≡ rs = rows_back sheet rs k after l o in
      let same' : first_rows k' after' ≡ rs' = rows_back sheet' rs' k' after' l' o' in
      let law = value.both-accept (table_of ours) (table_of theirs) (good-table ours goods.0) (good-table theirs goods.1) (extending.extends ours theirs yes) in
      let (w, (v, s, s')) = law ty fs gs st st' payload (room sheet) (room sheet') rs rs' place place' n n' c c' a a' in
      rw (same, same') (omega (arith, l, l', ap length w, length-root place' rs), w, (v, s, s'))

  -- Where no added field's bit is set in the root, the whole answer and the sheet are those of the reader by ours alone, refusals and 30 too; or that
  -- reader answers 26.
  pub none-added : NoneAdded fs gs payload
      → (beside_outcome ours theirs ty payload sheet ≡ read_outcome ours ty payload sheet)
      ⊎ ((p : ℕ) × (read_outcome ours ty payload sheet ≡ outcome (Refused 26 p) sheet))
  none-added bare =
      let law = value.none-added (table_of ours) (table_of theirs) (good-table ours goods.0) (good-table theirs goods.1) (extending.extends ours theirs yes) in
      let here = beside-by ours theirs ty payload sheet goods.0 goods.1 wide in
      let alone = read_by ours ty payload sheet goods.0 in
      ⊎_elim (λ e. inl (here ∙ ap (outcome_of sheet) e ∙ sym alone)) (λ (p, e). inr (p, alone ∙ ap (outcome_of sheet) e))
      (law ty fs gs st st' payload (room sheet) bare)

  -- Where the payload is right by theirs and no struct, reached through fields that ours knows, carries an added field, the whole answer and the sheet are
  -- those of the reader by ours alone, 30 too.
  pub nowhere-added : (tree : Tree) (place n : ℕ) → DelimitedTree (shapes theirs) ty payload tree place n → first_added (reached (shapes ours) tree ty) ≡ none
      → beside_outcome ours theirs ty payload sheet ≡ read_outcome ours ty payload sheet
  nowhere-added tree place n d f =
      let law = value.nowhere-added (table_of ours) (table_of theirs) (good-table ours goods.0) (good-table theirs goods.1) (extending.extends ours theirs yes) in
      beside-by ours theirs ty payload sheet goods.0 goods.1 wide
      ∙ ap (outcome_of sheet) (law ty fs gs st st' payload (room sheet) tree place n d f)
      ∙ sym (read_by ours ty payload sheet goods.0)
