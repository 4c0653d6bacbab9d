-- What the readers by an old schema file and by a new one that extends it answer to each other's payloads.
use mathlib.Core.Path.{◌≡◌, refl, sym, ap, ◌∙◌, subst}
use mathlib.Core.List.{List, [], ◌++◌, append_assoc}
use mathlib.Core.Option.{Option, none, some}
use mathlib.Core.Bool.{Bool, true, cond}
use Prim.Native.Nat.{ℕ, ◌+◌, ◌/◌, ◌^◌, ◌≤◌, ◌<◌, zero-le}
use native.Mathlib.Nat.{mod-lt, mod-eq_of_lt}
use native.Mathlib.Omega.{arith}
use borrow.Author.Tests.{le-leb}
use lib.Dec.{leb}
use lib.ListN.{length, take, drop, length-append}
use lib.Seq.{drop_at}
use lib.Pow.{pow_pos}
use Rattle.wire.proofs.Cases.{differ}
use Rattle.parse.specs.Reader.{cursor_at}
use Rattle.parse.proofs.Answers.{seen_end}
use Rattle.schema.specs.declared.Field.{Field}
use Rattle.schema.specs.Checked.{Checked}
use Rattle.schema.specs.Checked.{Good, Refused as Faulty}
use Rattle.schema.specs.Extended.{Yes, No}
use Rattle.schema.specs.Table.{Shape, struct}
use Rattle.schema.specs.File.{table_of}
use Rattle.schema.specs.Check.{checked, IsGood}
use Rattle.schema.specs.Extend.{Extends, extended, if_good, extension}
use Rattle.schema.proofs.Goods.{good-table}
use Rattle.schema.proofs.Extending.{yes_iff}
use Rattle.value.specs.declared.Row.{Row}
use Rattle.value.specs.Value.{Tree, Value, leaf, node, value, size}
use Rattle.value.specs.Read.{plan, accepted, read}
use Rattle.value.specs.Sheet.{rows_of}
use Rattle.value.specs.Spell.{RootSpells}
use Rattle.value.specs.Fits.{Shows}
use Rattle.value.specs.Delimits.{RootDelimits}
use Rattle.value.specs.Added.{without, inner, first_added, NoneAdded}
use Rattle.value.specs.Claims.{ByOld}
use Rattle.value.proofs.Root.{root-sound}
use Rattle.value.proofs.Placed.{root-placed}
use Rattle.value.proofs.Delimited.{root-delimits}
use Rattle.value.proofs.Reading.{root_in}
use Rattle.value.proofs.Without.{spelled_kept}
use Rattle.value.proofs.Statements as value
use Rattle.reader.specs.Reading.{Shown}
use Rattle.reader.specs.Entry.{outcome, outcome_of, room, read_outcome}
use Rattle.writer.specs.Writing.{Written}
use Rattle.writer.specs.Entry as writer
use Rattle.writer.specs.Entry.{file_outcome}
use Rattle.promises.specs.Claims.{shapes, first_rows, ReadsAs, NoUnknownBits, OldAnswers, NewByOld}
use Rattle.promises.proofs.Entries.{rows_back, shown-size, refused-from, read_by, shown-from, accepted-shows}
use Rattle.promises.proofs.Reading.{shown-iff-spelled, too_few-rows, tail-iff-unknown, comparisons-of}
use Rattle.promises.proofs.ReadBack.{written-spelled, read_back}

-- ---- what one reader accepts

-- What a payload spells carries no field beyond those of its table.
root_kept : (S : ℕ → Shape) (t : ℕ) (fs : List Field) → S t ≡ struct fs → (v : Value) (payload tail : List ℕ) → RootSpells S fs v payload tail → without S v t ≡ v
unfolding without
root_kept S t fs st (leaf x) payload tail q = absurd q
root_kept S t fs st (node h vs) payload tail (m, _, y, _, _, known, all, _) =
    let b : h < 2 ^ length fs = rw known (mod-lt m (pow_pos (length fs))) in
    rw (st, mod-eq_of_lt b, spelled_kept S 15 (plan (struct fs) h) vs y all)

-- A tail of so many bytes is the payload's last ones.
tail-is : (S : ℕ → Shape) (fs : List Field) (v : Value) (payload tail known added : List ℕ) → RootSpells S fs v payload tail → payload ≡ known ++ added
    → length tail ≡ length added → tail ≡ added
tail-is S fs (leaf x) payload tail known added q split l = absurd q
tail-is S fs (node h vs) payload tail known added (m, x, y, e, _, _, _, _) split l =
    let front : payload ≡ (x ++ y) ++ tail = e ∙ sym (append_assoc x y tail) in
    let both : length (x ++ y) + length tail ≡ length known + length added = sym (length-append (x ++ y) tail) ∙ ap length (sym front ∙ split) ∙ length-append known added in
    let n : length (x ++ y) ≡ length known = omega (arith, both, l) in
    sym (drop_at (x ++ y) tail (length known) n) ∙ ap (drop (length known)) (sym front ∙ split) ∙ drop_at known added (length known) refl

-- What is shown is a value that carries no field beyond those of the table.
shown-value : (s : List ℕ) → IsGood s → (ty : ℕ) (fs : List Field) → shapes s ty ≡ struct fs → (payload sheet : List ℕ) (k place n c : ℕ) (after : List ℕ)
    → read_outcome s ty payload sheet ≡ outcome (Shown k place n c) after
    → (v : Value) × Shows (shapes s) payload ty fs (first_rows k after) v × (without (shapes s) v ty ≡ v)
shown-value s good ty fs st payload sheet k place n c after e =
    let (rs, a, k-is, after_is) = shown-from s ty payload sheet good k place n c after e in
    let (hs, v, is, shows, _) = accepted-shows s ty payload sheet good rs place n c a in
    let same : first_rows k after ≡ rs = rows_back sheet rs k after k-is after_is in
    let fields : hs ≡ fs = cc (is, st) in
    let shows' : Shows (shapes s) payload ty fs rs v = subst (λ (l : List Field). Shows (shapes s) payload ty l rs v) fields shows in
    let shown : Shows (shapes s) payload ty fs (first_rows k after) v = subst (λ (l : List Row). Shows (shapes s) payload ty fs l v) (sym same) shows' in
    let comparisons = (comparisons-of s ty payload sheet k place n c after e fs st v shown).0 in
    let (tail, q, _, _, _, _) = (value.accepted-iff-spelled (table_of s) (good-table s good) ty fs st payload (room sheet) v place n).0 (rs, a ∙ ap (accepted rs place n) comparisons, shows') in
    (v, shown, root_kept (shapes s) ty fs st v payload tail q)

-- ---- two files for which the answer is yes are good, and the new table extends the old one

both-good : (c c' : Checked) (b : Bool) → if_good c (if_good c' (cond b Yes No)) ≡ Yes → (c ≡ Good) × (c' ≡ Good)
both-good Good Good b e = (refl, refl)
both-good Good (Faulty n p) b e = differ cc
both-good (Faulty n p) c' b e = differ cc

module _ (old new : List ℕ) (yes : extension old new ≡ Yes) where
  pub goods : IsGood old × IsGood new
  unfolding extension
  goods = both-good (checked old) (checked new) (extended (table_of old) (table_of new)) yes

  pub extends : Extends (table_of old) (table_of new)
  extends = (yes_iff old new goods.0 goods.1).0 yes

  module _ (ty : ℕ) (fs : List Field) (st : shapes old ty ≡ struct fs) where
    -- A struct of the old table has its fields in the new one too, and perhaps more.
    pub gains : (gs : List Field) × (shapes new ty ≡ struct (fs ++ gs))
    gains = value.gains (table_of old) (table_of new) (good-table old goods.0) (good-table new goods.1) extends ty fs st

    module _ (gs : List Field) (st' : shapes new ty ≡ struct (fs ++ gs)) where
      module _ (payload sheet : List ℕ) (v : Value) where
        abbrev kept : Value
        kept = without (shapes old) v ty

        abbrev ByOldIn : (rows : ℕ) → Option ℕ → Type 0
        ByOldIn rows = ByOld (shapes old) (shapes new) ty fs gs payload rows v (read (table_of old) ty payload rows)

        -- From the answers with the sheet's rows and with just rows enough.
        answers : (first : Option ℕ) → ByOldIn (room sheet) first → ByOldIn (size kept) first → OldAnswers old new ty fs gs payload sheet v first
        answers (some p) e _ = read_by old ty payload sheet goods.0 ∙ ap (outcome_of sheet) e
        answers none _ (rs, known, added, split, spelled, bare, shows, e) =
            let b : leb (length rs) (size kept) ≡ true = le-leb (length rs) (size kept) (omega (arith, shown-size old payload ty fs rs kept shows)) in
            let (tail, q, short, _, l, p) =
            (value.accepted-iff-spelled (table_of old) (good-table old goods.0) ty fs st payload (size kept) kept (length known) (length added)).0 (rs, e ∙ rw b, shows) in
            let same : tail ≡ added = tail-is (shapes old) fs kept payload tail known added q split l in
            let q' : RootSpells (shapes old) fs kept payload added = subst (λ (z : List ℕ). RootSpells (shapes old) fs kept payload z) same q in (
              known,
              added,
              split,
              q',
              spelled,
              bare,
              λ h. (shown-iff-spelled old goods.0 ty fs st payload sheet kept (length known) (length added)).1 (added, q', short, h, refl, p),
              λ h. too_few-rows old goods.0 ty fs st payload sheet kept (length known) (length added) (added, q', short, omega arith, refl, p) h,
            )

        -- A payload without unknown bits that the new rules allow as v, within the limits: what the old reader answers. It is 26 exactly where an inner
        -- struct that is reached through known fields carries an added field, at the first such struct's bitmap; otherwise the value without the added
        -- fields is shown, and the tail is exact. This rules out an old reader that refuses all that a new writer writes, one that skips an unknown bit
        -- in an inner struct, and one that calls any tail fine.
        pub new-by-old : RootSpells (shapes new) (fs ++ gs) v payload [] → length payload ≤ 16384 → NewByOld old new ty fs gs payload sheet v
        new-by-old q short =
            let by_old = value.new-by-old (table_of old) (table_of new) (good-table old goods.0) (good-table new goods.1) extends ty fs st gs st' payload in
            let (tree, end, e, u, a, iff) = by_old (room sheet) v q short in
            let (tree', end', e', _, a', _) = by_old (size kept) v q short in
            let same : tree' ≡ tree = cc (e, e') in
            let spelled = seen_end (root-sound (shapes new) ty (fs ++ gs) (cursor_at payload 0)) e in
            let bare : end.left ≡ [] = (value.payload-once (table_of new) (good-table new goods.1) ty (fs ++ gs) st' payload (value tree) v end.left [] spelled q).1 in
            let whole : end.at ≡ length payload = omega (arith, (root_in (shapes new) ty (fs ++ gs) payload tree end e).1, ap length bare) in (
              tree,
              (seen_end (root-placed payload (shapes new) ty (fs ++ gs) (cursor_at payload 0) (refl, zero-le)) e).1,
              subst (λ (n : ℕ). RootDelimits (shapes new) payload (fs ++ gs) tree n) whole (root-delimits payload (shapes new) ty (fs ++ gs) tree end e),
              u,
              answers (first_added (inner (shapes old) tree ty)) a (subst (λ (x : Tree). ByOldIn (size kept) (first_added (inner (shapes old) x ty))) same a'),
              λ p. (
                λ o. (iff p).0 (refused-from sheet (read (table_of old) ty payload (room sheet)) 26 p sheet (sym (read_by old ty payload sheet goods.0) ∙ o)).0,
                λ f. read_by old ty payload sheet goods.0 ∙ ap (outcome_of sheet) ((iff p).1 f),
              ),
            )

      -- What the writer by the new table writes is such a payload, of the value that its sheet shows.
      pub written-by-new : (cells B out : List ℕ) (n : ℕ) (out' : List ℕ) → file_outcome new ty cells B out ≡ writer.outcome (Written n) out' → (sheet : List ℕ)
          → (v : Value) × Shows (shapes new) B ty (fs ++ gs) (rows_of cells) v × NewByOld old new ty fs gs (take n out') sheet v
      written-by-new cells B out n out' e sheet =
          let (v, shows, q, short) = written-spelled new ty (fs ++ gs) st' cells B out n out' e in
          (v, shows, new-by-old (take n out') sheet v q short)

      -- A payload that the old reader accepts, with no added field's bit set: the new reader gives the same answer, with the same tail, and the same
      -- sheet, and what its rows show by the old table they show by the new one.
      pub old-by-new : (payload sheet : List ℕ) (k place n c : ℕ) (after : List ℕ) → read_outcome old ty payload sheet ≡ outcome (Shown k place n c) after
          → NoneAdded fs gs payload
          → (read_outcome new ty payload sheet ≡ read_outcome old ty payload sheet)
          × ((v : Value) → Shows (shapes old) payload ty fs (first_rows k after) v → Shows (shapes new) payload ty (fs ++ gs) (first_rows k after) v)
      old-by-new payload sheet k place n c after e bare =
          let (rs, a, k-is, after_is) = shown-from old ty payload sheet goods.0 k place n c after e in
          let (b, (w, s, s')) = value.old-by-new (table_of old) (table_of new) (good-table old goods.0) (good-table new goods.1) extends ty fs st gs st' payload (room sheet) rs place n c a bare in
          let same : first_rows k after ≡ rs = rows_back sheet rs k after k-is after_is in (
            read_by new ty payload sheet goods.1 ∙ ap (outcome_of sheet) (b ∙ sym a) ∙ sym (read_by old ty payload sheet goods.0),
            λ v q.
                let q' : Shows (shapes old) payload ty fs rs v = subst (λ (l : List Row). Shows (shapes old) payload ty fs l v) same q in
                let once : w ≡ v = value.told-once (table_of old) (good-table old goods.0) ty fs st payload payload w v rs rs s q' refl in
                let n : Shows (shapes new) payload ty (fs ++ gs) rs v = subst (λ (x : Value). Shows (shapes new) payload ty (fs ++ gs) rs x) once s' in
                subst (λ (l : List Row). Shows (shapes new) payload ty (fs ++ gs) l v) (sym same) n,
          )

      -- None is set where the old reader has no tail.
      pub none-added : (payload sheet : List ℕ) (k place c : ℕ) (after : List ℕ) → read_outcome old ty payload sheet ≡ outcome (Shown k place 0 c) after
          → NoneAdded fs gs payload
      none-added payload sheet k place c after e =
          let (rs, a, _, _) = shown-from old ty payload sheet goods.0 k place 0 c after e in
          value.none-added (table_of old) (table_of new) (good-table old goods.0) (good-table new goods.1) extends ty fs st gs st' payload (room sheet) rs place c a

      -- What the writer by the old table writes is such a payload: with rows enough both readers show the value of its sheet, with no tail.
      pub written-by-old : (cells B out : List ℕ) (n : ℕ) (out' : List ℕ) → file_outcome old ty cells B out ≡ writer.outcome (Written n) out'
          → (sheet : List ℕ) → length cells / 4 ≤ room sheet
          → (v : Value) × Shows (shapes old) B ty fs (rows_of cells) v
          × ReadsAs old ty fs (take n out') sheet v n 0
          × ReadsAs new ty (fs ++ gs) (take n out') sheet v n 0
      written-by-old cells B out n out' e sheet h =
          let (hs, v, is, shows, r) = read_back old ty cells B out n out' e sheet h in
          let same : hs ≡ fs = cc (is, st) in
          let shows' : Shows (shapes old) B ty fs (rows_of cells) v = subst (λ (l : List Field). Shows (shapes old) B ty l (rows_of cells) v) same shows in
          let r' : ReadsAs old ty fs (take n out') sheet v n 0 = subst (λ (l : List Field). ReadsAs old ty l (take n out') sheet v n 0) same r in
          let (after, o, q, l, d) = r' in
          let (equal, shown) = old-by-new (take n out') sheet (size v) n 0 _ after o (none-added (take n out') sheet (size v) n _ after o) in
          let comparisons = (comparisons-of new ty (take n out') sheet (size v) n 0 _ after (equal ∙ o) (fs ++ gs) st' v (shown v q)).0 in
          let o' = ap (λ (c : ℕ). outcome (Shown (size v) n 0 c) after) comparisons in
          (v, shows', r', (after, equal ∙ o ∙ o', shown v q, l, d))

    -- A payload without unknown bits that the old reader accepts: the new reader gives the very same answer and sheet, and there is no tail. The rows show
    -- one value by both tables, and no struct in it carries an added field.
    pub accepted-by-both : (payload sheet : List ℕ) (k place n c : ℕ) (after : List ℕ) → read_outcome old ty payload sheet ≡ outcome (Shown k place n c) after
        → NoUnknownBits fs payload
        → (read_outcome new ty payload sheet ≡ outcome (Shown k place n c) after)
        × (n ≡ 0)
        × ((gs : List Field) × (v : Value)
        × (shapes new ty ≡ struct (fs ++ gs))
        × Shows (shapes old) payload ty fs (first_rows k after) v
        × Shows (shapes new) payload ty (fs ++ gs) (first_rows k after) v
        × (without (shapes old) v ty ≡ v))
    accepted-by-both payload sheet k place n c after e known =
        let (gs, st') = gains in
        let none : n ≡ 0 = (tail-iff-unknown old ty fs st payload sheet k place n c after e).1 known in
        let e' : read_outcome old ty payload sheet ≡ outcome (Shown k place 0 c) after = e ∙ ap (λ (m : ℕ). outcome (Shown k place m c) after) none in
        let (same, shown) = old-by-new gs st' payload sheet k place n c after e (none-added gs st' payload sheet k place c after e') in
        let (v, shows, kept) = shown-value old goods.0 ty fs st payload sheet k place n c after e in
        (same ∙ e, none, (gs, v, st', shows, shown v shows, kept))
