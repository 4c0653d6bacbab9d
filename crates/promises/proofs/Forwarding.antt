-- What `forward` writes. What `read` accepts is forwarded by the same table to the same bytes, so that a relay by an old table harms nothing
-- that a new writer wrote.
use mathlib.Core.Path.{◌≡◌, refl, sym, ap, ◌∙◌, subst}
use mathlib.Core.Logic.{inl, inr, ⊎_elim, ◌↔◌}
use mathlib.Core.List.{List, [], ◌++◌}
use Prim.Native.Nat.{ℕ, ◌+◌, ◌*◌, ◌/◌, ◌≤◌, ◌<◌}
use native.Mathlib.Omega.{arith}
use lib.ListN.{length, take, drop}
use lib.Seq.{take_at}
use Rattle.buffer.specs.Span.{span}
use Rattle.wire.specs.Little.{Bytes}
use Rattle.wire.proofs.Numbers.{bytes_take}
use Rattle.schema.specs.declared.Field.{Field}
use Rattle.schema.specs.Checked.{Refused as Faulty}
use Rattle.schema.specs.Extended.{Yes}
use Rattle.schema.specs.Table.{Shape, struct}
use Rattle.schema.specs.File.{table_of}
use Rattle.schema.specs.Check.{checked, IsGood}
use Rattle.schema.specs.Extend.{extension}
use Rattle.schema.proofs.Faults.{refused-iff as schema-refused}
use Rattle.schema.proofs.Goods.{good-table}
use Rattle.value.specs.declared.Row.{Row}
use Rattle.value.specs.Value.{Value, size}
use Rattle.value.specs.Sheet.{rows_of}
use Rattle.value.specs.Spell.{TailFits, RootSpells, encode}
use Rattle.value.specs.Write.{written, write}
use Rattle.value.specs.Fits.{Shows}
use Rattle.value.proofs.Numbers.{sheet-reason-number, write-number-above}
use Rattle.reader.specs.Reading.{Shown}
use Rattle.reader.specs.Entry.{outcome, room, read_outcome}
use Rattle.writer.specs.Writing.{Written, Refused}
use Rattle.writer.specs.Entry as writer
use Rattle.writer.specs.Entry.{file_outcome}
use Rattle.writer.proofs.Outcomes.{taken-apart, refused-apart, refused-is, write-by, written_is}
use Rattle.forward.specs.Forward.{root_unknown, forward}
use Rattle.forward.specs.Entry.{sheet_forwarded, forward_outcome}
use Rattle.forward.specs.Claims.{TailReason, by_rows, outside, unfit, whole_long, whole_tight, Passes, Forwards}
use Rattle.forward.proofs.Statements as forward
use Rattle.promises.specs.Claims.{shapes, first_rows, ReadsAs, ForwardReason}
use Rattle.promises.proofs.Entries.{rows_back, shown-good, shown-from}
use Rattle.promises.proofs.Refusals.{file-above}
use Rattle.promises.proofs.Reading.{shown-iff-spelled}
use Rattle.promises.proofs.ReadBack.{read_back}
use Rattle.promises.proofs.Extension.{goods}

module _ (s : List ℕ) (ty : ℕ) (sheet B : List ℕ) (place n : ℕ) (out : List ℕ) where
  -- By a good file, what the forwarding by its table is.
  pub forward-by : IsGood s → forward_outcome s ty sheet B place n out ≡ writer.outcome_of out (forward (table_of s) ty (rows_of sheet) B place n (length out))
  unfolding forward_outcome sheet_forwarded
  forward-by good = rw good

  -- What is forwarded, only by a good file.
  apart : (k : ℕ) (out' : List ℕ) → forward_outcome s ty sheet B place n out ≡ writer.outcome (Written k) out'
      → (bs : List ℕ) × IsGood s × (forward (table_of s) ty (rows_of sheet) B place n (length out) ≡ written bs) × (length bs ≡ k) × (take k out' ≡ bs) × (out' ≡ bs ++ drop k out)
  unfolding forward_outcome sheet_forwarded
  apart k out' e = taken-apart (checked s) (forward (table_of s) ty (rows_of sheet) B place n (length out)) out k out' e

  -- ---- refusals, in their order

  -- The table's come first.
  pub table-first : (k q : ℕ) → checked s ≡ Faulty k q → forward_outcome s ty sheet B place n out ≡ writer.outcome (Refused k q) out
  unfolding forward_outcome
  table-first k q e = rw e

  module _ (good : IsGood s) where
    -- Then those of the plain writer, but for 7 and 52.
    pub refused-alike : (k q : ℕ) (out' : List ℕ) → file_outcome s ty sheet B out ≡ writer.outcome (Refused k q) out' → (k ≡ 7 → ⊥) → (k ≡ 52 → ⊥)
        → forward_outcome s ty sheet B place n out ≡ writer.outcome (Refused k q) out
    refused-alike k q out' e no7 no52 =
        let a = refused-is (write (table_of s) ty (rows_of sheet) B (length out)) out k q out' (sym (write-by s ty sheet B out good) ∙ e) in
        forward-by good ∙ ap (writer.outcome_of out) (forward.refused-alike (table_of s) ty (rows_of sheet) B place n (length out) (length out) k q a no7 no52)

    -- For a sheet that shows a value, left over rows too are past. Then 51 at 0 for a tail outside the bytes,
    module _ (fs : List Field) (st : shapes s ty ≡ struct fs) (v : Value) (shows : Shows (shapes s) B ty fs (rows_of sheet) v) where
      pub tail-outside : length B < place + n → forward_outcome s ty sheet B place n out ≡ writer.outcome (Refused 51 0) out
      tail-outside h =
          forward-by good ∙ ap (writer.outcome_of out) (forward.tail-outside (table_of s) ty (rows_of sheet) B place n (length out) fs st v shows h)

      module _ (within : place + n ≤ length B) where
        -- 50 at 0 for one shorter than the unknown bits, or present without any,
        pub tail-unfit : (TailFits (root_unknown fs (rows_of sheet) B) (span B place n) → ⊥) → forward_outcome s ty sheet B place n out ≡ writer.outcome (Refused 50 0) out
        tail-unfit h =
            forward-by good ∙ ap (writer.outcome_of out) (forward.tail-unfit (table_of s) ty (rows_of sheet) B place n (length out) fs st v shows within h)

        module _ (fits : TailFits (root_unknown fs (rows_of sheet) B) (span B place n)) where
          -- 7 and then 52 for the whole.
          pub too_long : 16384 < length (encode (shapes s) v ty) + n → forward_outcome s ty sheet B place n out ≡ writer.outcome (Refused 7 0) out
          too_long h =
              forward-by good ∙ ap (writer.outcome_of out) (forward.too_long (table_of s) ty (rows_of sheet) B place n (length out) fs st v shows within fits h)

          pub no_room : length (encode (shapes s) v ty) + n ≤ 16384 → length out < length (encode (shapes s) v ty) + n
              → forward_outcome s ty sheet B place n out ≡ writer.outcome (Refused 52 0) out
          no_room l h =
              forward-by good ∙ ap (writer.outcome_of out) (forward.no_room (table_of s) ty (rows_of sheet) B place n (length out) fs st v shows within fits l h)

  refuses : (k q : ℕ) (out' : List ℕ) → (out' ≡ out) × ForwardReason s ty (rows_of sheet) B place n (length out) k q
      → forward_outcome s ty sheet B place n out ≡ writer.outcome (Refused k q) out'
  refuses k q out' (same, inl bad) = rw same (table-first k q ((schema-refused s k q).1 bad))
  refuses k q out' (same, inr (good, r)) =
      rw same (forward-by good ∙ ap (writer.outcome_of out) ((forward.refused-iff (table_of s) ty (rows_of sheet) B place n (length out) (good-table s good) k q).1 r))

  -- `forward` refuses with a number at a row exactly for its reason: the schema file's own refusal, or one that is listed for a sheet with a tail, as it is
  -- said there. The output stays untouched.
  pub refused-iff : (k q : ℕ) (out' : List ℕ)
      → (forward_outcome s ty sheet B place n out ≡ writer.outcome (Refused k q) out') ↔ ((out' ≡ out) × ForwardReason s ty (rows_of sheet) B place n (length out) k q)
  unfolding forward_outcome sheet_forwarded
  refused-iff k q out' = (
    λ e.
        let (same, why) = refused-apart (checked s) (forward (table_of s) ty (rows_of sheet) B place n (length out)) out k q out' e in
        (same, ⊎_elim (λ bad. inl ((schema-refused s k q).0 bad)) (λ (good, r). inr (good, (forward.refused-iff (table_of s) ty (rows_of sheet) B place n (length out) (good-table s good) k q).0 r)) why),
    refuses k q out',
  )

  -- ---- what is accepted

  -- A sheet is forwarded exactly when the schema file is good, and the sheet shows a value and the tail fits, with the whole a payload and room for it.
  pub accepted-iff : ((k : ℕ) × (out' : List ℕ) × (forward_outcome s ty sheet B place n out ≡ writer.outcome (Written k) out'))
      ↔ (IsGood s × Passes (shapes s) ty (rows_of sheet) B place n (length out))
  accepted-iff = (
    λ (k, out', e).
        let (bs, good, w, _, _, _) = apart k out' e in
        (good, (forward.accepted-iff (table_of s) ty (rows_of sheet) B place n (length out)).0 (bs, w)),
    λ (good, p).
        let (bs, w) = (forward.accepted-iff (table_of s) ty (rows_of sheet) B place n (length out)).1 p in
        (length bs, bs ++ drop (length bs) out, forward-by good ∙ ap (writer.outcome_of out) w),
  )

  -- What is written stands at the output's front, and past it nothing changes. It spells the value that the sheet shows, ends in the tail, and keeps the
  -- root's presence bytes as they stand; and no other bytes do, by a good file. Every lent slice of bytes meets `Bytes`.
  pub forwarded-iff-spelled : (k : ℕ) (out' : List ℕ) → Bytes out'
      → (forward_outcome s ty sheet B place n out ≡ writer.outcome (Written k) out')
      ↔ (IsGood s × ((bs : List ℕ) × Forwards (shapes s) ty (rows_of sheet) B place n (length out) bs × (length bs ≡ k) × (out' ≡ bs ++ drop k out)))
  forwarded-iff-spelled k out' b = (
    λ e.
        let (bs, good, w, l, _, o) = apart k out' e in
        (good, (bs, (iff good bs (front bs l o)).0 w, l, o)),
    λ (good, (bs, f, l, o)).
        let w = forward-by good ∙ ap (writer.outcome_of out) ((iff good bs (front bs l o)).1 f) in
        rw (o, ← l) w,
  )
    where
      front : (bs : List ℕ) → length bs ≡ k → out' ≡ bs ++ drop k out → Bytes bs
      front bs l o = subst Bytes (ap (take k) o ∙ take_at bs (drop k out) k l) (bytes_take k out' b)

      iff : IsGood s → (bs : List ℕ) → Bytes bs
          → (forward (table_of s) ty (rows_of sheet) B place n (length out) ≡ written bs) ↔ Forwards (shapes s) ty (rows_of sheet) B place n (length out) bs
      iff good bs b = forward.forwarded-iff-spelled (table_of s) ty (rows_of sheet) B place n (length out) (good-table s good) bs b

-- No refusal has the number 0.
listed_above : {S : ℕ → Shape} {t : ℕ} {rs : List Row} {B : List ℕ} {place n space k q : ℕ} → TailReason S t rs B place n space k q → 0 < k
listed_above (by_rows r _) = write-number-above (sheet-reason-number r)
listed_above (outside _ _ _ _ _) = omega arith
listed_above (unfit _ _ _ _ _ _) = omega arith
listed_above (whole_long _ _ _ _ _ _ _) = omega arith
listed_above (whole_tight _ _ _ _ _ _ _ _) = omega arith

pub refused-above : (s : List ℕ) (ty : ℕ) (sheet B : List ℕ) (place n : ℕ) (out : List ℕ) (k q : ℕ) (out' : List ℕ)
    → forward_outcome s ty sheet B place n out ≡ writer.outcome (Refused k q) out' → 0 < k
refused-above s ty sheet B place n out k q out' e =
    ⊎_elim (file-above s k q) (λ w. listed_above w.1) ((refused-iff s ty sheet B place n out k q out').0 e).1

-- What is read, with a tail or without one, is forwarded by the same file, as just the rows shown with the tail told, to the very same bytes, where the
-- output is as long. Every lent slice of bytes meets `Bytes`.
pub same_bytes : (s : List ℕ) (ty : ℕ) (payload sheet : List ℕ) (k place n c : ℕ) (after : List ℕ) → Bytes payload
    → read_outcome s ty payload sheet ≡ outcome (Shown k place n c) after
    → (out : List ℕ) → length payload ≤ length out
    → forward_outcome s ty (take (4 * k) after) payload place n out ≡ writer.outcome (Written (length payload)) (payload ++ drop (length payload) out)
same_bytes s ty payload sheet k place n c after b e out h =
    let good = shown-good s ty payload sheet k place n c after e in
    let (rs, a, k-is, after_is) = shown-from s ty payload sheet good k place n c after e in
    let same : first_rows k after ≡ rs = rows_back sheet rs k after k-is after_is in
    let w = forward.same_bytes (table_of s) (good-table s good) ty payload (room sheet) rs place n c b a (length out) h in
    let w' = ap (λ (l : List Row). forward (table_of s) ty l payload place n (length out)) same ∙ w in
    forward-by s ty (take (4 * k) after) payload place n out good ∙ ap (writer.outcome_of out) w'

-- ---- a relay by an old file, between a writer and a reader by a new one that extends it

module _ (old new : List ℕ) (ty : ℕ) where
  -- Any payload without unknown bits that the new rules allow as v, and that the old reader accepts: with room enough it comes out of the relay such that
  -- the new reader, with rows enough, shows v whole. All that it answers and every cell of its sheet is as for the payload itself.
  pub relayed : extension old new ≡ Yes → (hs : List Field) → shapes new ty ≡ struct hs → (payload : List ℕ) (v : Value) → Bytes payload → RootSpells (shapes new) hs v payload [] → length payload ≤ 16384
      → (sheet : List ℕ) (k place n c : ℕ) (after : List ℕ) → read_outcome old ty payload sheet ≡ outcome (Shown k place n c) after
      → (out : List ℕ) → length payload ≤ length out → (sheet' : List ℕ) → size v ≤ room sheet'
      → (m : ℕ) × (out' : List ℕ) × (forward_outcome old ty (take (4 * k) after) payload place n out ≡ writer.outcome (Written m) out')
      × ReadsAs new ty hs (take m out') sheet' v m 0
      × (read_outcome new ty (take m out') sheet' ≡ read_outcome new ty payload sheet')
  relayed extends hs st payload v b q short sheet k place n c after e out h sheet' h' =
      let r = (shown-iff-spelled new (goods old new extends).1 ty hs st payload sheet' v (length payload) 0).1 ([], q, short, h', refl, omega arith) in
      let same : take (length payload) (payload ++ drop (length payload) out) ≡ payload = take_at payload (drop (length payload) out) (length payload) refl in (
        length payload,
        payload ++ drop (length payload) out,
        same_bytes old ty payload sheet k place n c after b e out h,
        subst (λ (p : List ℕ). ReadsAs new ty hs p sheet' v (length payload) 0) (sym same) r,
        ap (λ (p : List ℕ). read_outcome new ty p sheet') same,
      )

  -- The same for whatever the writer by the new file writes: the value shown after the relay is that of the writer's sheet. Here the old file is any that
  -- accepts what was written, whether the new one extends it or not.
  pub relayed-written : (cells B o : List ℕ) (m : ℕ) (o' : List ℕ) → Bytes o' → file_outcome new ty cells B o ≡ writer.outcome (Written m) o'
      → (sheet : List ℕ) (k place n c : ℕ) (after : List ℕ) → read_outcome old ty (take m o') sheet ≡ outcome (Shown k place n c) after
      → (out : List ℕ) → m ≤ length out → (sheet' : List ℕ) → length cells / 4 ≤ room sheet'
      → (hs : List Field) × (v : Value) × (out' : List ℕ) × (shapes new ty ≡ struct hs)
      × Shows (shapes new) B ty hs (rows_of cells) v
      × (forward_outcome old ty (take (4 * k) after) (take m o') place n out ≡ writer.outcome (Written m) out')
      × (take m out' ≡ take m o')
      × ReadsAs new ty hs (take m out') sheet' v m 0
  relayed-written cells B o m o' b w sheet k place n c after e out h sheet' h' =
      let (hs, v, is, shows, r) = read_back new ty cells B o m o' w sheet' h' in
      let (bs, _, l, front, _) = written_is new ty cells B o m o' w in
      let long : length (take m o') ≡ m = ap length front ∙ l in
      let f = same_bytes old ty (take m o') sheet k place n c after (bytes_take m o' b) e out (omega (arith, long, h)) in
      let f' = f ∙ ap (λ (i : ℕ). writer.outcome (Written i) (take m o' ++ drop i out)) long in
      let same : take m (take m o' ++ drop m out) ≡ take m o' = take_at (take m o') (drop m out) m long in (
        hs,
        v,
        take m o' ++ drop m out,
        is,
        shows,
        f',
        same,
        subst (λ (p : List ℕ). ReadsAs new ty hs p sheet' v m 0) (sym same) r,
      )
