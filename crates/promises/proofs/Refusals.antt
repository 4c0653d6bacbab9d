-- The refusals of `read` and `write`, each beside its reason.
use mathlib.Core.Path.{◌≡◌, refl, ap, ◌∙◌}
use mathlib.Core.Logic.{inl, inr, ⊎_elim, ◌↔◌}
use mathlib.Core.List.{List, ◌++◌}
use Prim.Native.Nat.{ℕ, ◌≤◌, ◌<◌}
use native.Mathlib.Omega.{arith}
use lib.ListN.{length}
use Rattle.schema.specs.declared.Field.{Field}
use Rattle.schema.specs.Checked.{Checked}
use Rattle.schema.specs.Checked.{Good, Refused as Faulty}
use Rattle.schema.specs.Table.{struct}
use Rattle.schema.specs.File.{table_of}
use Rattle.schema.specs.Check.{checked, IsGood}
use Rattle.schema.specs.Faults.{TableFault}
use Rattle.schema.proofs.Faults.{refused-iff as schema-refused}
use Rattle.schema.proofs.Goods.{good-table}
use Rattle.schema.proofs.Numbered as file
use Rattle.value.specs.Read.{refusal, read}
use Rattle.value.specs.Sheet.{rows_of}
use Rattle.value.specs.Reasons.{RootFault, Reason, Settles}
use Rattle.value.proofs.Numbers.{reason-number, sheet-reason-number, read-number-above, write-number-above}
use Rattle.value.proofs.Statements as value
use Rattle.reader.specs.Reading.{Refused}
use Rattle.reader.specs.Entry.{outcome, outcome_of, room, by_table, read_outcome, payload_outcome}
use Rattle.writer.specs.Writing.{Refused as Unwritten}
use Rattle.writer.specs.Entry as writer
use Rattle.promises.specs.Claims.{shapes, ReadReason, WriteReason}
use Rattle.writer.proofs.Outcomes.{write-by, refused-from as unwritten-from}
use Rattle.promises.proofs.Entries.{read_by, refused-from}

-- ---- the reader

module _ (s : List ℕ) (ty : ℕ) (payload sheet : List ℕ) where
  iff : IsGood s → (n q : ℕ) → (read (table_of s) ty payload (room sheet) ≡ refusal n q) ↔ Reason (shapes s) ty payload (room sheet) n q
  iff good = value.refused-iff (table_of s) (good-table s good) ty payload (room sheet)

  refused-by : (c : Checked) → checked s ≡ c → (n q : ℕ) (after : List ℕ) → by_table c s ty payload sheet ≡ outcome (Refused n q) after
      → (after ≡ sheet) × ReadReason s ty payload (room sheet) n q
  unfolding payload_outcome
  refused-by Good good n q after e = let (r, same) = refused-from sheet (read (table_of s) ty payload (room sheet)) n q after e in (same, inr (good, (iff good n q).0 r))
  refused-by (Faulty m p) bad n q after e = (cc, inl ((schema-refused s n q).0 (bad ∙ cc)))

  refuses : (n q : ℕ) (after : List ℕ) → (after ≡ sheet) × ReadReason s ty payload (room sheet) n q → read_outcome s ty payload sheet ≡ outcome (Refused n q) after
  unfolding read_outcome
  refuses n q after (same, inl bad) = rw (same, (schema-refused s n q).1 bad)
  refuses n q after (same, inr (good, r)) = rw same (read_by s ty payload sheet good ∙ ap (outcome_of sheet) ((iff good n q).1 r))

  -- The reader refuses with a number at a place exactly for its reason: the schema file's own refusal, or what stands at that place of the payload and
  -- before it. The sheet stays untouched.
  pub read-refused-iff : (n q : ℕ) (after : List ℕ)
      → (read_outcome s ty payload sheet ≡ outcome (Refused n q) after) ↔ ((after ≡ sheet) × ReadReason s ty payload (room sheet) n q)
  unfolding read_outcome
  read-refused-iff n q after = (refused-by (checked s) refl n q after, refuses n q after)

-- Where the number is 21 to 26, 28 or 31, what follows the faulty bytes does not matter: with any other bytes there, as many or more, the payload is
-- refused alike.
pub after_free : (s : List ℕ) → IsGood s → (ty : ℕ) (fs : List Field) (u x rest : List ℕ) (n : ℕ) → shapes s ty ≡ struct fs
    → RootFault (shapes s) fs u x rest n → Settles n → (more sheet : List ℕ) → length rest ≤ length more → length (u ++ (x ++ more)) ≤ 16384
    → read_outcome s ty (u ++ (x ++ more)) sheet ≡ outcome (Refused n (length u)) sheet
after_free s good ty fs u x rest n st f w more sheet longer short =
    read_by s ty (u ++ (x ++ more)) sheet good
    ∙ ap (outcome_of sheet) (value.after_free (table_of s) (good-table s good) ty fs u x rest n st f w more (room sheet) longer short)

-- ---- the writer

module _ (s : List ℕ) (ty : ℕ) (sheet B out : List ℕ) where
  unwrites : (n q : ℕ) (out' : List ℕ) → (out' ≡ out) × WriteReason s ty (rows_of sheet) B (length out) n q → writer.file_outcome s ty sheet B out ≡ writer.outcome (Unwritten n q) out'
  unfolding writer.file_outcome
  unwrites n q out' (same, inl bad) = rw (same, (schema-refused s n q).1 bad)
  unwrites n q out' (same, inr (good, r)) =
      rw same (write-by s ty sheet B out good ∙ ap (writer.outcome_of out) ((value.write-refused-iff (table_of s) (good-table s good) ty (rows_of sheet) B (length out) n q).1 r))

  -- The writer refuses with a number at a row exactly for its reason: the schema file's own refusal, or what that row shows and the rows before it. The
  -- output stays untouched.
  pub write-refused-iff : (n q : ℕ) (out' : List ℕ)
      → (writer.file_outcome s ty sheet B out ≡ writer.outcome (Unwritten n q) out') ↔ ((out' ≡ out) × WriteReason s ty (rows_of sheet) B (length out) n q)
  write-refused-iff n q out' = (
    λ e.
        let (same, why) = unwritten-from s ty sheet B out n q out' e in
        (same, ⊎_elim (λ bad. inl ((schema-refused s n q).0 bad)) (λ (good, r). inr (good, (value.write-refused-iff (table_of s) (good-table s good) ty (rows_of sheet) B (length out) n q).0 r)) why),
    unwrites n q out',
  )

-- ---- no refusal has the number 0

pub file-numbers : (s : List ℕ) (n q : ℕ) → TableFault s n q → (40 ≤ n) × (n ≤ 44)
file-numbers s n q w = let b = file.listed-bounds (table_of s) (file.listed s n q ((schema-refused s n q).1 w)) in (b.0, b.1)

pub file-above : (s : List ℕ) (n q : ℕ) → TableFault s n q → 0 < n
file-above s n q w = omega (arith, (file-numbers s n q w).0)

pub read-refused-above : (s : List ℕ) (ty : ℕ) (payload sheet : List ℕ) (n q : ℕ) (after : List ℕ) → read_outcome s ty payload sheet ≡ outcome (Refused n q) after → 0 < n
read-refused-above s ty payload sheet n q after e =
    ⊎_elim (file-above s n q) (λ w. read-number-above (reason-number w.1)) ((read-refused-iff s ty payload sheet n q after).0 e).1

pub write-refused-above : (s : List ℕ) (ty : ℕ) (sheet B out : List ℕ) (n q : ℕ) (out' : List ℕ) → writer.file_outcome s ty sheet B out ≡ writer.outcome (Unwritten n q) out' → 0 < n
write-refused-above s ty sheet B out n q out' e =
    ⊎_elim (file-above s n q) (λ w. write-number-above (sheet-reason-number w.1)) ((write-refused-iff s ty sheet B out n q out').0 e).1
