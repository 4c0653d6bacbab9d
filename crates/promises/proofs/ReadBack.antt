-- The writer, and both together: what `write` writes is read back as the value of its sheet, and what `read` shows is written, without
-- unknown bits to the same bytes.
use mathlib.Core.Path.{◌≡◌, sym, ap, ◌∙◌, subst}
use mathlib.Core.Logic.{◌↔◌}
use mathlib.Core.List.{List, [], ◌++◌}
use Prim.Native.Nat.{ℕ, ◌*◌, ◌/◌, ◌≤◌}
use native.Mathlib.Omega.{arith}
use lib.ListN.{length, take, drop}
use Rattle.wire.specs.Little.{Bytes}
use Rattle.wire.proofs.Cases.{nothing_left}
use Rattle.schema.specs.declared.Field.{Field}
use Rattle.schema.specs.Table.{struct}
use Rattle.schema.specs.File.{table_of}
use Rattle.schema.specs.Check.{IsGood}
use Rattle.schema.proofs.Goods.{good-table}
use Rattle.value.specs.declared.Row.{Row}
use Rattle.value.specs.Value.{Value}
use Rattle.value.specs.Write.{written, write}
use Rattle.value.specs.Sheet.{rows_of}
use Rattle.value.specs.Spell.{RootSpells}
use Rattle.value.specs.Fits.{Shows}
use Rattle.value.specs.Claims.{Writes}
use Rattle.value.proofs.Sheets.{length-rows}
use Rattle.value.proofs.Statements as value
use Rattle.reader.specs.Reading.{Shown}
use Rattle.reader.specs.Entry.{outcome, room, read_outcome}
use Rattle.writer.specs.Writing.{Written, Refused}
use Rattle.writer.specs.Entry as writer
use Rattle.writer.specs.Entry.{file_outcome}
use Rattle.promises.specs.Claims.{shapes, first_rows, ReadsAs, NoUnknownBits}
use Rattle.promises.proofs.Refusals.{write-refused-iff}
use Rattle.promises.proofs.Reading.{tail-iff-unknown}
use Rattle.writer.proofs.Outcomes.{write-by, written-good, written_is}
use Rattle.promises.proofs.Entries.{rows_back, shown-good, shown-from, reads_of}

-- By a good file a sheet over its bytes is accepted exactly when it shows a value whose encoding is a payload and fits into the output. The encoding
-- stands at the output's front, and past it nothing changes. This rules out a writer that refuses all or writes nothing.
pub written-iff-shown : (s : List ℕ) → IsGood s → (ty : ℕ) (sheet B out : List ℕ) (n : ℕ) (out' : List ℕ)
    → (file_outcome s ty sheet B out ≡ writer.outcome (Written n) out')
    ↔ ((bs : List ℕ) × Writes (shapes s) ty (rows_of sheet) B (length out) bs × (length bs ≡ n) × (out' ≡ bs ++ drop n out))
written-iff-shown s good ty sheet B out n out' = (
  λ e. let (bs, w, l, _, o) = written_is s ty sheet B out n out' e in (bs, (iff bs).0 w, l, o),
  λ (bs, w, l, o).
      let a = write-by s ty sheet B out good ∙ ap (writer.outcome_of out) ((iff bs).1 w) in
      rw (o, ← l) a,
)
  where
    iff : (bs : List ℕ) → (write (table_of s) ty (rows_of sheet) B (length out) ≡ written bs) ↔ Writes (shapes s) ty (rows_of sheet) B (length out) bs
    iff bs = value.written-iff-shown (table_of s) (good-table s good) ty (rows_of sheet) B (length out) bs

-- At every refusal, the schema file's too, the output stays untouched.
pub refused-untouched : (s : List ℕ) (ty : ℕ) (sheet B out : List ℕ) (n q : ℕ) (out' : List ℕ)
    → file_outcome s ty sheet B out ≡ writer.outcome (Refused n q) out' → out' ≡ out
refused-untouched s ty sheet B out n q out' e = ((write-refused-iff s ty sheet B out n q out').0 e).0

whole : (s : List ℕ) (ty : ℕ) (fs : List Field) (v : Value) (sheet bs payload : List ℕ) (n : ℕ) → payload ≡ bs → length bs ≡ n
    → ReadsAs s ty fs bs sheet v (length bs) 0 → ReadsAs s ty fs payload sheet v n 0
whole s ty fs v sheet bs payload n e l r = rw (e, ← l) r

module _ (s : List ℕ) (ty : ℕ) (sheet B out : List ℕ) (n : ℕ) (out' : List ℕ) where
  -- What is written is read back, by the same file and type and into a sheet with rows enough, as the value that the writer's sheet shows over its
  -- bytes, with no tail. This rules out one fixed answer, a writer that writes nothing, and invented rows.
  pub read_back : file_outcome s ty sheet B out ≡ writer.outcome (Written n) out' → (sheet' : List ℕ) → length sheet / 4 ≤ room sheet'
      → (fs : List Field) × (v : Value)
      × (shapes s ty ≡ struct fs)
      × Shows (shapes s) B ty fs (rows_of sheet) v
      × ReadsAs s ty fs (take n out') sheet' v n 0
  read_back e sheet' h =
      let good = written-good s ty sheet B out n out' e in
      let (bs, w, l, t, _) = written_is s ty sheet B out n out' e in
      let (fs, v, st, shows, r) = value.read_back (table_of s) (good-table s good) ty (rows_of sheet) B (length out) bs w (room sheet') (omega (arith, length-rows sheet, h)) in
      (fs, v, st, shows, whole s ty fs v sheet' bs (take n out') n t l (reads_of s ty bs sheet' good fs v (length bs) 0 r))

-- What is written spells the value that the writer's sheet shows, within the limit and with nothing after it.
pub written-spelled : (s : List ℕ) (ty : ℕ) (fs : List Field) → shapes s ty ≡ struct fs → (cells B out : List ℕ) (n : ℕ) (out' : List ℕ)
    → file_outcome s ty cells B out ≡ writer.outcome (Written n) out'
    → (v : Value) × Shows (shapes s) B ty fs (rows_of cells) v × RootSpells (shapes s) fs v (take n out') [] × (length (take n out') ≤ 16384)
written-spelled s ty fs st cells B out n out' e =
    let good = written-good s ty cells B out n out' e in
    let (bs, w, _, t, _) = written_is s ty cells B out n out' e in
    let (hs, v, is, shows, r) = value.read_back (table_of s) (good-table s good) ty (rows_of cells) B (length out) bs w (length (rows_of cells)) (omega arith) in
    let same : hs ≡ fs = cc (is, st) in
    let (tail, q, short, _, bare, _) = (value.accepted-iff-spelled (table_of s) (good-table s good) ty hs is bs (length (rows_of cells)) v (length bs) 0).0 r in
    let q' : RootSpells (shapes s) fs v bs [] =
    subst (λ (z : List ℕ). RootSpells (shapes s) fs v bs z) (nothing_left tail bare) (subst (λ (l : List Field). RootSpells (shapes s) l v bs tail) same q) in (
      v,
      subst (λ (l : List Field). Shows (shapes s) B ty l (rows_of cells) v) same shows,
      subst (λ (p : List ℕ). RootSpells (shapes s) fs v p []) (sym t) q',
      subst (λ (p : List ℕ). length p ≤ 16384) (sym t) short,
    )

-- What the writer answers to just the rows shown over the payload.
rewritten : (s : List ℕ) (ty : ℕ) (payload sheet : List ℕ) (k place n c : ℕ) (after : List ℕ) → Bytes payload
    → read_outcome s ty payload sheet ≡ outcome (Shown k place n c) after
    → (out : List ℕ) → length payload ≤ length out
    → (bs : List ℕ) × (file_outcome s ty (take (4 * k) after) payload out ≡ writer.outcome (Written (length bs)) (bs ++ drop (length bs) out))
    × (length bs ≤ length payload)
    × (n ≡ 0 → bs ≡ payload)
    × (length (first_rows k after) ≡ k)
rewritten s ty payload sheet k place n c after b e out h =
    let good = shown-good s ty payload sheet k place n c after e in
    let (rs, a, k-is, after_is) = shown-from s ty payload sheet good k place n c after e in
    let same : first_rows k after ≡ rs = rows_back sheet rs k after k-is after_is in
    let (_, _, bs, _, _, w, short, bare, _) = value.read-then-write (table_of s) (good-table s good) ty payload (room sheet) rs place n c b a (length out) h in
    let w' = ap (λ (l : List Row). write (table_of s) ty l payload (length out)) same ∙ w in
    (bs, write-by s ty (take (4 * k) after) payload out good ∙ ap (writer.outcome_of out) w', short, bare, ap length same ∙ k-is)

-- What is read, given to the writer as just the rows shown over the payload, is accepted where the output is as long as the payload, and written in
-- no more bytes. These are read as the same value, the root's unknown bits and tail gone. Every lent slice of bytes meets `Bytes`.
pub read-then-write : (s : List ℕ) (ty : ℕ) (payload sheet : List ℕ) (k place n c : ℕ) (after : List ℕ) → Bytes payload
    → read_outcome s ty payload sheet ≡ outcome (Shown k place n c) after
    → (out : List ℕ) → length payload ≤ length out → (sheet' : List ℕ) → k ≤ room sheet'
    → (m : ℕ) × (out' : List ℕ) × (file_outcome s ty (take (4 * k) after) payload out ≡ writer.outcome (Written m) out')
    × (m ≤ length payload)
    × ((fs : List Field) × (v : Value)
    × (shapes s ty ≡ struct fs)
    × Shows (shapes s) payload ty fs (first_rows k after) v
    × ReadsAs s ty fs (take m out') sheet' v m 0)
read-then-write s ty payload sheet k place n c after b e out h sheet' h' =
    let (bs, f, short, _, rows) = rewritten s ty payload sheet k place n c after b e out h in (
      length bs,
      bs ++ drop (length bs) out,
      f,
      short,
      read_back s ty (take (4 * k) after) payload out (length bs) (bs ++ drop (length bs) out) f sheet' (omega (arith, length-rows (take (4 * k) after), rows, h')),
    )

-- What is read without unknown bits has no tail, and is written back to the same bytes where the output is as long. Every lent slice of bytes meets
-- `Bytes`.
pub same_bytes : (s : List ℕ) (ty : ℕ) (fs : List Field) → shapes s ty ≡ struct fs
    → (payload sheet : List ℕ) (k place n c : ℕ) (after : List ℕ) → Bytes payload
    → read_outcome s ty payload sheet ≡ outcome (Shown k place n c) after
    → NoUnknownBits fs payload
    → (out : List ℕ) → length payload ≤ length out
    → (n ≡ 0) × (file_outcome s ty (take (4 * k) after) payload out ≡ writer.outcome (Written (length payload)) (payload ++ drop (length payload) out))
same_bytes s ty fs st payload sheet k place n c after b e known out h =
    let none = (tail-iff-unknown s ty fs st payload sheet k place n c after e).1 known in
    let (bs, f, _, bare, _) = rewritten s ty payload sheet k place n c after b e out h in
    (none, rw (bare none) at f)
