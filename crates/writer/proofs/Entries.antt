-- Laws of the entries: what each of their returns shows of the whole writing.
use Rattle.std.specs.Prelude.{Result, Ok, Err}
use mathlib.Core.Path.{◌≡◌, refl, sym, ap, subst, ◌∙◌}
use mathlib.Core.Bool.{Bool, true, false, cond}
use mathlib.Core.List.{List, ◌++◌, append-nil}
use Prim.Native.Nat.{ℕ, ◌+◌, ◌≤◌, ◌<◌}
use native.Mathlib.Decide.{ℕ_discrete}
use native.Mathlib.Omega.{arith}
use borrow.Author.Tests.{leb-true, le-leb, lt-leb}
use lib.Dec.{leb}
use lib.ListN.{length, take, drop, drop_of_length-le}
use lib.Seq.{take_at}
use Rattle.buffer.specs.Span.{span}
use Rattle.buffer.specs.Store.{put}
use Rattle.buffer.proofs.Stores.{put_whole}
use Rattle.wire.proofs.Cases.{differ}
use Rattle.parse.specs.Reader.{CursorOf, AnswerOf, refused, seen, Accepted}
use Rattle.schema.specs.declared.TypeRow.{TypeRow}
use Rattle.schema.specs.declared.Field.{Field}
use Rattle.schema.specs.Checked.{Good, Refused as TableRefused}
use Rattle.schema.specs.Table.{Shape, struct, row_at, shape}
use Rattle.schema.specs.File.{table_of}
use Rattle.schema.specs.Check.{IsGood, checked}
use Rattle.value.specs.declared.Row.{Row}
use Rattle.value.specs.Value.{Tree, value}
use Rattle.value.specs.Spell.{encode}
use Rattle.value.specs.Sheet.{rows_of}
use Rattle.value.specs.Write.{show_root, sheet_root, Writing, refusal, written, fitted, writing, write}
use Rattle.walks.proofs.Tables.{no-struct}
use Rattle.writer.specs.Writing.{Written, Refused}
use Rattle.constants.specs.Number.{number_of}
use Rattle.constants.specs.declared.refusal.Refused as error
use Rattle.writer.specs.declared.walk.Past.{Past}
use Rattle.writer.specs.Emit.{cap, PutAt, done, stopped, emit}
use Rattle.writer.specs.Leaf.{rows_at}
use Rattle.writer.specs.Walk.{end_of, Walked}
use Rattle.writer.specs.Entry.{Outcome, outcome, outcome_of, payload_by, length_of, Fronts, within_room, sheet_outcome, file_outcome}

-- ---- a payload and its length

pub length-refused : (w : Writing) {n q : ℕ} → length_of w ≡ Refused n q → w ≡ refusal n q
length-refused (refusal _ _) e = cc
length-refused (written _) e = differ cc

pub length-written : (w : Writing) {n : ℕ} → length_of w ≡ Written n → (bs : List ℕ) × (w ≡ written bs) × (length bs ≡ n)
length-written (refusal _ _) e = differ cc
length-written (written bs) e = (bs, refl, cc)

fitted-same : (room : ℕ) (bs bs' : List ℕ) → fitted room bs ≡ written bs' → (bs ≡ bs') × (length bs ≤ 16384)
fitted-same room bs bs' e = go (leb (length bs) 16384) (leb (length bs) room) refl e
  where
    go : (a b : Bool) → leb (length bs) 16384 ≡ a → cond a (cond b (written bs) (refusal 52 0)) (refusal 7 0) ≡ written bs' → (bs ≡ bs') × (length bs ≤ 16384)
    go true true l e = (cc, leb-true (length bs) 16384 l)
    go true false l e = differ cc
    go false b l e = differ cc

pub written-length : {w : Writing} {bs : List ℕ} {n : ℕ} → w ≡ written bs → length_of w ≡ Written n → length bs ≡ n
written-length is e = let f = sym (ap length_of is) ∙ e in cc

-- the room for the output comes last
room-fitted : (room : ℕ) (bs : List ℕ) → fitted room bs ≡ within_room room (fitted 16384 bs)
room-fitted room bs = go (leb (length bs) 16384)
  where
    go : (a : Bool) → cond a (cond (leb (length bs) room) (written bs) (refusal 52 0)) (refusal 7 0) ≡ within_room room (cond a (cond a (written bs) (refusal 52 0)) (refusal 7 0))
    go true = refl
    go false = refl

room-writing : (S : ℕ → Shape) (t room : ℕ) (m : AnswerOf Row Tree) → writing S t room m ≡ within_room room (writing S t 16384 m)
room-writing S t room (refused n p) = refl
room-writing S t room (seen tree end) = room-fitted room (encode S (value tree) t)

pub room-last : (s : List ℕ) (ty : ℕ) (cells B : List ℕ) (room : ℕ) → write (table_of s) ty (rows_of cells) B room ≡ within_room room (payload_by s ty cells B)
unfolding write payload_by
room-last s ty cells B room = room-writing (shape (table_of s)) ty room (sheet_root (shape (table_of s)) ty (rows_of cells) B)

-- a payload is within the limit
pub payload-small : (s : List ℕ) (ty : ℕ) (cells B bs : List ℕ) → payload_by s ty cells B ≡ written bs → length bs ≤ 16384
unfolding payload_by write
payload-small s ty cells B bs e = go (sheet_root (shape (table_of s)) ty (rows_of cells) B) e
  where
    go : (m : AnswerOf Row Tree) → writing (shape (table_of s)) ty 16384 m ≡ written bs → length bs ≤ 16384
    go (refused n p) e = differ cc
    go (seen tree end) e = let (same, small) = fitted-same 16384 (encode (shape (table_of s)) (value tree) ty) bs e in subst (λ (x : List ℕ). length x ≤ 16384) same small

-- ---- a type that is no struct

pub payload-other : (s : List ℕ) → IsGood s → (ty : ℕ) (cells B : List ℕ) (r : TypeRow) → r ≡ row_at (table_of s) ty → (r.kind ≡ 16 → ⊥) → payload_by s ty cells B ≡ refusal 46 0
unfolding payload_by write
payload-other s good ty cells B r is h =
    ap (λ (m : AnswerOf Row Tree). writing (shape (table_of s)) ty 16384 m)
    (no-struct s good ty r is h (refused 46 0) (λ fs. show_root (shape (table_of s)) B ty fs (rows_at cells 0)))

-- what has a length is a struct
pub payload-struct : (s : List ℕ) → IsGood s → (ty : ℕ) (cells B : List ℕ) (r : TypeRow) → r ≡ row_at (table_of s) ty → {n : ℕ} → length_of (payload_by s ty cells B) ≡ Written n → r.kind ≡ 16
payload-struct s good ty cells B r is e = elim (ℕ_discrete r.kind 16) [
  | yes k ↦ k
  | no k ↦ let f = ap length_of (sym (payload-other s good ty cells B r is k)) ∙ e in differ cc
]

-- what is refused stands nowhere
pub front-refused : (memory after : List ℕ) {w : Writing} {n q : ℕ} → w ≡ refusal n q → Fronts w memory after
front-refused memory after e bs is room = let f = sym e ∙ is in differ cc

-- ---- the two walks

-- what a walk that ended has shown
pub emit-done : (S : ℕ → Shape) (t : ℕ) (m : AnswerOf Row Tree) (c : CursorOf Row) (pos : ℕ) (out out' : List ℕ) → done c pos out' ≡ emit S t m 0 out
    → (tree : Tree) × (m ≡ seen tree c) × (pos ≡ cap (length (encode S (value tree) t))) × (out' ≡ put out 0 (encode S (value tree) t))
unfolding emit
emit-done S t (refused _ _) c pos out out' e = differ cc
emit-done S t (seen tree end) c pos out out' e =
    let z : 0 + length (encode S (value tree) t) ≡ length (encode S (value tree) t) = omega arith in
    let f : pos ≡ cap (0 + length (encode S (value tree) t)) = cc in
    (tree, cc, f ∙ ap (λ (n : ℕ). cap n) z, cc)

pub emit-stopped : (S : ℕ → Shape) (t : ℕ) (m : AnswerOf Row Tree) (n q : ℕ) (out : List ℕ) → stopped n q ≡ emit S t m 0 out → m ≡ refused n q
unfolding emit
emit-stopped S t (refused _ _) n q out e = cc
emit-stopped S t (seen tree end) n q out e = differ cc

module _ (s : List ℕ) (ty : ℕ) (cells B : List ℕ) (fs : List Field) (is : shape (table_of s) ty ≡ struct fs) where
  payload-by : (m : AnswerOf Row Tree) → show_root (shape (table_of s)) B ty fs (rows_at cells 0) ≡ m → payload_by s ty cells B ≡ writing (shape (table_of s)) ty 16384 m
  unfolding payload_by write
  payload-by m e = rw (is, e)

  -- The first walk measures.
  module _ (o o' : List ℕ) (r : Result Past error.Refused) (walked : Walked cells (emit (shape (table_of s)) ty (show_root (shape (table_of s)) B ty fs (rows_at cells 0)) 0 o) r o') where
    pub payload-refused : (f : error.Refused) → r ≡ Err f → payload_by s ty cells B ≡ refusal (number_of f.refusal) f.place
    payload-refused f e =
        let n = number_of f.refusal in
        let q = f.place in
        let w : stopped n q ≡ emit (shape (table_of s)) ty (show_root (shape (table_of s)) B ty fs (rows_at cells 0)) 0 o = rw e at walked.same in
        payload-by (refused n q) (emit-stopped (shape (table_of s)) ty _ n q o w)

    module _ (p : Past) (e : r ≡ Ok p) where
      shown : (tree : Tree) × (payload_by s ty cells B ≡ fitted 16384 (encode (shape (table_of s)) (value tree) ty)) × (p.pos ≡ cap (length (encode (shape (table_of s)) (value tree) ty)))
      shown =
          let w : done (rows_at cells p.row) p.pos o' ≡ emit (shape (table_of s)) ty (show_root (shape (table_of s)) B ty fs (rows_at cells 0)) 0 o = rw e at walked.same in
          let (tree, read, size, _) = emit-done (shape (table_of s)) ty _ (rows_at cells p.row) p.pos o o' w in
          (tree, payload-by (seen tree (rows_at cells p.row)) read, size)

      abbrev bs : List ℕ
      bs = encode (shape (table_of s)) (value shown.0) ty

      pub payload-long : 16384 < p.pos → payload_by s ty cells B ≡ refusal 7 0
      payload-long h =
          let size = shown.2 in
          let a : leb (length bs) 16384 ≡ false = lt-leb (length bs) 16384 (omega arith) in
          shown.1 ∙ rw a

      pub payload-length : p.pos ≤ 16384 → length_of (payload_by s ty cells B) ≡ Written p.pos
      payload-length h =
          let size = shown.2 in
          let n : length bs ≡ p.pos = omega arith in
          let a : leb (length bs) 16384 ≡ true = le-leb (length bs) 16384 (omega arith) in
          ap length_of shown.1 ∙ rw a (ap Written n)

    -- what it has put stands at the output's front, where it fits there
    pub payload-front : Fronts (payload_by s ty cells B) o o'
    payload-front = go r walked.same
      where
        go : (r : Result Past error.Refused) → end_of cells r o' ≡ emit (shape (table_of s)) ty (show_root (shape (table_of s)) B ty fs (rows_at cells 0)) 0 o → Fronts (payload_by s ty cells B) o o'
        go (Ok p) e bs is room =
            let (tree, read, _, puts) = emit-done (shape (table_of s)) ty _ (rows_at cells p.row) p.pos o o' e in
            let own : encode (shape (table_of s)) (value tree) ty ≡ bs = (fitted-same 16384 _ bs (sym (payload-by (seen tree (rows_at cells p.row)) read) ∙ is)).0 in
            puts ∙ ap (put o 0) own ∙ put_whole o bs (omega arith)
        go (Err f) e bs is room = front-refused o o' (payload-by (refused (number_of f.refusal) f.place) (emit-stopped (shape (table_of s)) ty _ (number_of f.refusal) f.place o e)) bs is room

  -- The second writes what was measured, into an output of its length.
  module _ {n : ℕ} (measured : length_of (payload_by s ty cells B) ≡ Written n) where
    pub payload-room : n ≤ 16384
    payload-room =
        let (bs, is, size) = length-written (payload_by s ty cells B) measured in
        omega (arith, size, payload-small s ty cells B bs is)

    pub payload-accepted : Accepted (show_root (shape (table_of s)) B ty fs (rows_at cells 0))
    payload-accepted = go (show_root (shape (table_of s)) B ty fs (rows_at cells 0)) refl
      where
        go : (m : AnswerOf Row Tree) → show_root (shape (table_of s)) B ty fs (rows_at cells 0) ≡ m → Accepted m
        go (refused k q) e = let f = ap length_of (payload-by (refused k q) e) in differ cc
        go (seen tree end) e = tt

    pub payload-put : (o o' : List ℕ) (r : Result Past error.Refused) → length o ≡ n → Walked cells (emit (shape (table_of s)) ty (show_root (shape (table_of s)) B ty fs (rows_at cells 0)) 0 o) r o'
        → payload_by s ty cells B ≡ written o'
    payload-put o o' r room walked = go r walked.same
      where
        go : (r : Result Past error.Refused) → end_of cells r o' ≡ emit (shape (table_of s)) ty (show_root (shape (table_of s)) B ty fs (rows_at cells 0)) 0 o → payload_by s ty cells B ≡ written o'
        go (Ok p) e =
            let (tree, read, _, puts) = emit-done (shape (table_of s)) ty _ (rows_at cells p.row) p.pos o o' e in
            let bs = encode (shape (table_of s)) (value tree) ty in
            let by = payload-by (seen tree (rows_at cells p.row)) read in
            let (bs', same, size) = length-written (payload_by s ty cells B) measured in
            let own : bs ≡ bs' = (fitted-same 16384 bs bs' (sym by ∙ same)).0 in
            let room' : length bs ≡ length o = ap length own ∙ size ∙ sym room in
            let whole : o' ≡ bs = puts ∙ put_whole o bs (omega arith) ∙ ap (λ (x : List ℕ). bs ++ x) (drop_of_length-le o {i = length bs} (omega arith)) ∙ append-nil bs in
            same ∙ ap written (sym own ∙ sym whole)
        go (Err g) e =
            let f = ap length_of (payload-by (refused (number_of g.refusal) g.place) (emit-stopped (shape (table_of s)) ty _ (number_of g.refusal) g.place o e)) in
            differ cc

-- ---- the entry: the payload, where the output has room for it

module _ (s : List ℕ) (ty : ℕ) (cells B out : List ℕ) where
  entry-by : {w : Writing} → payload_by s ty cells B ≡ w → outcome_of out (within_room (length out) w) ≡ sheet_outcome s ty cells B out
  unfolding sheet_outcome
  entry-by e = ap (outcome_of out) (ap (within_room (length out)) (sym e) ∙ sym (room-last s ty cells B (length out)))

  pub entry-refused : (n q : ℕ) → length_of (payload_by s ty cells B) ≡ Refused n q → outcome (Refused n q) out ≡ sheet_outcome s ty cells B out
  entry-refused n q e = entry-by (length-refused _ e)

  pub entry-room : (n : ℕ) → length_of (payload_by s ty cells B) ≡ Written n → length out < n → outcome (Refused 52 0) out ≡ sheet_outcome s ty cells B out
  entry-room n e l =
      let (bs, is, size) = length-written (payload_by s ty cells B) e in
      let a : leb (length bs) (length out) ≡ false = lt-leb (length bs) (length out) (omega arith) in
      (rw a at (entry-by is))

  pub entry-written : (n : ℕ) → length_of (payload_by s ty cells B) ≡ Written n → n ≤ length out → (bs : List ℕ) → payload_by s ty cells B ≡ written bs
      → outcome (Written n) (bs ++ drop n out) ≡ sheet_outcome s ty cells B out
  entry-written n e l bs is =
      let size = written-length is e in
      let a : leb (length bs) (length out) ≡ true = le-leb (length bs) (length out) (omega arith) in
      rw (← size) (rw a at (entry-by is))

  -- it is copied from memory that has it at its front
  pub entry-copied : (n : ℕ) → length_of (payload_by s ty cells B) ≡ Written n → n ≤ length out → (before memory : List ℕ) → n ≤ length memory → length memory ≡ length before
      → Fronts (payload_by s ty cells B) before memory → {r : ℕ} {out' : List ℕ} → PutAt out 0 (span memory 0 n) r out'
      → outcome (Written n) out' ≡ sheet_outcome s ty cells B out
  entry-copied n e l before memory room same front {r} {out'} p =
      let (bs, is, size) = length-written (payload_by s ty cells B) e in
      let held : span memory 0 n ≡ bs = ap (take n) (front bs is (omega arith)) ∙ take_at bs (drop (length bs) before) n size in
      let whole : out' ≡ bs ++ drop n out = p.holds ∙ ap (put out 0) held ∙ put_whole out bs (omega arith) ∙ ap (λ (k : ℕ). bs ++ drop k out) size in
      ap (outcome (Written n)) whole ∙ entry-written n e l bs is

-- ---- any table

module _ (s : List ℕ) (ty : ℕ) (cells B out : List ℕ) where
  pub file-refused : (n q : ℕ) → checked s ≡ TableRefused n q → outcome (Refused n q) out ≡ file_outcome s ty cells B out
  unfolding file_outcome
  file-refused n q e = rw e

  pub file-good : (x : Outcome) → checked s ≡ Good → x ≡ sheet_outcome s ty cells B out → x ≡ file_outcome s ty cells B out
  unfolding file_outcome
  file-good x e h = rw e h
