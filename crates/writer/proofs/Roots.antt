-- Laws of the root: its row, its known fields, and that no row is left over; and of the two walks over a whole sheet.
use Rattle.std.specs.Prelude.{Result, Ok, Err}
use mathlib.Core.Path.{◌≡◌, refl, sym, ap, ◌∙◌}
use mathlib.Core.Bool.{Bool, true, false, cond}
use mathlib.Core.List.{List, []}
use Prim.Native.Nat.{ℕ, ◌+◌, ◌/◌, ◌≤◌, ◌<◌}
use native.Mathlib.Omega.{arith}
use borrow.Author.Tests.{eq-eqb, ne_eqb}
use lib.Dec.{eqb}
use lib.ListN.{length, drop, length-drop}
use Rattle.buffer.specs.Store.{put}
use Rattle.wire.specs.Little.{bytes}
use Rattle.parse.specs.Reader.{CursorOf, AnswerOf, refused, seen, and_then, check, Accepted}
use Rattle.parse.proofs.Answers.{accepted-first}
use Rattle.schema.specs.declared.Field.{Field}
use Rattle.schema.specs.Table.{Shape, bitmap_bytes}
use Rattle.value.specs.declared.Row.{Row}
use Rattle.value.specs.Sheet.{rows_of}
use Rattle.value.specs.Value.{Tree, branch, Forest, values}
use Rattle.value.specs.Read.{Own, plain, parts, present, known_bits, walk}
use Rattle.value.specs.Spell.{encode_all}
use Rattle.value.specs.Write.{RowReader, row_due, bits_at, show, show_root}
use Rattle.value.proofs.Sheets.{length-rows}
use Rattle.constants.specs.Number.{number_of}
use Rattle.constants.specs.declared.refusal.Refused.{Refused}
use Rattle.writer.specs.declared.leaf.RowSays.{RowSays}
use Rattle.writer.specs.Emit.{cap, PutAt, Final, done, stopped, emit, emit_all}
use Rattle.writer.specs.Leaf.{rows_at, due_answer, DueRow, head_says, head_of}
use Rattle.writer.specs.Walk.{whole_end}
use Rattle.writer.proofs.Steps.{done-put, branch-bytes}
use Rattle.writer.proofs.Heads.{HeadRow}

module _ (S : ℕ → Shape) (B : List ℕ) (fs : List Field) where
  -- what follows the row, the presence bits and the fields
  after_fields : Row → ℕ → Forest → RowReader Tree
  after_fields r h ts c = and_then (check (eqb (length c.left) 0) 50 c.at c) (λ _ c₁. seen (branch r h ts) c₁)

  after_head : Row → Own → RowReader Tree
  after_head r (plain x) c = refused 50 0
  after_head r (parts z h) c = and_then (walk (show S B 15) [] (present fs h) c) (after_fields r h)

  after_bits : Row → ℕ → RowReader Tree
  after_bits r m c =
      and_then (check (eqb r.count (length (present fs (known_bits fs m)))) 50 0 c) (λ _ c₁. after_head r (parts 0 (known_bits fs m)) c₁)

  root-step : (t : ℕ) (cells : List ℕ) → show_root S B t fs (rows_at cells 0) ≡ and_then (row_due t (rows_at cells 0)) (λ r c. and_then (bits_at B 0 fs r.place c) (after_bits r))
  unfolding show_root after_fields after_head after_bits
  root-step t cells = refl

  -- what is due after the bits is due after what the row says
  head_step : (r : Row) (c : CursorOf Row) → and_then (bits_at B 0 fs r.place c) (after_bits r) ≡ and_then (head_says false B 0 fs r.place r.count c) (after_head r)
  unfolding and_then check after_bits
  head_step r c = go (bits_at B 0 fs r.place c)
    where
      counted : (b : Bool) (h : ℕ) (c₁ : CursorOf Row) → and_then (check b 50 0 c₁) (λ _. after_head r (parts 0 h)) ≡ and_then (and_then (check b 50 0 c₁) (λ _ c₂. seen (parts 0 h) c₂)) (after_head r)
      counted true h c₁ = refl
      counted false h c₁ = refl

      go : (o : AnswerOf Row ℕ) → and_then o (after_bits r)
          ≡ and_then (and_then o (λ m c₁. and_then (check (eqb r.count (length (present fs (known_bits fs m)))) 50 0 c₁) (λ _ c₂. seen (parts 0 (known_bits fs m)) c₂))) (after_head r)
      go (refused _ _) = refl
      go (seen m c₁) = counted (eqb r.count (length (present fs (known_bits fs m)))) (known_bits fs m) c₁

  pub root-absent : {t : ℕ} {cells : List ℕ} {due : Result RowSays Refused} → DueRow cells 0 t due → {e : Refused} → due ≡ Err e → show_root S B t fs (rows_at cells 0) ≡ refused (number_of e.refusal) e.place
  unfolding and_then
  root-absent {t} {cells} found is = rw (root-step t cells, sym found.same ∙ ap (due_answer cells 0 t) is)

module _ {S : ℕ → Shape} {B cells : List ℕ} {t n : ℕ} {fs : List Field} {head : Result ℕ Refused} (w : HeadRow false S B cells 0 t n fs head) where
  root-row : show_root S B t fs (rows_at cells 0) ≡ and_then (head_of (rows_at cells 1) head) (after_head S B fs w.own)
  unfolding and_then
  root-row = rw (root-step S B fs t cells, w.read, head_step S B fs w.own (rows_at cells 1), w.headed (rows_at cells 1))

  pub root-fault : {e : Refused} → head ≡ Err e → show_root S B t fs (rows_at cells 0) ≡ refused (number_of e.refusal) e.place
  unfolding and_then
  root-fault q = rw (root-row, q)

  module _ {known : ℕ} (q : head ≡ Ok known) where
    root-walk : show_root S B t fs (rows_at cells 0) ≡ and_then (walk (show S B 15) [] (present fs known) (rows_at cells 1)) (after_fields S B fs w.own known)
    unfolding and_then after_head
    root-walk = rw (root-row, q)

    pub root-accepted : Accepted (show_root S B t fs (rows_at cells 0)) → Accepted (walk (show S B 15) [] (present fs known) (rows_at cells 1))
    root-accepted a = accepted-first _ _ (rw root-walk at a)

    -- its encoding is that of a struct with the known bits, and it ends as its fields do where no row is left over
    pub root-start : (out : List ℕ) (next : ℕ) (mid : List ℕ) → length out ≤ 16384 → PutAt out 0 (bytes (bitmap_bytes n) known) next mid
        → whole_end (emit_all S (present fs known) (walk (show S B 15) [] (present fs known) (rows_at cells 1)) next mid) ≡ emit S t (show_root S B t fs (rows_at cells 0)) 0 out
    unfolding and_then check emit emit_all after_fields whole_end
    root-start out next mid small p = rw root-walk (go (walk (show S B 15) [] (present fs known) (rows_at cells 1)))
      where
        closed : (ts : Forest) (c₁ : CursorOf Row) (b : Bool)
            → cond b (done c₁ (cap (next + length (encode_all S (values ts) (present fs known)))) (put mid next (encode_all S (values ts) (present fs known)))) (stopped 50 c₁.at)
            ≡ emit S t (and_then (check b 50 c₁.at c₁) (λ _ c₂. seen (branch w.own known ts) c₂)) 0 out
        closed ts c₁ true =
            rw (branch-bytes S t w.own known ts, w.is)
            (done-put c₁ out 0 (bytes (bitmap_bytes (length fs)) known) (encode_all S (values ts) (present fs known)) next mid small (rw w.many p))
        closed ts c₁ false = refl

        go : (m : AnswerOf Row Forest) → whole_end (emit_all S (present fs known) m next mid) ≡ emit S t (and_then m (after_fields S B fs w.own known)) 0 out
        go (refused _ _) = refl
        go (seen ts c₁) = closed ts c₁ (eqb (length c₁.left) 0)

-- ---- a walk over a whole sheet

pub whole-stopped : {end : Final} {n q : ℕ} → stopped n q ≡ end → stopped n q ≡ whole_end end
unfolding whole_end
whole-stopped {end} h = rw (← h)

module _ (cells : List ℕ) {row pos : ℕ} {out : List ℕ} {end : Final} (h : done (rows_at cells row) pos out ≡ end) (l : row ≤ length cells / 4) where
  left_over : length (drop row (rows_of cells)) + row ≡ length cells / 4
  left_over = rw (length-drop, length-rows cells) (omega arith)

  pub whole-left : row < length cells / 4 → stopped 50 row ≡ whole_end end
  unfolding whole_end
  whole-left some =
      let k = left_over in
      let f : eqb (length (drop row (rows_of cells))) 0 ≡ false = ne_eqb (length (drop row (rows_of cells))) 0 (λ z. omega arith) in
      rw (← h, f)

  pub whole-done : length cells / 4 ≤ row → done (rows_at cells row) pos out ≡ whole_end end
  unfolding whole_end
  whole-done none =
      let k = left_over in
      let f : eqb (length (drop row (rows_of cells))) 0 ≡ true = eq-eqb (length (drop row (rows_of cells))) 0 (omega arith) in
      rw (← h, f)
