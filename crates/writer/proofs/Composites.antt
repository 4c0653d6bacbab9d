-- Laws of the walkers: a value of each shape by its row, and the turns of the loops over what it holds.
use Rattle.std.specs.Prelude.{Result, Ok, Err}
use mathlib.Core.Path.{◌≡◌, refl, sym, ap, ◌∙◌}
use mathlib.Core.Bool.{true, false, ◌&&◌}
use mathlib.Core.List.{List, [], ◌∷◌, append-nil}
use Prim.Native.Nat.{ℕ, suc, ◌+◌, ◌-◌, ◌/◌, ◌≤◌, ◌<◌}
use native.Mathlib.Omega.{arith}
use borrow.Author.Tests.{ltb-true, le-leb, lt-leb, eqb-true}
use lib.Dec.{ltb, leb, eqb}
use lib.ListN.{length, replicate}
use Rattle.buffer.specs.Store.{put}
use Rattle.buffer.specs.Span.{span}
use Rattle.wire.specs.Little.{bytes}
use Rattle.parse.specs.Reader.{CursorOf, AnswerOf, refused, seen, and_then, check, Accepted}
use Rattle.parse.proofs.Answers.{accepted-first}
use Rattle.schema.specs.declared.Field.{Field}
use Rattle.schema.specs.Table.{Shape, array, map, struct, bitmap_bytes}
use Rattle.schema.proofs.Bools.{and_left, and_right}
use Rattle.value.specs.declared.Row.{Row}
use Rattle.value.specs.Value.{Tree, tip, branch, Forest, stop, plus, value, values}
use Rattle.value.specs.Read.{Item, parts, plain_item, plan, present, walk}
use Rattle.value.specs.Spell.{leaf_bytes, head_bytes, encode, encode_all}
use Rattle.value.specs.Write.{RowReader, row_due, says, show}
use Rattle.walks.specs.Shape.{leaf_shape}
use Rattle.walks.proofs.Items.{item-accepted, item-stop, item-past}
use Rattle.walks.proofs.Walks.{deep}
use Rattle.constants.specs.Number.{number_of}
use Rattle.constants.specs.declared.refusal.Refused.{Refused}
use Rattle.writer.specs.declared.leaf.RowSays.{RowSays}
use Rattle.writer.specs.declared.leaf.Placed.{Placed}
use Rattle.writer.specs.declared.rows.Rows.{Rows}
use Rattle.writer.specs.declared.walk.Past.{Past}
use Rattle.writer.specs.Emit.{cap, PutAt, emitted, Final, emit, emit_all}
use Rattle.writer.specs.Leaf.{rows_at, due_answer, DueRow, leaf_of, LeafIn, LeafRow, head_of}
use Rattle.writer.specs.Walk.{shapes_of, value_in, items_in, value_end, items_end, Walked, Ready}
use Rattle.writer.proofs.Leaves.{due_in, row_read}
use Rattle.writer.proofs.Heads.{HeadRow}
use Rattle.writer.proofs.Steps.{ahead, was, as_refused, shown-along, walk-done, done-put, emitting, branch-bytes, tip-bytes, show-refused, show_bad, show-parts, leaf-shown, leaf-refused}

-- ---- a leaf

module _ {cells B : List ℕ} {kind t row : ℕ} {r : Result Placed Refused} (read : LeafRow cells B kind t row r) where
  module _ {x : Placed} (e : r ≡ Ok x) where
    pub leaf_in : LeafIn cells B row (Ok x)
    leaf_in = rw e at read.within

  module _ (S : ℕ → Shape) {d : ℕ} (is : S t ≡ leaf_shape kind) (some : d ≡ 0 → ⊥) where
    pub leaf-failed : {e : Refused} → r ≡ Err e → show S B d t (rows_at cells row) ≡ refused (number_of e.refusal) e.place
    leaf-failed {e} h =
        rw (deep d some)
        (leaf-refused S B (d - 1) t (rows_at cells row) (leaf_shape kind) is (number_of e.refusal) e.place (sym read.same ∙ ap (leaf_of cells B row) h))

    module _ {x : Placed} (e : r ≡ Ok x) where
      pub leaf-read : (w : Row) × (show S B d t (rows_at cells row) ≡ seen (tip w (span B x.place x.length)) (rows_at cells (row + 1)))
      leaf-read =
          rw (deep d some)
          (leaf-shown S B (d - 1) t (rows_at cells row) (leaf_shape kind) is (span B x.place x.length) (rows_at cells (row + 1)) (sym read.same ∙ ap (leaf_of cells B row) e))

      pub leaf-past : {pos : ℕ} {out : List ℕ} {next : ℕ} {mid : List ℕ} → PutAt out pos (leaf_bytes (leaf_shape kind) (span B x.place x.length)) next mid
          → Walked cells (emit S t (show S B d t (rows_at cells row)) pos out) (Ok (record { row = row + 1; pos = next })) mid
      unfolding emit
      leaf-past {pos} {out} {next} {mid} q =
          let w = leaf-read in
          let i = leaf_in e in
          let h : mid ≡ put out pos (leaf_bytes (leaf_shape kind) (span B x.place x.length)) = q.holds in
          let f : next ≡ cap (pos + length (leaf_bytes (leaf_shape kind) (span B x.place x.length))) = q.further in
          record { same = rw (w.1, tip-bytes S t w.0 (span B x.place x.length), is, ← h, ← f); within = (omega arith, q.capped) }

-- ---- composites

pub row-absent : {t : ℕ} {cells : List ℕ} {row : ℕ} {due : Result RowSays Refused} → DueRow cells row t due → (S : ℕ → Shape) (B : List ℕ) (d : ℕ) {e : Refused} → due ≡ Err e
    → show S B (suc d) t (rows_at cells row) ≡ refused (number_of e.refusal) e.place
row-absent {t} {cells} {row} found S B d {e} is =
    show-refused S B d t (rows_at cells row) (number_of e.refusal) e.place (sym found.same ∙ ap (due_answer cells row t) is)

-- A composite's row that was found and says its head h.
pub record PartsRow (S : ℕ → Shape) (B cells : List ℕ) (row t : ℕ) (sh : Shape) (h : ℕ) : Type 0 where
  pub is : S t ≡ sh
  pub own : Row
  pub read : row_due t (rows_at cells row) ≡ seen own (rows_at cells (row + 1))
  pub inside : row < length cells / 4
  pub said : says B row sh own.place own.length own.count (rows_at cells (row + 1)) ≡ seen (parts 0 h) (rows_at cells (row + 1))

module _ {S : ℕ → Shape} {B cells : List ℕ} {row t : ℕ} {sh : Shape} {h : ℕ} (w : PartsRow S B cells row t sh h) (d : ℕ) where
  parts-shown : show S B (suc d) t (rows_at cells row) ≡ and_then (walk (show S B d) [] (plan sh h) (rows_at cells (row + 1))) (λ ts c. seen (branch w.own h ts) c)
  parts-shown = show-parts S B d t (rows_at cells row) sh w.is w.own (rows_at cells (row + 1)) w.read 0 h w.said

  -- after its head it ends as what it holds does
  pub parts-start : {out : List ℕ} {pos next : ℕ} {mid : List ℕ} → length out ≤ 16384 → PutAt out pos (head_bytes sh h) next mid
      → ahead S (show S B d) [] (plan sh h) (rows_at cells (row + 1)) next mid ≡ emit S t (show S B (suc d) t (rows_at cells row)) pos out
  unfolding emit emit_all and_then
  parts-start {out} {pos} {next} {mid} l put = rw parts-shown (go (walk (show S B d) [] (plan sh h) (rows_at cells (row + 1))))
    where
      go : (m : AnswerOf Row Forest) → emit_all S (plan sh h) m next mid ≡ emit S t (and_then m (λ ts c. seen (branch w.own h ts) c)) pos out
      go (refused _ _) = refl
      go (seen ts c) =
          rw (branch-bytes S t w.own h ts, w.is) (done-put c out pos (head_bytes sh h) (encode_all S (values ts) (plan sh h)) next mid l put)

  pub parts-accepted : Accepted (show S B (suc d) t (rows_at cells row)) → Accepted (walk (show S B d) [] (plan sh h) (rows_at cells (row + 1)))
  parts-accepted a = accepted-first _ _ (rw parts-shown at a)

module _ {t : ℕ} {cells : List ℕ} {row : ℕ} {due : Result RowSays Refused} (found : DueRow cells row t due) {w : RowSays} (e : due ≡ Ok w) (S : ℕ → Shape) (B : List ℕ) where
  parts-found : {sh : Shape} → S t ≡ sh → says B row sh w.place w.length w.count (rows_at cells (row + 1)) ≡ seen (parts 0 w.count) (rows_at cells (row + 1)) → PartsRow S B cells row t sh w.count
  parts-found is said =
      record { is = is; own = record { ty = t; place = w.place; length = w.length; count = w.count }; read = row_read found e; inside = (due_in found e).0; said = said }

  pub array-found : {a : ℕ} → S t ≡ array a → PartsRow S B cells row t (array a) w.count
  array-found is = parts-found is refl

  module _ {k v : ℕ} (is : S t ≡ map k v) where
    -- a map of more than 64 pairs is refused
    pub map-many : 64 < w.count → (d : ℕ) → show S B (suc d) t (rows_at cells row) ≡ refused 31 row
    unfolding and_then check
    map-many h d =
        let f : leb w.count 64 ≡ false = lt-leb w.count 64 h in
        show_bad S B d t (rows_at cells row) (map k v) is _ (rows_at cells (row + 1)) (row_read found e) 31 row (rw f)

    pub map_found : w.count ≤ 64 → PartsRow S B cells row t (map k v) w.count
    unfolding and_then check
    map_found few =
        let f : leb w.count 64 ≡ true = le-leb w.count 64 few in
        parts-found is (rw f)

-- an inner struct
module _ {S : ℕ → Shape} {B cells : List ℕ} {row t n : ℕ} {fs : List Field} {head : Result ℕ Refused} (w : HeadRow true S B cells row t n fs head) where
  pub struct-fault : {e : Refused} → head ≡ Err e → (d : ℕ) → show S B (suc d) t (rows_at cells row) ≡ refused (number_of e.refusal) e.place
  struct-fault {e} q d =
      show_bad S B d t (rows_at cells row) (struct fs) w.is w.own (rows_at cells (row + 1)) w.read (number_of e.refusal) e.place
      (sym (w.headed (rows_at cells (row + 1))) ∙ ap (head_of (rows_at cells (row + 1))) q)

  module _ {known : ℕ} (q : head ≡ Ok known) where
    pub struct-found : PartsRow S B cells row t (struct fs) known
    struct-found =
        record {
          is = w.is;
          own = w.own;
          read = w.read;
          inside = w.inside;
          said = sym (w.headed (rows_at cells (row + 1))) ∙ ap (head_of (rows_at cells (row + 1))) q;
        }

    pub struct-start : (d : ℕ) {out : List ℕ} {pos next : ℕ} {mid : List ℕ} → length out ≤ 16384 → PutAt out pos (bytes (bitmap_bytes n) known) next mid
        → ahead S (show S B d) [] (present fs known) (rows_at cells (row + 1)) next mid ≡ emit S t (show S B (suc d) t (rows_at cells row)) pos out
    struct-start d l put = parts-start struct-found d l (rw w.many put)

-- ---- a loop over items: elements of an array, fields of a struct, pairs of a map

-- Where it stands: the items left, from a row on, end as all of them do. What was asked of all is kept.
pub record WritingItems (rows : Rows) (depth : ℕ) (all : List Item) (start pos₀ : ℕ) (out₀ : List ℕ) (keys : List (List ℕ)) (left : List Item) (row pos : ℕ) (out : List ℕ) : Type 0 where
  pub asked : Ready rows out₀ start pos₀ (items_in rows depth [] all start)
  pub same : items_end rows depth keys left row pos out ≡ items_end rows depth [] all start pos₀ out₀
  pub inside : row ≤ length rows.sheet.now / 4
  pub capped : pos ≤ 16385
  pub long : length out ≡ length out₀

module _ {rows : Rows} {depth : ℕ} {all : List Item} {start pos₀ : ℕ} {out₀ : List ℕ} where
  pub writing-first : Ready rows out₀ start pos₀ (items_in rows depth [] all start) → WritingItems rows depth all start pos₀ out₀ [] all start pos₀ out₀
  writing-first q = record { asked = q; same = refl; inside = q.inside; capped = q.capped; long = refl }

  module _ {keys : List (List ℕ)} {left : List Item} {row pos : ℕ} {out : List ℕ} (g : WritingItems rows depth all start pos₀ out₀ keys left row pos out) where
    pub writing-small : length out ≤ 16384
    writing-small = rw g.long g.asked.small

    pub writing-known : rows.judging ≡ false → Accepted (items_in rows depth keys left row)
    writing-known j = shown-along _ _ _ _ _ _ _ _ _ g.same (g.asked.judged j)

    -- no item is left
    pub writing-done : left ≡ [] → Walked rows.sheet.now (items_end rows depth [] all start pos₀ out₀) (Ok (record { row = row; pos = pos })) out
    writing-done none = walk-done _ _ _ none g.same g.inside g.capped

    -- an element or a field, and those after it
    module _ {e : ℕ} {rest : List Item} (first : left ≡ plain_item e ∷ rest) where
      pub writing-ready : Ready rows out row pos (value_in rows depth e row)
      writing-ready = record { inside = g.inside; capped = g.capped; small = writing-small; judged = λ j. item-accepted _ _ first _ (writing-known j) }

      module _ {r : Result Past Refused} {mid : List ℕ} (w : Walked rows.sheet.now (value_end rows depth e row pos out) r mid) where
        pub writing-stop : {e : Refused} → r ≡ Err e → {r' : Result Past Refused} {after : List ℕ} → r' ≡ Err e → Walked rows.sheet.now (items_end rows depth [] all start pos₀ out₀) r' after
        unfolding emit emit_all
        writing-stop h h' = as_refused h' (item-stop (emitting (shapes_of rows)) (show (shapes_of rows) rows.source.now depth) keys first (rows_at rows.sheet.now row) (emitted pos out) _ (was w h).same ∙ g.same)

        pub writing-on : {p : Past} → r ≡ Ok p → length mid ≡ length out → WritingItems rows depth all start pos₀ out₀ keys rest p.row p.pos mid
        unfolding emit emit_all
        writing-on h long =
            let v = was w h in
            record {
              asked = g.asked;
              same = sym (item-past (emitting (shapes_of rows)) (show (shapes_of rows) rows.source.now depth) keys first (rows_at rows.sheet.now row) (emitted pos out) writing-small v.same) ∙ g.same;
              inside = v.within.0;
              capped = v.within.1;
              long = long ∙ g.long;
            }

-- structs that the depth allows
pub structs-held : (kind depth : ℕ) → (eqb kind 16 && ltb 0 depth) ≡ true → (kind ≡ 16) × (0 < depth)
structs-held kind depth h = (eqb-true kind 16 (and_left (eqb kind 16) (ltb 0 depth) h), ltb-true 0 depth (and_right (eqb kind 16) (ltb 0 depth) h))

-- ---- a value by itself, as the one element of an array

module _ (P : ℕ → RowReader Tree) (t : ℕ) (c : CursorOf Row) where
  one-read : walk P [] (replicate 1 (plain_item t)) c ≡ and_then (P t c) (λ tree c₁. seen (plus tree stop) c₁)
  unfolding walk and_then check
  one-read = refl

  pub one-accepted : Accepted (P t c) → Accepted (walk P [] (replicate 1 (plain_item t)) c)
  unfolding and_then
  one-accepted h = rw one-read (go (P t c) h)
    where
      go : (o : AnswerOf Row Tree) → Accepted o → Accepted (and_then o (λ tree c₁. seen (plus tree stop) c₁))
      go (seen tree c₁) h = tt
      go (refused n q) h = h

  pub one_end : (S : ℕ → Shape) (pos : ℕ) (out : List ℕ)
      → ahead S P [] (replicate 1 (plain_item t)) c pos out ≡ emit S t (P t c) pos out
  unfolding and_then emit emit_all encode_all values
  one_end S pos out = rw one-read (go (P t c))
    where
      go : (o : AnswerOf Row Tree) → emit_all S (replicate 1 (plain_item t)) (and_then o (λ tree c₁. seen (plus tree stop) c₁)) pos out ≡ emit S t o pos out
      go (seen tree c₁) = rw (append-nil (encode S (value tree) t))
      go (refused n q) = refl

-- ---- pairs of a map

-- A value that one way or the other of a branch has written.
pub record Came (cells : List ℕ) (end : Final) (before : List ℕ) (here to : ℕ) (out : List ℕ) : Type 0 where
  pub walked : Walked cells end (Ok (record { row = here; pos = to })) out
  pub long : length out ≡ length before

pub came-by : {cells : List ℕ} {end : Final} {before : List ℕ} {p : Past} {out : List ℕ} → Walked cells end (Ok p) out → length out ≡ length before
    → {here to : ℕ} {out' : List ℕ} → here ≡ p.row → to ≡ p.pos → out' ≡ out → Came cells end before here to out'
came-by w k e₁ e₂ e₃ = rw (e₁, e₂, e₃) (record { walked = w; long = k })
