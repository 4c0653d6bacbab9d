-- Laws of the walkers: what one step of a walk does to its end. What is read by the shapes S is shown by the shapes R.
use mathlib.Core.Path.{◌≡◌, refl, sym, ap, ◌∙◌}
use mathlib.Core.Bool.{Bool, false}
use mathlib.Core.List.{List, [], ◌∷◌}
use Prim.Native.Nat.{ℕ, zero, suc, ◌+◌, ◌-◌, ◌*◌, ◌≤◌, ◌<◌}
use native.Mathlib.Omega.{arith}
use lib.ListN.{length, length-append}
use Rattle.wire.proofs.Cases.{differ}
use Rattle.parse.specs.Reader.{Cursor, Answer, refused, seen, Reader, and_then, cursor_at, Accepted}
use Rattle.parse.proofs.Answers.{accepted-first}
use Rattle.schema.specs.declared.TypeRow.{TypeRow}
use Rattle.schema.specs.Table.{Shape, row_at}
use Rattle.schema.specs.File.{table_of}
use Rattle.value.specs.declared.Row.{Row}
use Rattle.value.specs.Value as tree
use Rattle.value.specs.Value.{Tree, tip, branch, Forest, plus, rows, rows_all, values}
use Rattle.value.specs.Comparisons.{map_comparisons, comparisons_all}
use Rattle.value.specs.Comparisons as due
use Rattle.value.specs.Read.{Item, plan, row_count, Own, plain, parts, own, walk, leaf_row, node_row, whole_value, parse}
use Rattle.value.specs.Beside.{pruned, pruned_all}
use Rattle.walks.specs.Shape.{leaf_shape, shape_in}
use Rattle.walks.proofs.Tables.{shape-leaf}
use Rattle.walks.proofs.Walks.{deep, deeper}
use Rattle.walks.proofs.Items.{ended_is, stopped-is, accepted-along, Sink}
use Rattle.flat.specs.Span.{Span, At, Refused as SpanRefused}
use Rattle.flat.specs.Walk.{Walk, Past, Refused, value_in, Told, told, told_all, told_held, Noted, noted, note, Final, done, stopped, walk_of, Walked, Ready}
use Rattle.flat.specs.Sheet.{put_row, put_rows}
use Rattle.flat.specs.Leaf.{between, span_of, Spanned}
use Rattle.flat.proofs.Sheets.{rows_append, length-rows}
use Rattle.flat.proofs.Leaves.{length-between}

-- ---- ends

noted-eq : {d e r q : ℕ} {l k : List ℕ} → d ≡ e → r ≡ q → l ≡ k → noted d r l ≡ noted e q k
noted-eq f g h = cc

pub done-eq : {c c' : Cursor} {d e r q : ℕ} {l k : List ℕ} → c ≡ c' → d ≡ e → r ≡ q → l ≡ k → done c d r l ≡ done c' e q k
done-eq e f g h = cc

-- a walk keeps the sheet's length
pub walk-length : {A : Type 0} (f : A → Told) (o : Answer A) (comparisons row : ℕ) (l : List ℕ) {c : Cursor} {comparisons' row' : ℕ} {m : List ℕ}
    → done c comparisons' row' m ≡ walk_of f o comparisons row l → length m ≡ length l
walk-length f (seen a c₁) comparisons row l {m} e = let g : m ≡ put_rows l row (f a).rows = cc in rw g (length-rows l row (f a).rows)
walk-length f (refused n q) comparisons row l e = differ cc

-- a walk that starts with more comparisons ends with as many more
pub later : {A : Type 0} (f : A → Told) (o : Answer A) (sum row : ℕ) (l : List ℕ) {c : Cursor} {comparisons row' : ℕ} {m : List ℕ}
    → done c comparisons row' m ≡ walk_of f o 0 row l → done c (sum + comparisons) row' m ≡ walk_of f o sum row l
later f (seen a c₁) sum row l {comparisons} e =
    let g : comparisons ≡ 0 + (f a).comparisons = cc in
    let h : sum + comparisons ≡ sum + (f a).comparisons = omega arith in
    cc
later f (refused n q) sum row l e = differ cc

module _ {A : Type 0} {f : A → Told} {p : List ℕ} where
  pub renamed : {least : ℕ} {o o' : Answer A} {row : ℕ} {l : List ℕ} {r : Walk} {m : List ℕ}
      → o ≡ o' → Walked p least f o' row l r m → Walked p least f o row l r m
  renamed e w = rw e w

  pub was : {least : ℕ} {o : Answer A} {row : ℕ} {l : List ℕ} {r r' : Walk} {m : List ℕ}
      → Walked p least f o row l r m → r ≡ r' → Walked p least f o row l r' m
  was w e = rw e at w

  pub as_refused : {least : ℕ} {row : ℕ} {l m : List ℕ} (o : Answer A) (n q : ℕ) → o ≡ refused n q → Walked p least f o row l (Refused n q) m
  as_refused o n q e = record { same = rw e; within = tt }

  -- a walk that went past has read, one that stopped was refused
  pub read_of : {least : ℕ} {o : Answer A} {row : ℕ} {l : List ℕ} {comparisons next row' : ℕ} {m : List ℕ}
      → Walked p least f o row l (Past comparisons next row') m → (a : A) × (o ≡ seen a (cursor_at p next))
  read_of {o} {row} {l} w = let (a, e, _) = ended_is (λ a. note (f a)) o (noted 0 row l) w.same in (a, e)

  pub refused-of : {least : ℕ} {o : Answer A} {row : ℕ} {l : List ℕ} {n q : ℕ} {m : List ℕ} → Walked p least f o row l (Refused n q) m → o ≡ refused n q
  refused-of {o} {row} {l} w = stopped-is (λ a. note (f a)) o (noted 0 row l) w.same

  -- less is asked of the place where a walk ends
  pub further : (least least' : ℕ) {o : Answer A} {row : ℕ} {l : List ℕ} (r : Walk) {m : List ℕ}
      → least' ≤ least → Walked p least f o row l r m → Walked p least' f o row l r m
  further least least' (Past comparisons next row) h w = record { same = w.same; within = let v = w.within in (v.0, v.1, omega arith) }
  further least least' (Refused n q) h w = record { same = w.same; within = tt }

-- ---- items one after the other

-- The end of a walk over the items of a plan.
abbrev pub ahead : (R S : ℕ → Shape) → (ℕ → Reader Tree) → (keys : List (List ℕ)) → List Item → Cursor → (comparisons row : ℕ) → List ℕ → Final
ahead R S P keys is c comparisons row l = walk_of (told_all R S is) (walk P keys is c) comparisons row l

module _ (R S : ℕ → Shape) where
  pub told-first : (i : Item) (is : List Item) (t : Tree) (ts : Forest) (x : Noted) → Unit {0}
      → note (told_all R S (i ∷ is) (plus t ts)) x ≡ note (told_all R S is ts) (note (told R S i.type t) x)
  unfolding told told_all rows rows_all pruned pruned_all tree.value values due.comparisons comparisons_all
  told-first i is t ts (noted comparisons row l) _ =
      noted-eq (omega arith) (rw length-append (omega arith)) (rows_append l row (rows (pruned R t i.type)) (rows_all (pruned_all R ts is)))

  -- What is told of trees, as a sheet takes it.
  abbrev pub telling : Sink Noted
  telling = record { one = λ t tree. note (told R S t tree); all = λ is ts. note (told_all R S is ts); Fits = λ _. Unit {0}; next = told-first }

  -- a leaf tells its own row
  pub tip-told : (t : ℕ) (r : Row) (x : List ℕ) (comparisons row : ℕ) (l : List ℕ) → noted comparisons (row + 1) (put_row l row r) ≡ note (told R S t (tip r x)) (noted comparisons row l)
  unfolding told rows pruned tree.value due.comparisons put_rows
  tip-told t r x comparisons row l = noted-eq (omega arith) refl refl

  pub walk_end : (P : ℕ → Reader Tree) (keys : List (List ℕ)) (c : Cursor) (comparisons row : ℕ) (l : List ℕ) → done c comparisons row l ≡ ahead R S P keys [] c comparisons row l
  unfolding walk told_all rows_all pruned_all values comparisons_all put_rows
  walk_end P keys c comparisons row l = done-eq refl (omega arith) (omega arith) refl

-- ---- a composite

module _ (R S : ℕ → Shape) (P : ℕ → Reader Tree) (sh : Shape) (t place h : ℕ) (c : Cursor) (row : ℕ) (l : List ℕ) where
  own_row : (o : Answer Forest) (c' : Cursor) (sum comparisons below : ℕ) (m : List ℕ) → comparisons ≡ map_comparisons sh h + sum
      → done c' sum below m ≡ walk_of (told_all R S (plan sh h)) o 0 (row + 1) l
      → done c' comparisons below (put_row m row (node_row t place c'.at (row_count sh h)))
      ≡ walk_of (told_held R S (map_comparisons sh h) (plan sh h)) (and_then o (λ ts end. seen (branch (node_row t place end.at (row_count sh h)) h ts) end)) 0 row l
  unfolding and_then told_held put_rows
  own_row (seen ts c₁) c' sum comparisons below m d e =
      let f : c' ≡ c₁ = cc in
      let u : sum ≡ 0 + (told_all R S (plan sh h) ts).comparisons = cc in
      let g : below ≡ row + 1 + length (told_all R S (plan sh h) ts).rows = cc in
      let k : m ≡ put_rows l (row + 1) (told_all R S (plan sh h) ts).rows = cc in
      rw (← k, ← f) (done-eq refl (omega arith) (omega arith) refl)
  own_row (refused n q) c' sum comparisons below m d e = differ cc

  -- its own row is written after those of what it holds
  pub composite_past : (p : List ℕ) (least here sum comparisons below : ℕ) (m after : List ℕ) (keys : List (List ℕ)) (is : List Item)
      → is ≡ []
      → ahead R S P keys is (cursor_at p here) sum below m ≡ ahead R S P [] (plan sh h) c 0 (row + 1) l
      → comparisons ≡ map_comparisons sh h + sum
      → after ≡ put_row m row (node_row t place here (row_count sh h))
      → here ≤ length p → below ≤ here → comparisons + 16 * least ≤ 16 * here
      → Walked p least (told_held R S (map_comparisons sh h) (plan sh h)) (whole_value P t sh (parts place h) c) row l (Past comparisons here below) after
  composite_past p least here sum comparisons below m after keys is none e d put i b f =
      record {
        same = rw put (own_row (walk P [] (plan sh h) c) (cursor_at p here) sum comparisons below m d (walk_end R S P keys (cursor_at p here) sum below m ∙ rw none at e));
        within = (i, b, f);
      }

  pub composite_stop : (p : List ℕ) (least n q : ℕ) (after : List ℕ)
      → stopped n q ≡ ahead R S P [] (plan sh h) c 0 (row + 1) l
      → Walked p least (told_held R S (map_comparisons sh h) (plan sh h)) (whole_value P t sh (parts place h) c) row l (Refused n q) after
  unfolding and_then
  composite_stop p least n q after e = record { same = rw (stopped-is ((telling R S).all (plan sh h)) (walk P [] (plan sh h) c) (noted 0 (row + 1) l) e); within = tt }

  -- what is left of an accepted composite is accepted
  pub rest-accepted : (o : Answer Forest) (is : List Item) (sum below : ℕ) (m : List ℕ)
      → walk_of (told_all R S is) o sum below m ≡ ahead R S P [] (plan sh h) c 0 (row + 1) l
      → Accepted (whole_value P t sh (parts place h) c) → Accepted o
  rest-accepted o is sum below m e a =
      accepted-along ((telling R S).all is) ((telling R S).all (plan sh h)) o (walk P [] (plan sh h) c) _ _ e (accepted-first (walk P [] (plan sh h) c) _ a)

  -- where all that it holds is shown, it is shown as it is
  module _ (shown : R t ≡ sh) (read : S t ≡ sh) where
    held_same : (o : Answer Forest)
        → walk_of (told_held R S (map_comparisons sh h) (plan sh h)) (and_then o (λ ts end. seen (branch (node_row t place end.at (row_count sh h)) h ts) end)) 0 row l
        ≡ walk_of (told R S t) (and_then o (λ ts end. seen (branch (node_row t place end.at (row_count sh h)) h ts) end)) 0 row l
    unfolding and_then told_held told told_all rows rows_all pruned pruned_all tree.value values due.comparisons comparisons_all
    held_same (seen ts c₁) = rw (shown, read)
    held_same (refused n q) = refl

    pub as_told : {p : List ℕ} {least : ℕ} {r : Walk} {m : List ℕ}
        → Walked p least (told_held R S (map_comparisons sh h) (plan sh h)) (whole_value P t sh (parts place h) c) row l r m
        → Walked p least (told R S t) (whole_value P t sh (parts place h) c) row l r m
    as_told w = record { same = w.same ∙ held_same (walk P [] (plan sh h) c); within = w.within }

-- ---- a value by its own bytes

module _ (S : ℕ → Shape) (d t : ℕ) (c : Cursor) (sh : Shape) (is : S t ≡ sh) where
  parse-step : parse S (suc d) t c ≡ and_then (own (S t) c) (λ o. whole_value (parse S d) t (S t) o)
  unfolding parse
  parse-step = refl

  pub parse-refused : (n q : ℕ) → own sh c ≡ refused n q → parse S (suc d) t c ≡ refused n q
  unfolding and_then
  parse-refused n q e = rw (parse-step, is, e)

  pub parse-whole : (o : Own) (c' : Cursor) → own sh c ≡ seen o c' → parse S (suc d) t c ≡ whole_value (parse S d) t sh o c'
  unfolding and_then
  parse-whole o c' e = rw (parse-step, is, e)

  pub own-accepted : Accepted (parse S (suc d) t c) → Accepted (own sh c)
  own-accepted h = accepted-first (own sh c) _ (rw (parse-step, is) at h)

pub parse-deep : (S : ℕ → Shape) (d t : ℕ) (c : Cursor) → d ≡ 0 → parse S d t c ≡ refused 28 c.at
unfolding parse
parse-deep S zero t c e = refl
parse-deep S (suc d) t c e = absurd (omega arith)

-- ---- a scalar, a string or bytes

abbrev pub span_row : (t from to : ℕ) → Row
span_row t from to = record { ty = t; place = from; length = to - from; count = 0 }

-- a content's place and length, and those of its row
module _ {p : List ℕ} {at : ℕ} {o : Answer Own} {r : Span} (read : Spanned p at o r) {from to : ℕ} (e : r ≡ At from to) where
  pub span_in : (from ≤ to) × (to ≤ length p) × (at < to)
  span_in = rw e at read.within

  pub span-put : {row : ℕ} → length p ≤ 16384 → row ≤ 16384 → (row ≤ 16384) × (from ≤ 16384) × (to - from ≤ 16384) × (0 ≤ 16384)
  span-put h b = omega (arith, h, b, span_in)

-- A type of such values, by its row.
pub record IsLeaf (s : List ℕ) (ty : ℕ) (t : TypeRow) : Type 0 where
  pub is : shape_in s ty ≡ leaf_shape t.kind
  pub some : 0 < t.kind
  pub leaf : t.kind < 14

pub is_leaf : {s : List ℕ} {ty : ℕ} {t : TypeRow} → t ≡ row_at (table_of s) ty → 0 < t.kind → t.kind < 14 → IsLeaf s ty t
is_leaf {s} {ty} {t} is some leaf = record { is = shape-leaf (table_of s) ty t is some leaf; some = some; leaf = leaf }

module _ {s : List ℕ} {ty : ℕ} {t : TypeRow} (w : IsLeaf s ty t) {depth : ℕ} (d0 : depth ≡ 0 → ⊥) {p : List ℕ} {at : ℕ} where
  -- what is asked before its content is read
  pub leaf-asked : {row : ℕ} {judging : Bool} → Ready s p at row judging (value_in s p depth ty at)
      → (length p ≤ 16384) × (at ≤ length p) × (0 < t.kind) × (t.kind < 14) × (judging ≡ false → Accepted (own (leaf_shape t.kind) (cursor_at p at)))
  leaf-asked q = (
    q.small,
    q.inside,
    w.some,
    w.leaf,
    λ j. own-accepted (shape_in s) (depth - 1) ty (cursor_at p at) (leaf_shape t.kind) w.is (deeper (λ d. Accepted (value_in s p d ty at)) depth d0 (q.judged j)),
  )

  -- what its content tells of it, once its row is put
  module _ {r : Span} (read : Spanned p at (own (leaf_shape t.kind) (cursor_at p at)) r) where
    pub leaf-failed : {n q : ℕ} → r ≡ SpanRefused q n → value_in s p depth ty at ≡ refused n q
    leaf-failed {n} {q} e = rw (deep depth d0) (parse-refused (shape_in s) (depth - 1) ty (cursor_at p at) (leaf_shape t.kind) w.is n q (sym read.same ∙ ap (span_of p) e))

    pub leaf-stop : {n q : ℕ} → r ≡ SpanRefused q n → {row : ℕ} {l m : List ℕ} (R : ℕ → Shape) → Walked p (at + 1) (told R (shape_in s) ty) (value_in s p depth ty at) row l (Refused n q) m
    leaf-stop e R = as_refused _ _ _ (leaf-failed e)

    module _ {from to : ℕ} (e : r ≡ At from to) where
      leaf-row : leaf_row ty to (length (between p from to)) ≡ span_row ty from to
      leaf-row =
          let i = span_in read e in
          let k : to - (to - from) ≡ from = omega arith in
          rw (length-between p from to i.1, k)

      pub leaf_parsed : value_in s p depth ty at ≡ seen (tip (span_row ty from to) (between p from to)) (cursor_at p to)
      leaf_parsed =
          rw (deep depth d0)
          (parse-whole (shape_in s) (depth - 1) ty (cursor_at p at) (leaf_shape t.kind) w.is (plain (between p from to)) (cursor_at p to) (sym read.same ∙ ap (span_of p) e))
          ∙ ap (λ (x : Row). seen (tip x (between p from to)) (cursor_at p to)) leaf-row

      pub leaf-past : {row : ℕ} {l m : List ℕ} → row ≤ at → m ≡ put_row l row (span_row ty from to)
          → (R : ℕ → Shape) → Walked p (at + 1) (told R (shape_in s) ty) (value_in s p depth ty at) row l (Past 0 to (row + 1)) m
      unfolding told rows pruned tree.value due.comparisons put_rows
      leaf-past b put R = let i = span_in read e in record { same = rw (leaf_parsed, put); within = (i.1, omega arith, omega arith) }
