-- Laws of the walkers: what one step of a walk does to its end.
use Rattle.std.specs.Prelude.{Result, Ok, Err}
use Rattle.std.specs.Result.{IsErrAnd}
use Rattle.std.proofs.lemmas.Result.{err_from_is_err_and}
use mathlib.Core.Path.{◌≡◌, refl, sym, ap, ◌∙◌}
use mathlib.Core.Bool.{Bool, true, false}
use mathlib.Core.List.{List, [], ◌∷◌, ◌++◌}
use Prim.Native.Nat.{ℕ, zero, suc, ◌+◌, ◌-◌, ◌/◌, ◌≤◌}
use native.Mathlib.Omega.{arith}
use lib.Dec.{eqb}
use lib.ListN.{length}
use Rattle.buffer.specs.Store.{put}
use Rattle.parse.specs.Reader.{CursorOf, AnswerOf, refused, seen, and_then, check, Accepted}
use Rattle.parse.proofs.Answers.{accepted-first, accepted-alike, refused-alike, then-inv, stops, steps}
use Rattle.schema.specs.Table.{Shape, unknown}
use Rattle.value.specs.declared.Row.{Row}
use Rattle.value.specs.Value.{Tree, tip, branch, Forest, plus, value, values}
use Rattle.value.specs.Read.{Item, plan, plain, parts, walk}
use Rattle.value.specs.Spell.{leaf_bytes, head_bytes, encode, encode_all}
use Rattle.value.specs.Write.{RowReader, next_row, row_due, says, held, show}
use Rattle.walks.proofs.Walks.{deep, deeper, shallower}
use Rattle.walks.specs.Sink.{ended}
use Rattle.walks.proofs.Items.{accepted-along, Sink}
use Rattle.constants.specs.Number.{number_of}
use Rattle.constants.specs.declared.refusal.Refused.{Refused}
use Rattle.writer.specs.declared.rows.Rows.{Rows}
use Rattle.writer.specs.declared.walk.Past.{Past}
use Rattle.writer.specs.Emit.{cap, PutAt, Emitted, emitted, append, Final, done, stopped, emit, emit_all}
use Rattle.writer.specs.Leaf.{rows_at, row_says}
use Rattle.writer.specs.Walk.{Walked, Ready}
use Rattle.writer.proofs.Puts.{put-after}

-- ---- ends

pub was : {cells : List ℕ} {end : Final} {r r' : Result Past Refused} {out : List ℕ} → Walked cells end r out → r ≡ r' → Walked cells end r' out
was w e = rw e at w

pub renamed : {cells : List ℕ} {end end' : Final} {r : Result Past Refused} {out : List ℕ} → end ≡ end' → Walked cells end r out → Walked cells end' r out
renamed e w = rw e at w

pub as_stopped : {cells : List ℕ} {end : Final} {out : List ℕ} {e : Refused} → stopped (number_of e.refusal) e.place ≡ end → Walked cells end (Err e) out
as_stopped h = record { same = h; within = tt }

pub as_refused : {cells : List ℕ} {end : Final} {out : List ℕ} {r : Result Past Refused} {e : Refused} → r ≡ Err e → stopped (number_of e.refusal) e.place ≡ end → Walked cells end r out
as_refused is h = rw is (as_stopped h)

-- what `?` hands on
pub handed : {A : Type 0} {r : Result A Refused} {e : Refused} → IsErrAnd r (λ y. y ≡ e) → r ≡ Err e
handed {r = r} h = let p = err_from_is_err_and r h in p.1 ∙ ap (λ (y : Refused). Err y) p.2

-- a value that is refused ends its walk
pub shown-stopped : (S : ℕ → Shape) (t pos : ℕ) (out : List ℕ) {o : AnswerOf Row Tree} {n q : ℕ} → o ≡ refused n q → stopped n q ≡ emit S t o pos out
unfolding emit
shown-stopped S t pos out h = rw h

pub shown-refused : (S : ℕ → Shape) (t pos : ℕ) (out : List ℕ) {o : AnswerOf Row Tree} {cells out' : List ℕ} {r : Result Past Refused} {e : Refused}
    → r ≡ Err e → o ≡ refused (number_of e.refusal) e.place → Walked cells (emit S t o pos out) r out'
shown-refused S t pos out is h = as_refused is (shown-stopped S t pos out h)

-- bytes put after bytes
put_both : (out : List ℕ) (pos : ℕ) (a b : List ℕ) (next : ℕ) (mid : List ℕ) → length out ≤ 16384 → PutAt out pos a next mid
    → append b (emitted next mid) ≡ append (a ++ b) (emitted pos out)
put_both out pos a b next mid h p =
    let w = put-after out pos a b next mid (cap (next + length b)) (put mid next b) h p (record { holds = refl; further = refl; capped = omega arith }) in
    let e : put mid next b ≡ put out pos (a ++ b) = w.holds in
    let f : cap (next + length b) ≡ cap (pos + length (a ++ b)) = w.further in
    cc

pub done-put : (c : CursorOf Row) (out : List ℕ) (pos : ℕ) (a b : List ℕ) (next : ℕ) (mid : List ℕ) → length out ≤ 16384 → PutAt out pos a next mid
    → done c (cap (next + length b)) (put mid next b) ≡ done c (cap (pos + length (a ++ b))) (put out pos (a ++ b))
done-put c out pos a b next mid h p = ap (λ (x : Emitted). ended c x) (put_both out pos a b next mid h p)

pub put_is : {out : List ℕ} {pos : ℕ} {bs : List ℕ} {next : ℕ} {after : List ℕ} → PutAt out pos bs next after → emitted next after ≡ append bs (emitted pos out)
put_is p = let e = p.holds in let f = p.further in cc

module _ (S : ℕ → Shape) where
  abbrev pub Small : Emitted → Type 0
  Small (emitted pos out) = length out ≤ 16384

  pub first-emitted : (i : Item) (is : List Item) (t : Tree) (ts : Forest) (x : Emitted) → Small x
      → append (encode_all S (values (plus t ts)) (i ∷ is)) x ≡ append (encode_all S (values ts) is) (append (encode S (value t) i.type) x)
  unfolding encode_all values
  first-emitted i is t ts (emitted pos out) h =
      sym (put_both out pos (encode S (value t) i.type) (encode_all S (values ts) is) _ _ h (record { holds = refl; further = refl; capped = omega arith }))

  -- The encoding of trees, as an output takes it.
  abbrev pub emitting : Sink Emitted
  emitting = record { one = λ t tree. append (encode S (value tree) t); all = λ is ts. append (encode_all S (values ts) is); Fits = Small; next = first-emitted }

-- where two walks have the same end, one accepts where the other does
pub shown-along : (S : ℕ → Shape) (is is' : List Item) (o o' : AnswerOf Row Forest) (pos pos' : ℕ) (l m : List ℕ)
    → emit_all S is o pos l ≡ emit_all S is' o' pos' m → Accepted o' → Accepted o
unfolding emit_all
shown-along S is is' o o' pos pos' l m e h = accepted-along ((emitting S).all is) ((emitting S).all is') o o' _ _ e h

-- what a walker may assume of the next one
pub onward : {A A' : Type 0} {rows : Rows} {out out' : List ℕ} {row row' pos pos' : ℕ} {o : AnswerOf Row A} {o' : AnswerOf Row A'}
    → Ready rows out row pos o → row' ≤ length rows.sheet.now / 4 → pos' ≤ 16385 → length out' ≡ length out → (Accepted o → Accepted o')
    → Ready rows out' row' pos' o'
onward w inside capped long held = record { inside = inside; capped = capped; small = rw long w.small; judged = λ j. held (w.judged j) }

pub branch-bytes : (S : ℕ → Shape) (t : ℕ) (r : Row) (h : ℕ) (ts : Forest) → encode S (value (branch r h ts)) t ≡ head_bytes (S t) h ++ encode_all S (values ts) (plan (S t) h)
unfolding encode value
branch-bytes S t r h ts = refl

pub tip-bytes : (S : ℕ → Shape) (t : ℕ) (r : Row) (x : List ℕ) → encode S (value (tip r x)) t ≡ leaf_bytes (S t) x
unfolding encode value
tip-bytes S t r x = refl

-- ---- items one after the other

-- The end of a walk over the items of a plan.
abbrev pub ahead : (ℕ → Shape) → (ℕ → RowReader Tree) → (keys : List (List ℕ)) → List Item → CursorOf Row → (pos : ℕ) → List ℕ → Final
ahead S P keys is c pos out = emit_all S is (walk P keys is c) pos out

walk_end : (S : ℕ → Shape) (P : ℕ → RowReader Tree) (keys : List (List ℕ)) (c : CursorOf Row) (pos : ℕ) (out : List ℕ) → pos ≤ 16385
    → done c pos out ≡ ahead S P keys [] c pos out
unfolding walk emit_all encode_all values put
walk_end S P keys c pos out h = let e : cap (pos + 0) ≡ pos = omega arith in rw e

-- where no item is left, the end is here
pub walk-done : (S : ℕ → Shape) (P : ℕ → RowReader Tree) (keys : List (List ℕ)) {is : List Item} {cells : List ℕ} {row pos : ℕ} {out : List ℕ} {end : Final}
    → is ≡ [] → ahead S P keys is (rows_at cells row) pos out ≡ end → row ≤ length cells / 4 → pos ≤ 16385 → Walked cells end (Ok (record { row = row; pos = pos })) out
walk-done S P keys {cells} {row} {pos} {out} e h i p =
    record { same = walk_end S P keys (rows_at cells row) pos out p ∙ (rw e at h); within = (i, p) }

-- ---- a value by its row

module _ (S : ℕ → Shape) (B : List ℕ) (d t : ℕ) (c : CursorOf Row) where
  after_row : Shape → Row → RowReader Tree
  after_row sh r c₁ = and_then (says B c.at sh r.place r.length r.count c₁) (λ o. held (show S B d) r sh o)

  show-step : show S B (suc d) t c ≡ and_then (row_due t c) (after_row (S t))
  unfolding show after_row
  show-step = refl

  pub show-refused : (n q : ℕ) → row_due t c ≡ refused n q → show S B (suc d) t c ≡ refused n q
  unfolding and_then
  show-refused n q e = rw (show-step, e)

  module _ (sh : Shape) (is : S t ≡ sh) (r : Row) (c₁ : CursorOf Row) (row : row_due t c ≡ seen r c₁) where
    show-row : show S B (suc d) t c ≡ and_then (says B c.at sh r.place r.length r.count c₁) (λ o. held (show S B d) r sh o)
    unfolding and_then after_row
    show-row = rw (show-step, is, row)

    pub show_bad : (n q : ℕ) → says B c.at sh r.place r.length r.count c₁ ≡ refused n q → show S B (suc d) t c ≡ refused n q
    unfolding and_then
    show_bad n q e = rw (show-row, e)

    pub show-parts : (z h : ℕ) → says B c.at sh r.place r.length r.count c₁ ≡ seen (parts z h) c₁
        → show S B (suc d) t c ≡ and_then (walk (show S B d) [] (plan sh h) c₁) (λ ts c. seen (branch r h ts) c)
    unfolding and_then
    show-parts z h e = rw (show-row, e)

  -- ---- a leaf

  module _ (sh : Shape) (is : S t ≡ sh) where
    pub leaf-shown : (x : List ℕ) (c' : CursorOf Row) → row_says B t sh c ≡ seen (plain x) c' → (r : Row) × (show S B (suc d) t c ≡ seen (tip r x) c')
    unfolding row_says after_row
    leaf-shown x c' e =
        let (r, _, row, said) = then-inv (row_due t c) _ e in
        (r, rw (show-step, is) (steps (after_row sh) row (steps _ said refl)))

    pub leaf-refused : (n q : ℕ) → row_says B t sh c ≡ refused n q → show S B (suc d) t c ≡ refused n q
    unfolding row_says after_row
    leaf-refused n q e = rw (show-step, is) (refused-alike (row_due t c) _ _ e (λ r c₁. stops _))

    leaf-said : Accepted (show S B (suc d) t c) → Accepted (row_says B t sh c)
    unfolding row_says after_row
    leaf-said h = accepted-alike (row_due t c) _ _ (rw (show-step, is) at h) (λ r c₁. accepted-first (says B c.at sh r.place r.length r.count c₁) _)

-- ---- by the depth that is left

pub show-deep : (S : ℕ → Shape) (B : List ℕ) (d t : ℕ) (c : CursorOf Row) → d ≡ 0 → show S B d t c ≡ refused 28 c.at
unfolding show
show-deep S B zero t c e = refl
show-deep S B (suc d) t c e = absurd (omega arith)

module _ (S : ℕ → Shape) (B : List ℕ) {d : ℕ} (some : d ≡ 0 → ⊥) (t : ℕ) (c : CursorOf Row) where
  pub accepted-deeper : Accepted (show S B d t c) → Accepted (show S B (suc (d - 1)) t c)
  accepted-deeper = deeper (λ k. Accepted (show S B k t c)) d some

  pub walked-deeper : (pos : ℕ) (out : List ℕ) {cells : List ℕ} {r : Result Past Refused} {out' : List ℕ}
      → Walked cells (emit S t (show S B (suc (d - 1)) t c) pos out) r out' → Walked cells (emit S t (show S B d t c) pos out) r out'
  walked-deeper pos out {cells} {r} {out'} = shallower (λ k. Walked cells (emit S t (show S B k t c) pos out) r out') d some

  pub leaf-accepted : {sh : Shape} → S t ≡ sh → Accepted (show S B d t c) → Accepted (row_says B t sh c)
  leaf-accepted {sh} is a = leaf-said S B (d - 1) t c sh is (accepted-deeper a)

module _ (S : ℕ → Shape) (B : List ℕ) {d : ℕ} (some : d ≡ 0 → ⊥) (is : List Item) (c : CursorOf Row) where
  pub items-deeper : Accepted (walk (show S B d) [] is c) → Accepted (walk (show S B (suc (d - 1))) [] is c)
  items-deeper = deeper (λ k. Accepted (walk (show S B k) [] is c)) d some

  pub items-shallower : (pos : ℕ) (out : List ℕ) {cells : List ℕ} {r : Result Past Refused} {out' : List ℕ}
      → Walked cells (ahead S (show S B (suc (d - 1))) [] is c pos out) r out' → Walked cells (ahead S (show S B d) [] is c pos out) r out'
  items-shallower pos out {cells} {r} {out'} = shallower (λ k. Walked cells (ahead S (show S B k) [] is c pos out) r out') d some

row-none : (t k : ℕ) → row_due t (record { left = []; at = k }) ≡ refused 50 k
unfolding and_then row_due next_row
row-none t k = refl

module _ (r : Row) (rest : List Row) (t k : ℕ) where
  row_typed : eqb r.ty t ≡ true → row_due t (record { left = r ∷ rest; at = k }) ≡ seen r (record { left = rest; at = k + 1 })
  unfolding and_then row_due next_row check
  row_typed e = rw e

  row_other : eqb r.ty t ≡ false → row_due t (record { left = r ∷ rest; at = k }) ≡ refused 50 k
  unfolding and_then row_due next_row check
  row_other e = rw e

-- a row of an unknown type is refused, whatever it is
pub show-unknown : (S : ℕ → Shape) (B : List ℕ) {d : ℕ} (some : d ≡ 0 → ⊥) (t : ℕ) (rs : List Row) (k : ℕ) → S t ≡ unknown
    → show S B d t (record { left = rs; at = k }) ≡ refused 50 k
show-unknown S B {d} some t rs k is = rw (deep d some) (whatever rs)
  where
    either : (r : Row) (rest : List Row) (b : Bool) → eqb r.ty t ≡ b → show S B (suc (d - 1)) t (record { left = r ∷ rest; at = k }) ≡ refused 50 k
    either r rest true e =
        show_bad S B (d - 1) t (record { left = r ∷ rest; at = k }) unknown is r (record { left = rest; at = k + 1 }) (row_typed r rest t k e) 50 k refl
    either r rest false e = show-refused S B (d - 1) t (record { left = r ∷ rest; at = k }) 50 k (row_other r rest t k e)

    whatever : (rs : List Row) → show S B (suc (d - 1)) t (record { left = rs; at = k }) ≡ refused 50 k
    whatever [] = show-refused S B (d - 1) t (record { left = []; at = k }) 50 k (row-none t k)
    whatever (r ∷ rest) = either r rest (eqb r.ty t) refl
