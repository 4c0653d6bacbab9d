-- What the root readers by an old table and by a table that extends it say of the same payload.
use mathlib.Core.Path.{◌≡◌, refl, ap, ◌∙◌}
use mathlib.Core.List.{List, [], ◌∷◌, ◌++◌, append-nil}
use mathlib.Core.Option.{Option, none, some}
use mathlib.Core.Bool.{Bool, false, not, ◌&&◌}
use Prim.Native.Nat.{ℕ, suc, ◌+◌, ◌/◌, ◌^◌, ◌≤◌}
use native.Mathlib.Omega.{arith}
use lib.ListN.{length, length-append}
use Rattle.wire.proofs.Cases.{nothing_left}
use Rattle.parse.specs.Reader.{Cursor, seen, Reader, and_then, check}
use Rattle.parse.proofs.Answers.{then-inv, reads_end, Seen, value as holds, seen-then}
use Rattle.schema.specs.declared.Field.{Field}
use Rattle.schema.specs.Table.{Shape, struct, bitmap_bytes}
use Rattle.value.specs.declared.Row.{Row}
use Rattle.value.specs.Value.{Value, Values, none as empty, some as and, Tree, tip, branch, Forest, stop, plus, value, values, content}
use Rattle.value.specs.Read.{Item, row_count, node_row, present, bitmap, walk, parse, root_bits, known_bits, unknown_bits, root_struct, among, with_key}
use Rattle.value.specs.Spell.{AllSpell, Spells, TailFits}
use Rattle.value.proofs.Shapes.{FieldsBelow, Optional, Extension}
use Rattle.value.specs.Added.{first_added, reached_all, NoneAdded}
use Rattle.value.proofs.Bits.{present_mod, known-again, present-known, present-added, plan-split, unknown-split, no-added}
use Rattle.value.proofs.Sound.{bitmap-reads, walk-reads, parse-reads}
use Rattle.value.proofs.Complete.{takes, all_take}
use Rattle.value.proofs.Root.{Unkeyed, present_unkeyed, bits_in_front, ending-sound, ending-complete}
use Rattle.value.proofs.TwoTables.{Follows, first_of, outcome, follows-outcome, Agrees, alike, follows-agrees, agrees-then, walk-follows, two-tables, present-below, bitmap_gain}
use Rattle.value.proofs.Without.{◌⧺◌, trees, reached-first}

-- ---- walks over two plans

-- One step of a walk, taken apart and put together.
Step : (ℕ → Reader Tree) → List (List ℕ) → Item → List Item → Cursor → Forest → Cursor → Type 0
Step p keys i is c ts c'' =
    (t : Tree) × (c₁ : Cursor) × (c₂ : Cursor) × (us : Forest)
    × (p i.type c ≡ seen t c₁)
    × (check (not (i.key && among (content (value t)) keys)) 24 c.at c₁ ≡ seen tt c₂)
    × (walk p (with_key i.key (content (value t)) keys) is c₂ ≡ seen us c'')
    × (ts ≡ plus t us)

walk_step : (p : ℕ → Reader Tree) (keys : List (List ℕ)) (i : Item) (is : List Item) (c : Cursor) (ts : Forest) (c'' : Cursor)
    → walk p keys (i ∷ is) c ≡ seen ts c'' → Step p keys i is c ts c''
unfolding walk Step
walk_step p keys i is c ts c'' e =
    let a = then-inv _ _ e in
    let b = then-inv _ _ a.3 in
    let d = then-inv _ _ b.3 in
    (a.0, a.1, b.1, d.0, a.2, b.2, d.2 ∙ cc d.3, cc d.3)

step-walk : (p : ℕ → Reader Tree) (keys : List (List ℕ)) (i : Item) (is : List Item) (c : Cursor) (ts : Forest) (c'' : Cursor)
    → Step p keys i is c ts c'' → walk p keys (i ∷ is) c ≡ seen ts c''
unfolding walk and_then Step
step-walk p keys i is c ts c'' w = rw (w.4, w.5, w.6, w.7)

no_key : (b : Bool) (x : List ℕ) (keys : List (List ℕ)) → b ≡ false → with_key b x keys ≡ keys
no_key b x keys e = rw e

-- Where the items of two plans are read, each plan is.
walk_split : (p : ℕ → Reader Tree) (keys : List (List ℕ)) (is js : List Item) → Unkeyed is → (c : Cursor) (ts : Forest) (c'' : Cursor)
    → walk p keys (is ++ js) c ≡ seen ts c''
    → (us : Forest) × (c' : Cursor) × (vs : Forest) × (walk p keys is c ≡ seen us c') × (walk p keys js c' ≡ seen vs c'') × (ts ≡ us ⧺ vs)
unfolding walk Step
walk_split p keys [] js u c ts c'' e = (stop, c, ts, refl, e, refl)
walk_split p keys (i ∷ is) js u c ts c'' e =
    let w = walk_step p keys i (is ++ js) c ts c'' e in
    let k = no_key i.key (content (value w.0)) keys u.0 in
    let r = walk_split p keys is js u.1 w.2 w.3 c'' (rw k at w.6) in (
      plus w.0 r.0,
      r.1,
      r.2,
      step-walk p keys i is c _ _ (w.0, w.1, w.2, r.0, w.4, w.5, rw k r.3, refl),
      r.4,
      cc (w.7, r.5),
    )

pub walk-size : (p : ℕ → Reader Tree) (keys : List (List ℕ)) (is : List Item) (c : Cursor) (ts : Forest) (c'' : Cursor) → walk p keys is c ≡ seen ts c'' → trees ts ≡ length is
unfolding walk Step
walk-size p keys [] c ts c'' e = let f : ts ≡ stop = cc in rw f
walk-size p keys (i ∷ is) c ts c'' e =
    let w = walk_step p keys i is c ts c'' e in
    rw w.7 (ap suc (walk-size p (with_key i.key (content (value w.0)) keys) is w.2 w.3 c'' w.6))

-- ---- the tail

-- A tail that is long enough with the added fields before it.
tail-longer : (j k : ℕ) (u z : List ℕ) → j ≤ length u → (j ≡ 0 → length u ≡ 0) → TailFits k z → TailFits (j + k) (u ++ z)
tail-longer j k u z h e f =
    let l = length-append u z in
    (omega (arith, f.0), λ i. let a : length u ≡ 0 = e (omega arith) in let b : length z ≡ 0 = f.1 (omega arith) in omega arith)

all-empty : (P : ℕ → Value → List ℕ → Type 0) (is : List Item) (vs : Values) (u : List ℕ) → AllSpell P is vs u → length is ≡ 0 → length u ≡ 0
all-empty P [] empty u q e = rw q
all-empty P [] (and v vs) u q e = absurd q
all-empty P (i ∷ is) vs u q e = absurd (omega arith)

-- ---- from the new table to the old one

-- What the old root shows of a struct with the bits m: the trees us of its known fields, up to the cursor after them.
abbrev pub root_tree : ℕ → List Field → (start m : ℕ) → Forest → Cursor → Tree
root_tree t fs start m us end = branch (node_row t start end.at (row_count (struct fs) m)) (known_bits fs m) us

module _ (S S' : ℕ → Shape) (n : ℕ) (x : Extension S S' n) (t : ℕ) (fs gs : List Field) (below : FieldsBelow n fs)
    (b : bitmap_bytes (length (fs ++ gs)) ≡ bitmap_bytes (length fs)) (o : Optional gs) (c : Cursor)
  where
    follows : (m : ℕ) (c₁ : Cursor) → Follows (first_of S (present fs m)) (walk (parse S 15) [] (present fs m) c₁) (walk (parse S' 15) [] (present fs m) c₁)
    follows m c₁ =
        walk-follows S n (parse S 15) (parse S' 15) (two-tables S S' n x 15) [] (present fs m) (present-below n fs m below) c₁

    old-root : (m : ℕ) (c₁ : Cursor) (us : Forest) (c' : Cursor) → bitmap fs c ≡ seen m c₁ → (f : Option ℕ)
        → walk (parse S 15) [] (present fs m) c₁ ≡ outcome f us c' → TailFits (unknown_bits fs m) c'.left
        → root_struct S t fs c ≡ outcome f (root_tree t fs c.at m us c') c'
    unfolding root_struct and_then
    old-root m c₁ us c' e none f h = rw (e, present_mod fs m, f, ending-complete (unknown_bits fs m) c' h)
    old-root m c₁ us c' e (some p) f h = rw (e, present_mod fs m, f)

    -- The parts of a root that the new reader accepts as a tree, up to `end`: the old reader's answer; the old fields' trees before the added
    -- fields' ones; and the bytes of the added fields, which stand where the old reader stops.
    abbrev pub OldSays : Tree → Cursor → Type 0
    OldSays (tip r y) end = ⊥
    OldSays (branch r h ts) end =
        (us : Forest) × (vs : Forest) × (w : List ℕ) × (c' : Cursor)
        × (root_struct S t fs c ≡ outcome (first_added (reached_all S ts (present fs h))) (root_tree t fs c.at h us c') c')
        × (ts ≡ us ⧺ vs)
        × (trees us ≡ length (present fs h))
        × (c'.left ≡ w ++ end.left)
        × AllSpell (Spells S' 15) (present gs (h / 2 ^ length fs)) (values vs) w

    -- The added fields and the new table's tail are tail enough for the old one.
    tail-fits : (m : ℕ) (w z : List ℕ) (vs : Forest) → AllSpell (Spells S' 15) (present gs (m / 2 ^ length fs)) (values vs) w
        → TailFits (unknown_bits (fs ++ gs) m) z → TailFits (unknown_bits fs m) (w ++ z)
    tail-fits m w z vs q f =
        let is = present gs (m / 2 ^ length fs) in
        rw (unknown-split fs gs m b)
        (tail-longer _ _ w z (all_take (Spells S' 15) (takes S' x.wide.solid 15) is (values vs) w q) (all-empty (Spells S' 15) is (values vs) w q) f)

    joined : (m : ℕ) (c₁ : Cursor) (ts : Forest) (c₂ : Cursor) (us : Forest) (c' : Cursor) (vs : Forest) (r : Row) → bitmap fs c ≡ seen m c₁
        → walk (parse S' 15) [] (present fs m) c₁ ≡ seen us c' → walk (parse S' 15) [] (present gs (m / 2 ^ length fs)) c' ≡ seen vs c₂
        → ts ≡ us ⧺ vs → TailFits (unknown_bits (fs ++ gs) m) c₂.left → OldSays (branch r (known_bits (fs ++ gs) m) ts) c₂
    joined m c₁ ts c₂ us c' vs r e₁ e₂ e₃ s f =
        let w = reads_end (walk-reads (Spells S' 15) (parse S' 15) (parse-reads S' 15) [] (present gs (m / 2 ^ length fs)) c') e₃ in
        let z = walk-size (parse S' 15) [] (present fs m) c₁ us c' e₂ in
        let a : TailFits (unknown_bits fs m) c'.left = rw w.1 (tail-fits m w.0 c₂.left vs w.2.0 f) in
        let p : first_added (reached_all S ts (present fs m)) ≡ first_added (reached_all S us (present fs m)) = rw (s, reached-first S us vs (present fs m) z) in
        rw (present-known fs gs m, known-again fs gs m, present-added fs gs m, p)
        (us, vs, w.0, c', old-root m c₁ us c' e₁ (first_of S (present fs m) us) (follows-outcome (follows m c₁) e₂) a, s, z, w.1, w.2.0)

    pub new-then-old-root : Seen OldSays (root_struct S' t (fs ++ gs) c)
    unfolding root_struct
    new-then-old-root = seen-then _ (λ m c₁ e₁. seen-then _ (λ ts c₂ e₂. seen-then _ (λ _ c₃ e₃.
        let w = walk_split (parse S' 15) [] (present fs m) (present gs (m / 2 ^ length fs)) (present_unkeyed fs m) c₁ ts c₂ (rw (plan-split fs gs m) at e₂) in
        let z = ending-sound _ c₂ c₃ _ e₃ in
        rw (← z.0) (holds (joined m c₁ ts c₂ w.0 w.1 w.2 (node_row t c.at c₂.at (row_count (struct (fs ++ gs)) (known_bits (fs ++ gs) m))) (rw (bitmap_gain fs gs b o c) at e₁) w.3 w.4 w.5 z.1)))))

    -- ---- from the old table to the new one

    plan-same : (m : ℕ) → length (present gs (m / 2 ^ length fs)) ≡ 0 → present (fs ++ gs) (known_bits (fs ++ gs) m) ≡ present fs m
    plan-same m e = plan-split fs gs m ∙ go (present gs (m / 2 ^ length fs)) e
      where
        go : (is : List Item) → length is ≡ 0 → present fs m ++ is ≡ present fs m
        go [] e = append-nil (present fs m)
        go (i ∷ is) e = absurd (omega arith)

    -- The bits that were read are those at the front.
    front-bits : (m : ℕ) (c₁ : Cursor) → bitmap fs c ≡ seen m c₁ → root_bits fs c.left ≡ m
    front-bits m c₁ e = let r = reads_end (bitmap-reads fs c) e in bits_in_front fs m r.0 c₁.left c.left r.1 r.2

    -- Where no added field's bit is set, the old root reader answers as the new one does, or 26.
    pub root-agrees : NoneAdded fs gs c.left → Agrees (root_struct S t fs c) (root_struct S' t (fs ++ gs) c)
    unfolding root_struct
    root-agrees bare = rw (bitmap_gain fs gs b o c) (agrees-then (alike (bitmap fs c)) (λ m c₁ e₁.
        let z : length (present gs (m / 2 ^ length fs)) ≡ 0 = rw (front-bits m c₁ e₁) at (ap length bare) in
        let k : unknown_bits (fs ++ gs) m ≡ unknown_bits fs m = omega (arith, unknown-split fs gs m b) in
        rw (plan-same m z, present_mod fs m, k, no-added fs gs m z) (agrees-then (follows-agrees (follows m c₁)) (λ ts c₂ _. alike _))))

    -- None is set where the old reader has no tail.
    pub tailless : Seen (λ tree end. length end.left ≡ 0 → NoneAdded fs gs c.left) (root_struct S t fs c)
    unfolding root_struct
    tailless = seen-then _ (λ m c₁ e₁. seen-then _ (λ ts c₂ e₂. seen-then _ (λ _ c₃ e₃.
        let z = ending-sound _ c₂ c₃ _ e₃ in
        rw (← z.0, front-bits m c₁ e₁) (holds {c = c₂} (λ (l : length c₂.left ≡ 0). nothing_left (present gs (m / 2 ^ length fs)) (omega (arith, unknown-split fs gs m b, z.1.0, l)))))))
