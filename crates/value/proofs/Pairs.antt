-- A map by its pairs: no two of its keys have the same content exactly where no two are the same value, by the types that keys have in a good table.
use mathlib.Core.Path.{◌≡◌, refl, sym, ap, subst, ◌∙◌}
use mathlib.Core.Logic.{◌↔◌}
use mathlib.Core.List.{List, [], ◌∷◌, ◌++◌, head-eq_of_cons-eq, tail-eq_of_cons-eq}
use mathlib.Core.Bool.{true, false≢true}
use Prim.Native.Nat.{ℕ, zero, suc, ◌*◌, ◌≤◌, ◌<◌}
use native.Mathlib.Omega.{arith}
use lib.ListN.{length, get_or}
use Rattle.wire.specs.Varuint.{Spelled}
use Rattle.wire.proofs.Cases.{differ}
use Rattle.schema.specs.Table.{Shape, unknown, scalar, text, array, map, struct}
use Rattle.schema.proofs.Shapes.{KeyShape}
use Rattle.value.specs.declared.Row.{Row}
use Rattle.value.specs.Value.{Tree, tip, branch, Forest, stop, plus, Value, leaf, node, Values, none, some, value, values, content}
use Rattle.value.specs.Read.{Item, pairs, plan}
use Rattle.value.specs.Spell.{HeadSpells, AllSpell, Spells, keys_of, Distinct, nth, Differ}
use Rattle.value.specs.Fits.{HeadFits, AllFit, Fits}
use Rattle.value.specs.Reasons.{Due, AmongKeys, KeyAmong}
use Rattle.value.specs.SheetReasons.{RowDue}
use Rattle.value.proofs.Complete.{length_pairs}

-- The keys of n pairs are every other value.
pub pair-keys : (P : ℕ → Value → List ℕ → Type 0) (n k w : ℕ) (vs : Values) (u : List ℕ) → AllSpell P (pairs n k w) vs u
    → (length (keys_of (pairs n k w) vs) ≡ n) × ((i : ℕ) → i < n → get_or (keys_of (pairs n k w) vs) i [] ≡ content (nth vs (2 * i)))
pair-keys P zero k w vs u q = (refl, λ i h. absurd (omega arith))
pair-keys P (suc n) k w none u q = absurd q
pair-keys P (suc n) k w (some a none) u q = absurd q.4
pair-keys P (suc n) k w (some a (some b vs)) u q = let r = pair-keys P n k w vs q.4.1 q.4.4 in (ap suc r.0, at r.1)
  where
    at : ((i : ℕ) → i < n → get_or (keys_of (pairs n k w) vs) i [] ≡ content (nth vs (2 * i)))
        → (i : ℕ) → i < suc n → get_or (content a ∷ keys_of (pairs n k w) vs) i [] ≡ content (nth (some a (some b vs)) (2 * i))
    at f zero h = refl
    at f (suc i) h =
        let e : 2 * suc i ≡ suc (suc (2 * i)) = omega arith in
        rw e (f i (omega arith))

-- ---- keys whose contents are apart are those that differ as values

pub distinct-differ : (P : ℕ → Value → List ℕ → Type 0) (n k w : ℕ) (vs : Values) (u : List ℕ) → AllSpell P (pairs n k w) vs u → Distinct (keys_of (pairs n k w) vs) → Differ n vs
distinct-differ P n k w vs u q distinct i j l m e =
    let r = pair-keys P n k w vs u q in
    distinct i j l (rw r.0 m) (r.1 i (omega arith) ∙ ap content e ∙ sym (r.1 j m))

-- Leaves with the same content are the same value.
same-leaf : (x y : List ℕ) → content (leaf x) ≡ content (leaf y) → leaf x ≡ leaf y
same-leaf x y e = ap leaf e

-- The other way round, of keys that are leaves.
module _ (P : ℕ → Value → List ℕ → Type 0) (k : ℕ) (leaves : (v : Value) (u : List ℕ) → P k v u → (x : List ℕ) × (v ≡ leaf x)) where
  key-leaf : (n w : ℕ) (vs : Values) (u : List ℕ) → AllSpell P (pairs n k w) vs u → (i : ℕ) → i < n → (x : List ℕ) × (nth vs (2 * i) ≡ leaf x)
  key-leaf zero w vs u q i h = absurd (omega arith)
  key-leaf (suc n) w none u q i h = absurd q
  key-leaf (suc n) w (some a none) u q i h = absurd q.4
  key-leaf (suc n) w (some a (some b vs)) u q zero h = leaves a q.0 q.3
  key-leaf (suc n) w (some a (some b vs)) u q (suc i) h =
      let e : 2 * suc i ≡ suc (suc (2 * i)) = omega arith in
      rw e (key-leaf n w vs q.4.1 q.4.4 i (omega arith))

  differ-distinct : (n w : ℕ) (vs : Values) (u : List ℕ) → AllSpell P (pairs n k w) vs u → Differ n vs → Distinct (keys_of (pairs n k w) vs)
  differ-distinct n w vs u q differs i j l m e =
      let r = pair-keys P n k w vs u q in
      let m' : j < n = rw r.0 at m in
      let (x, is_x) = key-leaf n w vs u q i (omega arith) in
      let (y, is_y) = key-leaf n w vs u q j m' in
      let same : content (leaf x) ≡ content (leaf y) = sym (ap content is_x) ∙ sym (r.1 i (omega arith)) ∙ e ∙ r.1 j m' ∙ ap content is_y in
      differs i j l m' (is_x ∙ same-leaf x y same ∙ sym is_y)

  distinct-iff : (n w : ℕ) (vs : Values) (u : List ℕ) → AllSpell P (pairs n k w) vs u → Distinct (keys_of (pairs n k w) vs) ↔ Differ n vs
  distinct-iff n w vs u q = (distinct-differ P n k w vs u q, differ-distinct n w vs u q)

  -- A content is that of one of the keys of m pairs exactly where that key is the same value.
  holds-iff : (m w : ℕ) (vs : Values) (u : List ℕ) → AllSpell P (pairs m k w) vs u → (v : Value) (x : List ℕ) → P k v x
      → AmongKeys (keys_of (pairs m k w) vs) (content v) ↔ KeyAmong m vs v
  holds-iff m w vs u q v x p =
      let r = pair-keys P m k w vs u q in
      let (z, is-z) = leaves v x p in (
        λ (j, l, e).
            let l' : j < m = rw r.0 at l in
            let (y, is_y) = key-leaf m w vs u q j l' in
            (j, l', is_y ∙ same-leaf y z (sym (ap content is_y) ∙ sym (r.1 j l') ∙ e ∙ ap content is-z) ∙ sym is-z),
        λ (j, l, e). (j, rw r.0 l, r.1 j l ∙ ap content e),
      )

-- What stands before a key among the items of a map is whole pairs.
before-key : (n k w : ℕ) (before : List Item) (i : Item) (after : List Item) → pairs n k w ≡ before ++ (i ∷ after) → i.key ≡ true
    → (m : ℕ) × (before ≡ pairs m k w) × (i.type ≡ k)
before-key zero k w [] i after e b = differ cc
before-key zero k w (a ∷ before) i after e b = differ cc
before-key (suc n) k w [] i after e b = (0, refl, sym (ap (λ (x : Item). x.type) (head-eq_of_cons-eq e)))
before-key (suc n) k w (a ∷ []) i after e b = absurd (false≢true (ap (λ (x : Item). x.key) (head-eq_of_cons-eq (tail-eq_of_cons-eq e)) ∙ b))
before-key (suc n) k w (a ∷ c ∷ before) i after e b =
    let rest = tail-eq_of_cons-eq e in
    let (m, p, t) = before-key n k w before i after (tail-eq_of_cons-eq rest) b in
    (suc m, cc (head-eq_of_cons-eq e, head-eq_of_cons-eq rest, p), t)

-- A key's type gives leaves, in bytes and in rows.
no-head : (s : Shape) (h : ℕ) (u : List ℕ) → KeyShape s → HeadSpells s h u → ⊥
no-head (scalar _) h u k q = q
no-head (text _) h u k q = q
no-head unknown h u k q = k
no-head (array _) h u k q = k
no-head (map _ _) h u k q = k
no-head (struct _) h u k q = k

no-row-head : (B : List ℕ) (s : Shape) (p c h : ℕ) → KeyShape s → HeadFits B s p c h → ⊥
no-row-head B (scalar _) p c h k q = q
no-row-head B (text _) p c h k q = q
no-row-head B unknown p c h k q = k
no-row-head B (array _) p c h k q = k
no-row-head B (map _ _) p c h k q = k
no-row-head B (struct _) p c h k q = k

-- The values that trees fit, as values spelled by no bytes.
abbrev Fitted : (ℕ → Tree → Type 0) → ℕ → Value → List ℕ → Type 0
Fitted Q t v u = (tree : Tree) × Q t tree × (value tree ≡ v)

all-fitted : (Q : ℕ → Tree → Type 0) (is : List Item) (ts : Forest) → AllFit Q is ts → AllSpell (Fitted Q) is (values ts) []
unfolding values
all-fitted Q [] stop q = refl
all-fitted Q [] (plus t ts) q = absurd q
all-fitted Q (i ∷ is) stop q = absurd q
all-fitted Q (i ∷ is) (plus t ts) q = ([], [], refl, (t, q.0, refl), all-fitted Q is ts q.1)

module _ (S : ℕ → Shape) (k : ℕ) (key : KeyShape (S k)) where
  spelled-leaf : (d : ℕ) (v : Value) (u : List ℕ) → Spells S d k v u → (x : List ℕ) × (v ≡ leaf x)
  spelled-leaf zero v u q = absurd q
  spelled-leaf (suc d) (leaf x) u q = (x, refl)
  spelled-leaf (suc d) (node h vs) u q = absurd (no-head (S k) h q.0 key q.3)

  fitted-leaf : (B : List ℕ) (d : ℕ) (v : Value) (u : List ℕ) → Fitted (Fits S B d) k v u → (x : List ℕ) × (v ≡ leaf x)
  unfolding value
  fitted-leaf B zero v u (tree, q, e) = absurd q
  fitted-leaf B (suc d) v u (tip r x, q, e) = (x, sym e)
  fitted-leaf B (suc d) v u (branch r h ts, q, e) = absurd (no-row-head B (S k) r.place r.count h key q.1)

  module _ (t w : ℕ) (is-map : S t ≡ map k w) where
    -- A map is its count, 64 at most, with pairs of which no two keys are the same value: in bytes, and in rows.
    pub map_iff : (d n : ℕ) (vs : Values) (u : List ℕ) → Spells S (suc d) t (node n vs) u
        ↔ ((x : List ℕ) × (y : List ℕ) × (u ≡ x ++ y) × Spelled n x × (n ≤ 64) × AllSpell (Spells S d) (plan (map k w) n) vs y × Differ n vs)
    map_iff d n vs u = rw is-map (
      λ (x, y, e, (s, few), q, a). (x, y, e, s, few, q, (distinct-iff (Spells S d) k (spelled-leaf d) n w vs y q).0 a),
      λ (x, y, e, s, few, q, a). (x, y, e, (s, few), q, (distinct-iff (Spells S d) k (spelled-leaf d) n w vs y q).1 a),
    )

    pub map-shown-iff : (B : List ℕ) (d n : ℕ) (r : Row) (ts : Forest) → Fits S B (suc d) t (branch r n ts)
        ↔ ((r.ty ≡ t) × (r.count ≡ n) × (n ≤ 64) × AllFit (Fits S B d) (plan (map k w) n) ts × Differ n (values ts))
    map-shown-iff B d n r ts = rw is-map (
      λ (ty, (c, few), q, a). (ty, c, few, q, (distinct q).0 a),
      λ (ty, c, few, q, a). (ty, (c, few), q, (distinct q).1 a),
    )
      where
        distinct : AllFit (Fits S B d) (pairs n k w) ts → Distinct (keys_of (pairs n k w) (values ts)) ↔ Differ n (values ts)
        distinct q = distinct-iff (Fitted (Fits S B d)) k (fitted-leaf B d) n w (values ts) [] (all-fitted (Fits S B d) (pairs n k w) ts q)

    -- The reason of 24, in bytes and in rows: of the m pairs before the later key one has the same value as its key.
    pub repeated-iff : {d : ℕ} {u y left : List ℕ} {i : Item} {earlier : List (List ℕ)} (q : Due S d (S t) u y left i earlier) → i.key ≡ true
        → (v : Value) (x : List ℕ) → Spells S d i.type v x
        → (m : ℕ) × (length q.before ≡ 2 * m) × (AmongKeys earlier (content v) ↔ KeyAmong m q.shown v)
    repeated-iff {d} {u} {y} {left} {i} {earlier} q b v x z =
        let (m, p, ty) = before-key q.head k w q.before i q.after (rw is-map at q.planned) b in
        let a : AllSpell (Spells S d) (pairs m k w) q.shown y = subst (λ (is : List Item). AllSpell (Spells S d) is q.shown y) p q.spelled in
        let e : keys_of (pairs m k w) q.shown ≡ earlier = sym (ap (λ (is : List Item). keys_of is q.shown) p) ∙ q.keys in
        let s : Spells S d k v x = subst (λ (t : ℕ). Spells S d t v x) ty z in
        let h = holds-iff (Spells S d) k (spelled-leaf d) m w q.shown y a v x s in
        (m, ap length p ∙ length_pairs m k w, subst (λ (ks : List (List ℕ)). AmongKeys ks (content v) ↔ KeyAmong m q.shown v) e h)

    pub row-repeated-iff : (B : List ℕ) {d : ℕ} {r : Row} {ts : Forest} {i : Item} {earlier : List (List ℕ)} (q : RowDue B S d t r ts i earlier)
        → i.key ≡ true → (tree : Tree) → Fits S B d i.type tree
        → (m : ℕ) × (length q.before ≡ 2 * m) × (AmongKeys earlier (content (value tree)) ↔ KeyAmong m (values ts) (value tree))
    row-repeated-iff B {d} {r} {ts} {i} {earlier} q b tree z =
        let (m, p, ty) = before-key q.head k w q.before i q.after (rw is-map at q.planned) b in
        let a : AllFit (Fits S B d) (pairs m k w) ts = subst (λ (is : List Item). AllFit (Fits S B d) is ts) p q.fit in
        let e : keys_of (pairs m k w) (values ts) ≡ earlier = sym (ap (λ (is : List Item). keys_of is (values ts)) p) ∙ q.keys in
        let s : Fits S B d k tree = subst (λ (t : ℕ). Fits S B d t tree) ty z in
        let f = all-fitted (Fits S B d) (pairs m k w) ts a in
        let h = holds-iff (Fitted (Fits S B d)) k (fitted-leaf B d) m w (values ts) [] f (value tree) [] (tree, s, refl) in
        (m, ap length p ∙ length_pairs m k w, subst (λ (ks : List (List ℕ)). AmongKeys ks (content (value tree)) ↔ KeyAmong m (values ts) (value tree)) e h)
