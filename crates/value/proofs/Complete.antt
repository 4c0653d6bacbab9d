-- What the bytes spell, the reader accepts.
use mathlib.Core.Path.{◌≡◌, refl, ◌∙◌}
use mathlib.Core.List.{List, [], ◌∷◌, ◌++◌, append_assoc}
use mathlib.Core.Bool.{Bool, true, false, not, ◌||◌}
use Prim.Native.Nat.{ℕ, zero, suc, ◌+◌, ◌*◌, ◌≤◌, ◌<◌}
use native.Mathlib.Omega.{arith}
use lib.Dec.{eqb}
use lib.ListN.{length, length-append, length-replicate}
use borrow.Author.Tests.{lt-ltb, le-leb, eqb-true}
use Rattle.wire.proofs.Varuints.{spelled-pos}
use Rattle.utf8.proofs.Utf8s.{utf8-is}
use Rattle.parse.specs.Reader.{Cursor, seen, Reader, and_then}
use Rattle.parse.proofs.Answers.{Yields, gives, yields-then, goes, passes}
use Rattle.parse.proofs.Pieces.{block-complete, count-complete}
use Rattle.schema.specs.declared.Field.{Field}
use Rattle.schema.specs.Table.{Shape, unknown, scalar, text, array, map, struct, bitmap_bytes}
use Rattle.value.specs.Value.{Tree, Value, leaf, node, Values, none, some, value, values}
use Rattle.value.specs.Read.{Item, plain, parts, plain_item, pairs, plan, bitmap, own, walk, whole_value, parse}
use Rattle.value.specs.Spell.{LeafSpells, BitmapSpells, HeadSpells, AllSpell, WholeSpells, Spells}
use Rattle.value.specs.Reasons.{least}
use Rattle.value.proofs.Shapes.{Solid}
use Rattle.value.proofs.Keys.{Fresh, distinct-fresh}

leaf-takes : (s : Shape) → Solid s → (x u : List ℕ) → LeafSpells s x u → 0 < length u
leaf-takes (scalar kind) h x u q = rw (q.0, q.1) h
leaf-takes (text kind) h x u q = rw q.1 (simp length-append (omega (arith, spelled-pos (length x) q.0 q.2)))
leaf-takes unknown h x u q = absurd q
leaf-takes (array _) h x u q = absurd q
leaf-takes (map _ _) h x u q = absurd q
leaf-takes (struct _) h x u q = absurd q

pub head-takes : (s : Shape) → Solid s → (n : ℕ) (u : List ℕ) → HeadSpells s n u → 0 < length u
head-takes (array _) h n u q = spelled-pos n u q
head-takes (map _ _) h n u q = spelled-pos n u q.0
head-takes (struct fs) h n u q = rw q.0.0 (omega arith)
head-takes unknown h n u q = absurd q
head-takes (scalar _) h n u q = absurd q
head-takes (text _) h n u q = absurd q

-- A value takes at least one byte.
pub takes : (S : ℕ → Shape) → ((t : ℕ) → Solid (S t)) → (d t : ℕ) (v : Value) (u : List ℕ) → Spells S d t v u → 0 < length u
takes S solid zero t v u q = absurd q
takes S solid (suc d) t (leaf x) u q = leaf-takes (S t) (solid t) x u q
takes S solid (suc d) t (node h vs) u q = rw q.2 (simp length-append (omega (arith, head-takes (S t) (solid t) h q.0 q.3)))

-- So there are as many items as bytes at most.
pub all_take : (P : ℕ → Value → List ℕ → Type 0) → ((t : ℕ) (v : Value) (u : List ℕ) → P t v u → 0 < length u)
    → (is : List Item) (vs : Values) (u : List ℕ) → AllSpell P is vs u → length is ≤ length u
all_take P pos [] vs u q = omega arith
all_take P pos (i ∷ is) none u q = absurd q
all_take P pos (i ∷ is) (some v vs) u q = rw q.2 (simp length-append (omega (arith, pos _ v _ q.3, all_take P pos is vs _ q.4)))

pub length_pairs : (n k v : ℕ) → length (pairs n k v) ≡ 2 * n
length_pairs zero k v = refl
length_pairs (suc n) k v = omega (arith, length_pairs n k v)

pub bitmap-complete : (fs : List Field) (m : ℕ) (u rest : List ℕ) (c : Cursor) → BitmapSpells fs m u → c.left ≡ u ++ rest
    → bitmap fs c ≡ seen m (record { left = rest; at = c.at + bitmap_bytes (length fs) })
unfolding bitmap and_then
bitmap-complete fs m u rest c q e = rw (block-complete _ u rest c q.0 e, q.1, passes _ _ _ _ q.2)

-- The converse of `asked`.
pub asks : (k kind : ℕ) (b : Bool) → (kind ≡ k → b ≡ true) → not (eqb kind k) || b ≡ true
asks k kind b h = go (eqb kind k) refl
  where
    go : (t : Bool) → eqb kind k ≡ t → not t || b ≡ true
    go true e = h (eqb-true kind k e)
    go false e = refl

leaf-complete : (s : Shape) (x u rest : List ℕ) (c : Cursor) → LeafSpells s x u → c.left ≡ u ++ rest → Yields (λ o c'. (o ≡ plain x) × (c'.left ≡ rest)) (own s c)
leaf-complete (scalar kind) x u rest c q e =
    goes _ (block-complete _ x rest c q.1 (rw q.0 at e))
    (goes _ (passes _ _ _ _ (asks 1 kind _ (λ h. lt-ltb _ 2 (q.2 h)))) (gives (refl, refl)))
leaf-complete (text kind) x u rest c q e =
    goes _ (count-complete _ (length x) q.0 (x ++ rest) c q.2 (e ∙ rw (q.1, append_assoc)) (simp length-append (omega arith)))
    (goes _ (block-complete _ x rest _ refl refl) (goes _ (passes _ _ _ _ (asks 12 kind _ (λ k. (utf8-is x).1 (q.3 k)))) (gives (refl, refl))))
leaf-complete unknown x u rest c q e = absurd q
leaf-complete (array _) x u rest c q e = absurd q
leaf-complete (map _ _) x u rest c q e = absurd q
leaf-complete (struct _) x u rest c q e = absurd q

pub head-complete : (s : Shape) (h : ℕ) (u rest : List ℕ) (c : Cursor) → HeadSpells s h u → c.left ≡ u ++ rest → least s * h ≤ length rest
    → Yields (λ o c'. (start : ℕ) × (o ≡ parts start h) × (c'.left ≡ rest)) (own s c)
head-complete (array e) n u rest c q l h = goes _ (count-complete _ n u rest c q l h) (gives (_, refl, refl))
head-complete (map k v) n u rest c q l h =
    goes _ (count-complete _ n u rest c q.0 l h) (goes _ (passes _ _ _ _ (le-leb n _ q.1)) (gives (_, refl, refl)))
head-complete (struct fs) m u rest c q l h =
    goes _ (bitmap-complete fs m u rest c q.0 l) (goes _ (passes _ _ _ _ (lt-ltb m _ q.1)) (gives (_, refl, refl)))
head-complete unknown n u rest c q l h = absurd q
head-complete (scalar _) n u rest c q l h = absurd q
head-complete (text _) n u rest c q l h = absurd q

-- A count asks for no more bytes than there are items.
least-plan : (s : Shape) (n : ℕ) (u : List ℕ) → HeadSpells s n u → least s * n ≤ length (plan s n)
least-plan (array e) n u q = omega (arith, length-replicate n (plain_item e))
least-plan (map k v) n u q = omega (arith, length_pairs n k v)
least-plan (struct fs) n u q = omega arith
least-plan unknown n u q = absurd q
least-plan (scalar _) n u q = absurd q
least-plan (text _) n u q = absurd q

module _ (P : ℕ → Value → List ℕ → Type 0) (pos : (t : ℕ) (v : Value) (u : List ℕ) → P t v u → 0 < length u)
    (p : ℕ → Reader Tree)
    (p_p : (t : ℕ) (v : Value) (u rest : List ℕ) (c : Cursor) → P t v u → c.left ≡ u ++ rest → Yields (λ tree c'. (value tree ≡ v) × (c'.left ≡ rest)) (p t c))
  where
    pub walk-complete : (keys : List (List ℕ)) (is : List Item) (vs : Values) (u rest : List ℕ) (c : Cursor) → AllSpell P is vs u → Fresh keys is vs
        → c.left ≡ u ++ rest → Yields (λ ts c'. (values ts ≡ vs) × (c'.left ≡ rest)) (walk p keys is c)
    unfolding walk values
    walk-complete keys [] none u rest c q f l = gives (refl, (rw q at l))
    walk-complete keys [] (some v vs) u rest c q f l = absurd q
    walk-complete keys (i ∷ is) none u rest c q f l = absurd q
    walk-complete keys (i ∷ is) (some v vs) u rest c q f l =
        yields-then (p_p i.type v q.0 (q.1 ++ rest) c q.3 (l ∙ rw (q.2, append_assoc))) (λ t c' w.
        goes _ (passes _ _ _ _ (rw (w.0, f.0)))
        (yields-then (walk-complete _ is vs q.1 rest c' q.4 (rw w.0 f.1) w.1) (λ ts c'' w'. gives (rw (w.0, w'.0), w'.1))))

    whole-complete : (t : ℕ) (s : Shape) (v : Value) (u rest : List ℕ) (c : Cursor) → WholeSpells P s v u → c.left ≡ u ++ rest
        → Yields (λ tree c'. (value tree ≡ v) × (c'.left ≡ rest)) (and_then (own s c) (whole_value p t s))
    unfolding value
    whole-complete t s (leaf x) u rest c q l = yields-then (leaf-complete s x u rest c q l) (λ o c' w. rw w.0 (gives (refl, w.1)))
    whole-complete t s (node h vs) u rest c q l =
        yields-then (head-complete s h q.0 (q.1 ++ rest) c q.3 (l ∙ rw (q.2, append_assoc)) (simp length-append (omega (arith, least-plan s h q.0 q.3, all_take P pos (plan s h) vs q.1 q.4)))) (λ o c' w.
        rw w.1 (yields-then (walk-complete [] (plan s h) vs q.1 rest c' q.4 (distinct-fresh (plan s h) vs q.5) w.2) (λ ts c'' w'. gives (rw w'.0, w'.1))))

module _ (S : ℕ → Shape) (solid : (t : ℕ) → Solid (S t)) where
  pub parse-complete : (d t : ℕ) (v : Value) (u rest : List ℕ) (c : Cursor) → Spells S d t v u → c.left ≡ u ++ rest
      → Yields (λ tree c'. (value tree ≡ v) × (c'.left ≡ rest)) (parse S d t c)
  unfolding parse
  parse-complete zero t v u rest c q l = absurd q
  parse-complete (suc d) t v u rest c q l =
      whole-complete (Spells S d) (takes S solid d) (parse S d) (parse-complete d) t (S t) v u rest c q l
