-- Each row that the reader shows delimits the bytes of its value.
use mathlib.Core.Path.{◌≡◌, refl, ap, ◌∙◌}
use mathlib.Core.List.{List, [], ◌∷◌, ◌++◌}
use Prim.Native.Nat.{ℕ, zero, suc, ◌+◌, ◌-◌, ◌≤◌}
use native.Mathlib.Nat.{zero-add, sub-zero}
use native.Mathlib.Omega.{arith}
use lib.ListN.{length, drop, length-append}
use lib.Seq.{take-add, drop-drop}
use Rattle.buffer.specs.Span.{span, SpanIs}
use Rattle.buffer.proofs.Spans.{length-span}
use Rattle.parse.specs.Reader.{Cursor, seen, Reader, cursor_at}
use Rattle.parse.proofs.Answers.{Seen, nothing, value as holds, seen-then, seen-after, seen-check, seen-map, seen-both, seen_end}
use Rattle.parse.proofs.Places.{On, stays_on}
use Rattle.schema.specs.declared.Field.{Field}
use Rattle.schema.specs.Table.{Shape, unknown, scalar, text, array, map, struct, bitmap_bytes}
use Rattle.value.specs.Value.{Tree, tip, branch, Forest, value, values, content}
use Rattle.value.specs.Read.{Item, Own, plain, parts, plan, row_count, leaf_row, node_row, own, with_key, walk, whole_value, parse, root_struct}
use Rattle.value.specs.Spell.{LeafSpells, HeadSpells, AllSpell, Spells, RootSpells}
use Rattle.value.specs.Fits.{LeafFits}
use Rattle.value.specs.Delimits.{AllStand, NodeSpan, first_at, Delimits, RootDelimits}
use Rattle.value.proofs.Keys.{Fresh, fresh-distinct}
use Rattle.value.proofs.Sound.{bitmap-reads, OwnSpells, own-reads, walk-reads, parse-reads}
use Rattle.value.proofs.Root.{ending-sound, root-sound}
use Rattle.value.proofs.Placed.{OwnFits, own-placed}

module _ (B : List ℕ) where
  -- Bytes that stand at a place are the span up to their end.
  up_to : (a b : ℕ) (u : List ℕ) → b ≡ a + length u → SpanIs B a (length u) u → u ≡ span B a (b - a)
  up_to a b u e s = let k : b - a ≡ length u = omega arith in rw k s.1

  -- Two spans, the one after the other.
  pub joined : (a b c : ℕ) → a ≤ b → b ≤ c → span B a (c - a) ≡ span B a (b - a) ++ span B b (c - b)
  joined a b c h l =
      let k : c - a ≡ (b - a) + (c - b) = omega arith in
      let p : a + (b - a) ≡ b = omega arith in
      rw (k, take-add (b - a) (c - b) (drop a B), drop-drop (b - a) a B, p)

  -- ---- own bytes

  -- Where what a composite's row names begins: a struct's at its first byte, an array's or map's after the count.
  abbrev Begins : Shape → Own → (start end : ℕ) → Type 0
  Begins (struct fs) (parts p h) start end = p ≡ start
  Begins (array _) (parts p h) start end = p ≡ end
  Begins (map _ _) (parts p h) start end = p ≡ end
  Begins unknown o start end = Unit {0}
  Begins (scalar _) o start end = Unit {0}
  Begins (text _) o start end = Unit {0}
  Begins (struct _) (plain x) start end = Unit {0}
  Begins (array _) (plain x) start end = Unit {0}
  Begins (map _ _) (plain x) start end = Unit {0}

  own-begins : (s : Shape) (c : Cursor) → Seen (λ o c'. Begins s o c.at c'.at) (own s c)
  own-begins unknown c = nothing
  own-begins (scalar _) c = seen-then _ (λ x c₁ e. seen-check _ _ _ _ _ (λ k. holds tt))
  own-begins (text _) c = seen-then _ (λ n c₁ e. seen-then _ (λ x c₂ k. seen-check _ _ _ _ _ (λ l. holds tt)))
  own-begins (array _) c = seen-then _ (λ n c₁ e. holds refl)
  own-begins (map _ _) c = seen-then _ (λ n c₁ e. seen-check _ _ _ _ _ (λ k. holds refl))
  own-begins (struct fs) c = seen-then _ (λ m c₁ e. seen-check _ _ _ _ _ (λ k. holds refl))

  -- The own bytes of a value: what they spell, and what its row names of them.
  abbrev OwnStands : Shape → Own → (start end : ℕ) → Type 0
  OwnStands s (plain x) start end = LeafSpells s x (span B start (end - start)) × SpanIs B (end - length x) (length x) x × (end - length x + length x ≡ end)
  OwnStands s (parts p h) start end = HeadSpells s h (span B start (end - start)) × Begins s (parts p h) start end × (start ≤ end)

  leaf-spans : (s : Shape) (p n c : ℕ) (x : List ℕ) → LeafFits B s p n c x → SpanIs B p n x
  leaf-spans (scalar _) p n c x f = f.2
  leaf-spans (text _) p n c x f = f.1
  leaf-spans unknown p n c x f = absurd f
  leaf-spans (array _) p n c x f = absurd f
  leaf-spans (map _ _) p n c x f = absurd f
  leaf-spans (struct _) p n c x f = absurd f

  leaf-long : (s : Shape) (x u : List ℕ) → LeafSpells s x u → length x ≤ length u
  leaf-long (scalar _) x u q = rw q.0 (omega arith)
  leaf-long (text _) x u q = rw q.1 (simp length-append (omega arith))
  leaf-long unknown x u q = absurd q
  leaf-long (array _) x u q = absurd q
  leaf-long (map _ _) x u q = absurd q
  leaf-long (struct _) x u q = absurd q

  own-stands : (s : Shape) (c : Cursor) → On B c → Seen (λ o c'. On B c' × OwnStands s o c.at c'.at) (own s c)
  own-stands s c on =
      seen-map (seen-both (seen-both (stays_on B on (own-reads s c)) (own-placed B s c on)) (own-begins s c)) (λ o c' w.
      (w.0.0.0, go o c' w.0.0.1.0 w.0.0.1.1 w.0.0.1.2 w.0.0.1.3 w.0.1.1 w.1))
    where
      go : (o : Own) (c' : Cursor) (u : List ℕ) → c'.at ≡ c.at + length u → SpanIs B c.at (length u) u → OwnSpells s o u → OwnFits B s o c'
          → Begins s o c.at c'.at → OwnStands s o c.at c'.at
      go (plain x) c' u e sp q f b =
          (rw (← up_to c.at c'.at u e sp) q, leaf-spans s _ _ _ x f, omega (arith, leaf-long s x u q))
      go (parts p h) c' u e sp q f b = (rw (← up_to c.at c'.at u e sp) q, b, omega arith)

  -- ---- what a composite holds

  module _ (P : ℕ → Tree → (start end : ℕ) → Type 0) (p : ℕ → Reader Tree)
      (p_p : (t : ℕ) (c : Cursor) → On B c → Seen (λ tree c'. On B c' × P t tree c.at c'.at) (p t c))
    where
      walk-stands : (keys : List (List ℕ)) (is : List Item) (c : Cursor) → On B c → Seen (λ ts c'. On B c' × AllStand P is ts c.at c'.at) (walk p keys is c)
      unfolding walk
      walk-stands keys [] c on = holds (on, refl)
      walk-stands keys (i ∷ is) c on =
          seen-after (p_p i.type c on) (λ t c₁ w. seen-check _ _ _ _ _ (λ e.
          seen-after (walk-stands (with_key i.key (content (value t)) keys) is c₁ w.0) (λ ts c₂ w'. holds (w'.0, (c₁.at, w.1, w'.1)))))

  module _ (S : ℕ → Shape) where
    -- The items of a plan from a cursor: where they stand, and what their bytes spell.
    all-stand : (d : ℕ) → ((t : ℕ) (c : Cursor) → On B c → Seen (λ tree c'. On B c' × Delimits S B d t tree c.at c'.at) (parse S d t c))
        → (is : List Item) (c : Cursor) → On B c
        → Seen (λ ts c'. On B c' × AllStand (Delimits S B d) is ts c.at c'.at × (c.at ≤ c'.at) × AllSpell (Spells S d) is (values ts) (span B c.at (c'.at - c.at)) × Fresh [] is (values ts))
        (walk (parse S d) [] is c)
    all-stand d child is c on =
        seen-map (seen-both (walk-stands (Delimits S B d) (parse S d) child [] is c on) (stays_on B on (walk-reads (Spells S d) (parse S d) (parse-reads S d) [] is c))) (λ ts c' w.
        let (u, e, sp, q) = w.1.1 in
        (w.0.0, w.0.1, omega arith, rw (← up_to c.at c'.at u e sp) q.0, q.1))

    -- A composite's row, from `p` up to the end of what it holds.
    node-stands : (d : ℕ) (s : Shape) (p h start mid end : ℕ) (ts : Forest) → OwnStands s (parts p h) start mid → mid ≤ end
        → AllSpell (Spells S d) (plan s h) (values ts) (span B mid (end - mid)) → Fresh [] (plan s h) (values ts)
        → AllStand (Delimits S B d) (plan s h) ts mid end → mid ≤ length B
        → NodeSpan (Spells S d) B s h (values ts) start p (end - p) × (p + (end - p) ≡ end) × AllStand (Delimits S B d) (plan s h) ts (first_at s p) end
    node-stands d (struct fs) p h start mid end ts o l q f a b =
        let z : mid ≡ p + bitmap_bytes (length fs) = omega (arith, length-span B start (mid - start) (omega arith), o.0.0.0, o.1) in
        ((o.1, rw o.1 (_, _, joined start mid end o.2 l, o.0, q, fresh-distinct (plan (struct fs) h) (values ts) f)), omega (arith, o.1, o.2), rw (← z) a)
    node-stands d (array e) p h start mid end ts o l q f a b = rw o.1 ((o.2, o.0, q), omega arith, a)
    node-stands d (map k v) p h start mid end ts o l q f a b = rw o.1 ((o.2, o.0, q), omega arith, a)
    node-stands d unknown p h start mid end ts o l q f a b = absurd o.0
    node-stands d (scalar _) p h start mid end ts o l q f a b = absurd o.0
    node-stands d (text _) p h start mid end ts o l q f a b = absurd o.0

    whole-stands : (d t : ℕ) → ((t : ℕ) (c : Cursor) → On B c → Seen (λ tree c'. On B c' × Delimits S B d t tree c.at c'.at) (parse S d t c))
        → (start : ℕ) (o : Own) (c : Cursor) → On B c → OwnStands (S t) o start c.at
        → Seen (λ tree c'. On B c' × Delimits S B (suc d) t tree start c'.at) (whole_value (parse S d) t (S t) o c)
    whole-stands d t child start (plain x) c on q = holds {a = tip (leaf_row t c.at (length x)) x} (on, q)
    whole-stands d t child start (parts p h) c on q =
        seen-after (all-stand d child (plan (S t) h) c on) (λ ts c' w.
        let n = node-stands d (S t) p h start c.at c'.at ts q w.2 w.3 w.4 w.1 on.1 in
        holds {a = branch (node_row t p c'.at (row_count (S t) h)) h ts} (w.0, (n.0, n.1, w.0.1, n.2)))

    parse-stands : (d t : ℕ) (c : Cursor) → On B c → Seen (λ tree c'. On B c' × Delimits S B d t tree c.at c'.at) (parse S d t c)
    unfolding parse
    parse-stands zero t c on = nothing
    parse-stands (suc d) t c on = seen-after (own-stands (S t) c on) (λ o c₁ w. whole-stands d t (parse-stands d) c.at o c₁ w.0 w.1)

    -- ---- the root

    abbrev RootStands : List Field → Tree → (start end : ℕ) → Type 0
    RootStands fs (tip r x) start end = ⊥
    RootStands fs (branch r h ts) start end =
        (r.place ≡ start) × (r.length ≡ end - start) × AllStand (Delimits S B 15) (plan (struct fs) h) ts (start + bitmap_bytes (length fs)) end

    root_stands : (t : ℕ) (fs : List Field) (c : Cursor) → On B c → Seen (λ tree c'. On B c' × RootStands fs tree c.at c'.at) (root_struct S t fs c)
    unfolding root_struct
    root_stands t fs c on =
        seen-after (stays_on B on (bitmap-reads fs c)) (λ m c₁ w.
        seen-after (all-stand _ (parse-stands _) _ c₁ w.0) (λ ts c₂ w'.
        seen-then _ (λ _ c₃ e.
        let k : c₁.at ≡ c.at + bitmap_bytes (length fs) = w.1.1 ∙ ap (λ (n : ℕ). c.at + n) w.1.3.0 in
        rw (← (ending-sound _ c₂ c₃ _ e).0)
        (holds {a = branch (node_row t c.at c₂.at _) _ ts} (w'.0, (refl, refl, rw k at w'.1))))))

    -- What the reader reads in a payload delimits the payload's bytes, up to the tail.
    pub root-delimits : (t : ℕ) (fs : List Field) (tree : Tree) (end : Cursor) → root_struct S t fs (cursor_at B 0) ≡ seen tree end → RootDelimits S B fs tree end.at
    unfolding value
    root-delimits t fs tree end e =
        let w = seen_end (root_stands t fs (cursor_at B 0) (refl, omega arith)) e in
        go tree (rw w.0.0 at (seen_end (root-sound S t fs (cursor_at B 0)) e)) w.0.1 w.1
      where
        go : (tree : Tree) → RootSpells S fs (value tree) B (drop end.at B) → end.at ≤ length B → RootStands fs tree 0 end.at → RootDelimits S B fs tree end.at
        go (tip r x) q l w = absurd w
        go (branch r h ts) q l w = (q, w.0, w.1 ∙ sub-zero end.at, l, rw (zero-add (bitmap_bytes (length fs))) at w.2)
