-- The rows that the reader shows fit the payload: each names its own content.
use mathlib.Core.Path.{◌≡◌, refl}
use mathlib.Core.List.{List, [], ◌∷◌}
use Prim.Native.Nat.{ℕ, zero, suc, ◌-◌}
use native.Mathlib.Omega.{arith}
use lib.ListN.{length}
use borrow.Author.Tests.{ltb-true, leb-true, not-true}
use Rattle.utf8.proofs.Utf8s.{utf8-is}
use Rattle.parse.specs.Reader.{Cursor, Reader}
use Rattle.parse.proofs.Answers.{Seen, nothing, value as holds, seen-then, seen-after, seen-check}
use Rattle.parse.proofs.Places.{On, block-placed, count-placed}
use Rattle.schema.specs.declared.Field.{Field}
use Rattle.schema.specs.Table.{Shape, unknown, scalar, text, array, map, struct}
use Rattle.value.specs.Value.{Tree, tip, branch, values}
use Rattle.value.specs.Read.{Item, Own, plain, parts, plan, row_count, leaf_row, node_row, bitmap, own, walk, whole_value, parse, root_struct}
use Rattle.value.specs.Fits.{LeafFits, BitsFit, HeadFits, AllFit, WholeFits, Fits, RootFits}
use Rattle.value.proofs.Keys.{Fresh, fresh-distinct}
use Rattle.value.proofs.Sound.{asked}
use Rattle.value.proofs.Root.{ending-sound}

module _ (B : List ℕ) where
  bitmap-placed : (fs : List Field) (c : Cursor) → On B c → Seen (λ m c'. On B c' × BitsFit B fs c.at m) (bitmap fs c)
  unfolding bitmap
  bitmap-placed fs c o =
      seen-after (block-placed B _ c o) (λ x c' w. seen-check _ _ _ _ _ (λ e.
      holds (w.0, (w.3.0, rw w.3.1, e))))

  -- What the own bytes of a value say, up to the cursor.
  abbrev pub OwnFits : Shape → Own → Cursor → Type 0
  OwnFits s (plain x) c = LeafFits B s (c.at - length x) (length x) 0 x
  OwnFits s (parts start h) c = HeadFits B s start (row_count s h) h

  pub own-placed : (s : Shape) (c : Cursor) → On B c → Seen (λ o c'. On B c' × OwnFits s o c') (own s c)
  own-placed unknown c o = nothing
  own-placed (scalar kind) c o =
      seen-after (block-placed B _ c o) (λ x c' w. seen-check _ _ _ _ _ (λ e.
      let p : c'.at - length x ≡ c.at = omega arith in
      holds (w.0, (w.2, refl, rw (p, w.2) w.3, λ k. ltb-true _ 2 (asked 1 kind _ e k)))))
  own-placed (text kind) c o =
      seen-after (count-placed B _ c o) (λ n c₁ o₁. seen-after (block-placed B n c₁ o₁) (λ x c' w. seen-check _ _ _ _ _ (λ e.
      let p : c'.at - length x ≡ c₁.at = omega arith in
      holds (w.0, (refl, rw (p, w.2) w.3, λ k. (utf8-is _).0 (asked 12 kind _ e k))))))
  own-placed (array e) c o = seen-after (count-placed B _ c o) (λ n c₁ o₁. holds (o₁, refl))
  own-placed (map a b) c o = seen-after (count-placed B _ c o) (λ n c₁ o₁. seen-check _ _ _ _ _ (λ e. holds (o₁, (refl, leb-true n _ e))))
  own-placed (struct fs) c o =
      seen-after (bitmap-placed fs c o) (λ m c₁ w. seen-check _ _ _ _ _ (λ e. holds (w.0, (w.1, ltb-true m _ e, refl))))

  module _ (P : ℕ → Tree → Type 0) (p : ℕ → Reader Tree) (p_p : (t : ℕ) (c : Cursor) → On B c → Seen (λ tree c'. On B c' × P t tree) (p t c)) where
    walk-placed : (keys : List (List ℕ)) (is : List Item) (c : Cursor) → On B c
        → Seen (λ ts c'. On B c' × AllFit P is ts × Fresh keys is (values ts)) (walk p keys is c)
    unfolding walk values
    walk-placed keys [] c o = holds (o, tt, tt)
    walk-placed keys (i ∷ is) c o =
        seen-after (p_p i.type c o) (λ t c₁ w. seen-check _ _ _ _ _ (λ e.
        seen-after (walk-placed _ is c₁ w.0) (λ ts c₂ w'. holds (w'.0, (w.1, w'.1), (not-true _ e, w'.2)))))

    whole-placed : (t : ℕ) (s : Shape) (own : Own) (c : Cursor) → On B c → OwnFits s own c → Seen (λ tree c'. On B c' × WholeFits P B s t tree) (whole_value p t s own c)
    whole-placed t s (plain x) c o q = holds {a = tip (leaf_row t c.at (length x)) x} (o, (refl, q))
    whole-placed t s (parts start h) c o q =
        seen-after (walk-placed [] (plan s h) c o) (λ ts c' w.
        holds {a = branch (node_row t start c'.at (row_count s h)) h ts} (w.0, (refl, q, w.1, fresh-distinct (plan s h) (values ts) w.2)))

  module _ (S : ℕ → Shape) where
    -- What the reader reads at a place of a payload fits the payload.
    pub parse-placed : (d t : ℕ) (c : Cursor) → On B c → Seen (λ tree c'. On B c' × Fits S B d t tree) (parse S d t c)
    unfolding parse
    parse-placed zero t c o = nothing
    parse-placed (suc d) t c o =
        seen-after (own-placed (S t) c o) (λ own c' w. whole-placed (Fits S B d) (parse S d) (parse-placed d) t (S t) own c' w.0 w.1)

    -- And the root.
    pub root-placed : (t : ℕ) (fs : List Field) (c : Cursor) → On B c → Seen (λ tree c'. On B c' × RootFits S B t fs tree) (root_struct S t fs c)
    unfolding root_struct
    root-placed t fs c o =
        seen-after (bitmap-placed fs c o) (λ m c₁ w.
        seen-after (walk-placed (Fits S B 15) (parse S 15) (parse-placed 15) [] _ c₁ w.0) (λ ts c₂ w'.
        seen-then _ (λ _ c₃ e.
        holds {a = branch (node_row t c.at c₂.at _) _ ts} (rw (ending-sound _ c₂ c₃ _ e).0 at w'.0, (m, refl, w.1, refl, refl, w'.1)))))
