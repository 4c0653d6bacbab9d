-- The items of a plan one after the other, from bytes or from rows: where the walk over them is refused, an item due there is at fault, and the other way round.
use mathlib.Core.Path.{◌≡◌, refl, sym, ap, ◌∙◌}
use mathlib.Core.Logic.{◌⊎◌, inl, inr, ⊎_elim}
use mathlib.Core.List.{List, [], ◌∷◌, ◌++◌, append_assoc}
use mathlib.Core.Bool.{Bool, true, false, not, ◌&&◌, false≢true}
use Prim.Native.Nat.{ℕ, zero, suc, ◌+◌, ◌<◌}
use native.Mathlib.Omega.{arith}
use lib.ListN.{length, length-append}
use borrow.Author.Tests.{not-true, not-false}
use Rattle.parse.specs.Reader.{CursorOf, ReaderOf, refused}
use Rattle.parse.proofs.Answers.{Reads, Yields, yields-end, passes, stops, arrives, steps, fails}
use Rattle.parse.proofs.Blames.{Blames, fine, blames, blames-then, blames-check, blames-on, blames-map}
use Rattle.schema.proofs.Bools.{and_left, and_right, or_left, or_right, or_cases}
use Rattle.value.specs.Value.{Tree, value, Value, Values, none, some, content}
use Rattle.value.specs.Read.{Item, same, among, with_key, walk}
use Rattle.value.specs.Spell.{AllSpell, keys_of}
use Rattle.value.specs.Reasons.{AmongKeys}
use Rattle.value.proofs.Keys.{Fresh, same-eq, same_refl}
use Rattle.value.proofs.TwoTables.{Below}

-- The keys met before, the last first.
abbrev pub met : List (List ℕ) → List Item → Values → List (List ℕ)
met keys [] vs = keys
met keys (i ∷ is) none = keys
met keys (i ∷ is) (some v vs) = met (with_key i.key (content v) keys) is vs

-- The content is one of the keys met before, or of those of the items.
met_holds : (keys : List (List ℕ)) (is : List Item) (vs : Values) (x : List ℕ) → among x (met keys is vs) ≡ true → (among x keys ≡ true) ⊎ AmongKeys (keys_of is vs) x
met_holds keys [] vs x e = inl e
met_holds keys (i ∷ is) none x e = inl e
met_holds keys (i ∷ is) (some v vs) x e = go i.key (met_holds (with_key i.key (content v) keys) is vs x e)
  where
    go : (b : Bool) → (among x (with_key b (content v) keys) ≡ true) ⊎ AmongKeys (keys_of is vs) x → (among x keys ≡ true) ⊎ AmongKeys (with_key b (content v) (keys_of is vs)) x
    go true (inl e) = ⊎_elim (λ s. inr (0, omega arith, sym (same-eq x (content v) s))) inl (or_cases (same x (content v)) (among x keys) e)
    go false (inl e) = inl e
    go true (inr (j, l, e)) = inr (suc j, omega arith, e)
    go false (inr h) = inr h

pub met-none : (is : List Item) (vs : Values) (x : List ℕ) → among x (met [] is vs) ≡ true → AmongKeys (keys_of is vs) x
met-none is vs x e = ⊎_elim (λ none. absurd (false≢true none)) (λ h. h) (met_holds [] is vs x e)

met-keeps : (keys : List (List ℕ)) (is : List Item) (vs : Values) (x : List ℕ) → among x keys ≡ true → among x (met keys is vs) ≡ true
met-keeps keys [] vs x e = e
met-keeps keys (i ∷ is) none x e = e
met-keeps keys (i ∷ is) (some v vs) x e = met-keeps (with_key i.key (content v) keys) is vs x (go i.key)
  where
    go : (b : Bool) → among x (with_key b (content v) keys) ≡ true
    go true = or_right (same x (content v)) (among x keys) e
    go false = e

pub holds-met : (keys : List (List ℕ)) (is : List Item) (vs : Values) (x : List ℕ) → AmongKeys (keys_of is vs) x → among x (met keys is vs) ≡ true
holds-met keys [] vs x h = absurd (omega (arith, h.1))
holds-met keys (i ∷ is) none x h = absurd (omega (arith, h.1))
holds-met keys (i ∷ is) (some v vs) x h = go i.key h (λ keys'. holds-met keys' is vs x)
  where
    here : x ≡ content v → among x (met (content v ∷ keys) is vs) ≡ true
    here e = met-keeps (content v ∷ keys) is vs x (or_left (same x (content v)) (among x keys) (rw e (same_refl (content v))))

    go : (b : Bool) → AmongKeys (with_key b (content v) (keys_of is vs)) x → ((keys' : List (List ℕ)) → AmongKeys (keys_of is vs) x → among x (met keys' is vs) ≡ true)
        → among x (met (with_key b (content v) keys) is vs) ≡ true
    go true (zero, l, e) on = here (sym e)
    go true (suc j, l, e) on = on (content v ∷ keys) (j, omega arith, e)
    go false h on = on keys h

further : {E : Type 0} (c c' : CursorOf E) (y y₁ y₂ w left : List E) → y ≡ y₁ ++ y₂ → c.left ≡ y ++ (w ++ left) → c'.left ≡ y₂ ++ (w ++ left)
    → c'.at + length c'.left ≡ c.at + length c.left → c'.at + length (y₂ ++ w) ≡ c.at + length (y ++ w)
further c c' y y₁ y₂ w left e l l' k =
    let k' : c'.at + length (y₂ ++ (w ++ left)) ≡ c.at + length ((y₁ ++ y₂) ++ (w ++ left)) = rw (← l', ← e, ← l) k in
    let k'' : c'.at + (length y₂ + (length w + length left)) ≡ c.at + (length y₁ + length y₂ + (length w + length left)) = simp length-append at k' in
    rw e (simp length-append (omega arith))

module _ {E : Type 0} (P : ℕ → Value → List E → Type 0) (F : ℕ → (u x rest : List E) → ℕ → Type 0) where
  -- An item is at fault, or is a key that was met before.
  abbrev pub ItemFault : Item → (keys : List (List ℕ)) → (w x rest : List E) → ℕ → Type 0
  ItemFault i keys w x rest n =
      F i.type w x rest n
      ⊎ ((v : Value) × (w ≡ []) × (n ≡ 24) × (i.key ≡ true) × P i.type v x × (among (content v) keys ≡ true))

  -- Of the items `is`, after keys met before, some are spelled, and the next one is at fault.
  pub record Stops (keys : List (List ℕ)) (is : List Item) (u x rest : List E) (n : ℕ) : Type 0 where
    pub before : List Item
    pub item : Item
    pub after : List Item
    pub shown : Values
    pub y : List E
    pub w : List E
    pub split : is ≡ before ++ (item ∷ after)
    pub spelled : AllSpell P before shown y
    pub fresh : Fresh keys before shown
    pub place : u ≡ y ++ w
    pub fault : ItemFault item (met keys before shown) w x rest n

  one_more : (keys : List (List ℕ)) (i : Item) (is : List Item) (v : Value) (u u' x rest : List E) (n : ℕ) → P i.type v u → i.key && among (content v) keys ≡ false
      → Stops (with_key i.key (content v) keys) is u' x rest n → Stops keys (i ∷ is) (u ++ u') x rest n
  one_more keys i is v u u' x rest n q e s = record {
    before = i ∷ s.before;
    item = s.item;
    after = s.after;
    shown = some v s.shown;
    y = u ++ s.y;
    w = s.w;
    split = ap (λ (l : List Item). i ∷ l) s.split;
    spelled = (u, s.y, refl, q, s.spelled);
    fresh = (e, s.fresh);
    place = ap (λ (l : List E). u ++ l) s.place ∙ sym (append_assoc u s.y s.w);
    fault = s.fault;
  }

  at_once : (keys : List (List ℕ)) (i : Item) (is : List Item) (u x rest : List E) (n : ℕ) → ItemFault i keys u x rest n → Stops keys (i ∷ is) u x rest n
  at_once keys i is u x rest n f = record {
    before = [];
    item = i;
    after = is;
    shown = none;
    y = [];
    w = u;
    split = refl;
    spelled = refl;
    fresh = tt;
    place = refl;
    fault = f;
  }

  -- What is refused has an item at fault.
  module _ (p : ℕ → ReaderOf E Tree) (types : ℕ) (p_p : (t : ℕ) (c : CursorOf E) → Reads c (λ tree u. P t (value tree) u) (p t c))
      (p_f : (t : ℕ) (c : CursorOf E) → t < types → Blames c (F t) (p t c))
    where
      pub walk-blames : (keys : List (List ℕ)) (is : List Item) (c : CursorOf E) → Below types is → Blames c (Stops keys is) (walk p keys is c)
      unfolding walk
      walk-blames keys [] c b = fine
      walk-blames keys (i ∷ is) c b =
          blames-then (p_p i.type c)
          (blames-on [] refl (omega arith) (p_f i.type c b.0) (λ u x rest n _ f. at_once keys i is u x rest n (inl f)))
          (λ tree c' u _ l k q. blames-check _ _ _ _ _
          (λ e.
          let two = not-false _ e in
          blames [] u c'.left l (omega arith)
          (at_once keys i is [] u c'.left 24 (inr (value tree, refl, refl, and_left _ _ two, q, and_right i.key _ two))))
          (λ e. blames-map (blames-on u l k (walk-blames (with_key i.key (content (value tree)) keys) is c' b.1) (λ u' x rest n _ s. one_more keys i is (value tree) u u' x rest n q (not-true _ e) s)) (λ _ _. fine)))

  -- What has an item at fault is refused.
  module _ (p : ℕ → ReaderOf E Tree) (p_r : (t : ℕ) (c : CursorOf E) → Reads c (λ tree u. P t (value tree) u) (p t c))
      (p_p : (t : ℕ) (v : Value) (u rest : List E) (c : CursorOf E) → P t v u → c.left ≡ u ++ rest → Yields (λ tree c'. (value tree ≡ v) × (c'.left ≡ rest)) (p t c))
      (p_f : (t : ℕ) (u x rest : List E) (n : ℕ) (c : CursorOf E) → F t u x rest n → c.left ≡ u ++ (x ++ rest) → p t c ≡ refused n (c.at + length u))
    where
      item_refused : (keys : List (List ℕ)) (i : Item) (is : List Item) (w x rest : List E) (n : ℕ) (c : CursorOf E) → ItemFault i keys w x rest n
          → c.left ≡ w ++ (x ++ rest) → walk p keys (i ∷ is) c ≡ refused n (c.at + length w)
      unfolding walk
      item_refused keys i is w x rest n c (inl f) l = stops _ (p_f i.type w x rest n c f l)
      item_refused keys i is w x rest n c (inr (v, none-of-it, number, key, q, again)) l =
          let (tree, c', e, (same-value, _)) = yields-end (p_p i.type v x rest c q (l ∙ rw none-of-it)) in
          let twice : not (i.key && among (content (value tree)) keys) ≡ false = rw (same-value, key, again) in
          rw (number, none-of-it) (steps _ e (fails c' _ twice (omega arith)))

      pub walk_refused : (keys : List (List ℕ)) (before : List Item) (i : Item) (after : List Item) (vs : Values) (y w x rest : List E) (n : ℕ) (c : CursorOf E)
          → AllSpell P before vs y → Fresh keys before vs → ItemFault i (met keys before vs) w x rest n → c.left ≡ y ++ (w ++ (x ++ rest))
          → walk p keys (before ++ (i ∷ after)) c ≡ refused n (c.at + length (y ++ w))
      unfolding walk
      walk_refused keys [] i after none y w x rest n c q f b l = rw q (item_refused keys i after w x rest n c b (l ∙ rw q))
      walk_refused keys [] i after (some v vs) y w x rest n c q f b l = absurd q
      walk_refused keys (j ∷ before) i after none y w x rest n c q f b l = absurd q
      walk_refused keys (j ∷ before) i after (some v vs) y w x rest n c (y₁, y₂, y-is, q, qs) f b l =
          let (tree, c', e, (same-value, left)) = yields-end (p_p j.type v y₁ (y₂ ++ (w ++ (x ++ rest))) c q (l ∙ rw (y-is, append_assoc))) in
          let at : c'.at + length c'.left ≡ c.at + length c.left = arrives (p_r j.type c) e in
          let on = walk_refused (with_key j.key (content v) keys) before i after vs y₂ w x rest n c' qs f.1 b left in
          steps _ e (steps _ (passes _ _ _ _ (rw (same-value, f.0))) (stops _ (rw same-value (on ∙ ap (refused n) (further c c' y y₁ y₂ w (x ++ rest) y-is l left at)))))
