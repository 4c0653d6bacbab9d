-- The writer's answer depends only on what of each row it uses.
use mathlib.Core.Path.{◌≡◌, refl, sym, ap, ◌∙◌}
use mathlib.Core.List.{List, [], ◌∷◌, map as each}
use mathlib.Core.Bool.{Bool, true, false}
use Prim.Native.Nat.{ℕ, zero, suc, ◌+◌}
use lib.Dec.{eqb}
use lib.ListN.{length, length-map}
use borrow.Author.Tests.{eqb-true}
use Rattle.wire.proofs.Cases.{differ}
use Rattle.parse.specs.Reader.{CursorOf, AnswerOf, refused, seen, and_then, check}
use Rattle.schema.specs.declared.Field.{Field}
use Rattle.schema.specs.Table.{Shape, unknown, scalar, text, array, map, struct}
use Rattle.value.specs.declared.Row.{Row}
use Rattle.value.specs.Value.{Tree, value, values}
use Rattle.value.specs.Read.{Item, Own, plain, parts, plan, walk, on_struct_of}
use Rattle.value.specs.Write.{RowReader, next_row, row_due, bits_at, says, held, show, show_root, sheet_root, writing}
use Rattle.value.specs.Fits.{used_place, used_length, used}

module _ (S : ℕ → Shape) where
  abbrev Alike : List Row → List Row → Type 0
  Alike rs rs' = each (used S) rs ≡ each (used S) rs'

  abbrev from : List Row → ℕ → CursorOf Row
  from rs k = record { left = rs; at = k }

  -- Both refuse alike; or both accept, Q holds of what they have, and what is left is alike.
  data Both {A : Type 0} (Q : A → A → Type 0) : AnswerOf Row A → AnswerOf Row A → Type 0 where
    refuse : {n p : ℕ} → Both Q (refused n p) (refused n p)
    accept : {a b : A} (rs rs' : List Row) (k : ℕ) → Q a b → Alike rs rs' → Both Q (seen a (from rs k)) (seen b (from rs' k))

  module _ {A B : Type 0} {Q : A → A → Type 0} {R : B → B → Type 0} where
    both-then : {m m' : AnswerOf Row A} (f g : A → RowReader B) → Both Q m m'
        → ((a b : A) (rs rs' : List Row) (k : ℕ) → Q a b → Alike rs rs' → Both R (f a (from rs k)) (g b (from rs' k))) → Both R (and_then m f) (and_then m' g)
    unfolding and_then
    both-then f g refuse h = refuse
    both-then f g (accept {a} {b} rs rs' k q l) h = h a b rs rs' k q l

  module _ {B : Type 0} {R : B → B → Type 0} where
    both-check : (b : Bool) (n p : ℕ) (rs rs' : List Row) (k : ℕ) (f g : Unit {0} → RowReader B)
        → (b ≡ true → Both R (f tt (from rs k)) (g tt (from rs' k))) → Both R (and_then (check b n p (from rs k)) f) (and_then (check b n p (from rs' k)) g)
    unfolding and_then check
    both-check true n p rs rs' k f g h = h refl
    both-check false n p rs rs' k f g h = refuse

  next_both : (rs rs' : List Row) (k : ℕ) → Alike rs rs' → Both (λ r r'. used S r ≡ used S r') (next_row (from rs k)) (next_row (from rs' k))
  unfolding next_row
  next_both [] [] k l = refuse
  next_both [] (r' ∷ rs') k l = differ cc
  next_both (r ∷ rs) [] k l = differ cc
  next_both (r ∷ rs) (r' ∷ rs') k l = accept {a = r} {b = r'} rs rs' (k + 1) (cc) (cc)

  row-both : (t : ℕ) (rs rs' : List Row) (k : ℕ) → Alike rs rs' → Both (λ r r'. (used S r ≡ used S r') × (r.ty ≡ t)) (row_due t (from rs k)) (row_due t (from rs' k))
  unfolding row_due
  row-both t rs rs' k l =
      both-then _ _ (next_both rs rs' k l) (λ r r' us us' j q m.
      let e : eqb r'.ty t ≡ eqb r.ty t = ap (λ (x : Row). eqb x.ty t) (sym q) in
      rw e (both-check _ _ _ us us' j _ _ (λ h. accept us us' j (q, eqb-true _ t h) m)))

  module _ (B : List ℕ) (j : ℕ) where
    bits-both : (fs : List Field) (p : ℕ) (rs rs' : List Row) (k : ℕ) → Alike rs rs' → Both ◌≡◌ (bits_at B j fs p (from rs k)) (bits_at B j fs p (from rs' k))
    unfolding bits_at
    bits-both fs p rs rs' k l = both-check _ _ _ rs rs' k _ _ (λ _. both-check _ _ _ rs rs' k _ _ (λ _. accept rs rs' k refl l))

    says_both : (s : Shape) (p n c : ℕ) (rs rs' : List Row) (k : ℕ) → Alike rs rs' → Both ◌≡◌ (says B j s p n c (from rs k)) (says B j s p n c (from rs' k))
    says_both unknown p n c rs rs' k l = refuse
    says_both (scalar _) p n c rs rs' k l =
        both-check _ _ _ rs rs' k _ _ (λ _. both-check _ _ _ rs rs' k _ _ (λ _. both-check _ _ _ rs rs' k _ _ (λ _. accept rs rs' k refl l)))
    says_both (text _) p n c rs rs' k l =
        both-check _ _ _ rs rs' k _ _ (λ _. both-check _ _ _ rs rs' k _ _ (λ _. both-check _ _ _ rs rs' k _ _ (λ _. accept rs rs' k refl l)))
    says_both (array _) p n c rs rs' k l = accept rs rs' k refl l
    says_both (map _ _) p n c rs rs' k l = both-check _ _ _ rs rs' k _ _ (λ _. accept rs rs' k refl l)
    says_both (struct fs) p n c rs rs' k l =
        both-then _ _ (bits-both fs p rs rs' k l) (λ m m' us us' i e u. rw (sym e) (both-check _ _ _ us us' i _ _ (λ _. accept us us' i refl u)))

    -- A row says the same by what is used of it.
    says-used : (s : Shape) (p p' n n' c : ℕ) → used_place s p ≡ used_place s p' → used_length s n ≡ used_length s n' → says B j s p n c ≡ says B j s p' n' c
    says-used unknown p p' n n' c e f = refl
    says-used (scalar _) p p' n n' c e f = rw (e, f)
    says-used (text _) p p' n n' c e f = rw (e, f)
    says-used (array _) p p' n n' c e f = refl
    says-used (map _ _) p p' n n' c e f = refl
    says-used (struct _) p p' n n' c e f = rw e

  abbrev SameValue : Tree → Tree → Type 0
  SameValue x y = value x ≡ value y

  module _ (p : ℕ → RowReader Tree) (pp : (t : ℕ) (rs rs' : List Row) (k : ℕ) → Alike rs rs' → Both SameValue (p t (from rs k)) (p t (from rs' k))) where
    walk-both : (keys : List (List ℕ)) (is : List Item) (rs rs' : List Row) (k : ℕ) → Alike rs rs'
        → Both (λ ts us. values ts ≡ values us) (walk p keys is (from rs k)) (walk p keys is (from rs' k))
    unfolding walk values
    walk-both keys [] rs rs' k l = accept rs rs' k refl l
    walk-both keys (i ∷ is) rs rs' k l =
        both-then _ _ (pp i.type rs rs' k l) (λ t t' us us' j e m.
        rw (sym e) (both-check _ _ _ us us' j _ _ (λ _.
        both-then _ _ (walk-both _ is us us' j m) (λ ts ts' vs vs' h f n. accept vs vs' h (rw (e, f)) n))))

    held_both : (s : Shape) (r r' : Row) (o : Own) (rs rs' : List Row) (k : ℕ) → Alike rs rs' → Both SameValue (held p r s o (from rs k)) (held p r' s o (from rs' k))
    unfolding value
    held_both s r r' (plain x) rs rs' k l = accept rs rs' k refl l
    held_both s r r' (parts _ h) rs rs' k l = both-then _ _ (walk-both [] (plan s h) rs rs' k l) (λ ts ts' us us' j e m. accept us us' j (rw e) m)

  module _ (B : List ℕ) where
    row-says : (t j : ℕ) (r r' : Row) → used S r ≡ used S r' → r.ty ≡ t
        → says B j (S t) r'.place r'.length r'.count ≡ says B j (S t) r.place r.length r.count
    row-says t j r r' q h =
        let e : r'.ty ≡ t = ap (λ (x : Row). x.ty) (sym q) ∙ h in
        let n : r'.count ≡ r.count = ap (λ (x : Row). x.count) (sym q) in
        let a : used_place (S r'.ty) r'.place ≡ used_place (S r.ty) r.place = ap (λ (x : Row). x.place) (sym q) in
        let b : used_length (S r'.ty) r'.length ≡ used_length (S r.ty) r.length = ap (λ (x : Row). x.length) (sym q) in
        rw n (says-used B j (S t) r'.place r.place r'.length r.length r.count (rw (e, h) at a) (rw (e, h) at b))

    show-both : (d t : ℕ) (rs rs' : List Row) (k : ℕ) → Alike rs rs' → Both SameValue (show S B d t (from rs k)) (show S B d t (from rs' k))
    unfolding show
    show-both zero t rs rs' k l = refuse
    show-both (suc d) t rs rs' k l =
        both-then _ _ (row-both t rs rs' k l) (λ r r' us us' j q m.
        rw (row-says t k r r' q.0 q.1)
        (both-then _ _ (says_both B k (S t) _ _ _ us us' j m) (λ o o' vs vs' i e n. rw (sym e) (held_both (show S B d) (show-both d) (S t) r r' o vs vs' i n))))

    -- The root's row: its place and its count are used.
    root-row : (t : ℕ) (fs : List Field) → S t ≡ struct fs → (r r' : Row) → used S r ≡ used S r' → r.ty ≡ t → (r'.place ≡ r.place) × (r'.count ≡ r.count)
    root-row t fs st r r' q h =
        let e : r'.ty ≡ t = ap (λ (x : Row). x.ty) (sym q) ∙ h in
        let a : used_place (S r'.ty) r'.place ≡ used_place (S r.ty) r.place = ap (λ (x : Row). x.place) (sym q) in
        (rw (e, h, st) at a, ap (λ (x : Row). x.count) (sym q))

    root-both : (t : ℕ) (fs : List Field) → S t ≡ struct fs → (rs rs' : List Row) → Alike rs rs'
        → Both SameValue (show_root S B t fs (from rs 0)) (show_root S B t fs (from rs' 0))
    unfolding show_root value
    root-both t fs st rs rs' l =
        both-then _ _ (row-both t rs rs' 0 l) (λ r r' us us' j q m.
        let w = root-row t fs st r r' q.0 q.1 in
        rw (w.0, w.1)
        (both-then _ _ (bits-both B 0 fs r.place us us' j m) (λ x x' vs vs' i e n.
        rw (sym e)
        (both-check _ _ _ vs vs' i _ _ (λ _.
        both-then _ _ (walk-both (show S B 15) (show-both 15) [] _ vs vs' i n) (λ ts ts' ws ws' h f o.
        let z : length ws' ≡ length ws = sym (length-map ws' (used S)) ∙ ap length (sym o) ∙ length-map ws (used S) in
        rw z (both-check _ _ _ ws ws' h _ _ (λ _. accept ws ws' h (rw f) o))))))))

    writing-both : (t room : ℕ) (m m' : AnswerOf Row Tree) → Both SameValue m m' → writing S t room m ≡ writing S t room m'
    writing-both t room m m' refuse = refl
    writing-both t room m m' (accept rs rs' k e l) = rw e

    -- Sheets that agree in what is used get the same answer.
    pub ignored : (t room : ℕ) (rs rs' : List Row) → Alike rs rs' → writing S t room (sheet_root S t rs B) ≡ writing S t room (sheet_root S t rs' B)
    ignored t room rs rs' l = go (S t) refl
      where
        go : (s : Shape) → S t ≡ s
            → writing S t room (on_struct_of s (refused 46 0) (λ fs. show_root S B t fs (from rs 0))) ≡ writing S t room (on_struct_of s (refused 46 0) (λ fs. show_root S B t fs (from rs' 0)))
        go (struct fs) st = writing-both t room _ _ (root-both t fs st rs rs' l)
        go unknown st = refl
        go (scalar _) st = refl
        go (text _) st = refl
        go (array _) st = refl
        go (map _ _) st = refl
