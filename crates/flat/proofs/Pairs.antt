-- Laws of maps: what is told of a key, where the loop over pairs stands, its turns and its end; and a map of scalars, strings and bytes by its count.
use mathlib.Core.Path.{◌≡◌, refl, ap, ◌∙◌, sym}
use mathlib.Core.Logic.{inl, inr, ⊎_elim}
use mathlib.Core.Bool.{Bool, true, false}
use mathlib.Core.List.{List, [], ◌∷◌}
use Prim.Native.Nat.{ℕ, suc, ◌+◌, ◌-◌, ◌*◌, ◌/◌, ◌≤◌, ◌<◌}
use native.Mathlib.Omega.{arith}
use lib.ListN.{length}
use Rattle.parse.specs.Reader.{Reader, Answer, refused, cursor_at, Accepted, count}
use Rattle.schema.specs.declared.TypeRow.{TypeRow}
use Rattle.schema.specs.Table.{Shape, map, row_at}
use Rattle.schema.specs.File.{table_of}
use Rattle.schema.proofs.Bools.{cases, clash}
use Rattle.value.specs.Value.{Tree}
use Rattle.value.specs.Comparisons.{key_comparisons, map_comparisons}
use Rattle.value.specs.Read.{Own, pairs, plan, own, among, walk, parse}
use Rattle.walks.specs.Shape.{leaf_shape, shape_in}
use Rattle.walks.specs.Keys.{keys_in, Kept}
use Rattle.walks.proofs.Keys.{keys_none}
use Rattle.walks.proofs.Items.{pairs-none}
use Rattle.walks.proofs.Walks.{deep, deeper, shallower}
use Rattle.flat.specs.Span.{Span, At, Refused as SpanRefused}
use Rattle.flat.specs.Count.{Count, Is, Refused as CountRefused}
use Rattle.flat.specs.Walk.{Walk, Past, Refused, value_in, whole_in, told, told_held, done, stopped, walk_of, Walked, Ready}
use Rattle.flat.specs.Sheet.{put_row}
use Rattle.flat.specs.Leaf.{between, Spanned, CountRead}
use Rattle.flat.specs.Flat.{PairsReady, KeyTold, KeyTaken, ValuedFlat, HeldPairs}
use Rattle.flat.proofs.Sheets.{length-put}
use Rattle.flat.proofs.Steps.{ahead, was, walk-length, as_refused, composite_past, composite_stop, rest-accepted, parse-deep, span_row, span_in, IsLeaf, is_leaf, leaf-asked, leaf-failed, leaf-stop, leaf_parsed, leaf-past}
use Rattle.flat.proofs.Composites.{pair-key-accepted, pair-key-stop, pair-new, pair-again, pair-value-accepted, pair-value-stop, pair_turn}
use Rattle.flat.proofs.Composites.{own-comparisons, few-pairs, pairs_first, count_in, map-refused, map-many, map_whole, map-valued}

-- ---- a key

-- what is told of a key by its content, and by whether it is among those that are kept
module _ {p : List ℕ} {at : ℕ} {o : Answer Own} {r : Span} (read : Spanned p at o r) where
  pub key-refused : {judging : Bool} {ty i row : ℕ} {l kept m kept' : List ℕ} {number place : ℕ} → r ≡ SpanRefused place number
      → KeyTaken p at o judging ty i row l kept (SpanRefused place number) m kept'
  key-refused e = record { told = inl (rw e at read) }

  module _ {from to : ℕ} (e : r ≡ At from to) where
    pub key-small : length p ≤ 16384 → (from < 4294967296) × (to - from < 4294967296) × (from + (to - from) ≤ length p)
    key-small h = omega (arith, h, span_in read e)

    module _ {judging again : Bool} {i : ℕ} {kept kept' : List ℕ}
        (said : (judging ≡ false → again ≡ false) × ((judging ≡ true → again ≡ among (between p from to) (keys_in p kept i))
        × ((judging ≡ true → keys_in p kept' (i + 1) ≡ between p from to ∷ keys_in p kept i) × (judging ≡ true → Kept p kept' true (i + 1))))) {ty row : ℕ} {l m : List ℕ} where
      pub key-again : again ≡ true → KeyTaken p at o judging ty i row l kept (SpanRefused at 24) m kept'
      key-again y =
          let j : judging ≡ true = ⊎_elim (λ j. j) (λ j. clash again y (said.0 j)) (cases judging) in
          record { told = inr (refl, refl, j, (from, to, rw e at read, sym (said.1.0 j) ∙ y)) }

      pub key-new : again ≡ false → m ≡ put_row l row (span_row ty from to) → KeyTaken p at o judging ty i row l kept (At from to) m kept'
      key-new n put = record { told = (rw e at read, λ j. (sym (said.1.0 j) ∙ n, said.1.1.0 j, said.1.1.1 j), put) }

-- ---- the loop over pairs

-- Where the loop over n pairs stands: at pair i, with the keys before it, which are kept where keys are judged. What is left gives the same end, by whatever shapes
-- it is shown of which Ok holds; some are such. The map's own row is `row`.
pub record Along (Ok : (ℕ → Shape) → Type 0) (s p : List ℕ) (depth ty key val n start row : ℕ) (judging : Bool) (sheet kept : List ℕ) (i here sum below : ℕ) (l : List ℕ) : Type 0 where
  pub asked : PairsReady s p depth ty key val n start row judging
  pub by : ℕ → Shape
  pub ok : Ok by
  pub had : List (List ℕ)
  pub held : judging ≡ true → (had ≡ keys_in p kept i) × Kept p kept true i
  pub same : (R : ℕ → Shape) → Ok R
      → ahead R (shape_in s) (parse (shape_in s) depth) had (pairs (n - i) key val) (cursor_at p here) sum below l
      ≡ ahead R (shape_in s) (parse (shape_in s) depth) [] (pairs n key val) (cursor_at p start) 0 (row + 1) sheet
  pub inside : here ≤ length p
  pub behind : below ≤ here
  pub forth : sum + 32 * i + 16 * start ≤ 16 * here
  pub long : length l ≡ length sheet
  pub few : i ≤ n

-- Where it stands after the key of pair i, whose row is written: by the value's answer, whatever that is, it stops or goes on.
pub record Midway (Ok : (ℕ → Shape) → Type 0) (s p : List ℕ) (depth ty key val n start row : ℕ) (judging : Bool) (sheet kept : List ℕ) (i here sum below : ℕ) (l : List ℕ) : Type 0 where
  pub asked : PairsReady s p depth ty key val n start row judging
  pub by : ℕ → Shape
  pub ok : Ok by
  pub had : List (List ℕ)
  pub held : judging ≡ true → (had ≡ keys_in p kept (i + 1)) × Kept p kept true (i + 1)
  pub ready : Ready s p here below judging (value_in s p depth val here)
  pub stops : (R : ℕ → Shape) → Ok R → (number place : ℕ) → stopped number place ≡ walk_of (told R (shape_in s) val) (value_in s p depth val here) 0 below l
      → stopped number place ≡ ahead R (shape_in s) (parse (shape_in s) depth) [] (pairs n key val) (cursor_at p start) 0 (row + 1) sheet
  pub goes : (R : ℕ → Shape) → Ok R → (comparisons next row' : ℕ) (m : List ℕ)
      → done (cursor_at p next) comparisons row' m ≡ walk_of (told R (shape_in s) val) (value_in s p depth val here) 0 below l
      → ahead R (shape_in s) (parse (shape_in s) depth) had (pairs (n - (i + 1)) key val) (cursor_at p next) (sum + comparisons) row' m
      ≡ ahead R (shape_in s) (parse (shape_in s) depth) [] (pairs n key val) (cursor_at p start) 0 (row + 1) sheet
  pub forth : sum + 32 * i + 16 * start + 16 ≤ 16 * here
  pub long : length l ≡ length sheet
  pub some : i < n

-- What is answered of the map from its head on.
abbrev PairsTold : (Ok : (ℕ → Shape) → Type 0) (s p : List ℕ) (depth ty key val n start row : ℕ) (sheet : List ℕ) → Walk → (after : List ℕ) → Type 0
PairsTold Ok s p depth ty key val n start row sheet r after =
    (R : ℕ → Shape) → Ok R
    → Walked p start (told_held R (shape_in s) (map_comparisons (map key val) n) (plan (map key val) n)) (whole_in s p depth ty (map key val) start n start) row sheet r after

-- A reading at a depth.
abbrev read_at : (s : List ℕ) (depth : ℕ) → ℕ → Reader Tree
read_at s depth = parse (shape_in s) depth

module _ {Ok : (ℕ → Shape) → Type 0} {s p : List ℕ} {depth ty key val n start row : ℕ} {judging : Bool} where
  pub along-first : PairsReady s p depth ty key val n start row judging → (R : ℕ → Shape) → Ok R → (sheet kept : List ℕ)
      → Along Ok s p depth ty key val n start row judging sheet kept 0 start 0 (row + 1) sheet
  along-first q R ok sheet kept =
      record {
        asked = q;
        by = R;
        ok = ok;
        had = [];
        held = λ j. (sym (keys_none p kept), λ i lt. absurd (omega arith));
        same = λ R' o. pairs_first R' (shape_in s) (read_at s depth) key val n (cursor_at p start) (row + 1) sheet;
        inside = q.ready.inside;
        behind = q.ready.behind;
        forth = omega arith;
        long = refl;
        few = omega arith;
      }

  module _ {sheet kept : List ℕ} {i here sum below : ℕ} {l : List ℕ} (a : Along Ok s p depth ty key val n start row judging sheet kept i here sum below l) where
    pub along-own : (start ≤ here) × (row ≤ 16384) × (start ≤ 16384) × (here - start ≤ 16384) × (n ≤ 16384)
    along-own = omega (arith, a.inside, a.forth, a.asked.ready.small, a.asked.ready.inside, a.asked.ready.behind, a.asked.most)

    -- all pairs are read, and the map's own row is written
    module _ (end : n ≤ i) where
      pub along-sum : sum + key_comparisons n + 16 * start ≤ 16 * here
      along-sum = omega (arith, few-pairs n a.asked.most, own-comparisons n, a.forth, a.few, end)

      pub along-end : {after : List ℕ} → after ≡ put_row l row (record { ty = ty; place = start; length = here - start; count = n }) → {total : ℕ} → total ≡ sum + key_comparisons n
          → PairsTold Ok s p depth ty key val n start row sheet (Past total here below) after
      along-end {after} put {total} d R ok =
          composite_past R (shape_in s) (read_at s depth) (map key val) ty start n (cursor_at p start) row sheet p start here sum total below l after a.had (pairs (n - i) key val)
          (pairs-none key val (n - i) (omega arith)) (a.same R ok) (omega (arith, d)) put a.inside a.behind (omega (arith, along-sum, d))

    module _ (some : i < n) where
      -- the pair's key is refused
      along-stop : (number place : ℕ) (after : List ℕ) → parse (shape_in s) depth key (cursor_at p here) ≡ refused number place
          → PairsTold Ok s p depth ty key val n start row sheet (Refused number place) after
      along-stop number place after e R ok =
          composite_stop R (shape_in s) (read_at s depth) (map key val) ty start n (cursor_at p start) row sheet p start number place after
          (pair-key-stop R (shape_in s) (read_at s depth) p key val n i a.had here some sum below l number place e ∙ a.same R ok)

      pub along-deep : depth ≡ 0 → {after : List ℕ} → PairsTold Ok s p depth ty key val n start row sheet (Refused 28 here) after
      along-deep e {after} = along-stop 28 here after (parse-deep (shape_in s) depth key (cursor_at p here) e)

      left : judging ≡ false → Accepted (walk (read_at s depth) a.had (pairs (n - i) key val) (cursor_at p here))
      left j =
          rest-accepted a.by (shape_in s) (read_at s depth) (map key val) ty start n (cursor_at p start) row sheet
          (walk (read_at s depth) a.had (pairs (n - i) key val) (cursor_at p here)) (pairs (n - i) key val) sum below l (a.same a.by a.ok) (a.asked.ready.judged j)

      module _ (d0 : depth ≡ 0 → ⊥) {k : TypeRow} (row-k : k ≡ row_at (table_of s) key) where
        key-leaf : IsLeaf s key k
        key-leaf = is_leaf row-k (rw row-k a.asked.some) (rw row-k a.asked.leaf)

        key-ready : Ready s p here below judging (value_in s p depth key here)
        key-ready =
            record {
              good = a.asked.ready.good;
              small = a.asked.ready.small;
              inside = a.inside;
              behind = a.behind;
              judged = λ j. pair-key-accepted a.by (shape_in s) (read_at s depth) p key val n i a.had here some (left j);
            }

        pub key-asked : (length p ≤ 16384) × (here ≤ length p) × (0 < k.kind) × (k.kind < 14)
            × (judging ≡ false → Accepted (own (leaf_shape k.kind) (cursor_at p here))) × (below ≤ 16384)
        key-asked =
            let q = leaf-asked key-leaf d0 key-ready in
            (q.0, q.1, q.2, q.3, q.4, omega (arith, a.inside, a.behind, a.asked.ready.small))

        pub key-room : {size : ℕ} → length kept ≡ size → (judging ≡ true → n + 4 ≤ size / 2) → judging ≡ true → (i + 4 < length kept / 2) × Kept p kept true i
        key-room e h j = (omega (arith, some, e, h j), (a.held j).1)

        -- what was told of the next key
        module _ {kept' m : List ℕ} {r : Span} (taken : KeyTaken p here (own (leaf_shape k.kind) (cursor_at p here)) judging key i below l kept r m kept') where
          pub key-failed : {number place : ℕ} → r ≡ SpanRefused place number → {after : List ℕ}
              → PairsTold Ok s p depth ty key val n start row sheet (Refused number place) after
          key-failed {number} {place} e {after} =
              ⊎_elim (λ read. along-stop number place after (leaf-failed key-leaf d0 read refl)) again (rw e at taken.told)
            where
              again : (place ≡ here) × (number ≡ 24) × (judging ≡ true)
                  × ((from to : ℕ) × Spanned p here (own (leaf_shape k.kind) (cursor_at p here)) (At from to) × (among (between p from to) (keys_in p kept i) ≡ true))
                  → PairsTold Ok s p depth ty key val n start row sheet (Refused number place) after
              again x R ok =
                  let from = x.3.0 in
                  let to = x.3.1 in
                  let old : among (between p from to) a.had ≡ true = rw (a.held x.2).0 x.3.3 in
                  rw (x.0, x.1)
                  (composite_stop R (shape_in s) (read_at s depth) (map key val) ty start n (cursor_at p start) row sheet p start 24 here after
                  (pair-again R (shape_in s) (read_at s depth) p key val n i a.had here some from to
                  (leaf_parsed key-leaf d0 x.3.2 refl) sum below l old ∙ a.same R ok))

          pub key-past : {from to : ℕ} → r ≡ At from to → Midway Ok s p depth ty key val n start row judging sheet kept' i to sum (below + 1) m
          key-past {from} {to} e =
              let told : KeyTold p here (own (leaf_shape k.kind) (cursor_at p here)) judging key i below l kept (At from to) m kept' = rw e at taken.told in
              let P = read_at s depth in
              let w = span_in told.0 refl in
              let read = leaf_parsed key-leaf d0 told.0 refl in
              -- the walk that does not judge is known to accept
              let new = pair-new a.by (shape_in s) P p key val n i a.had here some from to read judging false left (λ j. sym (ap (among (between p from to)) (a.held j).0 ∙ (told.1 j).0)) refl in
              record {
                asked = a.asked;
                by = a.by;
                ok = a.ok;
                had = between p from to ∷ a.had;
                held = λ j. (ap (λ (ks : List (List ℕ)). between p from to ∷ ks) (a.held j).0 ∙ sym (told.1 j).1, (told.1 j).2);
                ready = record {
                  good = a.asked.ready.good;
                  small = a.asked.ready.small;
                  inside = w.1;
                  behind = omega (arith, w.2, a.behind);
                  judged = λ j. pair-value-accepted a.by (shape_in s) P p key val n i a.had here some from to read new sum below l m told.2 (left j);
                };
                stops = λ R ok number place h. pair-value-stop R (shape_in s) P p key val n i a.had here some from to read new sum below l m told.2 number place h ∙ a.same R ok;
                goes = λ R ok comparisons next row' m' h.
                    sym (pair_turn R (shape_in s) P p key val n i a.had here some from to read new sum below l m told.2 comparisons next row' m' h) ∙ a.same R ok;
                forth = omega (arith, w.2, a.forth);
                long = rw told.2 (length-put l below (span_row key from to)) ∙ a.long;
                some = some;
              }

  module _ {sheet kept : List ℕ} {i here sum below : ℕ} {l : List ℕ} (a : Midway Ok s p depth ty key val n start row judging sheet kept i here sum below l) where
    -- one level down, where there is one
    pub value-below : (depth ≡ 0 → ⊥) → Ready s p here below judging (value_in s p (suc (depth - 1)) val here)
    value-below d0 = deeper (λ d. Ready s p here below judging (value_in s p d val here)) depth d0 a.ready

    module _ {r : Walk} {m : List ℕ} (walked : (R : ℕ → Shape) → Ok R → Walked p (here + 1) (told R (shape_in s) val) (value_in s p depth val here) below l r m) where
      pub value-failed : {number place : ℕ} → r ≡ Refused number place → {after : List ℕ} → PairsTold Ok s p depth ty key val n start row sheet (Refused number place) after
      value-failed {number} {place} e {after} R ok =
          composite_stop R (shape_in s) (read_at s depth) (map key val) ty start n (cursor_at p start) row sheet p start number place after
          (a.stops R ok number place (was (walked R ok) e).same)

      module _ {comparisons next row' : ℕ} (e : r ≡ Past comparisons next row') where
        pub value-sum : sum + comparisons ≤ 262144
        value-sum = let w = (was (walked a.by a.ok) e).within in omega (arith, w, a.forth, a.asked.ready.small)

        pub along-turn : Along Ok s p depth ty key val n start row judging sheet kept (i + 1) next (sum + comparisons) row' m
        along-turn =
            let x = was (walked a.by a.ok) e in
            let w = x.within in
            record {
              asked = a.asked;
              by = a.by;
              ok = a.ok;
              had = a.had;
              held = a.held;
              same = λ R ok. a.goes R ok comparisons next row' m (was (walked R ok) e).same;
              inside = w.0;
              behind = w.1;
              forth = omega (arith, w.2, a.forth);
              long = walk-length (told a.by (shape_in s) val) (value_in s p depth val here) 0 below l x.same ∙ a.long;
              few = omega (arith, a.some);
            }

    -- a value that is a scalar, a string or bytes
    module _ (d0 : depth ≡ 0 → ⊥) {v : TypeRow} (w : IsLeaf s val v) {r : Span} (read : Spanned p here (own (leaf_shape v.kind) (cursor_at p here)) r) where
      pub leaf-stops : {number place : ℕ} → r ≡ SpanRefused place number → {after : List ℕ} → PairsTold Ok s p depth ty key val n start row sheet (Refused number place) after
      leaf-stops e = value-failed {m = l} (λ R ok. leaf-stop w d0 read e R) refl

      pub leaf-turn : {from to : ℕ} → r ≡ At from to → {below' : ℕ} → below' ≡ below + 1 → {m : List ℕ} → m ≡ put_row l below (span_row val from to)
          → Along Ok s p depth ty key val n start row judging sheet kept (i + 1) to sum below' m
      leaf-turn e up put =
          let z : sum ≡ sum + 0 = omega arith in
          rw (up, z) (along-turn (λ R ok. leaf-past w d0 read e a.ready.behind put R) refl)

-- ---- a map by its count

module _ {s p : List ℕ} {ty key val at depth row : ℕ} {judging : Bool} (ready : Ready s p at row judging (value_in s p depth ty at)) (is : shape_in s ty ≡ map key val) where
  pub map-deep : depth ≡ 0 → {l m : List ℕ} → ValuedFlat s p depth ty at row l (Refused 28 at) m
  map-deep e R shown = as_refused _ _ _ (parse-deep (shape_in s) depth ty (cursor_at p at) e)

  module _ (d0 : depth ≡ 0 → ⊥) {r : Count} (read : CountRead p at 2 (count 2 (cursor_at p at)) r) where
    pub counted-refused : {number : ℕ} → r ≡ CountRefused number → {l m : List ℕ} → ValuedFlat s p depth ty at row l (Refused number at) m
    counted-refused {number} e R shown = as_refused _ _ _ (rw (deep depth d0) (map-refused (shape_in s) (depth - 1) ty p at key val is r read number e))

    module _ {n start : ℕ} (e : r ≡ Is n start) where
      pub counted-many : 64 < n → {l m : List ℕ} → ValuedFlat s p depth ty at row l (Refused 31 at) m
      counted-many many R shown = as_refused _ _ _ (rw (deep depth d0) (map-many (shape_in s) (depth - 1) ty p at key val is r read n start e many))

      module _ (few : n ≤ 64) where
        pub counted_ready : 0 < (row_at (table_of s) key).kind → (row_at (table_of s) key).kind < 14 → PairsReady s p (depth - 1) ty key val n start row judging
        counted_ready some leaf =
            let i = count_in (shape_in s) (depth - 1) ty p at 2 r read n start e in
            record {
              ready = record {
                good = ready.good;
                small = ready.small;
                inside = omega (arith, i.1);
                behind = omega (arith, i.0, ready.behind);
                judged = λ j.
                    rw (map_whole (shape_in s) (depth - 1) ty p at key val is r read n start e few) at
                    (deeper (λ d. Accepted (parse (shape_in s) d ty (cursor_at p at))) depth d0 (ready.judged j));
              };
              some = some;
              leaf = leaf;
              most = few;
            }

        pub counted-held : {l : List ℕ} (w : Walk) {m : List ℕ} → HeldPairs s p (depth - 1) ty key val start n start row l w m → ValuedFlat s p depth ty at row l w m
        counted-held {l} w {m} h R shown =
            shallower (λ d. Walked p (at + 1) (told R (shape_in s) ty) (parse (shape_in s) d ty (cursor_at p at)) row l w m) depth d0
            (map-valued (shape_in s) (depth - 1) ty p at key val is r read n start e R (shown ∙ is) few w (h R))
