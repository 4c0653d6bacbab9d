-- Laws of the walkers of arrays, maps and structs: their heads, and the turns of their loops.
use mathlib.Core.Path.{◌≡◌, refl, sym, ap, ◌∙◌}
use mathlib.Core.Bool.{Bool, true, false}
use mathlib.Core.Logic.{⊎_elim}
use mathlib.Core.List.{List, [], ◌∷◌}
use Prim.Native.Nat.{ℕ, suc, ◌+◌, ◌-◌, ◌*◌, ◌/◌, ◌^◌, ◌≤◌, ◌<◌}
use native.Mathlib.Nat.{mod-eq_of_lt}
use native.Mathlib.Omega.{arith}
use borrow.Author.Tests.{ltb-true, eq-eqb, ne_eqb, le-leb, lt-leb}
use lib.Dec.{ltb}
use lib.ListN.{length, replicate, get_or, drop}
use lib.Seq.{take-take}
use Rattle.parse.specs.Reader.{Cursor, refused, seen, Reader, and_then, check, cursor_at, Accepted, count}
use Rattle.parse.proofs.Answers.{accepted-first}
use Rattle.schema.specs.declared.Field.{Field}
use Rattle.schema.specs.Table.{Table, Shape, array, map, struct}
use Rattle.schema.proofs.Bools.{cases}
use Rattle.value.specs.Narrow.{first_of}
use Rattle.value.specs.Comparisons.{key_comparisons}
use Rattle.value.specs.Value.{Tree, tip}
use Rattle.value.specs.Read.{plain_item, pairs, parts, bitmap, among, walk, whole_value, parse}
use Rattle.value.proofs.Narrowed.{first-all}
use Rattle.value.proofs.Comparisons.{comparisons-half, comparisons-few}
use Rattle.walks.specs.Shape.{fields_from}
use Rattle.walks.proofs.Presence.{length_fields}
use Rattle.walks.proofs.Items.{pairs-some, pairs-none, item-accepted, item-stop, key-known, key-again, pair-stop, pair-past}
use Rattle.flat.specs.Count.{Count, Is, Refused as CountRefused}
use Rattle.flat.specs.Head.{Head, Bits, Refused as HeadRefused}
use Rattle.flat.specs.Walk.{Walk, Past, first_fields, told, told_held, noted, note, done, stopped, walk_of, Walked}
use Rattle.flat.specs.Sheet.{put_row}
use Rattle.flat.specs.Leaf.{between, count_of, CountIn, CountRead, head_of, HeadIn, Headed}
use Rattle.flat.proofs.Steps.{ahead, telling, tip-told, later, renamed, further, composite_past, as_told, span_row, parse-refused, parse-whole, own-accepted}

-- ---- heads

module _ (S : ℕ → Shape) (d t : ℕ) (p : List ℕ) (at : ℕ) where
  module _ (least : ℕ) (r : Count) (read : CountRead p at least (count least (cursor_at p at)) r) where
    pub count_in : (n start : ℕ) → r ≡ Is n start → CountIn (length p) at least (Is n start)
    count_in n start e = rw e at read.within

    read_as : (n start : ℕ) → r ≡ Is n start → count least (cursor_at p at) ≡ seen n (cursor_at p start)
    read_as n start e = sym read.same ∙ ap (count_of p at) e

    not_read : (number : ℕ) → r ≡ CountRefused number → count least (cursor_at p at) ≡ refused number at
    not_read number e = sym read.same ∙ ap (count_of p at) e

  module _ (e : ℕ) (is : S t ≡ array e) (r : Count) (read : CountRead p at 1 (count 1 (cursor_at p at)) r) where
    pub array-refused : (number : ℕ) → r ≡ CountRefused number → parse S (suc d) t (cursor_at p at) ≡ refused number at
    unfolding and_then
    array-refused number q = parse-refused S d t (cursor_at p at) (array e) is number at (rw (not_read 1 r read number q))

    pub array_whole : (n start : ℕ) → r ≡ Is n start
        → parse S (suc d) t (cursor_at p at) ≡ whole_value (parse S d) t (array e) (parts start n) (cursor_at p start)
    unfolding and_then
    array_whole n start q =
        parse-whole S d t (cursor_at p at) (array e) is (parts start n) (cursor_at p start) (rw (read_as 1 r read n start q))

    -- an array as it is told from its head on
    module _ (R : ℕ → Shape) (shown : R t ≡ array e) (n start : ℕ) (q : r ≡ Is n start) where
      pub array-valued : {row : ℕ} {l : List ℕ} (w : Walk) {m : List ℕ}
          → Walked p start (told_held R S 0 (replicate n (plain_item e))) (whole_value (parse S d) t (array e) (parts start n) (cursor_at p start)) row l w m
          → Walked p (at + 1) (told R S t) (parse S (suc d) t (cursor_at p at)) row l w m
      array-valued w h =
          let i = count_in 1 r read n start q in
          renamed (array_whole n start q) (further start (at + 1) w (omega (arith, i.0)) (as_told R S (parse S d) (array e) t start n (cursor_at p start) _ _ shown is h))

  module _ (k v : ℕ) (is : S t ≡ map k v) (r : Count) (read : CountRead p at 2 (count 2 (cursor_at p at)) r) where
    pub map-refused : (number : ℕ) → r ≡ CountRefused number → parse S (suc d) t (cursor_at p at) ≡ refused number at
    unfolding and_then
    map-refused number q = parse-refused S d t (cursor_at p at) (map k v) is number at (rw (not_read 2 r read number q))

    module _ (n start : ℕ) (q : r ≡ Is n start) where
      pub map-many : 64 < n → parse S (suc d) t (cursor_at p at) ≡ refused 31 at
      unfolding and_then check
      map-many h = parse-refused S d t (cursor_at p at) (map k v) is 31 at (rw (read_as 2 r read n start q, lt-leb n 64 h))

      pub map_whole : n ≤ 64 → parse S (suc d) t (cursor_at p at) ≡ whole_value (parse S d) t (map k v) (parts start n) (cursor_at p start)
      unfolding and_then check
      map_whole h =
          parse-whole S d t (cursor_at p at) (map k v) is (parts start n) (cursor_at p start)
          (rw (read_as 2 r read n start q, le-leb n 64 h))

      -- a map as it is told from its head on
      pub map-valued : (R : ℕ → Shape) → R t ≡ map k v → n ≤ 64 → {row : ℕ} {l : List ℕ} (w : Walk) {m : List ℕ}
          → Walked p start (told_held R S (key_comparisons n) (pairs n k v)) (whole_value (parse S d) t (map k v) (parts start n) (cursor_at p start)) row l w m
          → Walked p (at + 1) (told R S t) (parse S (suc d) t (cursor_at p at)) row l w m
      map-valued R shown few w h =
          let i = count_in 2 r read n start q in
          renamed (map_whole few) (further start (at + 1) w (omega (arith, i.0)) (as_told R S (parse S d) (map k v) t start n (cursor_at p start) _ _ shown is h))

  module _ (fs : List Field) (is : S t ≡ struct fs) where
    -- where an inner struct is accepted, its bitmap is
    pub bitmap-accepted : Accepted (parse S (suc d) t (cursor_at p at)) → Accepted (bitmap fs (cursor_at p at))
    bitmap-accepted h = accepted-first (bitmap fs (cursor_at p at)) _ (own-accepted S d t (cursor_at p at) (struct fs) is h)

    module _ (r : Head) (read : Headed p at fs (bitmap fs (cursor_at p at)) r) where
      pub struct-refused : (number : ℕ) → r ≡ HeadRefused number → parse S (suc d) t (cursor_at p at) ≡ refused number at
      unfolding and_then
      struct-refused number q =
          parse-refused S d t (cursor_at p at) (struct fs) is number at (rw (sym read.same ∙ ap (head_of p at) q))

      module _ (word known ones unknown start : ℕ) (q : r ≡ Bits word known ones unknown start) where
        pub head_in : HeadIn (length p) at fs (Bits word known ones unknown start)
        head_in = rw q at read.within

        bits-read : bitmap fs (cursor_at p at) ≡ seen word (cursor_at p start)
        bits-read = sym read.same ∙ ap (head_of p at) q

        pub struct-unknown : (unknown ≡ 0 → ⊥) → parse S (suc d) t (cursor_at p at) ≡ refused 26 at
        unfolding and_then check
        struct-unknown h =
            let f : ltb word (2 ^ length fs) ≡ false = head_in.3 ∙ ne_eqb unknown 0 h in
            parse-refused S d t (cursor_at p at) (struct fs) is 26 at (rw (bits-read, f))

        -- without unknown bits the known ones are the word
        pub struct-whole : unknown ≡ 0
            → parse S (suc d) t (cursor_at p at) ≡ whole_value (parse S d) t (struct fs) (parts at known) (cursor_at p start)
        unfolding and_then check
        struct-whole h =
            let f : ltb word (2 ^ length fs) ≡ true = head_in.3 ∙ eq-eqb unknown 0 h in
            let k : word ≡ known = sym (head_in.0 ∙ mod-eq_of_lt (ltb-true word (2 ^ length fs) f)) in
            rw (← k) (parse-whole S d t (cursor_at p at) (struct fs) is (parts at word) (cursor_at p start) (rw (bits-read, f)))

        -- a struct as it is told from its bits on
        pub struct-valued : (R : ℕ → Shape) → unknown ≡ 0 → {row : ℕ} {l : List ℕ} (w : Walk) {m : List ℕ}
            → Walked p start (told R S t) (whole_value (parse S d) t (struct fs) (parts at known) (cursor_at p start)) row l w m
            → Walked p (at + 1) (told R S t) (parse S (suc d) t (cursor_at p at)) row l w m
        struct-valued R h w x = renamed (struct-whole h) (further start (at + 1) w (omega (arith, head_in.4)) x)

-- ---- what is known of a type

pub first-of : (shown : List ℕ) (S : ℕ → Shape) (t : ℕ) {sh : Shape} → S t ≡ sh → first_fields shown S t ≡ first_of (get_or shown t 0) sh
unfolding first_fields
first-of shown S t e = rw e

-- a struct with no more fields than are known is shown whole, one with more by its first ones
module _ (shown : List ℕ) (S : ℕ → Shape) (T : Table) (t first n : ℕ) (is : S t ≡ struct (fields_from T first n)) (room : first + n ≤ length T.fields) where
  pub first-whole : n ≤ get_or shown t 0 → first_fields shown S t ≡ struct (fields_from T first n)
  first-whole le = first-of shown S t is ∙ first-all (get_or shown t 0) _ (omega (arith, length_fields T first n room))

  pub first_part : (m : ℕ) → m ≡ get_or shown t 0 → m ≤ n → first_fields shown S t ≡ struct (fields_from T first m)
  unfolding fields_from
  first_part m e le = first-of shown S t is ∙ ap struct (rw (← e) (take-take m n (drop first T.fields) le))

-- ---- pairs of a map

module _ (R S : ℕ → Shape) (P : ℕ → Reader Tree) (p : List ℕ) (k v n i : ℕ) (keys : List (List ℕ)) (here : ℕ) (some : i < n) where
  pub pair-key-accepted : Accepted (walk P keys (pairs (n - i) k v) (cursor_at p here)) → Accepted (P k (cursor_at p here))
  pair-key-accepted h = item-accepted P keys (pairs-some k v some) (cursor_at p here) h

  pub pair-key-stop : (sum below : ℕ) (l : List ℕ) (a q : ℕ) → P k (cursor_at p here) ≡ refused a q
      → stopped a q ≡ ahead R S P keys (pairs (n - i) k v) (cursor_at p here) sum below l
  pair-key-stop sum below l a q e = item-stop (telling R S) P keys (pairs-some k v some) (cursor_at p here) (noted sum below l) _ (rw e)

  module _ (from to : ℕ) (read : P k (cursor_at p here) ≡ seen (tip (span_row k from to) (between p from to)) (cursor_at p to)) where
    pub pair-again : (sum below : ℕ) (l : List ℕ) → among (between p from to) keys ≡ true
        → stopped 24 here ≡ ahead R S P keys (pairs (n - i) k v) (cursor_at p here) sum below l
    pair-again sum below l e = key-again (telling R S) P keys (pairs-some k v some) (cursor_at p here) read (noted sum below l) e

    -- a key is new where the walk that judges says so, and where the other walk is known to accept
    module _ (judging r : Bool) where
      pub pair-new : (judging ≡ false → Accepted (walk P keys (pairs (n - i) k v) (cursor_at p here))) → (judging ≡ true → r ≡ among (between p from to) keys)
          → r ≡ false → among (between p from to) keys ≡ false
      pair-new a q e = ⊎_elim (λ j. sym (q j) ∙ e) (λ j. (key-known P keys (pairs-some k v some) (cursor_at p here) read (a j)).0) (cases judging)

    module _ (new : among (between p from to) keys ≡ false) (sum below : ℕ) (l m : List ℕ) (put : m ≡ put_row l below (span_row k from to)) where
      key-told : noted sum (below + 1) m ≡ note (told R S k (tip (span_row k from to) (between p from to))) (noted sum below l)
      key-told = rw put (tip-told R S k (span_row k from to) (between p from to) sum below l)

      pub pair-value-accepted : Accepted (walk P keys (pairs (n - i) k v) (cursor_at p here)) → Accepted (P v (cursor_at p to))
      pair-value-accepted h = item-accepted P (between p from to ∷ keys) refl (cursor_at p to) (key-known P keys (pairs-some k v some) (cursor_at p here) read h).1

      pub pair-value-stop : (a q : ℕ) → stopped a q ≡ walk_of (told R S v) (P v (cursor_at p to)) 0 (below + 1) m
          → stopped a q ≡ ahead R S P keys (pairs (n - i) k v) (cursor_at p here) sum below l
      pair-value-stop a q e = pair-stop (telling R S) P k v keys (cursor_at p here) some read (noted sum below l) new tt key-told (noted 0 (below + 1) m) e

      -- a turn of the loop over pairs, with the key's row already written
      pub pair_turn : (comparisons next row' : ℕ) (m' : List ℕ) → done (cursor_at p next) comparisons row' m' ≡ walk_of (told R S v) (P v (cursor_at p to)) 0 (below + 1) m
          → ahead R S P keys (pairs (n - i) k v) (cursor_at p here) sum below l
          ≡ ahead R S P (between p from to ∷ keys) (pairs (n - (i + 1)) k v) (cursor_at p next) (sum + comparisons) row' m'
      pair_turn comparisons next row' m' h =
          pair-past (telling R S) P k v keys (cursor_at p here) some read (noted sum below l) new tt key-told tt (later (told R S v) (P v (cursor_at p to)) sum (below + 1) m h)

-- the comparisons of a map's own keys, at most 32 a pair
pub own-comparisons : (n : ℕ) → n * (n - 1) / 2 ≡ key_comparisons n
own-comparisons n = rw (← comparisons-half n) (omega arith)

-- a map without pairs, which has its own row alone
module _ (S : ℕ → Shape) (d t : ℕ) (p : List ℕ) (at k v : ℕ) (is : S t ≡ map k v) (r : Count) (read : CountRead p at 2 (count 2 (cursor_at p at)) r) where
  pub map-none : (n start : ℕ) → r ≡ Is n start → n ≡ 0 → (R : ℕ → Shape) → R t ≡ map k v → (row : ℕ) (l m : List ℕ) → row ≤ at
      → m ≡ put_row l row (record { ty = t; place = start; length = 0; count = 0 })
      → Walked p (at + 1) (told R S t) (parse S (suc d) t (cursor_at p at)) row l (Past 0 start (row + 1)) m
  map-none n start q none R shown row l m behind put =
      let i = count_in S d t p at 2 r read n start q in
      let zero : start - start ≡ 0 = omega arith in
      map-valued S d t p at k v is r read n start q R shown (omega (arith, none)) _
      (composite_past R S (parse S d) (map k v) t start n (cursor_at p start) row l p start start 0 0 (row + 1) l
      _ [] (pairs n k v) (pairs-none k v n (omega (arith, none))) refl
      (rw none (omega (arith, own-comparisons 0))) (rw (zero, none) put) (omega (arith, i.1)) (omega (arith, i.0, behind)) (omega arith))

pub few-pairs : (n : ℕ) → n ≤ 64 → n * (n - 1) ≤ 63 * n
few-pairs n h = rw (← comparisons-half n) (comparisons-few n h)

-- the loop over pairs starts with all of them
pub pairs_first : (R S : ℕ → Shape) (P : ℕ → Reader Tree) (k v n : ℕ) (c : Cursor) (row : ℕ) (l : List ℕ)
    → ahead R S P [] (pairs (n - 0) k v) c 0 row l ≡ ahead R S P [] (pairs n k v) c 0 row l
pairs_first R S P k v n c row l = let e : n - 0 ≡ n = omega arith in rw e
