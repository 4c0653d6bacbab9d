-- Laws of a struct of which only the first fields are shown: its first fields are walked as those of any struct, then the added ones, of which no row is written.
use mathlib.Core.Path.{◌≡◌, refl, sym, ap, ◌∙◌}
use mathlib.Core.Bool.{Bool}
use mathlib.Core.List.{List, [], ◌∷◌, ◌++◌}
use Prim.Native.Nat.{ℕ, ◌+◌, ◌-◌, ◌/◌, ◌%◌, ◌*◌, ◌^◌, ◌≤◌, ◌<◌}
use native.Mathlib.Nat.{mod-lt}
use native.Mathlib.Omega.{arith}
use lib.Count.{ones}
use lib.ListN.{length, take, drop}
use lib.Pow.{pow_pos}
use lib.Seq.{take-add, drop-drop}
use Rattle.wire.proofs.Cases.{differ}
use Rattle.parse.specs.Reader.{Answer, refused, seen, Reader, and_then, cursor_at, Accepted}
use Rattle.parse.proofs.Answers.{accepted-first, accepted-alike, stops, refused-alike}
use Rattle.schema.specs.declared.Field.{Field}
use Rattle.schema.specs.Table.{Table, Shape, struct}
use Rattle.schema.specs.File.{table_of}
use Rattle.value.specs.Value as tree
use Rattle.value.specs.Value.{Tree, branch, Forest, stop, plus, rows, rows_all, values}
use Rattle.value.specs.Comparisons.{comparisons_all}
use Rattle.value.specs.Comparisons as due
use Rattle.value.specs.Read.{Item, present, parts, walk, node_row, whole_value, known_bits, parse}
use Rattle.value.specs.Beside.{pruned, pruned_all}
use Rattle.value.proofs.Bits.{present-append, present_mod, known-ones}
use Rattle.value.proofs.Root.{present_unkeyed}
use Rattle.value.proofs.Without.{◌⧺◌, trees}
use Rattle.value.proofs.RootTables.{walk-size}
use Rattle.value.proofs.Pruned.{pruned-first}
use Rattle.value.proofs.Narrowed.{go_on, walk-append}
use Rattle.walks.specs.Shape.{fields_from, shape_in}
use Rattle.walks.proofs.Presence.{length_fields}
use Rattle.flat.specs.Walk.{Walk, Past, Refused, whole_in, told, told_all, told_held, done, walk_of, Walked, Ready}
use Rattle.flat.specs.Sheet.{put_row, put_rows}
use Rattle.flat.specs.Flat.{HeldFields, FieldsReady}
use Rattle.flat.proofs.Sheets.{put-twice}
use Rattle.flat.proofs.Steps.{done-eq, renamed, was, as_refused, refused-of}

-- the comparisons due in what was read by two plans
comparisons-both : (S : ℕ → Shape) (us vs : Forest) (is js : List Item) → trees us ≡ length is
    → comparisons_all S (values (us ⧺ vs)) (is ++ js) ≡ comparisons_all S (values us) is + comparisons_all S (values vs) js
unfolding comparisons_all values
comparisons-both S stop vs [] js e = omega arith
comparisons-both S stop vs (i ∷ is) js e = absurd (omega arith)
comparisons-both S (plus u us) vs [] js e = absurd (omega arith)
comparisons-both S (plus u us) vs (i ∷ is) js e = omega (arith, comparisons-both S us vs is js (omega arith))

module _ (R S : ℕ → Shape) (P : ℕ → Reader Tree) (t place : ℕ) (fs gs : List Field) (h : ℕ) (p : List ℕ) (start row : ℕ) (l : List ℕ) where
  -- The items of the fields that are shown, and of the added ones.
  abbrev is : List Item
  is = present fs h

  abbrev js : List Item
  js = present gs (h / 2 ^ length fs)

  -- The answers: the whole struct from its bits on, its first fields, and the added ones from a place on.
  abbrev all : Answer Tree
  all = whole_value P t (struct (fs ++ gs)) (parts place h) (cursor_at p start)

  abbrev first : (mine : ℕ) → Answer Tree
  first mine = whole_value P t (struct fs) (parts place mine) (cursor_at p start)

  abbrev added : (here rest : ℕ) → Answer Tree
  added here rest = whole_value P t (struct gs) (parts here rest) (cursor_at p here)

  -- A struct with these trees.
  with_row : (place count head : ℕ) → Forest → Reader Tree
  with_row place count head ts end = seen (branch (node_row t place end.at count) head ts) end

  all-is : all ≡ and_then (and_then (walk P [] is (cursor_at p start)) (go_on P [] js)) (with_row place (length (is ++ js)) h)
  unfolding with_row
  all-is = rw (present-append fs gs h, walk-append P [] (present gs (h / 2 ^ length fs)) (present fs h) (present_unkeyed fs h) (cursor_at p start))

  module _ (mine : ℕ) (m : mine ≡ known_bits fs h) where
    first-is : first mine ≡ and_then (walk P [] is (cursor_at p start)) (with_row place (length is) mine)
    unfolding with_row
    first-is = rw (m, present_mod fs h)

    first-accepted : Accepted all → Accepted (first mine)
    unfolding with_row
    first-accepted a =
        rw first-is
        (accepted-alike (walk P [] is (cursor_at p start)) _ _ (accepted-first (and_then (walk P [] is (cursor_at p start)) (go_on P [] js)) _ (rw all-is at a)) (λ _ _ _. tt))

    first-stop : (n q : ℕ) (after : List ℕ) → Walked p start (told_held R S 0 (present fs mine)) (first mine) row l (Refused n q) after
        → Walked p start (told R S t) all row l (Refused n q) after
    unfolding with_row
    first-stop n q after w =
        as_refused all n q
        (all-is ∙ stops _ (refused-alike (walk P [] is (cursor_at p start)) _ _
        (rw first-is at (refused-of w)) (λ us c e. differ cc)))

    -- What the walk over the first fields has given: trees, comparisons, rows and the struct's own row, which is not yet right.
    Gave : (sum here below : ℕ) (m₁ : List ℕ) → Forest → Type 0
    Gave sum here below m₁ us =
        (walk P [] is (cursor_at p start) ≡ seen us (cursor_at p here))
        × (sum ≡ (told_all R S is us).comparisons)
        × (below ≡ row + 1 + length (told_all R S is us).rows)
        × (m₁ ≡ put_row (put_rows l (row + 1) (told_all R S is us).rows) row (node_row t place here (length is)))

    module _ (sum here below : ℕ) (m₁ : List ℕ) (w : Walked p start (told_held R S 0 (present fs mine)) (first mine) row l (Past sum here below) m₁) where
      gave : (us : Forest) × Gave sum here below m₁ us
      unfolding Gave and_then with_row told_held put_rows
      gave = go (walk P [] is (cursor_at p start)) refl (rw (first-is, m, present_mod fs h) at w.same)
        where
          go : (o : Answer Forest) → walk P [] is (cursor_at p start) ≡ o
              → done (cursor_at p here) sum below m₁ ≡ walk_of (told_held R S 0 is) (and_then o (with_row place (length is) (known_bits fs h))) 0 row l
              → (us : Forest) × Gave sum here below m₁ us
          go (seen us c) e g =
              let k : cursor_at p here ≡ c = cc in
              let d : sum ≡ 0 + (0 + (told_all R S is us).comparisons) = cc in
              let b : below ≡ row + length (node_row t place c.at (length is) ∷ (told_all R S is us).rows) = cc in
              let u : m₁ ≡ put_row (put_rows l (row + 1) (told_all R S is us).rows) row (node_row t place c.at (length is)) = cc in
              (us, (rw k e, omega arith, omega arith, rw (← k) at u))
          go (refused n q) e g = differ cc

      -- the whole struct from the added fields on
      all-next : (us : Forest) → Gave sum here below m₁ us → all ≡ and_then (go_on P [] js us (cursor_at p here)) (with_row place (length (is ++ js)) h)
      unfolding Gave and_then
      all-next us g = all-is ∙ rw g.0

      module _ (rest : ℕ) (q : rest ≡ known_bits gs (h / 2 ^ length fs)) where
        added_is : added here rest ≡ and_then (walk P [] js (cursor_at p here)) (with_row here (length js) rest)
        unfolding with_row
        added_is = rw (q, present_mod gs (h / 2 ^ length fs))

        added-accepted : Accepted all → Accepted (added here rest)
        unfolding with_row go_on
        added-accepted a =
            rw added_is
            (accepted-alike (walk P [] js (cursor_at p here)) _ _ (accepted-first (go_on P [] js gave.0 (cursor_at p here)) _ (rw (all-next gave.0 gave.1) at a)) (λ _ _ _. tt))

        added-stop : (n r : ℕ) (k m₂ after : List ℕ) → Walked p here (told_held R S 0 (present gs rest)) (added here rest) row k (Refused n r) m₂
            → Walked p start (told R S t) all row l (Refused n r) after
        unfolding with_row go_on
        added-stop n r k m₂ after v =
            as_refused all n r
            (all-next gave.0 gave.1 ∙ stops _ (refused-alike (walk P [] js (cursor_at p here)) _ _
            (rw added_is at (refused-of v)) (λ vs c e. differ cc)))

        module _ (shown : R t ≡ struct fs) (read : S t ≡ struct (fs ++ gs)) where
          -- What is told of a struct with both: the rows of the first fields, and the comparisons of all.
          told-rows : (us vs : Forest) (end k : ℕ) → trees us ≡ length is
              → (told R S t (branch (node_row t place end k) h (us ⧺ vs))).rows ≡ node_row t place end (length is) ∷ (told_all R S is us).rows
          unfolding told told_all rows rows_all pruned pruned_all
          told-rows us vs end k e = rw (shown, pruned-first R us vs (present fs h) e)

          told-comparisons : (us vs : Forest) (end k : ℕ) → trees us ≡ length is
              → (told R S t (branch (node_row t place end k) h (us ⧺ vs))).comparisons ≡ (told_all R S is us).comparisons + (told_all R S js vs).comparisons
          unfolding told told_all tree.value values due.comparisons comparisons_all
          told-comparisons us vs end k e = rw (read, present-append fs gs h) (omega (arith, comparisons-both S us vs (present fs h) (present gs (h / 2 ^ length fs)) e))

          both-past : (comparisons next below₂ : ℕ) (k m₂ after : List ℕ)
              → Walked p here (told_held R S 0 (present gs rest)) (added here rest) row k (Past comparisons next below₂) m₂
              → after ≡ put_row m₁ row (node_row t place next (length is))
              → Walked p start (told R S t) all row l (Past (sum + comparisons) next below) after
          unfolding Gave go_on and_then with_row told_held put_rows
          both-past comparisons next below₂ k m₂ after v put =
              let us = gave.0 in
              let g = gave.1 in
              let i = w.within in
              let j = v.within in
              record {
                same = rw (all-next us g) (go (walk P [] js (cursor_at p here)) (rw (added_is, q, present_mod gs (h / 2 ^ length fs)) at v.same));
                within = (j.0, omega arith, omega arith);
              }
            where
              go : (o : Answer Forest)
                  → done (cursor_at p next) comparisons below₂ m₂ ≡ walk_of (told_held R S 0 js) (and_then o (with_row here (length js) (known_bits gs (h / 2 ^ length fs)))) 0 row k
                  → done (cursor_at p next) (sum + comparisons) below after
                  ≡ walk_of (told R S t) (and_then (and_then o (λ vs c. seen (gave.0 ⧺ vs) c)) (with_row place (length (is ++ js)) h)) 0 row l
              go (seen vs c) e =
                  let us = gave.0 in
                  let g = gave.1 in
                  let f : cursor_at p next ≡ c = cc in
                  let d : comparisons ≡ 0 + (0 + (told_all R S js vs).comparisons) = cc in
                  let size = walk-size P [] is (cursor_at p start) us (cursor_at p here) g.0 in
                  rw (← f, told-rows us vs next (length (is ++ js)) size, told-comparisons us vs next (length (is ++ js)) size)
                  (done-eq refl (omega (arith, g.1)) (omega (arith, g.2)) (put ∙ ap (λ (x : List ℕ). put_row x row (node_row t place next (length is))) g.3 ∙ put-twice _ row _ _))
              go (refused n r) e = differ cc

-- ---- by a table: n fields from the first on, of which m are shown

module _ (T : Table) (first n m : ℕ) (le : m ≤ n) (room : first + n ≤ length T.fields) where
  split : fields_from T first n ≡ fields_from T first m ++ fields_from T (first + m) (n - m)
  unfolding fields_from
  split =
      let e : n ≡ m + (n - m) = omega arith in
      ap (λ (k : ℕ). take k (drop first T.fields)) e ∙ take-add m (n - m) (drop first T.fields) ∙ rw drop-drop

  long : length (fields_from T first m) ≡ m
  long = length_fields T first m (omega arith)

  -- the counts of the bits
  pub mine-count : (h mine : ℕ) → mine ≡ h % 2 ^ m → ones mine ≡ length (present (fields_from T first m) mine)
  mine-count h mine e =
      let k : mine ≡ known_bits (fields_from T first m) h = rw long e in
      rw k (sym (known-ones (fields_from T first m) h) ∙ ap length (sym (present_mod (fields_from T first m) h)))

  module _ (R S : ℕ → Shape) (P : ℕ → Reader Tree) (t place h : ℕ) (p : List ℕ) (start row : ℕ) (l : List ℕ) where
    abbrev fs : List Field
    fs = fields_from T first m

    abbrev gs : List Field
    gs = fields_from T (first + m) (n - m)

    abbrev Whole : Answer Tree
    Whole = whole_value P t (struct (fields_from T first n)) (parts place h) (cursor_at p start)

    all_split : Whole ≡ whole_value P t (struct (fs ++ gs)) (parts place h) (cursor_at p start)
    all_split = rw split

    module _ (mine : ℕ) (is : mine ≡ h % 2 ^ m) where
      mine-is : mine ≡ known_bits fs h
      mine-is = rw long is

      fields-accepted : Accepted Whole → Accepted (whole_value P t (struct fs) (parts place mine) (cursor_at p start))
      fields-accepted a = first-accepted R S P t place fs gs h p start row l mine mine-is (rw split at a)

      fields-stop : (a q : ℕ) (after : List ℕ)
          → Walked p start (told_held R S 0 (present fs mine)) (whole_value P t (struct fs) (parts place mine) (cursor_at p start)) row l (Refused a q) after
          → Walked p start (told R S t) Whole row l (Refused a q) after
      fields-stop a q after w = renamed all_split (first-stop R S P t place fs gs h p start row l mine mine-is a q after w)

      module _ (sum here below : ℕ) (m₁ : List ℕ)
          (w : Walked p start (told_held R S 0 (present fs mine)) (whole_value P t (struct fs) (parts place mine) (cursor_at p start)) row l (Past sum here below) m₁)
          (rest : ℕ) (rest-is : rest ≡ h / 2 ^ m % 2 ^ (n - m)) where
        rest-known : rest ≡ known_bits gs (h / 2 ^ length fs)
        rest-known = let e : length gs ≡ n - m = length_fields T (first + m) (n - m) (omega arith) in rw (long, e) rest-is

        others-accepted : Accepted Whole → Accepted (whole_value P t (struct gs) (parts here rest) (cursor_at p here))
        others-accepted a = added-accepted R S P t place fs gs h p start row l mine mine-is sum here below m₁ w rest rest-known (rw split at a)

        others-stop : (a q : ℕ) (k m₂ after : List ℕ)
            → Walked p here (told_held R S 0 (present gs rest)) (whole_value P t (struct gs) (parts here rest) (cursor_at p here)) row k (Refused a q) m₂
            → Walked p start (told R S t) Whole row l (Refused a q) after
        others-stop a q k m₂ after v =
            renamed all_split (added-stop R S P t place fs gs h p start row l mine mine-is sum here below m₁ w rest rest-known a q k m₂ after v)

        others-past : R t ≡ struct fs → S t ≡ struct (fields_from T first n) → (comparisons next below₂ : ℕ) (k m₂ after : List ℕ)
            → Walked p here (told_held R S 0 (present gs rest)) (whole_value P t (struct gs) (parts here rest) (cursor_at p here)) row k (Past comparisons next below₂) m₂
            → after ≡ put_row m₁ row (node_row t place next (ones mine))
            → Walked p start (told R S t) Whole row l (Past (sum + comparisons) next below) after
        others-past shown read comparisons next below₂ k m₂ after v put =
            let e : ones mine ≡ length (present fs h) = mine-count h mine is ∙ rw (mine-is, present_mod fs h) in
            renamed all_split
            (both-past R S P t place fs gs h p start row l mine mine-is sum here below m₁ w rest rest-known shown (read ∙ ap struct split) comparisons next below₂ k m₂ after v (rw e at put))

-- ---- in code: the first m fields of a struct, then the others

-- What is asked of a struct of n fields of which the first m are shown.
pub record PartAsked (s p : List ℕ) (depth ty first n m place known start row : ℕ) (judging : Bool) : Type 0 where
  pub ready : Ready s p start (row + 1) judging (whole_in s p depth ty (struct (fields_from (table_of s) first n)) place known start)
  pub in_table : first + n ≤ length (table_of s).fields
  pub forth : place ≤ start
  pub less : m < n

module _ {s p : List ℕ} {depth ty first n m place known start row : ℕ} {judging : Bool} (q : PartAsked s p depth ty first n m place known start row judging)
    {mine : ℕ} (is : mine ≡ known % 2 ^ m) where
  abbrev T : Table
  T = table_of s

  abbrev S : ℕ → Shape
  S = shape_in s

  abbrev P : ℕ → Reader Tree
  P = parse S depth

  le : m ≤ n
  le = omega (arith, q.less)

  pub part-first : Ready s p start (row + 1) judging (whole_in s p depth ty (struct (fields_from (table_of s) first m)) place mine start)
  part-first =
      record {
        good = q.ready.good;
        small = q.ready.small;
        inside = q.ready.inside;
        behind = q.ready.behind;
        judged = λ j. fields-accepted T first n m le q.in_table S S P ty place known p start row [] mine is (q.ready.judged j);
      }

  pub part_room : first + m ≤ length (table_of s).fields
  part_room = omega (arith, q.in_table, le)

  pub part_count : ones mine ≡ length (present (fields_from (table_of s) first m) mine)
  part_count = mine-count T first n m le q.in_table known mine is

  -- by the shapes R
  module _ (R : ℕ → Shape) {sheet after : List ℕ} {w : Walk}
      (walked : Walked p start (told_held R (shape_in s) 0 (present (fields_from (table_of s) first m) mine)) (whole_in s p depth ty (struct (fields_from (table_of s) first m)) place mine start) row sheet w after) where
    pub part-stop : {number at : ℕ} → w ≡ Refused number at
        → Walked p start (told R (shape_in s) ty) (whole_in s p depth ty (struct (fields_from (table_of s) first n)) place known start) row sheet (Refused number at) after
    part-stop e = fields-stop T first n m le q.in_table R S P ty place known p start row sheet mine is _ _ after (was walked e)

    module _ {sum here below : ℕ} (e : w ≡ Past sum here below) where
      abbrev rest : ℕ
      rest = known / 2 ^ m % 2 ^ (n - m)

      within : (here ≤ length p) × (below ≤ here) × (sum + 16 * start ≤ 16 * here)
      within = (was walked e).within

      pub rest-asked : Ready s p here (row + 1) judging (whole_in s p depth ty (struct (fields_from (table_of s) (first + m) (n - m))) here rest here)
      rest-asked =
          record {
            good = q.ready.good;
            small = q.ready.small;
            inside = within.0;
            behind = omega (arith, q.ready.behind, within.2);
            judged = λ j. others-accepted T first n m le q.in_table R S P ty place known p start row sheet mine is sum here below after (was walked e) rest refl (q.ready.judged j);
          }

      module _ {cells cells' : List ℕ} {v : Walk}
          (more : Walked p here (told_held R (shape_in s) 0 (present (fields_from (table_of s) (first + m) (n - m)) rest))
          (whole_in s p depth ty (struct (fields_from (table_of s) (first + m) (n - m))) here rest here) row cells v cells') where
        pub rest-stop : {number at : ℕ} → v ≡ Refused number at → {end : List ℕ}
            → Walked p start (told R (shape_in s) ty) (whole_in s p depth ty (struct (fields_from (table_of s) first n)) place known start) row sheet (Refused number at) end
        rest-stop f = others-stop T first n m le q.in_table R S P ty place known p start row sheet mine is sum here below after (was walked e) rest refl _ _ cells cells' _ (was more f)

        module _ {comparisons next below' : ℕ} (f : v ≡ Past comparisons next below') where
          pub rest_in : (place ≤ next) × (next ≤ 16384) × (row ≤ 16384) × (sum + comparisons ≤ 262144)
          rest_in = let x = (was more f).within in omega (arith, x, within, q.forth, q.ready.small, q.ready.inside, q.ready.behind)

          pub rest-past : R ty ≡ struct (fields_from (table_of s) first m) → shape_in s ty ≡ struct (fields_from (table_of s) first n) → {count : ℕ} → count ≡ ones mine
              → {end : List ℕ} → end ≡ put_row after row (node_row ty place next count)
              → Walked p start (told R (shape_in s) ty) (whole_in s p depth ty (struct (fields_from (table_of s) first n)) place known start) row sheet (Past (sum + comparisons) next below) end
          rest-past shown read same put =
              others-past T first n m le q.in_table R S P ty place known p start row sheet mine is sum here below after (was walked e) rest refl shown read _ _ _ cells cells' _ (was more f) (rw same at put)

-- ---- all of them scalars, strings or bytes

module _ {s p : List ℕ} {depth ty first n m place known start row : ℕ} {judging : Bool} (q : FieldsReady s p depth ty first n place known start row judging) (few : m < n) where
  pub part-asked : PartAsked s p depth ty first n m place known start row judging
  part-asked = record { ready = q.ready; in_table = q.in_table; forth = q.forth; less = few }

  module _ {mine : ℕ} (is : mine ≡ known % 2 ^ m) where
    pub first-ready : FieldsReady s p depth ty first m place mine start row judging
    first-ready =
        record {
          ready = part-first part-asked is;
          leaves = λ i a b. q.leaves i a (omega (arith, b, few));
          in_table = part_room part-asked is;
          few = omega (arith, q.few, few);
          fits = rw is (mod-lt known (pow_pos m));
          forth = q.forth;
          deep = q.deep;
        }

    pub rest-ready : {sheet after : List ℕ} {w : Walk} → HeldFields s p depth ty first m place mine start row sheet w after → {sum here below : ℕ} → w ≡ Past sum here below
        → FieldsReady s p depth ty (first + m) (n - m) here (known / 2 ^ m % 2 ^ (n - m)) here row judging
    rest-ready walked e =
        record {
          ready = rest-asked part-asked is (shape_in s) (walked (shape_in s)) e;
          leaves = λ i a b. q.leaves i (omega (arith, a)) (omega (arith, b, few));
          in_table = omega (arith, q.in_table, few);
          few = omega (arith, q.few);
          fits = mod-lt (known / 2 ^ m) (pow_pos (n - m));
          forth = omega arith;
          deep = q.deep;
        }
