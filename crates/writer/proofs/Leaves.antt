-- Laws of the leaves: what each of their returns shows of the crate `value`'s reading of a row.
use Rattle.std.specs.Prelude.{Result, Ok, Err, ⊤}
use mathlib.Core.Path.{◌≡◌, refl, sym, ap, ◌∙◌}
use mathlib.Core.Bool.{true, false, not, ◌&&◌, ◌||◌}
use mathlib.Core.List.{List}
use Prim.Native.Nat.{ℕ, ◌+◌, ◌*◌, ◌/◌, ◌≤◌, ◌<◌}
use native.Mathlib.Omega.{arith}
use native.Mathlib.Numerals.{add-one}
use native.Mathlib.Decide.{dec_lt, ℕ_discrete}
use borrow.Author.Tests.{le-leb, lt-leb, eq-eqb, ne_eqb, eqb-true, leb-true}
use lib.Dec.{ltb, eqb}
use lib.ListN.{length, get_or}
use Rattle.buffer.specs.Span.{span, inside}
use Rattle.wire.specs.Little.{little}
use Rattle.utf8.specs.Utf8.{utf8}
use Rattle.parse.specs.Reader.{CursorOf, seen, and_then, check, Accepted}
use Rattle.parse.proofs.Answers.{accepted-first, accepted-check}
use Rattle.schema.specs.Table.{width}
use Rattle.schema.proofs.Bools.{and_left, and_right}
use Rattle.value.specs.declared.Row.{Row}
use Rattle.value.specs.Write.{next_row, row_due, says}
use Rattle.value.proofs.Spans.{scalar_untrue}
use Rattle.value.proofs.Sheets.{rows-from, no_rows}
use Rattle.walks.specs.Shape.{leaf_shape}
use Rattle.walks.proofs.Tables.{leaf-scalar, leaf-text}
use Rattle.constants.specs.declared.refusal.Refusal.{Refusal}
use Rattle.constants.specs.declared.refusal.Refusal.TheVariants.{Sheet, Outside, Bool as NoBool, Utf8 as NoUtf8}
use Rattle.constants.specs.declared.refusal.Refused.{Refused}
use Rattle.writer.specs.declared.leaf.RowSays.{RowSays}
use Rattle.writer.specs.Leaf.{rows_at, place_at, length_at, due_answer, DueIn, DueRow, said_of, VerdictIn, Judged, row_says, LeafRow}

-- ---- rows

-- A refusal at row k.
abbrev pub refused_at : {A : Type 0} → ℕ → Refusal → Result A Refused
refused_at k refusal = Err (record { place = k; refusal = refusal })

module _ (cells : List ℕ) (k t : ℕ) where
  pub row-missing : length cells / 4 ≤ k → DueRow cells k t (refused_at k Sheet)
  unfolding row_due next_row and_then
  row-missing h = record { same = rw (no_rows cells k h); within = tt }

  module _ (h : k < length cells / 4) where
    pub row_other : (get_or cells (4 * k) 0 ≡ t → ⊥) → DueRow cells k t (refused_at k Sheet)
    unfolding row_due next_row and_then check
    row_other e = record { same = rw (rows-from cells k h, ne_eqb (get_or cells (4 * k) 0) t e); within = tt }

    pub row-found : get_or cells (4 * k) 0 ≡ t → (p n c : ℕ) → (p ≡ place_at cells k) × (p < 4294967296) → (n ≡ length_at cells k) × (n < 4294967296) → c ≡ get_or cells (4 * k + 3) 0
        → DueRow cells k t (Ok (record { place = p; length = n; count = c }))
    unfolding row_due next_row and_then check
    row-found e p n c ep en ec =
        record {
          same = rw (rows-from cells k h, eq-eqb (get_or cells (4 * k) 0) t e, e, ep.0, en.0, ec, add-one k);
          within = (h, ep.0, en.0, ep.1, en.1);
        }

-- a row that is accepted is there and of the type due
row-known : (cells : List ℕ) (k t : ℕ) → Accepted (row_due t (rows_at cells k)) → (k < length cells / 4) × (get_or cells (4 * k) 0 ≡ t)
row-known cells k t a = elim (dec_lt k (length cells / 4)) [
  | yes h ↦ elim (ℕ_discrete (get_or cells (4 * k) 0) t) [
    | yes e ↦ (h, e)
    | no e ↦ absurd (rw (← (row_other cells k t h e).same) at a)
  ]
  | no g ↦ let h : length cells / 4 ≤ k = omega arith in absurd (rw (← (row-missing cells k t h).same) at a)
]

-- a row that was found
module _ {cells : List ℕ} {k t : ℕ} {due : Result RowSays Refused} (found : DueRow cells k t due) {w : RowSays} (e : due ≡ Ok w) where
  pub due_in : DueIn cells k (Ok w)
  due_in = rw e at found.within

  pub row_read : row_due t (rows_at cells k) ≡ seen (record { ty = t; place = w.place; length = w.length; count = w.count }) (rows_at cells (k + 1))
  row_read = sym found.same ∙ ap (due_answer cells k t) e

-- ---- scalars, strings and bytes

module _ (B : List ℕ) (kind p n c k : ℕ) where
  module _ (is : kind < 12) where
    pub scalar-wide : (n ≡ width kind → ⊥) → Judged B kind p n c k (refused_at k Sheet)
    unfolding and_then check
    scalar-wide e = record { same = λ cur. rw (leaf-scalar kind is, ne_eqb n (width kind) e); within = tt }

    module _ (w : n ≡ width kind) where
      pub scalar-counted : (c ≡ 0 → ⊥) → Judged B kind p n c k (refused_at k Sheet)
      unfolding and_then check
      scalar-counted e = record { same = λ cur. rw (leaf-scalar kind is, eq-eqb n (width kind) w, ne_eqb c 0 e); within = tt }

      module _ (z : c ≡ 0) where
        pub scalar-outside : length B < p + n → Judged B kind p n c k (refused_at k Outside)
        unfolding and_then check
        scalar-outside h = record { same = λ cur. rw (leaf-scalar kind is, eq-eqb n (width kind) w, eq-eqb c 0 z, lt-leb (p + n) (length B) h); within = tt }

        module _ (inside : p + n ≤ length B) where
          pub scalar-fine : (not (eqb kind 1) || ltb (little (span B p n)) 2) ≡ true → Judged B kind p n c k (Ok tt)
          unfolding and_then check
          scalar-fine t =
              record {
                same = λ cur. rw (leaf-scalar kind is, eq-eqb n (width kind) w, eq-eqb c 0 z, le-leb (p + n) (length B) inside, t);
                within = inside;
              }

          pub one_byte : kind ≡ 1 → p < length B
          one_byte k = let e : n ≡ 1 = w ∙ ap width k in omega arith

          pub scalar_bad : kind ≡ 1 → 1 < get_or B p 0 → Judged B kind p n c k (refused_at k NoBool)
          unfolding and_then check
          scalar_bad k h =
              let f = scalar_untrue B kind p n w inside k h in
              record {
                same = λ cur. rw (leaf-scalar kind is, eq-eqb n (width kind) w, eq-eqb c 0 z, le-leb (p + n) (length B) inside, f, eq-eqb kind 1 k);
                within = tt;
              }

  module _ (is : 12 ≤ kind) where
    pub text-counted : (c ≡ 0 → ⊥) → Judged B kind p n c k (refused_at k Sheet)
    unfolding and_then check
    text-counted e = record { same = λ cur. rw (leaf-text kind is, ne_eqb c 0 e); within = tt }

    module _ (z : c ≡ 0) where
      pub text-outside : length B < p + n → Judged B kind p n c k (refused_at k Outside)
      unfolding and_then check
      text-outside h = record { same = λ cur. rw (leaf-text kind is, eq-eqb c 0 z, lt-leb (p + n) (length B) h); within = tt }

      module _ (inside : p + n ≤ length B) where
        pub text-fine : (not (eqb kind 12) || utf8 (span B p n)) ≡ true → Judged B kind p n c k (Ok tt)
        unfolding and_then check
        text-fine t = record { same = λ cur. rw (leaf-text kind is, eq-eqb c 0 z, le-leb (p + n) (length B) inside, t); within = inside }

        pub text_bad : kind ≡ 12 → utf8 (span B p n) ≡ false → Judged B kind p n c k (refused_at k NoUtf8)
        unfolding and_then check
        text_bad k e =
            record {
              same = λ cur. rw (leaf-text kind is, eq-eqb c 0 z, le-leb (p + n) (length B) inside, eq-eqb kind 12 k, e);
              within = tt;
            }

  -- what is accepted is fine
  module _ (cur : CursorOf Row) (h : Accepted (says B k (leaf_shape kind) p n c cur)) where
    scalar-known : kind < 12 → Judged B kind p n c k (Ok tt)
    scalar-known is =
        let w = accepted-check (eqb n (width kind) && eqb c 0) 50 k cur _ (rw (leaf-scalar kind is) at h) in
        let v = accepted-check (inside B p n) 51 k cur _ w.1 in
        let u = accepted-check (not (eqb kind 1) || ltb (little (span B p n)) 2) 22 k cur _ v.1 in
        let e : n ≡ width kind = eqb-true n (width kind) (and_left (eqb n (width kind)) (eqb c 0) w.0) in
        let z : c ≡ 0 = eqb-true c 0 (and_right (eqb n (width kind)) (eqb c 0) w.0) in
        scalar-fine is e z (leb-true (p + n) (length B) v.0) u.0

    text-known : 12 ≤ kind → Judged B kind p n c k (Ok tt)
    text-known is =
        let w = accepted-check (eqb c 0) 50 k cur _ (rw (leaf-text kind is) at h) in
        let v = accepted-check (inside B p n) 51 k cur _ w.1 in
        let u = accepted-check (not (eqb kind 12) || utf8 (span B p n)) 23 k cur _ v.1 in
        text-fine is (eqb-true c 0 w.0) (leb-true (p + n) (length B) v.0) u.0

    content-known : Judged B kind p n c k (Ok tt)
    content-known = elim (dec_lt kind 12) [
      | yes l ↦ scalar-known l
      | no g ↦ text-known (omega arith)
    ]

-- ---- a whole row of such a value

module _ (cells B : List ℕ) (kind t k : ℕ) (d : Result RowSays Refused) (due : DueRow cells k t d) where
  pub leaf-missing : {e : Refused} → d ≡ Err e → LeafRow cells B kind t k (Err e)
  unfolding row_says and_then
  leaf-missing {e} is = record { same = rw (sym due.same ∙ ap (due_answer cells k t) is); within = tt }

  module _ (w : RowSays) (e : d ≡ Ok w) where
    pub row_small : (w.place < 4294967296) × (w.length < 4294967296)
    row_small = let i = due_in due e in (i.3, i.4)

    row-says : row_says B t (leaf_shape kind) (rows_at cells k) ≡ says B k (leaf_shape kind) w.place w.length w.count (rows_at cells (k + 1))
    unfolding row_says and_then
    row-says = rw (row_read due e)

    module _ (v : Result ⊤ Refused) (judged : Judged B kind w.place w.length w.count k v) where
      pub leaf-fine : v ≡ Ok tt → LeafRow cells B kind t k (Ok (record { place = w.place; length = w.length }))
      leaf-fine f =
          let h : VerdictIn (length B) w.place w.length (Ok tt) = rw f at judged.within in
          let i = due_in due e in
          record {
            same = sym (row-says ∙ sym (judged.same (rows_at cells (k + 1))) ∙ ap (said_of B w.place w.length (rows_at cells (k + 1))) f);
            within = (i.0, i.1, i.2, h, i.3, i.4);
          }

      pub leaf_bad : {fault : Refused} → v ≡ Err fault → LeafRow cells B kind t k (Err fault)
      leaf_bad f =
          record {
            same = sym (row-says ∙ sym (judged.same (rows_at cells (k + 1))) ∙ ap (said_of B w.place w.length (rows_at cells (k + 1))) f);
            within = tt;
          }

-- such a row that is accepted
module _ (cells B : List ℕ) (kind t k : ℕ) (a : Accepted (row_says B t (leaf_shape kind) (rows_at cells k))) where
  row-accepted : Accepted (row_due t (rows_at cells k))
  unfolding row_says
  row-accepted = accepted-first (row_due t (rows_at cells k)) _ a

  pub leaf-row_in : k < length cells / 4
  leaf-row_in = (row-known cells k t row-accepted).0

  pub leaf-known : (p n : ℕ) → (p ≡ place_at cells k) × (p < 4294967296) → (n ≡ length_at cells k) × (n < 4294967296) → LeafRow cells B kind t k (Ok (record { place = p; length = n }))
  leaf-known p n ep en =
      let c = get_or cells (4 * k + 3) 0 in
      let w : RowSays = record { place = p; length = n; count = c } in
      let due = row-found cells k t leaf-row_in (row-known cells k t row-accepted).1 p n c ep en refl in
      let said = row-says cells B kind t k (Ok w) due w refl in
      leaf-fine cells B kind t k (Ok w) due w refl (Ok tt) (content-known B kind p n c k (rows_at cells (k + 1)) (rw said at a)) refl
