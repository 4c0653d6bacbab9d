-- What a type number of a good table stands for: its shape by the kind of its row, and that what a shape names is in the table.
use mathlib.Core.Path.{◌≡◌, refl, sym, ap, ◌∙◌}
use mathlib.Core.Logic.{⊎_elim}
use Prim.Native.Nat.{ℕ, zero, suc, ◌+◌, ◌≤◌, ◌<◌}
use native.Mathlib.Omega.{arith}
use lib.ListN.{length, get_or, length-take, length-drop, get_or-eq_default}
use lib.Seq.{get_or-take, get_or-drop}
use lib.Dec.{ltb}
use borrow.Author.Tests.{ltb-true, ltb-false}
use Rattle.schema.specs.declared.TypeRow.{TypeRow}
use Rattle.schema.specs.Table.{Table, Shape, unknown, scalar, text, array, map, struct, row_at, fields_of, kind_shapes, shape}
use Rattle.schema.specs.Check.{no_row, no_field, field_row_of}
use Rattle.schema.specs.Good.{KeyKind, GoodSchema}
use Rattle.schema.proofs.Bools.{cases}
use Rattle.schema.proofs.Goods.{Kinds, scalars, texts, arrays, maps, structs, kinds}

-- ---- by the kind of the row

module _ (T : Table) (r : TypeRow) where
  scalar-at : (k : ℕ) → 1 ≤ k → k ≤ 11 → get_or (kind_shapes T r) k unknown ≡ scalar k
  scalar-at zero p q = absurd (omega arith)
  scalar-at (suc zero) p q = refl
  scalar-at (suc (suc zero)) p q = refl
  scalar-at (suc (suc (suc zero))) p q = refl
  scalar-at (suc (suc (suc (suc zero)))) p q = refl
  scalar-at (suc (suc (suc (suc (suc zero))))) p q = refl
  scalar-at (suc (suc (suc (suc (suc (suc zero)))))) p q = refl
  scalar-at (suc (suc (suc (suc (suc (suc (suc zero))))))) p q = refl
  scalar-at (suc (suc (suc (suc (suc (suc (suc (suc zero)))))))) p q = refl
  scalar-at (suc (suc (suc (suc (suc (suc (suc (suc (suc zero))))))))) p q = refl
  scalar-at (suc (suc (suc (suc (suc (suc (suc (suc (suc (suc zero)))))))))) p q = refl
  scalar-at (suc (suc (suc (suc (suc (suc (suc (suc (suc (suc (suc zero))))))))))) p q = refl
  scalar-at (suc (suc (suc (suc (suc (suc (suc (suc (suc (suc (suc (suc k)))))))))))) p q = absurd (omega arith)

module _ (T : Table) (t : ℕ) where
  pub shape-unknown : length T.types ≤ t → shape T t ≡ unknown
  unfolding shape
  shape-unknown h =
      let d : row_at T t ≡ no_row = get_or-eq_default T.types no_row h in
      ap (λ (r : TypeRow). get_or (kind_shapes T r) r.kind unknown) d

  pub shape-scalar : 1 ≤ (row_at T t).kind → (row_at T t).kind ≤ 11 → shape T t ≡ scalar (row_at T t).kind
  unfolding shape
  shape-scalar p q = scalar-at T (row_at T t) (row_at T t).kind p q

  pub shape-text : 12 ≤ (row_at T t).kind → (row_at T t).kind ≤ 13 → shape T t ≡ text (row_at T t).kind
  unfolding shape
  shape-text p q =
      ⊎_elim
      (λ e. let k : (row_at T t).kind ≡ 12 = omega (arith, ltb-true (row_at T t).kind 13 e) in rw k)
      (λ e. let k : (row_at T t).kind ≡ 13 = omega (arith, ltb-false (row_at T t).kind 13 e) in rw k)
      (cases (ltb (row_at T t).kind 13))

  pub shape-array : (row_at T t).kind ≡ 14 → shape T t ≡ array (row_at T t).a
  unfolding shape
  shape-array e = rw e

  pub shape-map : (row_at T t).kind ≡ 15 → shape T t ≡ map (row_at T t).a (row_at T t).b
  unfolding shape
  shape-map e = rw e

  pub shape-struct : (row_at T t).kind ≡ 16 → shape T t ≡ struct (fields_of T (row_at T t))
  unfolding shape
  shape-struct e = rw e

-- the kind that a shape shows
abbrev pub kind_of : Shape → ℕ
kind_of unknown = 0
kind_of (scalar k) = k
kind_of (text k) = k
kind_of (array e) = 14
kind_of (map k v) = 15
kind_of (struct fs) = 16

-- ---- a struct's fields

module _ (T : Table) (r : TypeRow) (room : r.a + r.b ≤ length T.fields) where
  pub fields-length : length (fields_of T r) ≡ r.b
  fields-length = simp (length-take, length-drop) (omega arith)

  pub fields_at : (i : ℕ) → i < r.b → get_or (fields_of T r) i no_field ≡ field_row_of T (r.a + i)
  fields_at i h = rw (get_or-take, get_or-drop)

-- ---- what a shape of a good table names is in the table

-- A key's shape: scalar of kind 1 to 9, or text.
abbrev pub KeyShape : Shape → Type 0
KeyShape unknown = ⊥
KeyShape (scalar k) = (1 ≤ k) × (k ≤ 9)
KeyShape (text k) = (12 ≤ k) × (k ≤ 13)
KeyShape (array e) = ⊥
KeyShape (map k v) = ⊥
KeyShape (struct fs) = ⊥

-- What a shape names is there, in a table with so many types; `key` is the shape of each number.
abbrev pub Within : ℕ → (ℕ → Shape) → Shape → Type 0
Within n key unknown = Unit {0}
Within n key (scalar k) = (1 ≤ k) × (k ≤ 11)
Within n key (text k) = (12 ≤ k) × (k ≤ 13)
Within n key (array e) = e < n
Within n key (map k v) = (k < n) × (v < n) × KeyShape (key k)
Within n key (struct fs) = (1 ≤ length fs) × (length fs ≤ 64) × ((i : ℕ) → i < length fs → ((get_or fs i no_field).ty < n) × ((get_or fs i no_field).optional ≤ 1))

module _ (T : Table) (g : GoodSchema T) where
  key-shape : (t : ℕ) → KeyKind (row_at T t).kind → KeyShape (shape T t)
  key-shape t =
      ⊎_elim
      (λ h. rw (shape-scalar T t h.0 (omega arith)) h)
      (λ h.
      let l : 12 ≤ (row_at T t).kind = ⊎_elim (λ e. omega arith) (λ e. omega arith) h in
      let m : (row_at T t).kind ≤ 13 = ⊎_elim (λ e. omega arith) (λ e. omega arith) h in
      rw (shape-text T t l m) (l, m))

  row_within : (t : ℕ) → t < length T.types → Kinds (row_at T t).kind → Within (length T.types) (shape T) (shape T t)
  row_within t h (scalars p q) = rw (shape-scalar T t p q) (p, q)
  row_within t h (texts p q) = rw (shape-text T t p q) (p, q)
  row_within t h (arrays e) = rw (shape-array T t e) ((g.rows t h).array e).0
  row_within t h (maps e) =
      let m = (g.rows t h).map e in
      rw (shape-map T t e) (m.0, m.2, key-shape (row_at T t).a m.1)
  row_within t h (structs e) =
      let m = (g.rows t h).struct e in
      let r = row_at T t in
      let n : length (fields_of T r) ≡ r.b = fields-length T r m.2 in
      rw (shape-struct T t e) (
        omega arith,
        omega arith,
        λ i k.
            let f = g.fields (r.a + i) (omega arith) in
            let q = fields_at T r m.2 i (omega arith) in
            rw q (f.type, f.optional),
      )

  -- of every type number; rewrite by what the shape is: `rw e at within t` with e : shape T t ≡ array x gives x < length types
  pub within : (t : ℕ) → Within (length T.types) (shape T) (shape T t)
  within t =
      ⊎_elim
      (λ e.
      let h = ltb-true t (length T.types) e in
      row_within t h (kinds (row_at T t).kind (g.rows t h).kind.0 (g.rows t h).kind.1))
      (λ e. rw (shape-unknown T t (ltb-false t (length T.types) e)) tt)
      (cases (ltb t (length T.types)))

  -- the shape of a type number shows the kind of its row
  kind-case : (t : ℕ) → Kinds (row_at T t).kind → kind_of (shape T t) ≡ (row_at T t).kind
  kind-case t (scalars p q) = ap kind_of (shape-scalar T t p q)
  kind-case t (texts p q) = ap kind_of (shape-text T t p q)
  kind-case t (arrays e) = ap kind_of (shape-array T t e) ∙ sym e
  kind-case t (maps e) = ap kind_of (shape-map T t e) ∙ sym e
  kind-case t (structs e) = ap kind_of (shape-struct T t e) ∙ sym e

  pub kind-of : (t : ℕ) → kind_of (shape T t) ≡ (row_at T t).kind
  kind-of t =
      ⊎_elim
      (λ e.
      let k = (g.rows t (ltb-true t (length T.types) e)).kind in
      kind-case t (kinds (row_at T t).kind k.0 k.1))
      (λ e.
      let h = ltb-false t (length T.types) e in
      let d : row_at T t ≡ no_row = get_or-eq_default T.types no_row h in
      ap kind_of (shape-unknown T t h) ∙ sym (ap (λ (r : TypeRow). r.kind) d))
      (cases (ltb t (length T.types)))

  -- a type number is in the table exactly where its shape is known
  pub known-shape : (t : ℕ) → t < length T.types → shape T t ≡ unknown → ⊥
  known-shape t h e =
      let k = (g.rows t h).kind in
      let z : kind_of (shape T t) ≡ 0 = ap kind_of e in
      omega (arith, kind-of t)

  pub shape-known : (t : ℕ) → (shape T t ≡ unknown → ⊥) → t < length T.types
  shape-known t f =
      ⊎_elim (λ e. ltb-true t _ e) (λ e. absurd (f (shape-unknown T t (ltb-false t _ e)))) (cases (ltb t (length T.types)))
