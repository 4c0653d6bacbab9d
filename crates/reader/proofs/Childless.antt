-- Laws of values for which no walker is called: what is asked before they are read, what is told of them, and what that is to the walk over pairs.
use mathlib.Core.Path.{◌≡◌, refl, ◌∙◌}
use mathlib.Core.Logic.{⊎_elim}
use mathlib.Core.Bool.{Bool, false}
use mathlib.Core.List.{List}
use Prim.Native.Nat.{ℕ, suc, ◌+◌, ◌≤◌, ◌<◌}
use native.Mathlib.Omega.{arith}
use lib.ListN.{length}
use Rattle.parse.specs.Reader.{cursor_at, Accepted, count}
use Rattle.schema.specs.declared.TypeRow.{TypeRow}
use Rattle.schema.specs.Table.{row_at}
use Rattle.schema.specs.File.{table_of}
use Rattle.value.specs.Read.{own}
use Rattle.walks.specs.Shape.{leaf_shape, shape_in}
use Rattle.walks.proofs.Tables.{shape-leaf, shape-map}
use Rattle.flat.specs.Span.{Span, At, Refused as SpanRefused}
use Rattle.flat.specs.Leaf.{Uncounted, Spanned}
use Rattle.flat.specs.Sheet.{put_row}
use Rattle.flat.specs.Walk.{first_fields, value_in, Valued, Ready}
use Rattle.flat.proofs.Steps.{own-accepted, span_row, is_leaf, leaf-stop, leaf-past}
use Rattle.flat.proofs.Composites.{map-none}
use Rattle.flat.proofs.Turns.{leaf-shown}
use Rattle.reader.proofs.Calls.{map-shown}
use Rattle.reader.specs.Childless.{IsChildless, ChildlessReady, ChildlessRead, walk_of_span}

-- ---- as it is read

module _ {p : List ℕ} {t : TypeRow} {at row : ℕ} {judging : Bool} (q : ChildlessReady p t at row judging) where
  -- a map without pairs
  module _ (many : 13 < t.kind) where
    none : (t.kind ≡ 15) × Uncounted p at (count 2 (cursor_at p at))
    none = ⊎_elim (λ few. absurd (omega (arith, many, few))) (λ x. x) q.is

    pub none_read : {ty : ℕ} {l m : List ℕ} → m ≡ put_row l row (record { ty = ty; place = at + 1; length = 0; count = 0 }) → ChildlessRead p ty t at row l (At (at + 1) (at + 1)) m
    none_read {ty} {l} {m} put =
        record {
          told = λ s depth is R shown.
              let map_is = shape-map (table_of s) ty t is none.0 in
              map-none (shape_in s) depth ty p at t.a t.b map_is _ none.1 0 (at + 1) refl refl R (shown ∙ map_is) row l m q.behind put;
        }

  -- a scalar, a string or bytes
  module _ (few : t.kind ≤ 13) where
    leaf : t.kind < 14
    leaf = omega (arith, few)

    pub childless-asked : (length p ≤ 16384) × (at ≤ length p) × (0 < t.kind) × (t.kind < 14) × (judging ≡ false → Accepted (own (leaf_shape t.kind) (cursor_at p at)))
    childless-asked = (q.small, q.inside, q.some, leaf, λ j. q.judged j leaf)

    module _ {r : Span} (read : Spanned p at (own (leaf_shape t.kind) (cursor_at p at)) r) {ty : ℕ} {l m : List ℕ} where
      pub childless-stop : {number place : ℕ} → r ≡ SpanRefused place number → ChildlessRead p ty t at row l (SpanRefused place number) m
      childless-stop e = record { told = λ s depth is R shown. leaf-stop (is_leaf is q.some leaf) (λ z. absurd (omega arith)) read e R }

      pub childless-past : {from to : ℕ} → r ≡ At from to → m ≡ put_row l row (span_row ty from to) → ChildlessRead p ty t at row l (At from to) m
      childless-past e put = record { told = λ s depth is R shown. leaf-past (is_leaf is q.some leaf) (λ z. absurd (omega arith)) read e q.behind put R }

-- ---- as the walk over pairs asks for it, and takes its answer

module _ (s : List ℕ) (depth ty : ℕ) {p : List ℕ} {at : ℕ} {t : TypeRow} (is : t ≡ row_at (table_of s) ty) (some : 0 < (row_at (table_of s) ty).kind) (plain : IsChildless p t.kind at) where
  pub childless-ready : {row : ℕ} {judging : Bool} → Ready s p at row judging (value_in s p (suc depth) ty at) → ChildlessReady p t at row judging
  childless-ready pre =
      record {
        small = pre.small;
        inside = pre.inside;
        behind = pre.behind;
        some = rw is some;
        is = plain;
        judged = λ j leaf. own-accepted (shape_in s) depth ty (cursor_at p at) (leaf_shape t.kind) (shape-leaf (table_of s) ty t is (rw is some) leaf) (pre.judged j);
      }

  -- a type of such values is shown whole
  childless-shown : (known : List ℕ) → first_fields known (shape_in s) ty ≡ shape_in s ty
  childless-shown known =
      ⊎_elim (λ leaf. leaf-shown s 0 ty t is (rw is some) leaf known)
      (λ x. map-shown known s ty t is x.0) plain

  pub childless-valued : (known : List ℕ) {row : ℕ} {l : List ℕ} {r : Span} {m : List ℕ} → ChildlessRead p ty t at row l r m → Valued known s p (suc depth) ty at row l (walk_of_span row r) m
  childless-valued known read = read.told s depth is (first_fields known (shape_in s)) (childless-shown known)
