-- What the reader's rows hand out: each leaf's row over the payload shows the leaf's content.
use Rattle.std.specs.Prelude.{◌≡◌, List, ℕ}
use Rattle.buffer.specs.Span.{span}
use Rattle.schema.specs.Table.{Shape, unknown, scalar, text, array, map, struct}
use Rattle.value.specs.declared.Row.{Row}
use Rattle.value.specs.Value.{Tree, tip, branch, Forest, stop, plus}
use Rattle.scalar.specs.declared.Scalar.TheVariants.{Span}
use Rattle.scalar.specs.Answer.{Answer, Is}
use Rattle.scalar.specs.Scalar.{value_of}

-- The answer shows a leaf of a shape with the content x: its value, or the span of the bytes where it stands. A composite is no leaf.
abbrev pub ShowsLeaf : List ℕ → Shape → Row → List ℕ → Answer → Type 0
ShowsLeaf bytes (scalar kind) r x a = a ≡ Is (value_of kind x)
ShowsLeaf bytes (text kind) r x a = (a ≡ Is (Span r.place r.length)) × (span bytes r.place r.length ≡ x)
ShowsLeaf bytes unknown r x a = ⊥
ShowsLeaf bytes (array _) r x a = ⊥
ShowsLeaf bytes (map _ _) r x a = ⊥
ShowsLeaf bytes (struct _) r x a = ⊥

-- P holds of each leaf of a tree, by its row and content.
unfoldable mutual
  pub EachLeaf : (Row → List ℕ → Type 0) → Tree → Type 0
  EachLeaf P (tip r x) = P r x
  EachLeaf P (branch r h ts) = EachOf P ts

  pub EachOf : (Row → List ℕ → Type 0) → Forest → Type 0
  EachOf P stop = Unit {0}
  EachOf P (plus t ts) = EachLeaf P t × EachOf P ts
