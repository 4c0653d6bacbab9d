-- The fields of a struct, as the walkers hand them on.
use Rattle.std.specs.Prelude.{◌≡◌, Bool, List, ℕ, ◌+◌, ◌-◌, ◌/◌, ◌%◌, ◌^◌, ◌≤◌, length}
use Rattle.schema.specs.declared.Field.{Field}
use Rattle.schema.specs.Table.{struct}
use Rattle.schema.specs.File.{table_of}
use Rattle.value.specs.Read.{present}
use Rattle.walks.specs.Shape.{fields_from, shape_in}
use Rattle.flat.specs.Walk.{Walk, whole_in, Held, Shown, Ready}
use Rattle.reader.specs.declared.walk.Fields.{Fields}

abbrev pub fields_of : (s : List ℕ) → Fields → List Field
fields_of s f = fields_from (table_of s) f.first f.n

-- They are those of their type.
abbrev pub OfType : (s : List ℕ) → Fields → Type 0
OfType s f = (shape_in s f.ty ≡ struct (fields_of s f)) × (f.n ≤ 64)

-- So many of them are present.
abbrev pub OfCount : (s : List ℕ) → Fields → Type 0
OfCount s f = (f.ones ≤ 64) × (f.ones ≡ length (present (fields_of s f) f.known))

-- Those after the first m, from a place on, by their own bits. Of their number nothing is said.
abbrev pub added_to : Fields → (m at : ℕ) → Fields
added_to f m at =
    record {
      ty = f.ty;
      first = f.first + m;
      n = f.n - m;
      known = f.known / 2 ^ m % 2 ^ (f.n - m);
      ones = f.ones;
      place = at;
      start = at;
    }

-- What a walker of the fields may assume. The struct's own row is `row`.
pub record ReadyFor (s p : List ℕ) (depth : ℕ) (f : Fields) (row : ℕ) (judging : Bool) : Type 0 where
  pub ready : Ready s p f.start (row + 1) judging (whole_in s p depth f.ty (struct (fields_of s f)) f.place f.known f.start)
  pub in_table : f.first + f.n ≤ length (table_of s).fields
  pub forth : f.place ≤ f.start

-- What it answers, with the struct's own row as it is.
abbrev pub HeldBy : (shown s p : List ℕ) (depth : ℕ) → Fields → (row : ℕ) (sheet : List ℕ) → Walk → (after : List ℕ) → Type 0
HeldBy shown s p depth f row sheet r after = Held shown s p depth f.ty (struct (fields_of s f)) f.place f.known f.start row sheet r after

-- The same with its row as it is shown.
abbrev pub ShownBy : (shown s p : List ℕ) (depth : ℕ) → Fields → (row : ℕ) (sheet : List ℕ) → Walk → (after : List ℕ) → Type 0
ShownBy shown s p depth f row sheet r after = Shown shown s p depth f.ty (fields_of s f) f.place f.known f.start row sheet r after
