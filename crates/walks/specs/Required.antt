-- The presence bits that a struct's fields ask for.
use Rattle.std.specs.Prelude.{◌≡◌, ℕ, cond, List, ◌==◌, bit_and}
use Rattle.schema.specs.declared.Field.{Field}
use Rattle.value.specs.Read.{required_set}

-- A field asks for its bit unless it is optional.
abbrev pub required_bit : (optional : ℕ) → ℕ
required_bit optional = cond (optional == 1) 0 1

-- The bits of the fields that are not optional: a word that has all of them is complete, and no other is.
abbrev pub Requires : (required : ℕ) → List Field → Type 0
Requires required fs = (word : ℕ) → (bit_and required word == required) ≡ required_set fs word
