-- Tests in a row: the first that fails gives the answer.
use Rattle.std.specs.Prelude.{Bool, cond}

-- Goes on where the test holds.
abbrev pub test : {A : Type 0} → Bool → (otherwise : A) → A → A
test b otherwise next = cond b next otherwise

-- For `do`: one test after the other, the answer last.
abbrev pub ◌>>◌ : {A : Type 0} → (A → A) → A → A
◌>>◌ first next = first next
