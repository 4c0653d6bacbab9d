-- A salvage's answer in its numbers.
use mathlib.Core.Path.{◌≡◌, refl, ap, ◌∙◌}
use mathlib.Core.Logic.{◌↔◌}
use mathlib.Core.List.{List}
use Prim.Native.Nat.{ℕ, ◌<◌}
use native.Mathlib.Omega.{arith}
use Rattle.salvage.specs.Salvaging.{Salvaging}
use Rattle.salvage.specs.Salvaging.{Salvaged, Refused}
use Rattle.salvage.specs.Salvage.{Outcome, outcome, salvage_of, salvage_number, salvage_entries, salvage_bytes, salvage_spans}
use Rattle.salvage.specs.Cover.{Accepted, Refuses}
use Rattle.salvage.proofs.Statements.{salvaged_iff, refused-iff, refused-bounds}

-- the whole outcome from its three parts
whole : (o : Outcome) (r : Salvaging) (copied listed : List ℕ) → o.answer ≡ r → o.copy ≡ copied → o.spans ≡ listed → o ≡ outcome r copied listed
whole o r copied listed e f g = λ i. outcome (e i) (f i) (g i)

module _ (torn copy spans copied listed : List ℕ) where
  abbrev after : Outcome
  after = salvage_of torn copy spans

  -- 0 comes back with the entries kept, bytes copied and spans listed exactly for that cover of the record, where both buffers have room.
  pub zero-iff_salvaged : (n b m : ℕ)
      → ((salvage_number after.answer ≡ 0) × (salvage_entries after.answer ≡ n) × (salvage_bytes after.answer ≡ b) × (salvage_spans after.answer ≡ m)
      × (after.copy ≡ copied) × (after.spans ≡ listed))
      ↔ Accepted torn copy spans n b m copied listed
  zero-iff_salvaged n b m = (
    λ (z, en, by, sp, co, li).
        let is = go after.answer refl z en by sp in
        (salvaged_iff torn copy spans n b m copied listed).0 (whole after (Salvaged n b m) copied listed is co li),
    λ a.
        let e = (salvaged_iff torn copy spans n b m copied listed).1 a in
        rw e (refl, refl, refl, refl, refl, refl),
  )
    where
      go : (r : Salvaging) → after.answer ≡ r → salvage_number r ≡ 0 → salvage_entries r ≡ n → salvage_bytes r ≡ b → salvage_spans r ≡ m → after.answer ≡ Salvaged n b m
      go (Salvaged n' b' m') e z en by sp = e ∙ cc (en, by, sp)
      go (Refused number) e z en by sp = absurd (omega (arith, (refused-bounds torn copy spans e).0, z))

  -- Any other number comes back exactly for its fault, and leaves both buffers as they were.
  pub number-iff-refused : (number : ℕ) → 0 < number → ((salvage_number after.answer ≡ number) × (after.copy ≡ copied) × (after.spans ≡ listed))
      ↔ (Refuses torn copy spans number × ((copied ≡ copy) × (listed ≡ spans)))
  number-iff-refused number above = (
    λ (z, co, li).
        (refused-iff torn copy spans number copied listed).0 (whole after (Refused number) copied listed (go after.answer refl z) co li),
    λ w. let e = (refused-iff torn copy spans number copied listed).1 w in rw e (refl, refl, refl),
  )
    where
      go : (r : Salvaging) → after.answer ≡ r → salvage_number r ≡ number → after.answer ≡ Refused number
      go (Salvaged n b m) e z = absurd (omega (arith, above, z))
      go (Refused k) e z = e ∙ ap Refused z
