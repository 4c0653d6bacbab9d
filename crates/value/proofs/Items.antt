-- The items of an array and of a map by their numbers.
use mathlib.Core.Path.{◌≡◌, refl, ap, ◌∙◌}
use mathlib.Core.Bool.{true}
use Prim.Native.Nat.{ℕ, zero, suc, ◌+◌, ◌*◌, ◌<◌}
use native.Mathlib.Omega.{arith}
use lib.ListN.{length, get_or}
use Rattle.schema.specs.Table.{array, map}
use Rattle.value.specs.Plan.{Item, plain_item, plan}

pub array-length : (e n : ℕ) → length (plan (array e) n) ≡ n
array-length e zero = refl
array-length e (suc n) = ap suc (array-length e n)

pub array-item : (e n i : ℕ) (d : Item) → i < n → get_or (plan (array e) n) i d ≡ plain_item e
array-item e zero i d h = absurd (omega arith)
array-item e (suc n) zero d h = refl
array-item e (suc n) (suc i) d h = array-item e n i d (omega arith)

pub map-length : (k v n : ℕ) → length (plan (map k v) n) ≡ 2 * n
map-length k v zero = refl
map-length k v (suc n) = ap (λ (m : ℕ). suc (suc m)) (map-length k v n) ∙ omega arith

pub map-key : (k v n i : ℕ) (d : Item) → i < n → get_or (plan (map k v) n) (2 * i) d ≡ record { type = k; key = true }
map-key k v zero i d h = absurd (omega arith)
map-key k v (suc n) zero d h = refl
map-key k v (suc n) (suc i) d h =
    let e : 2 * suc i ≡ suc (suc (2 * i)) = omega arith in
    ap (λ (j : ℕ). get_or (plan (map k v) (suc n)) j d) e ∙ map-key k v n i d (omega arith)

pub map-value : (k v n i : ℕ) (d : Item) → i < n → get_or (plan (map k v) n) (2 * i + 1) d ≡ plain_item v
map-value k v zero i d h = absurd (omega arith)
map-value k v (suc n) zero d h = refl
map-value k v (suc n) (suc i) d h =
    let e : 2 * suc i + 1 ≡ suc (suc (2 * i + 1)) = omega arith in
    ap (λ (j : ℕ). get_or (plan (map k v) (suc n)) j d) e ∙ map-value k v n i d (omega arith)
