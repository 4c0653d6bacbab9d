-- A map's count on its own: when it is refused with 20 and when with 31, whatever the keys are and whatever stands after it.
use mathlib.Core.Path.{◌≡◌}
use mathlib.Core.Bool.{false}
use mathlib.Core.List.{List, ◌∷◌, ◌++◌}
use Prim.Native.Nat.{ℕ, suc, ◌*◌, ◌≤◌, ◌<◌}
use borrow.Author.Tests.{lt-leb, eq-eqb}
use lib.ListN.{length}
use Rattle.wire.specs.Varuint.{Spelled}
use Rattle.parse.specs.Reader.{Cursor, CursorOf, refused, and_then, check, enough, count}
use Rattle.parse.proofs.Pieces.{var_complete, count-complete}
use Rattle.schema.specs.Table.{Shape, map}
use Rattle.value.specs.declared.Row.{Row}
use Rattle.value.specs.Read.{parse}
use Rattle.value.specs.Write.{next_row, row_due, show}

module _ (S : ℕ → Shape) (d t k v : ℕ) (is : S t ≡ map k v) where
  module _ (n : ℕ) (u rest : List ℕ) (c : Cursor) (s : Spelled n u) (e : c.left ≡ u ++ rest) where
    pub pairs-refused : 2 * n ≤ length rest → 64 < n → parse S (suc d) t c ≡ refused 31 c.at
    unfolding parse and_then check
    pairs-refused room many = rw (is, count-complete 2 n u rest c s e room, lt-leb n 64 many)

    pub count-refused : length rest < 2 * n → parse S (suc d) t c ≡ refused 20 c.at
    unfolding parse count and_then check
    count-refused short =
        let few : enough 2 n rest ≡ false = lt-leb (2 * n) (length rest) short in
        rw (is, var_complete n u rest c s e, few)

  pub row-refused : (B : List ℕ) (r : Row) (rs : List Row) (c : CursorOf Row) → c.left ≡ r ∷ rs → r.ty ≡ t → 64 < r.count
      → show S B (suc d) t c ≡ refused 31 c.at
  unfolding show row_due next_row and_then check
  row-refused B r rs c e ty many = rw (e, eq-eqb r.ty t ty, is, lt-leb r.count 64 many)
