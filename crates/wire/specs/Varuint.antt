-- VarUInt, read from the front of a list of bytes: seven bits a byte, least group first, the top bit set on all but the last byte. Of two or more
-- bytes the last is not 0.
use Rattle.std.specs.Prelude.{ℕ, zero, suc, ◌+◌, ◌-◌, ◌*◌, ◌/◌, ◌%◌, ◌<◌, ◌≤◌, ◌≡◌, List, [], ◌∷◌, ◌++◌, Bool, cond, ltb, eqb, length, get_or, drop, Result, Ok, Err}
use Rattle.wire.specs.declared.varuint.Past as past
use Rattle.wire.specs.declared.varuint.VarUIntError.{VarUIntError}
use Rattle.wire.specs.declared.varuint.VarUIntError.TheVariants.{Cut as CutError, Malformed as MalformedError}
use Rattle.constants.specs.declared.refusal.Refusal as code

-- ---- what is read

-- What stands at a place: a number and the place after it, or no VarUInt, by the bytes' end or by a spare last group or a tenth byte above 1.
pub data VarUInt : Type 0 where
  Number : ℕ → ℕ → VarUInt
  Cut : VarUInt
  Malformed : VarUInt

-- What an answer tells.
abbrev pub told : Result past.Past VarUIntError → VarUInt
told (Ok r) = Number r.value r.next
told (Err CutError) = Cut
told (Err MalformedError) = Malformed

-- Which refusal it is that no number was read.
abbrev pub refusal_of : VarUIntError → code.Refusal
refusal_of CutError = code.TheVariants.Cut
refusal_of MalformedError = code.TheVariants.Varuint

-- The number with a group in front of the groups that were read.
abbrev pub before : ℕ → VarUInt → VarUInt
before g (Number v next) = Number (g + 128 * v) next
before g Cut = Cut
before g Malformed = Malformed

-- A last group of two or more is a spare one where it is 0.
abbrev pub is_spare : ℕ → Bool
is_spare b = eqb b 0

-- The last group of two or more: a spare one is malformed.
abbrev pub last_group : ℕ → ℕ → VarUInt
last_group b at = cond (is_spare b) Malformed (Number b (at + 1))

-- The groups after the first, at most k of them, of which the k-th may only be 0 or 1; `at` is the place of the next byte.
unfoldable pub groups : ℕ → List ℕ → ℕ → VarUInt
groups zero s at = Malformed
groups (suc k) [] at = Cut
groups (suc zero) (b ∷ s) at = cond (ltb b 2) (last_group b at) Malformed
groups (suc (suc k)) (b ∷ s) at = cond (ltb b 128) (last_group b at) (before (b - 128) (groups (suc k) s (at + 1)))

-- The VarUInt at the front of s, whose first byte stands at `at`: ten groups, so 64 bits.
unfoldable pub front_var_u_int : List ℕ → ℕ → VarUInt
front_var_u_int [] at = Cut
front_var_u_int (b ∷ s) at = cond (ltb b 128) (Number b (at + 1)) (before (b - 128) (groups 9 s (at + 1)))

-- The VarUInt at a place of s.
abbrev pub varuint : List ℕ → ℕ → VarUInt
varuint s at = front_var_u_int (drop at s) at

-- ---- the same rules as a relation

-- The bytes are the groups of n, spare ones or not: at most k follow the first, and the k-th of them is 0 or 1.
pub data Groups : (k n : ℕ) → List ℕ → Type 0 where
  tenth : {b : ℕ} → b < 2 → Groups 0 b (b ∷ [])
  final : {k b : ℕ} → b < 128 → Groups (suc k) b (b ∷ [])
  group : {k n b : ℕ} {bs : List ℕ} → 128 ≤ b → Groups k n bs → Groups (suc k) (b - 128 + 128 * n) (b ∷ bs)

-- The last of some bytes; without any it is a.
abbrev pub last_or : ℕ → List ℕ → ℕ
last_or a [] = a
last_or a (b ∷ l) = last_or b l

-- The last byte is not 0.
abbrev pub Ended : List ℕ → Type 0
Ended bs = 0 < last_or 0 bs

-- The bytes bs spell the number n: at most ten groups, and of two or more bytes the last is not 0.
unfoldable pub Spelled : ℕ → List ℕ → Type 0
Spelled n bs = Groups 9 n bs × (1 < length bs → Ended bs)

-- The bytes s start with some that stand in the relation P to n, and the next place is past them.
pub record Starts (P : ℕ → List ℕ → Type 0) (s : List ℕ) (at n next : ℕ) : Type 0 where
  pub bytes : List ℕ
  pub rest : List ℕ
  pub split : s ≡ bytes ++ rest
  pub spells : P n bytes
  pub place : next ≡ at + length bytes

-- More bytes complete s to what spells a number by the relation P.
abbrev pub Completed : (ℕ → List ℕ → Type 0) → List ℕ → Type 0
Completed P s = (n : ℕ) × (t : List ℕ) × (0 < length t) × P n (s ++ t)

-- The bytes s start with whole groups, two or more, of which the last is 0.
abbrev pub Spare : List ℕ → Type 0
Spare s = (n : ℕ) × (bs : List ℕ) × (rest : List ℕ) × (s ≡ bs ++ rest) × Groups 9 n bs × (1 < length bs) × (last_or 0 bs ≡ 0)

-- The bytes s start with nine groups that go on, and a tenth byte above 1.
abbrev pub TenthAbove : List ℕ → Type 0
TenthAbove s = (9 < length s) × ((i : ℕ) → i < 9 → 128 ≤ get_or s i 0) × (1 < get_or s 9 0)

-- ---- what is written

-- The shortest form of x, of at most k + 1 groups.
unfoldable pub shortest : ℕ → ℕ → List ℕ
shortest zero x = x ∷ []
shortest (suc k) x = cond (ltb x 128) (x ∷ []) ((x % 128 + 128) ∷ shortest k (x / 128))

-- The VarUInt of a number of 64 bits.
unfoldable pub varuint_bytes : ℕ → List ℕ
varuint_bytes x = shortest 9 x
