-- The keys of a map while its pairs are walked, in one list of numbers: the first half has their digests, and in its last four cells 256 flags; the second
-- half where they stand.
use Rattle.std.specs.Prelude.{◌≡◌, ℕ, zero, suc, ◌+◌, ◌-◌, ◌/◌, ◌%◌, ◌^◌, ◌<◌, ◌≤◌, Bool, true, false, cond, ◌||◌, List, [], ◌∷◌, length, ◌==◌, nat_lt, slice_index}
use Rattle.buffer.specs.Span.{span}
use Rattle.wire.specs.Little.{little}
use Rattle.walks.specs.Siphash.{last_word, siphash}

-- The number of eight bytes; of any other content the least digest of seven.
unfoldable pub word_of : List ℕ → ℕ
word_of x = cond (length x == 8) (little x) 0x0700_0000_0000_0000

-- A number outside the digests of one to seven bytes, which have their length in the top byte.
abbrev pub is_word : ℕ → Bool
is_word w = nat_lt w 0x00FF_FFFF_FFFF_FFFF || nat_lt 0x0800_0000_0000_0000 w

-- The digest of a content, a number that is compared first: contents with different digests differ. Of fewer than eight bytes it is their number with the
-- length, of eight their number where it is no digest of fewer, and of all others their hash.
unfoldable pub digest : List ℕ → ℕ
digest x = cond (nat_lt (length x) 8) (last_word x (length x)) (cond (is_word (word_of x)) (word_of x) (siphash x))

-- Whether d is one of the first n digests.
unfoldable pub has_digest : (keys : List ℕ) (n d : ℕ) → Bool
has_digest keys zero d = false
has_digest keys (suc n) d = has_digest keys n d || slice_index keys n == d

-- Key j's place and length, as one number.
abbrev pub where_is : List ℕ → ℕ → ℕ
where_is keys j = slice_index keys (length keys / 2 + j)

-- Its content, in the bytes B.
abbrev pub key_at : (B keys : List ℕ) → ℕ → List ℕ
key_at B keys j = span B (where_is keys j / 4294967296) (where_is keys j % 4294967296)

-- The contents of the first n keys, the latest first.
unfoldable pub keys_in : (B keys : List ℕ) → ℕ → List (List ℕ)
keys_in B keys zero = []
keys_in B keys (suc n) = key_at B keys n ∷ keys_in B keys n

-- The cell of a digest's flag.
abbrev pub flag_cell_of : List ℕ → (d : ℕ) → ℕ
flag_cell_of keys d = length keys / 2 - 4 + d / 64 % 4

-- The flag of a digest is set.
abbrev pub Flagged : List ℕ → (d : ℕ) → Type 0
Flagged keys d = slice_index keys (flag_cell_of keys d) / 2 ^ (d % 64) % 2 ≡ 1

-- Key j lies in B; where keys are judged, its digest is kept, and its flag set.
abbrev pub KeptAt : (B keys : List ℕ) (judging : Bool) → ℕ → Type 0
KeptAt B keys judging j =
    (where_is keys j / 4294967296 + where_is keys j % 4294967296 ≤ length B)
    × (judging ≡ true → slice_index keys j ≡ digest (key_at B keys j))
    × (judging ≡ true → Flagged keys (slice_index keys j))

-- So does each of the first n keys.
abbrev pub Kept : (B keys : List ℕ) (judging : Bool) → ℕ → Type 0
Kept B keys judging n = (j : ℕ) → j < n → KeptAt B keys judging j
