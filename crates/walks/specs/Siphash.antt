-- SipHash-1-3 with the key zero, on numbers: a list of bytes to a number of 64 bits.
use Rattle.std.specs.Prelude.{ℕ, zero, suc, ◌+◌, ◌-◌, ◌*◌, ◌/◌, ◌%◌, ◌^◌, List, length, take, drop, bit_or, bit_xor}
use Rattle.wire.specs.Little.{little}
use Rattle.walks.specs.declared.siphash.SipState.{SipState}

-- x turned left by k of its 64 bits.
abbrev pub turned : (x k : ℕ) → ℕ
turned x k = bit_or (x * 2 ^ k % 2 ^ 64) (x / 2 ^ (64 - k))

unfoldable pub sip_round : SipState → SipState
sip_round v =
    let a = (v.v0 + v.v1) % 2 ^ 64 in
    let b = bit_xor (turned v.v1 13) a in
    let c = (v.v2 + v.v3) % 2 ^ 64 in
    let d = bit_xor (turned v.v3 16) c in
    let e = (turned a 32 + d) % 2 ^ 64 in
    let f = (c + b) % 2 ^ 64 in
    record { v0 = e; v1 = bit_xor (turned b 17) f; v2 = turned f 32; v3 = bit_xor (turned d 21) e }

-- The state with the word m more.
unfoldable pub compressed : SipState → (m : ℕ) → SipState
compressed v m =
    let r = sip_round (record { v0 = v.v0; v1 = v.v1; v2 = v.v2; v3 = bit_xor v.v3 m }) in
    record { v0 = bit_xor r.v0 m; v1 = r.v1; v2 = r.v2; v3 = r.v3 }

unfoldable pub finalized : SipState → ℕ
finalized v =
    let r = sip_round (sip_round (sip_round (record { v0 = v.v0; v1 = v.v1; v2 = bit_xor v.v2 255; v3 = v.v3 }))) in
    bit_xor (bit_xor r.v0 r.v1) (bit_xor r.v2 r.v3)

-- The bytes past the last whole word of n bytes, and n in the top byte.
unfoldable pub last_word : (rest : List ℕ) (n : ℕ) → ℕ
last_word rest n = bit_or (little rest) (n * 2 ^ 56 % 2 ^ 64)

-- The state after the first n words, of eight bytes each.
unfoldable pub words : List ℕ → (n : ℕ) → SipState
words x zero = record { v0 = 0x736f6d6570736575; v1 = 0x646f72616e646f6d; v2 = 0x6c7967656e657261; v3 = 0x7465646279746573 }
words x (suc n) = compressed (words x n) (little (take 8 (drop (8 * n) x)))

unfoldable pub siphash : List ℕ → ℕ
siphash x = finalized (compressed (words x (length x / 8)) (last_word (drop (8 * (length x / 8)) x) (length x)))
