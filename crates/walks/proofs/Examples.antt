-- Digests of contents, computed: of three bytes, of eight, of eight whose number is a digest of fewer, and of eighteen, as Rust's `DefaultHasher` has it.
use Rattle.std.proofs.Common.{◌≡◌, [], ◌∷◌, refl}
use Rattle.wire.specs.Little.{little}
use Rattle.walks.specs.Siphash.{sip_round, compressed, finalized, last_word, words, siphash}
use Rattle.walks.specs.Keys.{word_of, digest}

digest-of-three : digest (1 ∷ 2 ∷ 3 ∷ []) ≡ 216172782113980929
unfolding little last_word digest
digest-of-three = refl

digest-of-eight : digest (200 ∷ 1 ∷ 2 ∷ 3 ∷ 4 ∷ 5 ∷ 6 ∷ 255 ∷ []) ≡ 18376380844320358856
unfolding little word_of digest
digest-of-eight = refl

-- its number is the digest of the first seven
digest-of-eight_hashed : digest (1 ∷ 2 ∷ 3 ∷ 4 ∷ 5 ∷ 6 ∷ 7 ∷ 7 ∷ []) ≡ 15447630101093741101
unfolding little sip_round compressed finalized last_word words siphash word_of digest
digest-of-eight_hashed = refl

digest-of-eighteen : digest (0 ∷ 1 ∷ 2 ∷ 3 ∷ 4 ∷ 5 ∷ 6 ∷ 7 ∷ 8 ∷ 9 ∷ 10 ∷ 11 ∷ 12 ∷ 13 ∷ 14 ∷ 15 ∷ 16 ∷ 17 ∷ []) ≡ 12520781802769745533
unfolding little sip_round compressed finalized last_word words siphash word_of digest
digest-of-eighteen = refl
