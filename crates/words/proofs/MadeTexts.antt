-- What is said of files that were made: worked texts.
use mathlib.Core.Path.{◌≡◌, refl}
use Rattle.text.specs.Codes.{codes}
use Rattle.text.specs.Decimal.{digits, decimal}
use Rattle.words.specs.Made.{count_text, kept_text, left_text, indexed_text}

-- ---- worked texts

pub kept-texts : (kept_text 6 305 2 ≡ codes "kept 6 entries, 305 bytes; left out 2 spans\n") × (kept_text 1 65 1 ≡ codes "kept 1 entry, 65 bytes; left out 1 span\n")
    × (kept_text 0 0 0 ≡ codes "kept 0 entries, 0 bytes; left out 0 spans\n")
unfolding codes digits decimal count_text kept_text
kept-texts = (refl, refl, refl)

pub left-texts : (left_text 101 99 ≡ codes "left out 99 bytes from place 101 on\n") × (left_text 65 1 ≡ codes "left out 1 byte from place 65 on\n")
unfolding codes digits decimal count_text left_text
left-texts = (refl, refl)

pub indexed_texts : (indexed_text 9 160 ≡ codes "indexed 9 entries, 160 bytes\n") × (indexed_text 1 32 ≡ codes "indexed 1 entry, 32 bytes\n")
unfolding codes digits decimal count_text indexed_text
indexed_texts = (refl, refl)
