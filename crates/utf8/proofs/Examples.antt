-- Worked examples, computed: scalar values, and their bytes.
use mathlib.Core.Path.{◌≡◌, refl}
use mathlib.Core.Bool.{true, false}
use mathlib.Core.List.{List, [], ◌∷◌, ◌++◌, map}
use Prim.Native.Nat.{ℕ}
use lib.ListN.{replicate}
use Rattle.utf8.specs.Utf8.{rows, lead_of, next, run, utf8}
use Rattle.utf8.specs.Unicode.{limits_below, sixes, encode_in, encode}

record TextCase : Type 0 where
  scalars : List ℕ
  bytes : List ℕ

abbrev case : List ℕ → List ℕ → TextCase
case xs s = record { scalars = xs; bytes = s }

abbrev encoded : List ℕ → List ℕ
encoded [] = []
encoded (x ∷ xs) = encode x ++ encoded xs

-- the examples of the RFC's section 7; the ends of the gap that the surrogates leave, and the last scalar value
abbrev texts : List TextCase
texts =
    case (0x41 ∷ 0x2262 ∷ 0x391 ∷ 0x2E ∷ []) (0x41 ∷ 0xE2 ∷ 0x89 ∷ 0xA2 ∷ 0xCE ∷ 0x91 ∷ 0x2E ∷ [])
    ∷ case (0xD55C ∷ 0xAD6D ∷ 0xC5B4 ∷ []) (0xED ∷ 0x95 ∷ 0x9C ∷ 0xEA ∷ 0xB5 ∷ 0xAD ∷ 0xEC ∷ 0x96 ∷ 0xB4 ∷ [])
    ∷ case (0x65E5 ∷ 0x672C ∷ 0x8A9E ∷ []) (0xE6 ∷ 0x97 ∷ 0xA5 ∷ 0xE6 ∷ 0x9C ∷ 0xAC ∷ 0xE8 ∷ 0xAA ∷ 0x9E ∷ [])
    ∷ case (0xFEFF ∷ 0x233B4 ∷ []) (0xEF ∷ 0xBB ∷ 0xBF ∷ 0xF0 ∷ 0xA3 ∷ 0x8E ∷ 0xB4 ∷ [])
    ∷ case (0xD7FF ∷ 0xE000 ∷ []) (0xED ∷ 0x9F ∷ 0xBF ∷ 0xEE ∷ 0x80 ∷ 0x80 ∷ [])
    ∷ case (0x10FFFF ∷ []) (0xF4 ∷ 0x8F ∷ 0xBF ∷ 0xBF ∷ [])
    ∷ []

texts-hold : (map (λ (c : TextCase). utf8 c.bytes) texts ≡ replicate 6 true) × (map (λ (c : TextCase). encoded c.scalars) texts ≡ map (λ (c : TextCase). c.bytes) texts)
unfolding run next lead_of rows limits_below sixes encode_in
texts-hold = (refl, refl)

-- a longer form than needed, a surrogate, a number above 10FFFF, a lone following byte, and a character cut short
refused : map utf8
    ((0xC0 ∷ 0x80 ∷ []) ∷ (0xED ∷ 0xA0 ∷ 0x80 ∷ []) ∷ (0xF4 ∷ 0x90 ∷ 0x80 ∷ 0x80 ∷ []) ∷ (0x80 ∷ []) ∷ (0xE2 ∷ 0x89 ∷ []) ∷ []) ≡ replicate 5 false
unfolding run next lead_of rows
refused = refl
