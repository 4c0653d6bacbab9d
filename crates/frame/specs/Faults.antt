-- Why bytes are not read as a frame: the first field that is at fault, with all before it right; or where they are cut. No reader is mentioned.
use Rattle.std.specs.Prelude.{◌≡◌, List, [], ◌∷◌, ◌++◌, ℕ, ◌≤◌, ◌<◌, length}
use Rattle.wire.specs.Varuint.{Groups, last_or, Spelled, Completed, TenthAbove}
use Rattle.frame.specs.declared.Header.{Header}
use Rattle.frame.specs.IsFrame.{Starts}

-- One of the eight kinds.
abbrev pub IsKind : ℕ → Type 0
IsKind k = (1 ≤ k) × (k ≤ 8)

-- The 25 bytes before the length, right: AF 01, version 1, a kind, flags 0; package, service, method and correlation are any 20 bytes.
pub data RightHeader : (front : List ℕ) → Type 0 where
  header : {k : ℕ} {identifiers : List ℕ} → IsKind k → length identifiers ≡ 20 → RightHeader (0xAF ∷ 0x01 ∷ 0x01 ∷ k ∷ 0x00 ∷ identifiers)

-- The bytes up to the end of the field at fault, all before it right, with its number: magic, version, kind and flags; a length that is malformed, by a
-- spare group or by its tenth byte; a length above 16,384, whether or not a payload follows.
pub data Faulty : (front : List ℕ) (number : ℕ) → Type 0 where
  magic : {a b : ℕ} → ((a ≡ 0xAF) × (b ≡ 0x01) → ⊥) → Faulty (a ∷ b ∷ []) 2
  version : {v : ℕ} → (v ≡ 0x01 → ⊥) → Faulty (0xAF ∷ 0x01 ∷ v ∷ []) 3
  kind : {k : ℕ} → (IsKind k → ⊥) → Faulty (0xAF ∷ 0x01 ∷ 0x01 ∷ k ∷ []) 4
  flags : {k f : ℕ} → IsKind k → (f ≡ 0x00 → ⊥) → Faulty (0xAF ∷ 0x01 ∷ 0x01 ∷ k ∷ f ∷ []) 5
  spare-group : {front : List ℕ} (n : ℕ) (size : List ℕ) → RightHeader front → Groups 9 n size → 1 < length size → last_or 0 size ≡ 0 → Faulty (front ++ size) 6
  tenth-byte : {front : List ℕ} (size : List ℕ) → RightHeader front → length size ≡ 10 → TenthAbove size → Faulty (front ++ size) 6
  too_long : {front : List ℕ} (n : ℕ) (size : List ℕ) → RightHeader front → Spelled n size → 16384 < n → Faulty (front ++ size) 7

-- The bytes s start with a field at fault, all before it right. What follows it is free.
pub record FrameFault (s : List ℕ) (number : ℕ) : Type 0 where
  pub front : List ℕ
  pub rest : List ℕ
  pub split : s ≡ front ++ rest
  pub faulty : Faulty front number

-- The bytes s end before a frame does, and no field that is whole is at fault.
-- One byte of the magic is not judged, whatever it is, and a length that is cut may be too long already.
pub data CutFrame : (s : List ℕ) → Type 0 where
  in_magic : {s : List ℕ} → length s < 2 → CutFrame s
  at-version : CutFrame (0xAF ∷ 0x01 ∷ [])
  at-kind : CutFrame (0xAF ∷ 0x01 ∷ 0x01 ∷ [])
  at-flags : {k : ℕ} → IsKind k → CutFrame (0xAF ∷ 0x01 ∷ 0x01 ∷ k ∷ [])
  in_identifiers : {k : ℕ} {cut : List ℕ} → IsKind k → length cut < 20 → CutFrame (0xAF ∷ 0x01 ∷ 0x01 ∷ k ∷ 0x00 ∷ cut)
  in_length : {front : List ℕ} (cut : List ℕ) → RightHeader front → Completed Spelled cut → CutFrame (front ++ cut)
  in_payload : {front : List ℕ} (n : ℕ) (size cut : List ℕ) → RightHeader front → Spelled n size → n ≤ 16384 → length cut < n → CutFrame (front ++ (size ++ cut))

-- The number for the bytes s (docs/FORMAT.md): 0 where they start with a frame, 1 where they are cut, and else that of the field at fault.
pub data FrameNumber (s : List ℕ) : (number : ℕ) → Type 0 where
  whole : (h : Header) (place n : ℕ) → Starts s h place n → FrameNumber s 0
  cut : CutFrame s → FrameNumber s 1
  fault : {number : ℕ} → FrameFault s number → FrameNumber s number
