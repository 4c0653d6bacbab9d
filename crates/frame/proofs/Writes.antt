-- Writing one part after another into an output, and the length of what comes before a payload.
use mathlib.Core.Path.{◌≡◌, refl, sym, ap, ◌∙◌}
use mathlib.Core.List.{List, [], ◌∷◌, ◌++◌, append_assoc}
use mathlib.Core.Bool.{true, false}
use Prim.Native.Nat.{ℕ, ◌+◌, ◌<◌, ◌≤◌}
use native.Mathlib.Omega.{arith}
use borrow.Author.Tests.{le-leb, lt-leb}
use lib.ListN.{length, drop, length-append}
use lib.Seq.{sets, length-sets}
use Rattle.buffer.specs.Store.{written}
use Rattle.buffer.proofs.Stores.{sets-append, sets-written}
use Rattle.wire.specs.Little.{bytes}
use Rattle.wire.specs.Varuint.{varuint_bytes}
use Rattle.wire.proofs.Numbers.{length-bytes}
use Rattle.frame.specs.declared.Header.{Header}
use Rattle.frame.specs.FrameWritten.{Written, Refused}
use Rattle.frame.specs.Frame.{known_kind}
use Rattle.frame.specs.Written.{front_bytes, frame_bytes, written_of, output_of}

-- one part more: what was written from the start on is vs, and ws follows it
pub wrote : (d d₁ d₂ vs ws : List ℕ) (at : ℕ) → length vs ≡ at → at + length ws ≤ length d → d₁ ≡ written d 0 vs → d₂ ≡ written d₁ at ws → d₂ ≡ written d 0 (vs ++ ws)
wrote d d₁ d₂ vs ws at l h e₁ e₂ =
    let first : d₁ ≡ sets d 0 vs = e₁ ∙ sym (sets-written d 0 vs (omega arith)) in
    let place : at ≡ 0 + length vs = omega arith in
    e₂ ∙ ap (λ (x : List ℕ). written x at ws) first
    ∙ sym (sets-written (sets d 0 vs) at ws (rw length-sets h))
    ∙ ap (λ (n : ℕ). sets (sets d 0 vs) n ws) place
    ∙ sym (sets-append d 0 vs ws)
    ∙ sets-written d 0 (vs ++ ws) (rw length-append (omega arith))

pub length_front : (h : Header) (n : ℕ) → length (front_bytes h n) ≡ 25 + length (varuint_bytes n)
unfolding front_bytes
length_front h n = simp (length-append, length-bytes) (omega arith)

-- all before the payload, part by part
pub front-wrote : (d : List ℕ) {d₁ d₂ d₃ d₄ d₅ d₆ : List ℕ} (h : Header) (n : ℕ) → 25 + length (varuint_bytes n) ≤ length d
    → d₁ ≡ written d 0 (0xAF ∷ 0x01 ∷ 0x01 ∷ h.kind ∷ 0x00 ∷ [])
    → d₂ ≡ written d₁ 5 (bytes 4 h.«package»)
    → d₃ ≡ written d₂ 9 (bytes 4 h.service)
    → d₄ ≡ written d₃ 13 (bytes 4 h.method)
    → d₅ ≡ written d₄ 17 (bytes 8 h.correlation)
    → d₆ ≡ written d₅ 25 (varuint_bytes n)
    → d₆ ≡ written d 0 (front_bytes h n)
unfolding front_bytes
front-wrote d {d₁} {d₂} {d₃} {d₄} {d₅} {d₆} h n room e₁ e₂ e₃ e₄ e₅ e₆ =
    let start : List ℕ = 0xAF ∷ 0x01 ∷ 0x01 ∷ h.kind ∷ 0x00 ∷ [] in
    let p = bytes 4 h.«package» in
    let s = bytes 4 h.service in
    let m = bytes 4 h.method in
    let c = bytes 8 h.correlation in
    let regroup : start ++ p ++ s ++ m ++ c ++ varuint_bytes n ≡ front_bytes h n = simp append_assoc in
    let f₂ : d₂ ≡ written d 0 (start ++ p) = wrote d d₁ d₂ start p 5 refl (rw length-bytes (omega arith)) e₁ e₂ in
    let f₃ : d₃ ≡ written d 0 (start ++ p ++ s) = wrote d d₂ d₃ (start ++ p) s 9 (simp length-bytes) (rw length-bytes (omega arith)) f₂ e₃ in
    let f₄ : d₄ ≡ written d 0 (start ++ p ++ s ++ m) = wrote d d₃ d₄ (start ++ p ++ s) m 13 (simp (length-append, length-bytes)) (rw length-bytes (omega arith)) f₃ e₄ in
    let f₅ : d₅ ≡ written d 0 (start ++ p ++ s ++ m ++ c) = wrote d d₄ d₅ (start ++ p ++ s ++ m) c 17 (simp (length-append, length-bytes)) (rw length-bytes (omega arith)) f₄ e₅ in
    wrote d d₅ d₆ (start ++ p ++ s ++ m ++ c) (varuint_bytes n) 25 (simp (length-append, length-bytes)) room f₅ e₆ ∙ ap (written d 0) regroup

pub length-frame : (h : Header) (p : List ℕ) → length (frame_bytes h p) ≡ 25 + length (varuint_bytes (length p)) + length p
unfolding frame_bytes
length-frame h p = rw (length-append, length_front)

-- the answers, in the code's own terms
module _ (h : Header) (p : List ℕ) (room : ℕ) where
  pub kind-unknown : known_kind h.kind ≡ false → written_of h p room ≡ Refused 4
  unfolding written_of
  kind-unknown k = rw k

  pub too_long : known_kind h.kind ≡ true → 16384 < length p → written_of h p room ≡ Refused 7
  unfolding written_of
  too_long k l = rw (k, lt-leb (length p) 16384 l)

  pub too_small : known_kind h.kind ≡ true → length p ≤ 16384 → room < 25 + length (varuint_bytes (length p)) + length p → written_of h p room ≡ Refused 52
  unfolding written_of
  too_small k l r = rw (k, le-leb (length p) 16384 l, length-frame h p, lt-leb (25 + length (varuint_bytes (length p)) + length p) room r)

  pub fitting : known_kind h.kind ≡ true → length p ≤ 16384 → 25 + length (varuint_bytes (length p)) + length p ≤ room
      → written_of h p room ≡ Written (25 + length (varuint_bytes (length p)) + length p)
  unfolding written_of
  fitting k l r = rw (k, le-leb (length p) 16384 l, length-frame h p, le-leb (25 + length (varuint_bytes (length p)) + length p) room r)

-- the output after the front and the payload
pub frame-wrote : (d : List ℕ) {d₁ d₂ : List ℕ} (h : Header) (p : List ℕ) → 25 + length (varuint_bytes (length p)) + length p ≤ length d
    → d₁ ≡ written d 0 (front_bytes h (length p))
    → d₂ ≡ written d₁ (25 + length (varuint_bytes (length p))) p
    → d₂ ≡ output_of (Written (25 + length (varuint_bytes (length p)) + length p)) h p d
unfolding output_of frame_bytes
frame-wrote d {d₁} {d₂} h p room e₁ e₂ =
    let end : 0 + length (front_bytes h (length p) ++ p) ≡ 25 + length (varuint_bytes (length p)) + length p = rw (length-append, length_front) (omega arith) in
    wrote d d₁ d₂ (front_bytes h (length p)) p (25 + length (varuint_bytes (length p))) (length_front h (length p)) room e₁ e₂
    ∙ ap (λ (k : ℕ). front_bytes h (length p) ++ p ++ drop k d) end
