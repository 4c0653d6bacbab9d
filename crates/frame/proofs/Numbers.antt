-- The frame reader and the frame writer by the numbers that come back.
use mathlib.Core.Path.{◌≡◌, refl, ap, ◌∙◌}
use mathlib.Core.Logic.{◌↔◌}
use mathlib.Core.List.{List}
use Prim.Native.Nat.{ℕ, ◌+◌, ◌<◌}
use native.Mathlib.Omega.{arith}
use Rattle.frame.specs.declared.Header.{Header}
use Rattle.frame.specs.FrameRead.{FrameRead, More, Frame, Refused}
use Rattle.frame.specs.FrameWritten.{FrameWritten, Written, Refused as Unframed}
use Rattle.frame.specs.Frame.{frame_of}
use Rattle.frame.specs.IsFrame.{Starts}
use Rattle.frame.specs.Faults.{FrameFault, CutFrame}
use Rattle.frame.specs.Numbers.{Numbers, no_frame, numbers}
use Rattle.frame.specs.Written.{written_of, write_number, write_length, Accepted, Unwritten, kind, long, full}
use Rattle.frame.proofs.Theorems.{read-iff-frame}
use Rattle.frame.proofs.Faults.{refused-iff, more-iff}
use Rattle.frame.proofs.Answers.{refused-numbers}
use Rattle.frame.proofs.ReadBack as writer

-- ---- the reader

module _ (s : List ℕ) where
  -- 0 comes back with a header, the payload's place and length and the bytes used exactly where the bytes start with that frame,
  pub zero-iff-frame : (h : Header) (place n : ℕ)
      → (numbers (frame_of s) ≡ record { number = 0; header = h; place = place; size = n; used = place + n }) ↔ Starts s h place n
  zero-iff-frame h place n = (λ e. (read-iff-frame s h place n).0 (go (frame_of s) refl e), λ w. ap numbers ((read-iff-frame s h place n).1 w))
    where
      go : (r : FrameRead) → frame_of s ≡ r → numbers r ≡ record { number = 0; header = h; place = place; size = n; used = place + n } → frame_of s ≡ Frame h place n
      go More e f = absurd (omega (arith, ap (λ (x : Numbers). x.number) f))
      go (Frame h' place' n') e f = e ∙ cc (ap (λ (x : Numbers). x.header) f, ap (λ (x : Numbers). x.place) f, ap (λ (x : Numbers). x.size) f)
      go (Refused number) e f = absurd (omega (arith, refused-numbers s e, ap (λ (x : Numbers). x.number) f))

  -- 1 and zeros exactly where the bytes are cut, and any other number and zeros exactly where they start with the field at fault that has it, 2 to 7.
  pub one-iff-cut : (numbers (frame_of s) ≡ no_frame 1) ↔ CutFrame s
  one-iff-cut = (λ e. (more-iff s).0 (go (frame_of s) refl (ap (λ (x : Numbers). x.number) e)), λ w. ap numbers ((more-iff s).1 w))
    where
      go : (r : FrameRead) → frame_of s ≡ r → (numbers r).number ≡ 1 → frame_of s ≡ More
      go More e f = e
      go (Frame h place n) e f = absurd (omega arith)
      go (Refused number) e f = absurd (omega (arith, refused-numbers s e, f))

  pub number-iff-fault : (number : ℕ) → 1 < number → (numbers (frame_of s) ≡ no_frame number) ↔ FrameFault s number
  number-iff-fault number h = (λ e. (refused-iff s number).0 (go (frame_of s) refl (ap (λ (x : Numbers). x.number) e)), λ w. ap numbers ((refused-iff s number).1 w))
    where
      go : (r : FrameRead) → frame_of s ≡ r → (numbers r).number ≡ number → frame_of s ≡ Refused number
      go More e f = absurd (omega arith)
      go (Frame _ place n) e f = absurd (omega arith)
      go (Refused m) e f = e ∙ ap Refused f

-- ---- the writer

unwritten-above : {h : Header} {p : List ℕ} {room number : ℕ} → Unwritten h p room number → 0 < number
unwritten-above (kind w) = omega arith
unwritten-above (long low high n) = omega arith
unwritten-above (full low high n r) = omega arith

module _ (h : Header) (p : List ℕ) (room : ℕ) where
  -- 0 comes back with a length exactly where the writer may write that many bytes,
  pub zero-iff-written : (n : ℕ) → ((write_number (written_of h p room) ≡ 0) × (write_length (written_of h p room) ≡ n)) ↔ Accepted h p room n
  zero-iff-written n = (
    λ (e, f). (writer.written-iff h p room n).0 (go (written_of h p room) refl e f),
    λ a. let e = (writer.written-iff h p room n).1 a in (ap write_number e, ap write_length e),
  )
    where
      go : (r : FrameWritten) → written_of h p room ≡ r → write_number r ≡ 0 → write_length r ≡ n → written_of h p room ≡ Written n
      go (Written m) e f g = e ∙ ap Written g
      go (Unframed number) e f g = absurd (omega (arith, unwritten-above ((writer.refused-iff h p room number).0 e), f))

  -- and any other number exactly for its fault.
  pub number-iff-unwritten : (number : ℕ) → 0 < number → (write_number (written_of h p room) ≡ number) ↔ Unwritten h p room number
  number-iff-unwritten number above = (
    λ e. (writer.refused-iff h p room number).0 (go (written_of h p room) refl e),
    λ w. ap write_number ((writer.refused-iff h p room number).1 w),
  )
    where
      go : (r : FrameWritten) → written_of h p room ≡ r → write_number r ≡ number → written_of h p room ≡ Unframed number
      go (Written m) e f = absurd (omega arith)
      go (Unframed m) e f = e ∙ ap Unframed f
