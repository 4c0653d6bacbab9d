-- The numbers of the reader's answers: 0 is a frame, 1 asks for more, 2 to 7 are refusals. A frame that was read lies within the bytes and its limits.
use mathlib.Core.Path.{◌≡◌, refl, ap}
use mathlib.Core.List.{List}
use Prim.Native.Nat.{ℕ, ◌+◌, ◌≤◌}
use native.Mathlib.Omega.{arith}
use lib.Dec.{lit≤}
use lib.ListN.{length, length-append}
use Rattle.frame.specs.declared.Header.{Header}
use Rattle.frame.specs.FrameRead.{FrameRead, More, Frame, Refused}
use Rattle.frame.specs.Frame.{frame_of, read_number, read_used}
use Rattle.frame.specs.IsFrame.{IsFrame, frame}
use Rattle.frame.specs.Faults.{Faulty, magic, version, kind, flags, spare-group, tenth-byte, too_long}
use Rattle.frame.proofs.Frames.{read-is-frame}
use Rattle.frame.proofs.Faults.{refused-iff}

-- a refusal has one of the reader's numbers
pub refused-numbers : (s : List ℕ) {number : ℕ} → frame_of s ≡ Refused number → (2 ≤ number) × (number ≤ 7)
refused-numbers s {number = n} e = by-fault ((refused-iff s n).0 e).faulty
  where
    by-fault : {f : List ℕ} {n : ℕ} → Faulty f n → (2 ≤ n) × (n ≤ 7)
    by-fault (magic w) = (lit≤ tt, lit≤ tt)
    by-fault (version w) = (lit≤ tt, lit≤ tt)
    by-fault (kind w) = (lit≤ tt, lit≤ tt)
    by-fault (flags w d) = (lit≤ tt, lit≤ tt)
    by-fault (spare-group n x w g two last) = (lit≤ tt, lit≤ tt)
    by-fault (tenth-byte x w e above) = (lit≤ tt, lit≤ tt)
    by-fault (too_long n x w spells l) = (lit≤ tt, lit≤ tt)

pub record Bounds (s : List ℕ) (h : Header) (place n : ℕ) : Type 0 where
  pub least : 1 ≤ h.kind
  pub most : h.kind ≤ 8
  pub small : n ≤ 16384
  pub inside : place + n ≤ length s

-- a frame that was read has a kind, and a payload that is no longer than it may be and lies within the bytes
pub read-bounds : (s : List ℕ) {h : Header} {place n : ℕ} → frame_of s ≡ Frame h place n → Bounds s h place n
read-bounds s e =
    let w = read-is-frame s e in
    let limits = limited w.is in
    record {
      least = limits.0;
      most = limits.1.0;
      small = omega (arith, w.size, limits.1.1);
      inside = omega (arith, w.end, ap length w.split, length-append w.frame w.rest);
    }
  where
    limited : {h : Header} {p f : List ℕ} → IsFrame h p f → (1 ≤ h.kind) × ((h.kind ≤ 8) × (length p ≤ 16384))
    limited (frame l least most P S M C spells small) = (least, (most, small))

-- the bytes used are within the bytes
pub used-inside : (s : List ℕ) → read_used (frame_of s) ≤ length s
used-inside s = by_answer (frame_of s) refl
  where
    by_answer : (r : FrameRead) → frame_of s ≡ r → read_used r ≤ length s
    by_answer More e = omega arith
    by_answer (Frame h place n) e = (read-bounds s e).inside
    by_answer (Refused number) e = omega arith

-- the number 1 tells that more bytes are needed
pub one_more : (s : List ℕ) → read_number (frame_of s) ≡ 1 → frame_of s ≡ More
one_more s = by_answer (frame_of s) refl
  where
    by_answer : (r : FrameRead) → frame_of s ≡ r → read_number r ≡ 1 → frame_of s ≡ More
    by_answer More e z = e
    by_answer (Frame h place n) e z = absurd (omega arith)
    by_answer (Refused number) e z = absurd (omega (arith, refused-numbers s e))
