-- What holds of frames: the reader accepts exactly them, in one way; a proper prefix asks for more; what follows changes nothing.
use mathlib.Core.Path.{◌≡◌, refl, sym, ap, ◌∙◌}
use mathlib.Core.Logic.{◌↔◌}
use mathlib.Core.List.{List, [], ◌∷◌, ◌++◌, append_assoc}
use Prim.Native.Nat.{ℕ, ◌-◌, ◌<◌}
use native.Mathlib.Omega.{arith}
use lib.ListN.{length, take, drop, length-append, take-append-drop}
use lib.Seq.{take_at, drop_at, length-take-le}
use Rattle.wire.proofs.Cases.{differ}
use Rattle.frame.specs.declared.Header.{Header}
use Rattle.frame.specs.FrameRead.{FrameRead, More, Frame}
use Rattle.frame.specs.Frame.{frame_of}
use Rattle.frame.specs.IsFrame.{IsFrame, frame, Starts}
use Rattle.frame.proofs.Settled.{Before, more, same, answer-before, settled}
use Rattle.frame.proofs.Frames.{frame-reads, read-is-frame}

-- bytes after a frame change nothing
pub followed : (s t : List ℕ) {h : Header} {place n : ℕ} → frame_of s ≡ Frame h place n → frame_of (s ++ t) ≡ Frame h place n
followed s t {h = h} {place = place} {n = n} e = settled s t (λ m. differ cc) ∙ e

starts-read : (s : List ℕ) {h : Header} {place n : ℕ} → Starts s h place n → frame_of s ≡ Frame h place n
starts-read s {h = h} {place = place} {n = n} w =
    let at : length w.frame - length w.payload ≡ place = omega (arith, w.size, w.end) in
    ap frame_of w.split ∙ followed w.frame w.rest (frame-reads w.is ∙ rw (at, w.size))

-- a frame is read exactly where the bytes start with one
pub read-iff-frame : (s : List ℕ) (h : Header) (place n : ℕ) → (frame_of s ≡ Frame h place n) ↔ Starts s h place n
read-iff-frame s h place n = (read-is-frame s, starts-read s)

-- ---- a payload and its frame

pub ends : {h : Header} {p f : List ℕ} → IsFrame h p f → (q : List ℕ) × (f ≡ q ++ p)
ends (frame {h = h} {«package» = p} {service = s} {method = m} {correlation = c} l lo hi P S M C spells small) =
    (0xAF ∷ 0x01 ∷ 0x01 ∷ h.kind ∷ 0x00 ∷ (p ++ (s ++ (m ++ (c ++ l)))), simp append_assoc)

-- the payload stands at its place
pub payload-there : (s : List ℕ) {h : Header} {place n : ℕ} (w : Starts s h place n) → take n (drop place s) ≡ w.payload
payload-there s {place = place} {n = n} w =
    let e = ends w.is in
    let q : length e.0 ≡ place = omega (arith, w.size, w.end, ap length e.1, length-append e.0 w.payload) in
    let parts : s ≡ e.0 ++ (w.payload ++ w.rest) = w.split ∙ ap (λ (f : List ℕ). f ++ w.rest) e.1 ∙ append_assoc e.0 w.payload w.rest in
    ap (λ (x : List ℕ). take n (drop place x)) parts ∙ rw (drop_at e.0 (w.payload ++ w.rest) place q, take_at w.payload w.rest n w.size)

abbrev pub starts : {h : Header} {p f : List ℕ} (r : List ℕ) → IsFrame h p f → Starts (f ++ r) h (length f - length p) (length p)
starts {p = p} {f = f} r w =
    let e = ends w in
    record { payload = p; frame = f; rest = r; split = refl; is = w; size = refl; end = omega (arith, ap length e.1, length-append e.0 p) }

-- a frame is read, whatever follows it
pub frame-read : {h : Header} {p f : List ℕ} (r : List ℕ) → IsFrame h p f → frame_of (f ++ r) ≡ Frame h (length f - length p) (length p)
frame-read {p = p} {f = f} r w = starts-read (f ++ r) (starts r w)

-- no frame is read in two ways: bytes start with at most one frame, and it has one header and one payload
pub one-reading : {h h' : Header} {p p' f f' : List ℕ} (r r' : List ℕ) → IsFrame h p f → IsFrame h' p' f' → f ++ r ≡ f' ++ r' → (h ≡ h') × ((p ≡ p') × (f ≡ f'))
one-reading {h = h} {h' = h'} {p = p} {p' = p'} {f = f} {f' = f'} r r' w w' e =
    let answers : Frame h (length f - length p) (length p) ≡ Frame h' (length f' - length p') (length p') = sym (frame-read r w) ∙ ap frame_of e ∙ frame-read r' w' in
    let place : length f - length p ≡ length f' - length p' = cc answers in
    let size : length p ≡ length p' = cc answers in
    let long : length f ≡ length f' = omega (arith, (starts r w).end, (starts r' w').end) in (
      cc answers,
      (
        sym (payload-there (f ++ r) (starts r w)) ∙ rw (place, size, e) (payload-there (f' ++ r') (starts r' w')),
        sym (take_at f r (length f) refl) ∙ ap (take (length f)) e ∙ take_at f' r' (length f) (sym long),
      ),
    )

-- every proper prefix of a frame asks for more
pub prefix_more : {h : Header} {p f : List ℕ} → IsFrame h p f → (i : ℕ) → i < length f → frame_of (take i f) ≡ More
prefix_more {h = h} {p = p} {f = f} w i l = short refl (frame-reads w) (rw take-append-drop at (answer-before (take i f) (drop i f)))
  where
    short : {a b : FrameRead} → a ≡ frame_of (take i f) → b ≡ Frame h (length f - length p) (length p) → Before a b → frame_of (take i f) ≡ More
    short e e' more = sym e
    short e e' same =
        let s = read-is-frame (take i f) (sym e ∙ e') in
        absurd (omega (arith, s.end, (starts [] w).end, ap length s.split, length-append s.frame s.rest, length-take-le i f (omega arith)))
