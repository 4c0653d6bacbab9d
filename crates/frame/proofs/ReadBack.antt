-- What the frame writer writes is a frame, and is read back as the same header and payload. A frame that is read is written again to the same bytes.
use mathlib.Core.Path.{◌≡◌, refl, sym, ap, ap₂, subst, ◌∙◌}
use mathlib.Core.Logic.{◌↔◌}
use mathlib.Core.Bool.{Bool, true, false, cond}
use mathlib.Core.List.{List, ◌++◌, append_assoc}
use Prim.Native.Nat.{ℕ, suc, ◌+◌, ◌^◌, ◌≤◌, ◌<◌}
use native.Mathlib.Omega.{arith}
use borrow.Author.Tests.{leb-true, leb-false, le-leb, lt-leb}
use lib.Dec.{leb}
use lib.ListN.{length, take, drop}
use lib.Seq.{take_at}
use Rattle.wire.specs.Little.{bytes, Bytes}
use Rattle.wire.specs.Varuint.{varuint_bytes}
use Rattle.wire.proofs.Numbers.{length-bytes, little-bytes, bytes-little, bytes-parts}
use Rattle.wire.proofs.Varuints.{shortest-spelled, spelled_is}
use Rattle.wire.proofs.Cases.{chosen, differ}
use Rattle.frame.specs.declared.Header.{Header}
use Rattle.frame.specs.FrameRead.{Frame}
use Rattle.frame.specs.FrameWritten.{Written, Refused}
use Rattle.frame.specs.Frame.{known_kind, frame_of}
use Rattle.frame.specs.Written.{front_bytes, frame_bytes, written_of, output_of, Accepted, Unwritten, kind, long, full, ReadBack}
use Rattle.frame.specs.IsFrame.{IsNumber, IsFrame, frame, HeaderFits}
use Rattle.frame.proofs.Tests.{known-bounds, bounds-known}
use Rattle.frame.proofs.Writes.{length-frame, fitting}
use Rattle.frame.proofs.Frames.{read-is-frame}
use Rattle.frame.proofs.Answers.{read-bounds}
use Rattle.frame.proofs.Theorems.{starts, payload-there, frame-read}

holds-bytes : (n x : ℕ) → x < 256 ^ n → IsNumber n x (bytes n x)
holds-bytes n x h = record { width = length-bytes n x; value = little-bytes n x h }

-- what the writer writes is a frame
pub shortest-frame : (h : Header) (p : List ℕ) → HeaderFits h → 1 ≤ h.kind → h.kind ≤ 8 → length p ≤ 16384 → IsFrame h p (frame_bytes h p)
unfolding frame_bytes front_bytes
shortest-frame h p fits least most small =
    simp append_assoc
    (frame (varuint_bytes (length p)) least most (holds-bytes 4 h.«package» fits.«package») (holds-bytes 4 h.service fits.service)
    (holds-bytes 4 h.method fits.method) (holds-bytes 8 h.correlation fits.correlation) (shortest-spelled (length p) (omega arith)) small)

not_refused : {number n : ℕ} → Refused number ≡ Written n → ⊥
not_refused e = differ cc

same_number : {m n : ℕ} → Refused m ≡ Refused n → m ≡ n
same_number e = cc

written-accepted : (h : Header) (p : List ℕ) (room : ℕ) {n : ℕ} → written_of h p room ≡ Written n → Accepted h p room n
unfolding written_of
written-accepted h p room {n = n} e =
    let kind = chosen (known_kind h.kind) _ (Refused 4) not_refused e in
    let small = chosen (leb (length p) 16384) _ (Refused 7) not_refused kind.1 in
    let fits = chosen (leb (length (frame_bytes h p)) room) _ (Refused 52) not_refused small.1 in
    let size : length (frame_bytes h p) ≡ n = cc fits.1 in
    let known = known-bounds h.kind kind.0 in
    record {
      least = known.0;
      most = known.1;
      small = leb-true (length p) 16384 small.0;
      size = size;
      fits = omega (arith, leb-true (length (frame_bytes h p)) room fits.0);
    }

-- the writer accepts a known kind, a payload within the limit and an output with room, and answers the frame's length
pub written-iff : (h : Header) (p : List ℕ) (room n : ℕ) → (written_of h p room ≡ Written n) ↔ Accepted h p room n
written-iff h p room n = (written-accepted h p room, accepted-written)
  where
    accepted-written : Accepted h p room n → written_of h p room ≡ Written n
    accepted-written a =
        fitting h p room (bounds-known h.kind a.least a.most) a.small (omega (arith, a.size, a.fits, length-frame h p)) ∙ ap Written (sym (length-frame h p) ∙ a.size)

-- the writer refuses with 4, 7 and 52 exactly for these faults
pub refused-iff : (h : Header) (p : List ℕ) (room number : ℕ) → (written_of h p room ≡ Refused number) ↔ Unwritten h p room number
unfolding written_of
refused-iff h p room number = (refused-for, for-refused)
  where
    known : known_kind h.kind ≡ true → (1 ≤ h.kind) × (h.kind ≤ 8)
    known t = known-bounds h.kind t

    never : known_kind h.kind ≡ false → known_kind h.kind ≡ true → ⊥
    never f t = let bad : false ≡ true = sym f ∙ t in differ cc

    unknown : ((1 ≤ h.kind) × (h.kind ≤ 8) → ⊥) → (b : Bool) → known_kind h.kind ≡ b → known_kind h.kind ≡ false
    unknown w true e = absurd (w (known e))
    unknown w false e = e

    refused-for : written_of h p room ≡ Refused number → Unwritten h p room number
    refused-for e = go (known_kind h.kind) (leb (length p) 16384) (leb (length (frame_bytes h p)) room) refl refl refl e
      where
        go : (a b c : Bool) → known_kind h.kind ≡ a → leb (length p) 16384 ≡ b → leb (length (frame_bytes h p)) room ≡ c →
            cond a (cond b (cond c (Written (length (frame_bytes h p))) (Refused 52)) (Refused 7)) (Refused 4) ≡ Refused number → Unwritten h p room number
        go false b c x y z e = subst (Unwritten h p room) (same_number e) (kind (λ w. never x (bounds-known h.kind w.0 w.1)))
        go true false c x y z e = subst (Unwritten h p room) (same_number e) (long (known x).0 (known x).1 (leb-false (length p) 16384 y))
        go true true false x y z e =
            subst (Unwritten h p room) (same_number e)
            (full (known x).0 (known x).1 (leb-true (length p) 16384 y) (leb-false (length (frame_bytes h p)) room z))
        go true true true x y z e = absurd (not_refused (sym e))

    for-refused : {number : ℕ} → Unwritten h p room number → written_of h p room ≡ Refused number
    for-refused (kind w) = rw (unknown w (known_kind h.kind) refl)
    for-refused (long low high n) = rw (bounds-known h.kind low high, lt-leb (length p) 16384 n)
    for-refused (full low high n r) = rw (bounds-known h.kind low high, le-leb (length p) 16384 n, lt-leb (length (frame_bytes h p)) room r)

-- what was written, followed by anything, is read back
pub read_back : (h : Header) (p : List ℕ) (room : ℕ) {n : ℕ} → HeaderFits h → written_of h p room ≡ Written n → (r : List ℕ) → ReadBack h p (frame_bytes h p ++ r) n
read_back h p room fits e r =
    let a = written-accepted h p room e in
    let is = shortest-frame h p fits a.least a.most a.small in
    record { reads = rw (← a.size) (frame-read r is); payload = rw (← a.size) (payload-there (frame_bytes h p ++ r) (starts r is)) }

-- the writer's output is read back
pub output-read-back : (h : Header) (p out : List ℕ) {n : ℕ} → HeaderFits h → written_of h p (length out) ≡ Written n → ReadBack h p (output_of (Written n) h p out) n
unfolding output_of
output-read-back h p out {n = n} fits e = read_back h p (length out) fits e (drop n out)

-- ---- the same bytes

held : (n x : ℕ) (b : List ℕ) → IsNumber n x b → Bytes b → b ≡ bytes n x
held n x b w u = sym (bytes-little b u) ∙ ap₂ bytes w.width w.value

-- a header and a payload have one frame
pub one-frame : {h : Header} {p f : List ℕ} → IsFrame h p f → Bytes f → f ≡ frame_bytes h p
unfolding frame_bytes front_bytes
one-frame (frame {h = h} {«package» = p} {service = s} {method = m} {correlation = c} {payload = q} l lo hi P S M C spells small) u =
    let after_m = c ++ (l ++ q) in
    let after_s = m ++ after_m in
    let after_p = s ++ after_s in
    let bp = bytes-parts (p ++ after_p) p after_p refl (λ i. u (suc (suc (suc (suc (suc i)))))) in
    let bs = bytes-parts after_p s after_s refl bp.1 in
    let bm = bytes-parts after_s m after_m refl bs.1 in
    let bc = bytes-parts after_m c (l ++ q) refl bm.1 in
    let bl = bytes-parts (l ++ q) l q refl bc.1 in
    simp append_assoc
    (rw (
      held 4 h.«package» p P bp.0,
      held 4 h.service s S bs.0,
      held 4 h.method m M bm.0,
      held 8 h.correlation c C bc.0,
      spelled_is (length q) l bl.0 spells,
    ))

-- a frame that was read, written from its header and its payload, is the same bytes
pub written-again : (s : List ℕ) {h : Header} {place n : ℕ} → Bytes s → frame_of s ≡ Frame h place n → (out : List ℕ) → place + n ≤ length out
    → let p = take n (drop place s) in
    (written_of h p (length out) ≡ Written (place + n)) × (output_of (Written (place + n)) h p out ≡ take (place + n) s ++ drop (place + n) out)
unfolding output_of
written-again s {h = h} {place = place} {n = n} u e out l =
    let w = read-is-frame s e in
    let b = read-bounds s e in
    let same : w.frame ≡ frame_bytes h w.payload = one-frame w.is (bytes-parts s w.frame w.rest w.split u).0 in
    let size : length (frame_bytes h w.payload) ≡ place + n = ap length (sym same) ∙ sym w.end in
    let starts : take (place + n) s ≡ w.frame = ap (take (place + n)) w.split ∙ take_at w.frame w.rest (place + n) (sym w.end) in
    let a : Accepted h w.payload (length out) (place + n) =
    record { least = b.least; most = b.most; small = omega (arith, w.size, b.small); size = size; fits = l } in
    rw (payload-there s w)
    ((written-iff h w.payload (length out) (place + n)).1 a, ap (λ (x : List ℕ). x ++ drop (place + n) out) (sym same ∙ sym starts))
