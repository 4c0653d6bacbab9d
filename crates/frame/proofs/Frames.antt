-- The reader's function and the relation agree: what is read as a frame is a frame, and every frame is read.
use mathlib.Core.Path.{◌≡◌, refl, sym, ap, subst, ◌∙◌}
use mathlib.Core.Bool.{Bool, true, cond}
use mathlib.Core.List.{List, [], ◌∷◌, ◌++◌, append_assoc}
use Prim.Native.Nat.{ℕ, ◌+◌, ◌-◌, ◌≤◌}
use native.Mathlib.Omega.{arith}
use borrow.Author.Tests.{le-leb, leb-true, eqb-true}
use lib.Dec.{leb, eqb}
use lib.ListN.{length, get_or, take, drop, length-append, length-drop, take-append-drop}
use lib.Seq.{take_at, drop_at, drop-drop, length-take-le}
use Rattle.wire.specs.Little.{little}
use Rattle.wire.specs.Varuint.{VarUInt, Number, Cut, Malformed, front_var_u_int, varuint, Spelled}
use Rattle.wire.proofs.Numbers.{little-one}
use Rattle.wire.proofs.Varuints.{spelled-reads, read-spelled}
use Rattle.wire.proofs.Cases.{chosen, differ}
use Rattle.parse.specs.Test.{test}
use Rattle.frame.specs.declared.Header.{Header}
use Rattle.frame.specs.FrameRead.{FrameRead, More, Frame, Refused}
use Rattle.frame.specs.Frame.{once_whole, is_magic, known_kind, frame_payload, frame_of}
use Rattle.frame.specs.Places.{number_at, header_at}
use Rattle.frame.specs.IsFrame.{IsNumber, IsFrame, frame, Starts}
use Rattle.frame.proofs.Tests.{known-bounds, bounds-known, magic-bytes}
use Rattle.frame.proofs.Places.{field, from_length, from_flags, from_kind, from_version, by-places}

-- ---- every frame is read

whole-reads : (n : ℕ) (b t : List ℕ) → length b ≡ n → (next : List ℕ → List ℕ → FrameRead) → once_whole n (b ++ t) next ≡ next b t
unfolding once_whole
whole-reads n b t e next = rw (length-append b t, le-leb n (length b + length t) (omega arith), take_at b t n e, drop_at b t n e)

pub byte-number : (x : ℕ) → little (x ∷ []) ≡ x
unfolding little
byte-number x = omega arith

-- the fields before the length
fields_read : (h : Header) (p s m c r : List ℕ) → 1 ≤ h.kind → h.kind ≤ 8
    → IsNumber 4 h.«package» p → IsNumber 4 h.service s → IsNumber 4 h.method m → IsNumber 8 h.correlation c
    → let f : List ℕ = 0xAF ∷ 0x01 ∷ 0x01 ∷ h.kind ∷ 0x00 ∷ (p ++ (s ++ (m ++ (c ++ r)))) in
    frame_of f ≡ frame_payload (length f) h (front_var_u_int r 25)
unfolding frame_of
fields_read h p s m c r lo hi P S M C =
    let t : List ℕ = p ++ (s ++ (m ++ (c ++ r))) in
    rw (
      whole-reads 2 (0xAF ∷ 0x01 ∷ []) (0x01 ∷ h.kind ∷ 0x00 ∷ t) refl,
      whole-reads 1 (0x01 ∷ []) (h.kind ∷ 0x00 ∷ t) refl,
      byte-number 0x01,
      whole-reads 1 (h.kind ∷ []) (0x00 ∷ t) refl,
      byte-number h.kind,
      bounds-known h.kind lo hi,
      whole-reads 1 (0x00 ∷ []) t refl,
      byte-number 0x00,
      whole-reads 4 p (s ++ (m ++ (c ++ r))) P.width,
      whole-reads 4 s (m ++ (c ++ r)) S.width,
      whole-reads 4 m (c ++ r) M.width,
      whole-reads 8 c r C.width,
      P.value,
      S.value,
      M.value,
      C.value,
    )

fields-length : (k : ℕ) {x y z u : ℕ} {p s m c : List ℕ} (r : List ℕ) → IsNumber 4 x p → IsNumber 4 y s → IsNumber 4 z m → IsNumber 8 u c
    → length (0xAF ∷ 0x01 ∷ 0x01 ∷ k ∷ 0x00 ∷ (p ++ (s ++ (m ++ (c ++ r))))) ≡ 25 + length r
fields-length k r P S M C = simp (length-append, P.width, S.width, M.width, C.width) (omega arith)

pub payload-whole : (end : ℕ) (h : Header) (n place : ℕ) → n ≤ 16384 → place + n ≤ end → frame_payload end h (Number n place) ≡ Frame h place n
unfolding frame_payload
payload-whole end h n place l e = rw (le-leb n 16384 l, le-leb (place + n) end e)

pub frame-reads : {h : Header} {p f : List ℕ} → IsFrame h p f → frame_of f ≡ Frame h (length f - length p) (length p)
frame-reads (frame {h = h} {«package» = p} {service = s} {method = m} {correlation = c} {payload = q} l lo hi P S M C spells small) =
    let f : List ℕ = 0xAF ∷ 0x01 ∷ 0x01 ∷ h.kind ∷ 0x00 ∷ (p ++ (s ++ (m ++ (c ++ (l ++ q))))) in
    let long : length f ≡ 25 + length (l ++ q) = fields-length h.kind (l ++ q) P S M C in
    let place : length f - length q ≡ 25 + length l = omega (arith, length-append l q) in
    fields_read h p s m c (l ++ q) lo hi P S M C
    ∙ ap (frame_payload (length f) h) (spelled-reads (length q) l q 25 spells)
    ∙ payload-whole (length f) h (length q) (25 + length l) small (omega (arith, length-append l q))
    ∙ ap (λ (x : ℕ). Frame h x (length q)) (sym place)

-- ---- what is read is a frame

not_more : {h : Header} {place n : ℕ} → More ≡ Frame h place n → ⊥
not_more e = differ cc

not_refused : {number : ℕ} {h : Header} {place n : ℕ} → Refused number ≡ Frame h place n → ⊥
not_refused e = differ cc

field-frame : (s : List ℕ) (e : ℕ) (right : Bool) (number : ℕ) (next : FrameRead) {h : Header} {place n : ℕ}
    → field s e right number next ≡ Frame h place n → (e ≤ length s) × ((right ≡ true) × (next ≡ Frame h place n))
unfolding field
field-frame s e right number next eq =
    let once_whole = chosen (leb e (length s)) (test right (Refused number) next) More not_more eq in
    (leb-true e (length s) once_whole.0, chosen right next (Refused number) not_refused once_whole.1)

-- a whole payload: its length was read, and it ends within the bytes
record Whole (end : ℕ) (h : Header) (v : VarUInt) (h' : Header) (place n : ℕ) : Type 0 where
  is : v ≡ Number n place
  header : h ≡ h'
  small : n ≤ 16384
  inside : place + n ≤ end

payload-frame : (end : ℕ) (h : Header) (v : VarUInt) {h' : Header} {place n : ℕ} → frame_payload end h v ≡ Frame h' place n → Whole end h v h' place n
unfolding frame_payload
payload-frame end h Cut e = absurd (not_more e)
payload-frame end h Malformed e = absurd (not_refused e)
payload-frame end h (Number m at) {h' = h'} {place = place} {n = n} e =
    let small = chosen (leb m 16384) (cond (leb (at + m) end) (Frame h at m) More) (Refused _) not_refused e in
    let inside = chosen (leb (at + m) end) (Frame h at m) More not_more small.1 in
    let same : Frame h at m ≡ Frame h' place n = inside.1 in
    let size : m ≡ n = cc same in
    let start : at ≡ place = cc same in
    record { is = cc; header = cc same; small = omega (arith, leb-true m 16384 small.0); inside = omega (arith, leb-true (at + m) end inside.0) }

peel : (n at : ℕ) (s : List ℕ) → drop at s ≡ take n (drop at s) ++ drop (at + n) s
peel n at s = sym (ap (λ (l : List ℕ). take n (drop at s) ++ l) (sym (drop-drop n at s)) ∙ take-append-drop n (drop at s))

five : (s : List ℕ) {a b c d e : ℕ} → 5 ≤ length s → get_or s 0 0 ≡ a → get_or s 1 0 ≡ b → get_or s 2 0 ≡ c → get_or s 3 0 ≡ d → get_or s 4 0 ≡ e
    → s ≡ a ∷ b ∷ c ∷ d ∷ e ∷ drop 5 s
five [] h q₀ q₁ q₂ q₃ q₄ = absurd (omega arith)
five (x₀ ∷ []) h q₀ q₁ q₂ q₃ q₄ = absurd (omega arith)
five (x₀ ∷ x₁ ∷ []) h q₀ q₁ q₂ q₃ q₄ = absurd (omega arith)
five (x₀ ∷ x₁ ∷ x₂ ∷ []) h q₀ q₁ q₂ q₃ q₄ = absurd (omega arith)
five (x₀ ∷ x₁ ∷ x₂ ∷ x₃ ∷ []) h q₀ q₁ q₂ q₃ q₄ = absurd (omega arith)
five (x₀ ∷ x₁ ∷ x₂ ∷ x₃ ∷ x₄ ∷ s) h q₀ q₁ q₂ q₃ q₄ = cc

holds : (s : List ℕ) (at n : ℕ) → at + n ≤ length s → IsNumber n (number_at s at n) (take n (drop at s))
holds s at n h = record { width = length-take-le n (drop at s) (rw length-drop (omega arith)); value = refl }

-- the parts of the bytes, put together
built : (s : List ℕ) {h : Header} {place n : ℕ} → 25 ≤ length s → is_magic s ≡ true → number_at s 2 1 ≡ 1 → known_kind (number_at s 3 1) ≡ true → number_at s 4 1 ≡ 0
    → Whole (length s) (header_at s) (varuint s 25) h place n → Starts s h place n
built s {place = place} {n = n} l magic version kind flags w =
    let v = read-spelled (drop 25 s) 25 n place w.is in
    let b = v.bytes in
    let r = v.rest in
    let fields = take 4 (drop 5 s) ++ (take 4 (drop 9 s) ++ (take 4 (drop 13 s) ++ (take 8 (drop 17 s) ++ (b ++ take n r)))) in
    let all : length s - 25 ≡ length b + length r = sym (length-drop 25 s) ∙ ap length v.split ∙ length-append b r in
    let size : length (take n r) ≡ n = length-take-le n r (omega (arith, v.place, w.inside)) in
    let known = known-bounds (number_at s 3 1) kind in
    let after : drop 5 s ≡ fields ++ drop n r =
    simp append_assoc
    (peel 4 5 s ∙ ap (λ (x : List ℕ). take 4 (drop 5 s) ++ x)
    (peel 4 9 s ∙ ap (λ (x : List ℕ). take 4 (drop 9 s) ++ x)
    (peel 4 13 s ∙ ap (λ (x : List ℕ). take 4 (drop 13 s) ++ x)
    (peel 8 17 s ∙ ap (λ (x : List ℕ). take 8 (drop 17 s) ++ x)
    (v.split ∙ ap (λ (x : List ℕ). b ++ x) (sym (take-append-drop n r))))))) in
    subst (λ (x : Header). Starts s x place n) w.header
    (record {
      payload = take n r;
      frame = 0xAF ∷ 0x01 ∷ 0x01 ∷ number_at s 3 1 ∷ 0x00 ∷ fields;
      rest = drop n r;
      split =
          five s (omega arith) (magic-bytes s magic).0 (magic-bytes s magic).1 (sym (little-one s 2 (omega arith)) ∙ version) (sym (little-one s 3 (omega arith)))
          (sym (little-one s 4 (omega arith)) ∙ flags)
          ∙ ap (λ (x : List ℕ). 0xAF ∷ 0x01 ∷ 0x01 ∷ number_at s 3 1 ∷ 0x00 ∷ x) after;
      is =
          frame b known.0 known.1 (holds s 5 4 (omega arith)) (holds s 9 4 (omega arith)) (holds s 13 4 (omega arith)) (holds s 17 8 l)
          (subst (λ (k : ℕ). Spelled k b) (sym size) v.spells) (rw size w.small);
      size = size;
      end =
          omega (
            arith,
            v.place,
            size,
            length-append b (take n r),
            fields-length (number_at s 3 1) (b ++ take n r) (holds s 5 4 (omega arith)) (holds s 9 4 (omega arith)) (holds s 13 4 (omega arith)) (holds s 17 8 l),
          );
    })

pub read-is-frame : (s : List ℕ) {h : Header} {place n : ℕ} → frame_of s ≡ Frame h place n → Starts s h place n
read-is-frame s e =
    let magic = field-frame s 2 (is_magic s) 2 (from_version s) (sym (by-places s) ∙ e) in
    let version = field-frame s 3 (eqb (number_at s 2 1) 1) 3 (from_kind s) magic.1.1 in
    let kind = field-frame s 4 (known_kind (number_at s 3 1)) 4 (from_flags s) version.1.1 in
    let flags = field-frame s 5 (eqb (number_at s 4 1) 0) 5 (from_length s) kind.1.1 in
    let length_whole = chosen (leb 25 (length s)) (frame_payload (length s) (header_at s) (varuint s 25)) More not_more flags.1.1 in
    built s (leb-true 25 (length s) length_whole.0) magic.1.0 (eqb-true (number_at s 2 1) 1 version.1.0) kind.1.0 (eqb-true (number_at s 4 1) 0 flags.1.0)
    (payload-frame (length s) (header_at s) (varuint s 25) length_whole.1)
