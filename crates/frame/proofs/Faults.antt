-- Bytes are refused exactly for the field at fault, whatever follows it, and ask for more exactly where they are cut.
use mathlib.Core.Path.{◌≡◌, refl, sym, ap, subst, ◌∙◌}
use mathlib.Core.Logic.{◌↔◌, inl, inr, ⊎_elim}
use mathlib.Core.Bool.{Bool, true, false}
use mathlib.Core.List.{List, [], ◌∷◌, ◌++◌, append_assoc}
use Prim.Native.Nat.{ℕ, ◌+◌, ◌≤◌, ◌<◌}
use native.Mathlib.Decide.{dec_le, dec_lt, ℕ_discrete}
use native.Mathlib.Omega.{arith}
use borrow.Author.Tests.{le-leb, lt-leb, ne_eqb}
use lib.ListN.{length, take, drop, length-append, take-append-drop, get_or-append}
use lib.Seq.{drop_at, get_or-take, length-take-le, take-append_seam}
use Rattle.wire.specs.Little.{little}
use Rattle.wire.specs.Varuint.{VarUInt, Number, Cut, Malformed, front_var_u_int, Spelled, Completed, Spare, TenthAbove}
use Rattle.wire.proofs.Cases.{differ}
use Rattle.wire.proofs.Varuints.{spelled-reads, read-spelled, spelled-cut, cut_completed, malformed-iff}
use Rattle.frame.specs.declared.Header.{Header}
use Rattle.frame.specs.FrameRead.{FrameRead, More, Frame, Refused}
use Rattle.frame.specs.Frame.{is_magic, known_kind, frame_payload, frame_of, read_number}
use Rattle.frame.specs.Places.{header_at}
use Rattle.frame.specs.Faults.{IsKind, RightHeader, header, Faulty, magic, version, kind, flags, spare-group, tenth-byte, too_long, FrameFault}
use Rattle.frame.specs.Faults.{CutFrame, in_magic, at-version, at-kind, at-flags, in_identifiers, in_length, in_payload, FrameNumber, whole, cut, fault}
use Rattle.frame.proofs.Tests.{known-bounds, bounds-known, magic-bytes}
use Rattle.frame.proofs.Places.{short, wrong, passed, from_length, by-places}
use Rattle.frame.proofs.Frames.{byte-number, payload-whole}
use Rattle.frame.proofs.Theorems.{read-iff-frame}

-- ---- a right start

unmet : (t : Bool) → (t ≡ true → ⊥) → t ≡ false
unmet true h = absurd (h refl)
unmet false h = refl

kind-known : (k : ℕ) → IsKind k → known_kind (little (k ∷ [])) ≡ true
kind-known k (low, high) = ap known_kind (byte-number k) ∙ bounds-known k low high

start-read : (k : ℕ) (t : List ℕ) → IsKind k → let s : List ℕ = 0xAF ∷ 0x01 ∷ 0x01 ∷ k ∷ 0x00 ∷ t in frame_of s ≡ from_length s
unfolding little
start-read k t w =
    let s : List ℕ = 0xAF ∷ 0x01 ∷ 0x01 ∷ k ∷ 0x00 ∷ t in
    by-places s
    ∙ passed s 2 _ 2 _ (omega arith) refl
    ∙ passed s 3 _ 3 _ (omega arith) refl
    ∙ passed s 4 _ 4 _ (omega arith) (kind-known k w)
    ∙ passed s 5 _ 5 _ (omega arith) refl

-- behind a right header the length is read
header_read : {f : List ℕ} → RightHeader f → (t : List ℕ) → frame_of (f ++ t) ≡ frame_payload (25 + length t) (header_at (f ++ t)) (front_var_u_int t 25)
header_read (header {k = k} {identifiers = ids} w e) t =
    let s : List ℕ = 0xAF ∷ 0x01 ∷ 0x01 ∷ k ∷ 0x00 ∷ (ids ++ t) in
    let long : length s ≡ 25 + length t = omega (arith, e, length-append ids t) in
    start-read k (ids ++ t) w ∙ rw (long, le-leb 25 (25 + length t) (omega arith), drop_at ids t 20 e)

-- ---- what has a fault is refused, whatever follows

-- the answer from the length on
module _ (end : ℕ) (h : Header) where
  is-malformed : frame_payload end h Malformed ≡ Refused 6
  unfolding frame_payload
  is-malformed = refl

  is_cut : frame_payload end h Cut ≡ More
  unfolding frame_payload
  is_cut = refl

  is-long : (n place : ℕ) → 16384 < n → frame_payload end h (Number n place) ≡ Refused 7
  unfolding frame_payload
  is-long n place l = rw (lt-leb n 16384 l)

  is-short : (n place : ℕ) → n ≤ 16384 → end < place + n → frame_payload end h (Number n place) ≡ More
  unfolding frame_payload
  is-short n place l c = rw (le-leb n 16384 l, lt-leb (place + n) end c)

-- a VarUInt that is malformed by its tenth byte, whatever follows
tenth-malformed : (x t : List ℕ) → length x ≡ 10 → TenthAbove x → front_var_u_int (x ++ t) 25 ≡ Malformed
tenth-malformed x t e (long, more, high) =
    (malformed-iff (x ++ t) 25).1
    (inr (omega (arith, e, length-append x t), λ i h. rw (get_or-append x t 0 i (omega arith)) (more i h), rw (get_or-append x t 0 9 (omega arith)) high))

size-read : {f : List ℕ} {v : VarUInt} {r : FrameRead} (w : RightHeader f) (x t : List ℕ) → front_var_u_int (x ++ t) 25 ≡ v
    → ((end : ℕ) (h : Header) → frame_payload end h v ≡ r) → frame_of ((f ++ x) ++ t) ≡ r
size-read {f = f} w x t e answer =
    ap frame_of (append_assoc f x t) ∙ header_read w (x ++ t) ∙ ap (frame_payload (25 + length (x ++ t)) (header_at (f ++ (x ++ t)))) e ∙ answer (25 + length (x ++ t)) (header_at (f ++ (x ++ t)))

-- The bytes up to the end of the field at fault decide.
pub faulty-refused : {f : List ℕ} {n : ℕ} → Faulty f n → (t : List ℕ) → frame_of (f ++ t) ≡ Refused n
unfolding little
faulty-refused (magic {a = a} {b = b} w) t =
    let s : List ℕ = a ∷ b ∷ t in by-places s ∙ wrong s 2 _ 2 _ (omega arith) (unmet (is_magic s) (λ e. w (magic-bytes s e)))
faulty-refused (version {v = v} w) t =
    let s : List ℕ = 0xAF ∷ 0x01 ∷ v ∷ t in
    by-places s ∙ passed s 2 _ 2 _ (omega arith) refl ∙ wrong s 3 _ 3 _ (omega arith) (ne_eqb (little (v ∷ [])) 1 (λ e. w (sym (byte-number v) ∙ e)))
faulty-refused (kind {k = k} w) t =
    let s : List ℕ = 0xAF ∷ 0x01 ∷ 0x01 ∷ k ∷ t in
    by-places s ∙ passed s 2 _ 2 _ (omega arith) refl ∙ passed s 3 _ 3 _ (omega arith) refl
    ∙ wrong s 4 _ 4 _ (omega arith) (unmet (known_kind (little (k ∷ []))) (λ e. w (known-bounds k (ap known_kind (sym (byte-number k)) ∙ e))))
faulty-refused (flags {k = k} {f = f} w d) t =
    let s : List ℕ = 0xAF ∷ 0x01 ∷ 0x01 ∷ k ∷ f ∷ t in
    by-places s ∙ passed s 2 _ 2 _ (omega arith) refl ∙ passed s 3 _ 3 _ (omega arith) refl ∙ passed s 4 _ 4 _ (omega arith) (kind-known k w)
    ∙ wrong s 5 _ 5 _ (omega arith) (ne_eqb (little (f ∷ [])) 0 (λ e. d (sym (byte-number f) ∙ e)))
faulty-refused (spare-group n x w g two last) t =
    size-read w x t ((malformed-iff (x ++ t) 25).1 (inl (n, x, t, refl, g, two, last))) is-malformed
faulty-refused (tenth-byte x w e above) t = size-read w x t (tenth-malformed x t e above) is-malformed
faulty-refused (too_long n x w spells l) t = size-read w x t (spelled-reads n x t 25 spells) (λ end h. is-long end h n (25 + length x) l)

fault-refused : (s : List ℕ) {n : ℕ} → FrameFault s n → frame_of s ≡ Refused n
fault-refused s w = ap frame_of w.split ∙ faulty-refused w.faulty w.rest

-- ---- what is cut asks for more

cut-front : (x : List ℕ) → Completed Spelled x → front_var_u_int x 25 ≡ Cut
cut-front x (n, t, some, s) = rw (take-append_seam x t) at (spelled-cut n (x ++ t) (length x) 25 s (omega (arith, length-append x t)))

cut-more : {s : List ℕ} → CutFrame s → frame_of s ≡ More
unfolding little
cut-more (in_magic {s = s} l) = by-places s ∙ short s 2 _ 2 _ l
cut-more at-version = let s : List ℕ = 0xAF ∷ 0x01 ∷ [] in by-places s ∙ passed s 2 _ 2 _ (omega arith) refl ∙ short s 3 _ 3 _ (omega arith)
cut-more at-kind =
    let s : List ℕ = 0xAF ∷ 0x01 ∷ 0x01 ∷ [] in
    by-places s ∙ passed s 2 _ 2 _ (omega arith) refl ∙ passed s 3 _ 3 _ (omega arith) refl ∙ short s 4 _ 4 _ (omega arith)
cut-more (at-flags {k = k} w) =
    let s : List ℕ = 0xAF ∷ 0x01 ∷ 0x01 ∷ k ∷ [] in
    by-places s ∙ passed s 2 _ 2 _ (omega arith) refl ∙ passed s 3 _ 3 _ (omega arith) refl ∙ passed s 4 _ 4 _ (omega arith) (kind-known k w) ∙ short s 5 _ 5 _ (omega arith)
cut-more (in_identifiers {k = k} {cut = p} w l) = start-read k p w ∙ rw (lt-leb 25 (length (0xAF ∷ 0x01 ∷ 0x01 ∷ k ∷ 0x00 ∷ p)) (omega arith))
cut-more (in_length {front = f} x w c) =
    header_read w x ∙ ap (frame_payload (25 + length x) (header_at (f ++ x))) (cut-front x c) ∙ is_cut (25 + length x) (header_at (f ++ x))
cut-more (in_payload {front = f} n x p w spells small l) =
    header_read w (x ++ p)
    ∙ ap (frame_payload (25 + length (x ++ p)) (header_at (f ++ (x ++ p)))) (spelled-reads n x p 25 spells)
    ∙ is-short (25 + length (x ++ p)) (header_at (f ++ (x ++ p))) n (25 + length x) small (omega (arith, length-append x p))

-- ---- all bytes are one of these

abbrev Told : List ℕ → Type 0
Told s = (n : ℕ) × FrameNumber s n

told-fault : {n : ℕ} (f t : List ℕ) → Faulty f n → Told (f ++ t)
told-fault {n = n} f t w = (n, fault (record { front = f; rest = t; split = refl; faulty = w }))

told-cut : {s : List ℕ} → CutFrame s → Told s
told-cut w = (1, cut w)

module _ (f : List ℕ) (w : RightHeader f) where
  -- a length that was read
  told-number : (n : ℕ) (x t : List ℕ) → Spelled n x → Told (f ++ (x ++ t))
  told-number n x t spells = elim (dec_le n 16384) [
    | no l ↦ subst Told (append_assoc f x t) (told-fault (f ++ x) t (too_long n x w spells (omega arith)))
    | yes l ↦ elim (dec_le n (length t)) [
      | no c ↦ told-cut (in_payload n x t w spells l (omega arith))
      | yes c ↦
          let s : List ℕ = f ++ (x ++ t) in
          let read : frame_of s ≡ Frame (header_at s) (25 + length x) n =
          header_read w (x ++ t)
          ∙ ap (frame_payload (25 + length (x ++ t)) (header_at s)) (spelled-reads n x t 25 spells)
          ∙ payload-whole (25 + length (x ++ t)) (header_at s) n (25 + length x) l (omega (arith, length-append x t)) in
          (0, whole (header_at s) (25 + length x) n ((read-iff-frame s (header_at s) (25 + length x) n).0 read))
    ]
  ]

  -- ten bytes that are malformed by the tenth
  told-tenth : (t : List ℕ) → TenthAbove t → Told (f ++ t)
  told-tenth t (long, more, high) =
      let ten : length (take 10 t) ≡ 10 = length-take-le 10 t (omega arith) in
      let above : TenthAbove (take 10 t) =
      (omega (arith, ten), λ i h. rw (get_or-take 10 t i 0 (omega arith)) (more i h), rw (get_or-take 10 t 9 0 (omega arith)) high) in
      subst Told (append_assoc f (take 10 t) (drop 10 t) ∙ ap (λ (l : List ℕ). f ++ l) (take-append-drop 10 t))
      (told-fault (f ++ take 10 t) (drop 10 t) (tenth-byte (take 10 t) w ten above))

  told-spare : (t : List ℕ) → Spare t → Told (f ++ t)
  told-spare t (n, x, rest, e, g, two, last) =
      subst Told (append_assoc f x rest ∙ ap (λ (l : List ℕ). f ++ l) (sym e)) (told-fault (f ++ x) rest (spare-group n x w g two last))

  told-length : (t : List ℕ) → Told (f ++ t)
  told-length t = go (front_var_u_int t 25) refl
    where
      go : (v : VarUInt) → front_var_u_int t 25 ≡ v → Told (f ++ t)
      go Cut e = told-cut (in_length t w (cut_completed t 25 e))
      go Malformed e = ⊎_elim (told-spare t) (told-tenth t) ((malformed-iff t 25).0 e)
      go (Number n place) e =
          let r = read-spelled t 25 n place e in subst (λ (l : List ℕ). Told (f ++ l)) (sym r.split) (told-number n r.bytes r.rest r.spells)

told_identifiers : (k : ℕ) (t : List ℕ) → IsKind k → Told (0xAF ∷ 0x01 ∷ 0x01 ∷ k ∷ 0x00 ∷ t)
told_identifiers k t w = elim (dec_lt (length t) 20) [
  | yes l ↦ told-cut (in_identifiers w l)
  | no l ↦
      let front_var_u_int : List ℕ = 0xAF ∷ 0x01 ∷ 0x01 ∷ k ∷ 0x00 ∷ take 20 t in
      subst (λ (x : List ℕ). Told (0xAF ∷ 0x01 ∷ 0x01 ∷ k ∷ 0x00 ∷ x)) (take-append-drop 20 t)
      (told-length front_var_u_int (header w (length-take-le 20 t (omega arith))) (drop 20 t))
]

told-flags : (k : ℕ) (t : List ℕ) → IsKind k → Told (0xAF ∷ 0x01 ∷ 0x01 ∷ k ∷ t)
told-flags k [] w = told-cut (at-flags w)
told-flags k (f ∷ t) w = elim (ℕ_discrete f 0x00) [
  | yes e ↦ subst (λ (x : ℕ). Told (0xAF ∷ 0x01 ∷ 0x01 ∷ k ∷ x ∷ t)) (sym e) (told_identifiers k t w)
  | no d ↦ told-fault (0xAF ∷ 0x01 ∷ 0x01 ∷ k ∷ f ∷ []) t (flags w d)
]

told-kind : (t : List ℕ) → Told (0xAF ∷ 0x01 ∷ 0x01 ∷ t)
told-kind [] = told-cut at-kind
told-kind (k ∷ t) = elim (dec_le 1 k) [
  | yes low ↦ elim (dec_le k 8) [
    | yes high ↦ told-flags k t (low, high)
    | no l ↦ told-fault (0xAF ∷ 0x01 ∷ 0x01 ∷ k ∷ []) t (kind (λ w. l w.1))
  ]
  | no l ↦ told-fault (0xAF ∷ 0x01 ∷ 0x01 ∷ k ∷ []) t (kind (λ w. l w.0))
]

told-version : (t : List ℕ) → Told (0xAF ∷ 0x01 ∷ t)
told-version [] = told-cut at-version
told-version (v ∷ t) = elim (ℕ_discrete v 0x01) [
  | yes e ↦ subst (λ (x : ℕ). Told (0xAF ∷ 0x01 ∷ x ∷ t)) (sym e) (told-kind t)
  | no d ↦ told-fault (0xAF ∷ 0x01 ∷ v ∷ []) t (version d)
]

told : (s : List ℕ) → Told s
told [] = told-cut (in_magic (omega arith))
told (a ∷ []) = told-cut (in_magic (omega arith))
told (a ∷ b ∷ t) = elim (ℕ_discrete a 0xAF) [
  | yes e ↦ elim (ℕ_discrete b 0x01) [
    | yes e' ↦ subst (λ (x : ℕ). Told (x ∷ b ∷ t)) (sym e) (subst (λ (x : ℕ). Told (0xAF ∷ x ∷ t)) (sym e') (told-version t))
    | no d ↦ told-fault (a ∷ b ∷ []) t (magic (λ w. d w.1))
  ]
  | no d ↦ told-fault (a ∷ b ∷ []) t (magic (λ w. d w.0))
]

-- ---- the theorems

number-told : (s : List ℕ) {n : ℕ} → FrameNumber s n → read_number (frame_of s) ≡ n
number-told s (whole h place n w) = ap read_number ((read-iff-frame s h place n).1 w)
number-told s (cut w) = ap read_number (cut-more w)
number-told s (fault w) = ap read_number (fault-refused s w)

module _ (s : List ℕ) where
  -- The reader's number for any bytes is the one that they have by the relation: there is one, and no other.
  pub number-iff : (n : ℕ) → (read_number (frame_of s) ≡ n) ↔ FrameNumber s n
  number-iff n = (λ e. subst (FrameNumber s) (sym (number-told s (told s).1) ∙ e) (told s).1, number-told s)

  pub number-once : {n m : ℕ} → FrameNumber s n → FrameNumber s m → n ≡ m
  number-once w v = sym (number-told s w) ∙ number-told s v

  -- Bytes are refused with a number exactly where they start with the field at fault that has it, all before it right,
  pub refused-iff : (n : ℕ) → (frame_of s ≡ Refused n) ↔ FrameFault s n
  refused-iff n = (λ e. go (told s).1 e, fault-refused s)
    where
      go : {m : ℕ} → FrameNumber s m → frame_of s ≡ Refused n → FrameFault s n
      go (whole h place k w) e = let bad = sym e ∙ (read-iff-frame s h place k).1 w in differ cc
      go (cut w) e = let bad = sym e ∙ cut-more w in differ cc
      go (fault {number = m} w) e = let same : m ≡ n = cc (sym (fault-refused s w) ∙ e) in subst (FrameFault s) same w

  -- and ask for more exactly where they are cut.
  pub more-iff : (frame_of s ≡ More) ↔ CutFrame s
  more-iff = (λ e. go (told s).1 e, cut-more)
    where
      go : {m : ℕ} → FrameNumber s m → frame_of s ≡ More → CutFrame s
      go (whole h place k w) e = let bad = sym e ∙ (read-iff-frame s h place k).1 w in differ cc
      go (cut w) e = w
      go (fault w) e = let bad = sym e ∙ fault-refused s w in differ cc
