-- The test and the relation agree: the test gives a length exactly where an entry of that length starts.
use mathlib.Core.Path.{◌≡◌, refl, sym, ap, subst, ◌∙◌}
use mathlib.Core.Logic.{◌↔◌, ⊎_elim}
use mathlib.Core.Bool.{Bool, true, false, cond}
use mathlib.Core.List.{List, [], ◌∷◌, ◌++◌}
use Prim.Native.Nat.{ℕ, zero, suc, ◌+◌, ◌≤◌}
use native.Mathlib.Omega.{arith}
use borrow.Author.Tests.{eqb-true}
use lib.Dec.{eqb}
use lib.ListN.{length, take, length-append}
use lib.Seq.{take_at}
use Rattle.wire.proofs.Varuints.{spelled-pos}
use Rattle.schema.proofs.Bools.{or_cases}
use Rattle.frame.specs.declared.Header.{Header}
use Rattle.frame.specs.FrameRead.{FrameRead, More, Frame, Refused}
use Rattle.frame.specs.Frame.{frame_of}
use Rattle.frame.specs.IsFrame as frame
use Rattle.frame.proofs.Frames.{read-is-frame}
use Rattle.frame.proofs.Theorems.{frame-read, starts}
use Rattle.record.specs.Entry.{is_side, size_of, entry_length}
use Rattle.record.specs.IsEntry.{Side, client, server, IsEntry, entry, Starts, NoEntry}

-- A frame takes 26 bytes at least: 25 and its length.
pub frame-least : {h : Header} {payload f : List ℕ} → frame.IsFrame h payload f → 26 ≤ length f
frame-least (frame.frame size low high p s m c spells small) =
    rw (length-append, length-append, length-append, length-append, length-append)
    (omega (arith, p.width, s.width, m.width, c.width, spelled-pos _ size spells))

side-is : (b : ℕ) → is_side b ≡ true → Side b
side-is b e = ⊎_elim (λ h. subst Side (sym (eqb-true b 67 h)) client) (λ h. subst Side (sym (eqb-true b 83 h)) server) (or_cases (eqb b 67) (eqb b 83) e)

side-test : {b : ℕ} → Side b → is_side b ≡ true
side-test client = refl
side-test server = refl

-- An entry is found, whatever follows it.
pub entry_found : {e : List ℕ} → IsEntry e → (rest : List ℕ) → entry_length (e ++ rest) ≡ length e
unfolding entry_length
entry_found (entry {h = h} {payload = p} {frame = f} side is) rest =
    rw (side-test side, frame-read rest is) (omega (arith, (starts rest is).end))

-- An entry takes 27 bytes at least.
pub entry-least : {e : List ℕ} → IsEntry e → 27 ≤ length e
entry-least (entry side is) = omega (arith, frame-least is)

-- Where the test gives a length, an entry of that length starts.
pub entry-there : (s : List ℕ) → (entry_length s ≡ 0 → ⊥) → Starts s (take (entry_length s) s)
unfolding entry_length
entry-there [] h = absurd (h refl)
entry-there (side ∷ bytes) h = by_side (is_side side) refl h
  where
    by-frame : (v : FrameRead) → frame_of bytes ≡ v → is_side side ≡ true → (size_of v ≡ 0 → ⊥) → Starts (side ∷ bytes) (take (size_of v) (side ∷ bytes))
    by-frame More e t z = absurd (z refl)
    by-frame (Refused n) e t z = absurd (z refl)
    by-frame (Frame h place n) e t z =
        let w = read-is-frame bytes e in
        let size : 1 + place + n ≡ length (side ∷ w.frame) = omega (arith, w.end) in
        let split : side ∷ bytes ≡ (side ∷ w.frame) ++ w.rest = ap (λ (b : List ℕ). side ∷ b) w.split in
        let front : take (1 + place + n) (side ∷ bytes) ≡ side ∷ w.frame = ap (take (1 + place + n)) split ∙ take_at (side ∷ w.frame) w.rest (1 + place + n) (sym size) in
        subst (Starts (side ∷ bytes)) (sym front) (record { rest = w.rest; split = split; is = entry (side-is side t) w.is })

    by_side : (b : Bool) → is_side side ≡ b → (cond b (size_of (frame_of bytes)) 0 ≡ 0 → ⊥) → Starts (side ∷ bytes) (take (cond b (size_of (frame_of bytes)) 0) (side ∷ bytes))
    by_side true t z = by-frame (frame_of bytes) refl t z
    by_side false t z = absurd (z refl)

-- The length that the test gives lies within the bytes.
pub entry-inside : (s : List ℕ) → entry_length s ≤ length s
entry-inside s = go (entry_length s) refl
  where
    go : (n : ℕ) → entry_length s ≡ n → n ≤ length s
    go zero e = omega arith
    go (suc n) e =
        let w = entry-there s (λ z. absurd (omega (arith, e, z))) in
        let k = entry_found w.is w.rest in
        let same : entry_length s ≡ length (take (entry_length s) s) = ap entry_length w.split ∙ k in
        omega (arith, e, same, ap length w.split, length-append (take (entry_length s) s) w.rest)

-- The test gives a length exactly where an entry of that length starts.
pub entry-iff : (s : List ℕ) (n : ℕ) → (entry_length s ≡ suc n) ↔ ((e : List ℕ) × (Starts s e × (length e ≡ suc n)))
entry-iff s n = (found, starting)
  where
    found : entry_length s ≡ suc n → (e : List ℕ) × (Starts s e × (length e ≡ suc n))
    found k =
        let w = entry-there s (λ z. absurd (omega (arith, k, z))) in
        (take (entry_length s) s, (w, sym (entry_found w.is w.rest) ∙ ap entry_length (sym w.split) ∙ k))

    starting : (e : List ℕ) × (Starts s e × (length e ≡ suc n)) → entry_length s ≡ suc n
    starting w = ap entry_length w.1.0.split ∙ entry_found w.1.0.is w.1.0.rest ∙ w.1.1

-- It gives 0 exactly where none starts.
pub none-iff : (s : List ℕ) → (entry_length s ≡ 0) ↔ NoEntry s
none-iff s = (none, by_length (entry_length s) refl)
  where
    none : entry_length s ≡ 0 → NoEntry s
    none z e w = absurd (omega (arith, z, ap entry_length w.split ∙ entry_found w.is w.rest, entry-least w.is))

    by_length : (n : ℕ) → entry_length s ≡ n → NoEntry s → entry_length s ≡ 0
    by_length zero k h = k
    by_length (suc n) k h = absurd (h _ (entry-there s (λ z. absurd (omega (arith, k, z)))))

-- Bytes start with one entry at most.
pub one_entry : {s e e' : List ℕ} → Starts s e → Starts s e' → e ≡ e'
one_entry {s} {e} {e'} w w' =
    let size : length e ≡ length e' = sym (entry_found w.is w.rest) ∙ ap entry_length (sym w.split ∙ w'.split) ∙ entry_found w'.is w'.rest in
    sym (take_at e w.rest (length e) refl) ∙ ap (take (length e)) (sym w.split ∙ w'.split) ∙ take_at e' w'.rest (length e) (sym size)
