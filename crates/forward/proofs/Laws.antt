-- Laws of what is forwarded: the tail, the root's presence bytes, and the bytes joined.
use mathlib.Core.Path.{◌≡◌, refl, sym, ap, ap₂, subst, ◌∙◌}
use mathlib.Core.Logic.{⊎_elim}
use mathlib.Core.List.{List, ◌∷◌, ◌++◌, append-nil}
use mathlib.Core.Bool.{true, false, not}
use Prim.Native.Nat.{ℕ, ◌+◌, ◌≤◌}
use native.Mathlib.Omega.{arith}
use native.Mathlib.Decide.{dec_le}
use borrow.Author.Tests.{leb-true, le-leb, eqb-true, eqb-false, eq-eqb, ne_eqb, not-true}
use lib.Dec.{leb, eqb}
use lib.ListN.{length, take, drop, length-append, length-drop}
use lib.Seq.{drop_at, take_at}
use Rattle.buffer.specs.Span.{span}
use Rattle.buffer.proofs.Spans.{length-span}
use Rattle.wire.specs.Little.{Bytes}
use Rattle.wire.proofs.Numbers.{length-bytes}
use Rattle.schema.specs.declared.Field.{Field}
use Rattle.schema.specs.Table.{Shape, struct, bitmap_bytes}
use Rattle.schema.proofs.Bools.{cases, and_left, and_right, and_i, or_left, or_right, or_cases}
use Rattle.value.specs.declared.Row.{Row}
use Rattle.value.specs.Value.{Tree, tip, branch, rows, rows_all, Value, value}
use Rattle.value.specs.Spell.{TailFits, RootSpells, encode}
use Rattle.value.specs.Fits.{RootFits, Shows}
use Rattle.value.proofs.Shapes.{Solid}
use Rattle.value.proofs.Encode.{root-parts}
use Rattle.value.proofs.Root.{root-tail}
use Rattle.value.proofs.Written.{root-written}
use Rattle.forward.specs.Forward.{root_place, root_bytes, root_unknown, suits, spliced}

-- ---- the tail

-- The test is the relation.
pub suits-fits : (k n : ℕ) → suits k n ≡ true → (k ≤ n) × (k ≡ 0 → n ≡ 0)
suits-fits k n e = (
  leb-true k n (and_left (leb k n) _ e),
  λ z. ⊎_elim (λ h. absurd (eqb-false k 0 (not-true (eqb k 0) h) z)) (λ h. eqb-true n 0 h) (or_cases (not (eqb k 0)) (eqb n 0) (and_right (leb k n) _ e)),
)

pub fits-suits : (k n : ℕ) → (k ≤ n) × (k ≡ 0 → n ≡ 0) → suits k n ≡ true
fits-suits k n h = and_i (leb k n) _ (le-leb k n h.0) (elim (dec_le k 0) [
  | yes l ↦ or_right (not (eqb k 0)) (eqb n 0) (eq-eqb n 0 (h.1 (omega arith)))
  | no g ↦ or_left (not (eqb k 0)) (eqb n 0) (ap not (ne_eqb k 0 (λ z. g (omega arith))))
])

pub unfit-suits : (k n : ℕ) → ((k ≤ n) × (k ≡ 0 → n ≡ 0) → ⊥) → suits k n ≡ false
unfit-suits k n h = ⊎_elim (λ e. absurd (h (suits-fits k n e))) (λ e. e) (cases (suits k n))

-- ---- a sheet that shows a root

module _ (S : ℕ → Shape) (B : List ℕ) (t : ℕ) (fs : List Field) where
  -- The presence bytes of its row stand in the bytes.
  fits-inside : (tree : Tree) (rs : List Row) → rows tree ≡ rs → RootFits S B t fs tree → root_place rs + bitmap_bytes (length fs) ≤ length B
  unfolding rows
  fits-inside (tip r x) rs e f = absurd f
  fits-inside (branch r h ts) rs e f = rw (← e) f.2.0

  -- It is the first row.
  fits-first : (tree : Tree) (rs : List Row) → rows tree ≡ rs → RootFits S B t fs tree → (r : Row) × (below : List Row) × (rs ≡ r ∷ below)
  unfolding rows
  fits-first (tip r x) rs e f = absurd f
  fits-first (branch r h ts) rs e f = (r, rows_all ts, sym e)

  -- There are as many in its encoding.
  fits-long : S t ≡ struct fs → (tree : Tree) → RootFits S B t fs tree → bitmap_bytes (length fs) ≤ length (encode S (value tree) t)
  unfolding value encode
  fits-long st (tip r x) f = absurd f
  fits-long st (branch r h ts) f = rw st (simp length-append (omega (arith, length-bytes (bitmap_bytes (length fs)) h)))

  -- Its encoding, with the bits as they stand and a tail that fits them, spells it.
  fits-spells : ((t : ℕ) → Solid (S t)) → S t ≡ struct fs → (tree : Tree) (rs : List Row) → rows tree ≡ rs → RootFits S B t fs tree
      → length (encode S (value tree) t) ≤ 16384 → (tail : List ℕ) → TailFits (root_unknown fs rs B) tail
      → RootSpells S fs (value tree) (spliced (root_bytes fs rs B) (encode S (value tree) t) tail) tail
  unfolding rows value
  fits-spells solid st (tip r x) rs e f l tail fit = absurd f
  fits-spells solid st (branch r h ts) rs e f l tail fit =
      let (m, _, bits, known, _, _) = f in
      let (m₁, x, y, whole, bitmap, _, all, _) = root-written S solid B t fs st (branch r h ts) f l in
      let long = length-span B r.place (bitmap_bytes (length fs)) bits.0 in
      let whole' : encode S (value (branch r h ts)) t ≡ x ++ y = whole ∙ ap (λ (z : List ℕ). x ++ z) (append-nil y) in
      let rest : drop (length (span B r.place (bitmap_bytes (length fs)))) (encode S (value (branch r h ts)) t) ≡ y =
      ap (drop (length (span B r.place (bitmap_bytes (length fs))))) whole' ∙ drop_at x y (length (span B r.place (bitmap_bytes (length fs)))) (bitmap.0 ∙ sym long) in
      let fit' : TailFits (root_unknown fs (rows (branch r h ts)) B) tail = subst (λ (l : List Row). TailFits (root_unknown fs l B) tail) (sym e) fit in
      subst (λ (l : List Row). RootSpells S fs (value (branch r h ts)) (spliced (root_bytes fs l B) (encode S (value (branch r h ts)) t) tail) tail) e (
        m,
        span B r.place (bitmap_bytes (length fs)),
        drop (length (span B r.place (bitmap_bytes (length fs)))) (encode S (value (branch r h ts)) t),
        refl,
        (long, sym bits.1, bits.2),
        known,
        rw rest all,
        rw bits.1 fit',
      )

module _ (S : ℕ → Shape) (B : List ℕ) (t : ℕ) (fs : List Field) (st : S t ≡ struct fs) (rs : List Row) (v : Value) (shows : Shows S B t fs rs v) where
  pub root-inside : root_place rs + bitmap_bytes (length fs) ≤ length B
  root-inside = fits-inside S B t fs shows.0 rs shows.1 shows.2

  pub root-first : (r : Row) × (below : List Row) × (rs ≡ r ∷ below)
  root-first = fits-first S B t fs shows.0 rs shows.1 shows.2

  pub bytes-length : length (root_bytes fs rs B) ≡ bitmap_bytes (length fs)
  bytes-length = length-span B (root_place rs) (bitmap_bytes (length fs)) root-inside

  pub root-long : bitmap_bytes (length fs) ≤ length (encode S v t)
  root-long = rw (← shows.3) (fits-long S B t fs st shows.0 shows.2)

  -- The whole is as long as the encoding and the tail.
  pub joined_length : (tail : List ℕ) → length (spliced (root_bytes fs rs B) (encode S v t) tail) ≡ length (encode S v t) + length tail
  joined_length tail =
      let b = bytes-length in
      let l = root-long in
      simp (length-append, length-drop) (omega arith)

  pub joined-front : (tail : List ℕ) → take (bitmap_bytes (length fs)) (spliced (root_bytes fs rs B) (encode S v t) tail) ≡ root_bytes fs rs B
  joined-front tail = take_at (root_bytes fs rs B) _ (bitmap_bytes (length fs)) bytes-length

  pub joined-spells : ((t : ℕ) → Solid (S t)) → length (encode S v t) ≤ 16384 → (tail : List ℕ) → TailFits (root_unknown fs rs B) tail
      → RootSpells S fs v (spliced (root_bytes fs rs B) (encode S v t) tail) tail
  joined-spells solid l tail fit =
      subst (λ (w : Value). RootSpells S fs w (spliced (root_bytes fs rs B) (encode S w t) tail) tail) shows.3
      (fits-spells S B t fs solid st shows.0 rs shows.1 shows.2 (rw shows.3 l) tail fit)

  -- Bytes that spell the value with these presence bytes and this tail are those, and the tail fits.
  module _ (out tail : List ℕ) (b : Bytes out) (q : RootSpells S fs v out tail) (front : take (bitmap_bytes (length fs)) out ≡ root_bytes fs rs B) where
    pub spelled-joined : out ≡ spliced (root_bytes fs rs B) (encode S v t) tail
    spelled-joined =
        root-parts S t fs st v out tail b q
        ∙ ap₂ (λ (x : List ℕ) (i : ℕ). x ++ (drop i (encode S v t) ++ tail)) front (sym bytes-length)

    pub spelled-fits : TailFits (root_unknown fs rs B) tail
    spelled-fits = rw front at (root-tail S fs v out tail q)
