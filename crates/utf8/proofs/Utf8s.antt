-- Laws of `specs/Utf8.antt`.
use mathlib.Core.Path.{◌≡◌, refl, sym, ap, ap₂, subst, ◌∙◌}
use mathlib.Core.Bool.{Bool, true, false, ◌&&◌, not, and-true, and-false, and_assoc, cond}
use mathlib.Core.Logic.{⊎_elim, ◌↔◌}
use mathlib.Core.List.Memᴰ
use mathlib.Core.List.{List, [], ◌∷◌, ◌++◌, Memᴰ}
use Prim.Native.Nat.{ℕ, zero, suc, ◌+◌, ◌<◌, ◌≤◌}
use native.Mathlib.Numerals.{add-one}
use native.Mathlib.Omega.{arith}
use lib.Dec.{T, leb, ltb, lit<, ltb→lt, leb→le}
use lib.Ieee.Bits.{is_true}
use borrow.Author.Tests.{lt-leb, not-false}
use lib.ListN.{length, get_or, take, drop, length-take, take-append-drop}
use lib.Seq.{slice, slice-cons, length-slice, take-take, drop-drop, drop-cons, take-append_seam, drop-append_seam, take_at, drop_at}
use Rattle.utf8.specs.declared.Range.{Range}
use Rattle.utf8.specs.declared.Row.{Row}
use Rattle.utf8.specs.Utf8.{range, empty, rows, row_at, In, ranges, matches, is_char, Split, none, char, Utf8, lead_of, next, run, utf8}
use Rattle.wire.proofs.Cases.{cond-case}

pub and_both : (a b : Bool) → T (a && b) → T a × T b
and_both true b h = (tt, h)
and_both false b h = absurd h

pub both-and : (a b : Bool) → T a → T b → T (a && b)
both-and true b h k = k
both-and false b h k = absurd h

pub in_range : (g : Range) (b : ℕ) → T (In g b) → (g.0 ≤ b) × (b ≤ g.1)
in_range g b t = let both = and_both (leb g.0 b) (leb b g.1) t in (leb→le g.0 b both.0, leb→le b g.1 both.1)

-- ---- the rows and their ranges

-- a test of every row
abbrev pub every : (Row → Bool) → List Row → Bool
every f [] = true
every f (r ∷ rs) = f r && every f rs

pub every-at : (f : Row → Bool) (rs : List Row) (r : Row) → T (every f rs) → Memᴰ r rs → T (f r)
every-at f [] r t m = absurd (Memᴰ.not-nil m)
every-at f (q ∷ rs) r t m =
    let both = and_both (f q) (every f rs) t in
    ⊎_elim (λ e. subst (λ (p : Row). T (f p)) (sym e) both.0) (λ n. every-at f rs r both.1 n) (Memᴰ.cases_cons m)

-- a character has one to four bytes
pub row-size : (r : Row) → Memᴰ r rows → (1 ≤ r.0) × (r.0 ≤ 4)
unfolding rows
row-size r m = in_range (range 1 4) r.0 (every-at (λ (q : Row). In (range 1 4) q.0) rows r tt m)

row-length : (r : Row) → Memᴰ r rows → length (ranges r) ≡ r.0
row-length r m = omega (arith, length-take r.0 (r.1 ∷ r.2 ∷ r.3 ∷ r.4 ∷ []), (row-size r m).1)

begin : (n : ℕ) (g : Range) (gs : List Range) → 1 ≤ n → take n (g ∷ gs) ≡ g ∷ drop 1 (take n (g ∷ gs))
begin zero g gs h = absurd (omega arith)
begin (suc n) g gs h = refl

-- its first byte is in the lead range, and those after it are in the ranges that follow
row-begins : (r : Row) → Memᴰ r rows → ranges r ≡ r.1 ∷ drop 1 (ranges r)
row-begins r m = begin r.0 r.1 (r.2 ∷ r.3 ∷ r.4 ∷ []) (row-size r m).0

char_is : (r : Row) (b : ℕ) (c : List ℕ) → Memᴰ r rows → is_char r (b ∷ c) ≡ In r.1 b && matches (drop 1 (ranges r)) c
unfolding matches
char_is r b c m = ap (λ (gs : List Range). matches gs (b ∷ c)) (row-begins r m)

char-led : (r : Row) (b : ℕ) (c : List ℕ) → Memᴰ r rows → T (is_char r (b ∷ c)) → T (In r.1 b) × T (matches (drop 1 (ranges r)) c)
char-led r b c m t = and_both (In r.1 b) (matches (drop 1 (ranges r)) c) (subst T (char_is r b c m) t)

char-some : (r : Row) → Memᴰ r rows → T (is_char r []) → ⊥
unfolding matches
char-some r m t = subst T (ap (λ (gs : List Range). matches gs []) (row-begins r m)) t

matches-length : (gs : List Range) (c : List ℕ) → T (matches gs c) → length c ≡ length gs
unfolding matches
matches-length [] [] t = refl
matches-length [] (b ∷ c) t = absurd t
matches-length (g ∷ gs) [] t = absurd t
matches-length (g ∷ gs) (b ∷ c) t = ap suc (matches-length gs c (and_both (In g b) (matches gs c) t).1)

-- fewer bytes than the row asks for are no character of it
pub char-short : (r : Row) (c : List ℕ) → Memᴰ r rows → length c < r.0 → is_char r c ≡ false
char-short r c m h = none_of (is_char r c) (λ t. omega (arith, matches-length (ranges r) c t, row-length r m))
  where
    none_of : (t : Bool) → (T t → ⊥) → t ≡ false
    none_of true f = absurd (f tt)
    none_of false f = refl

-- ---- a byte leads characters of one row at most: the lead ranges are in order

abbrev above : ℕ → List Row → Bool
above h [] = true
above h (r ∷ rs) = ltb h r.1.0 && above h rs

abbrev in_order : List Row → Bool
in_order [] = true
in_order (r ∷ rs) = above r.1.1 rs && in_order rs

rows-order : T (in_order rows)
unfolding rows
rows-order = tt

above_low : (h : ℕ) (rs : List Row) (r : Row) → T (above h rs) → Memᴰ r rs → h < r.1.0
above_low h [] r t m = absurd (Memᴰ.not-nil m)
above_low h (q ∷ rs) r t m =
    let both = and_both (ltb h q.1.0) (above h rs) t in
    ⊎_elim (λ e. rw e (ltb→lt h q.1.0 both.0)) (λ n. above_low h rs r both.1 n) (Memᴰ.cases_cons m)

-- a byte of the first row's lead range is in none after it
apart : (b : ℕ) (p : Row) (rs : List Row) (r q : Row) → T (above p.1.1 rs) → r ≡ p → Memᴰ q rs → T (In r.1 b) → T (In q.1 b) → ⊥
apart b p rs r q t e n k l =
    let first = in_range p.1 b (subst (λ (o : Row). T (In o.1 b)) e k) in
    let later = in_range q.1 b l in
    omega (arith, above_low p.1.1 rs q t n, first.1, later.0)

lead-once : (b : ℕ) (rs : List Row) (r q : Row) → T (in_order rs) → Memᴰ r rs → Memᴰ q rs → T (In r.1 b) → T (In q.1 b) → r ≡ q
lead-once b [] r q t m n k l = absurd (Memᴰ.not-nil m)
lead-once b (p ∷ rs) r q t m n k l =
    let both = and_both (above p.1.1 rs) (in_order rs) t in
    ⊎_elim
    (λ (e : r ≡ p). ⊎_elim (λ (f : q ≡ p). e ∙ sym f) (λ n'. absurd (apart b p rs r q both.0 e n' k l)) (Memᴰ.cases_cons n))
    (λ m'. ⊎_elim (λ (f : q ≡ p). absurd (apart b p rs q r both.0 f m' l k)) (λ n'. lead-once b rs r q both.1 m' n' k l) (Memᴰ.cases_cons n))
    (Memᴰ.cases_cons m)

-- each character matches one row only
pub row-once : (c : List ℕ) (r q : Row) → Memᴰ r rows → Memᴰ q rows → T (is_char r c) → T (is_char q c) → r ≡ q
row-once [] r q m n f g = absurd (char-some r m f)
row-once (b ∷ c) r q m n f g = lead-once b rows r q rows-order m n (char-led r b c m f).0 (char-led q b c n g).0

-- ---- what is due after a byte

-- a fact of what is due after b: where a row has it, and where none has
lead-case : (P : List Range → Type 0) (b : ℕ) (rs : List Row) → (((r : Row) → Memᴰ r rs → T (In r.1 b) → ⊥) → P (empty ∷ []))
    → ((r : Row) → Memᴰ r rs → T (In r.1 b) → P (drop 1 (ranges r))) → P (lead_of b rs)
unfolding lead_of
lead-case P b [] bad f = bad (λ r m k. Memᴰ.not-nil m)
lead-case P b (r ∷ rs) bad f =
    cond-case P (In r.1 b) (drop 1 (ranges r)) (lead_of b rs) (λ e. f r (Memᴰ.head refl) (subst T (sym e) tt))
    (λ e. lead-case P b rs
    (λ no. bad (λ q m k. ⊎_elim (λ (o : q ≡ r). subst T (ap (λ (p : Row). In p.1 b) o ∙ e) k) (λ n. no q n k) (Memᴰ.cases_cons m)))
    (λ q m. f q (Memᴰ.tail m)))

lead-of : (b : ℕ) (r : Row) → Memᴰ r rows → T (In r.1 b) → next b ≡ drop 1 (ranges r)
unfolding next
lead-of b r m k =
    lead-case (λ (gs : List Range). gs ≡ drop 1 (ranges r)) b rows (λ no. absurd (no r m k))
    (λ q n l. ap (λ (p : Row). drop 1 (ranges p)) (lead-once b rows q r rows-order n m l k))

lead-step : (b k : ℕ) (rs : List Row) (d : Row) → k < length rs
    → let r = get_or rs k d in lead_of b (drop k rs) ≡ cond (In r.1 b) (drop 1 (ranges r)) (lead_of b (drop (suc k) rs))
unfolding lead_of
lead-step b k rs d h = rw (drop-cons rs k d)

-- by the rows from k on: the row r stands there, and its test came out as t
pub lead-row : (b k : ℕ) (r : Row) (t : Bool) → k < 9 → r ≡ row_at k → In r.1 b ≡ t
    → lead_of b (drop k rows) ≡ cond t (drop 1 (ranges r)) (lead_of b (drop (k + 1) rows))
unfolding rows
lead-row b k r t h e is =
    lead-step b k rows _ h
    ∙ ap₂ (λ (q : Row) (j : ℕ). cond (In q.1 b) (drop 1 (ranges q)) (lead_of b (drop j rows))) (sym e) (sym (add-one k))
    ∙ ap (λ (u : Bool). cond u (drop 1 (ranges r)) (lead_of b (drop (k + 1) rows))) is

-- the search ends at a row that has b, or at the last row
pub row-found : (b k : ℕ) (r : Row) → k < 9 → r ≡ row_at k → next b ≡ lead_of b (drop k rows) → In r.1 b ≡ true → lead_of b (r ∷ []) ≡ next b
unfolding lead_of
row-found b k r h e led is = rw is (sym (led ∙ lead-row b k r true h e is))

pub row_last : (b k : ℕ) (r : Row) → k ≡ 8 → r ≡ row_at k → next b ≡ lead_of b (drop k rows) → lead_of b (r ∷ []) ≡ next b
unfolding lead_of rows
row_last b k r h e led = sym (led ∙ lead-row b k r (In r.1 b) (omega arith) e refl ∙ ap (λ (j : ℕ). cond (In r.1 b) (drop 1 (ranges r)) (lead_of b (drop (j + 1) rows))) h)

mem-at : (rs : List Row) (k : ℕ) (d : Row) → k < length rs → Memᴰ (get_or rs k d) rs
mem-at [] k d h = absurd (omega arith)
mem-at (r ∷ rs) zero d h = Memᴰ.head refl
mem-at (r ∷ rs) (suc k) d h = Memᴰ.tail (mem-at rs k d (omega arith))

pub row-mem : (k : ℕ) (r : Row) → k < 9 → r ≡ row_at k → Memᴰ r rows
unfolding rows
row-mem k r h e = subst (λ (q : Row). Memᴰ q rows) (sym e) (mem-at rows k _ h)

-- ---- the test: the bytes due, and then characters

in_empty : (b : ℕ) → In empty b ≡ false
in_empty zero = refl
in_empty (suc b) = rw (lt-leb (suc b) 0 (omega arith), and-false (leb 1 (suc b)))

run-empty : (s : List ℕ) → run (empty ∷ []) s ≡ false
unfolding run
run-empty [] = refl
run-empty (b ∷ s) = rw (in_empty b)

-- for any number of bytes due
pub run-due : (gs : List Range) (s : List ℕ) → run gs s ≡ matches gs (take (length gs) s) && utf8 (drop (length gs) s)
unfolding run matches
run-due [] s = refl
run-due (g ∷ gs) [] = refl
run-due (g ∷ gs) (b ∷ s) =
    ap (λ (t : Bool). In g b && t) (run-due gs s) ∙ sym (and_assoc (In g b) (matches gs (take (length gs) s)) (utf8 (drop (length gs) s)))

run-matches : (gs : List Range) (c s : List ℕ) → T (matches gs c) → run gs (c ++ s) ≡ utf8 s
run-matches gs c s t =
    let long = matches-length gs c t in
    run-due gs (c ++ s) ∙ rw (take_at c s (length gs) long, drop_at c s (length gs) long, is_true (matches gs c) t)

-- a character in front changes nothing
pub run-char : (r : Row) (c s : List ℕ) → Memᴰ r rows → T (is_char r c) → utf8 (c ++ s) ≡ utf8 s
unfolding run
run-char r [] s m t = absurd (char-some r m t)
run-char r (b ∷ c) s m t =
    let led = char-led r b c m t in
    ap (λ (gs : List Range). run gs (c ++ s)) (lead-of b r m led.0) ∙ run-matches (drop 1 (ranges r)) c s led.1

-- ---- the test accepts what splits into characters, and nothing else

-- s is bytes in these ranges, and then characters
abbrev Rest : List Range → List ℕ → Type 0
Rest gs s = (c : List ℕ) × (t : List ℕ) × (s ≡ c ++ t) × T (matches gs c) × Utf8 t

sound : (s : List ℕ) (gs : List Range) → T (run gs s) → Rest gs s
unfolding run next matches
sound [] [] h = ([], [], refl, tt, ([], none))
sound [] (g ∷ gs) h = absurd h
sound (b ∷ s) [] h = (
  [],
  b ∷ s,
  refl,
  tt,
  lead-case (λ (gs : List Range). T (run gs s) → Utf8 (b ∷ s)) b rows (λ no k. absurd (subst T (run-empty s) k))
      (λ r m k e. let q = sound s (drop 1 (ranges r)) e in
      let is = subst T (sym (char_is r b q.0 m)) (both-and (In r.1 b) (matches (drop 1 (ranges r)) q.0) k q.3) in
      subst (λ (l : List ℕ). Utf8 (b ∷ l)) (sym q.2) ((b ∷ q.0) ∷ q.4.0, char r (b ∷ q.0) q.4.0 q.1 m is q.4.1)) h,
)
sound (b ∷ s) (g ∷ gs) h =
    let both = and_both (In g b) (run gs s) h in
    let q = sound s gs both.1 in
    (b ∷ q.0, q.1, ap (λ (l : List ℕ). b ∷ l) q.2, both-and (In g b) (matches gs q.0) both.0 q.3, q.4)

complete : {cs : List (List ℕ)} {s : List ℕ} → Split cs s → T (utf8 s)
unfolding run
complete none = tt
complete (char r c cs s m t u) = subst T (sym (run-char r c s m t)) (complete u)

pub utf8-is : (s : List ℕ) → (utf8 s ≡ true) ↔ Utf8 s
unfolding matches
utf8-is s = (λ h. let q = sound s [] (subst T (sym h) tt) in whole q.0 q.1 q.2 q.3 q.4, λ u. is_true (utf8 s) (complete u.1))
  where
    whole : (c t : List ℕ) → s ≡ c ++ t → T (matches [] c) → Utf8 t → Utf8 s
    whole [] t e f u = subst Utf8 (sym e) u
    whole (b ∷ c) t e f u = absurd f

-- ---- and the bytes split in one way only

-- two lists that begin alike, as far as parts of one length
parts : (c d s t : List ℕ) → length c ≡ length d → c ++ s ≡ d ++ t → (c ≡ d) × (s ≡ t)
parts c d s t l e = (
  sym (take-append_seam c s) ∙ ap (take (length c)) e ∙ take_at d t (length c) (sym l),
  sym (drop-append_seam c s) ∙ ap (drop (length c)) e ∙ drop_at d t (length c) (sym l),
)

first-once : (r q : Row) (c d s t : List ℕ) → Memᴰ r rows → Memᴰ q rows → T (is_char r c) → T (is_char q d) → c ++ s ≡ d ++ t → (c ≡ d) × (s ≡ t)
first-once r q [] d s t m n f g e = absurd (char-some r m f)
first-once r q (b ∷ c) [] s t m n f g e = absurd (char-some q n g)
first-once r q (b ∷ c) (a ∷ d) s t m n f g e =
    let same : b ≡ a = ap (λ (l : List ℕ). get_or l 0 0) e in
    let led = subst (λ (x : ℕ). T (In r.1 x)) same (char-led r b c m f).0 in
    let one = lead-once a rows r q rows-order m n led (char-led q a d n g).0 in
    parts (b ∷ c) (a ∷ d) s t
    (matches-length (ranges r) (b ∷ c) f ∙ ap (λ (p : Row). length (ranges p)) one ∙ sym (matches-length (ranges q) (a ∷ d) g)) e

not_none : (r : Row) (c s : List ℕ) → Memᴰ r rows → T (is_char r c) → [] ≡ c ++ s → ⊥
not_none r [] s m t e = char-some r m t
not_none r (b ∷ c) s m t e = omega (arith, ap length e)

pub split-once : (cs ds : List (List ℕ)) (s t : List ℕ) → Split cs s → Split ds t → s ≡ t → cs ≡ ds
split-once cs ds s t none none e = refl
split-once cs ds s t none (char q d ds' t' n g v) e = absurd (not_none q d t' n g e)
split-once cs ds s t (char r c cs' s' m f u) none e = absurd (not_none r c s' m f (sym e))
split-once cs ds s t (char r c cs' s' m f u) (char q d ds' t' n g v) e =
    let one = first-once r q c d s' t' m n f g e in
    ap₂ {C = List (List ℕ)} ◌∷◌ one.0 (split-once cs' ds' s' t' u v one.1)

-- a string is accepted exactly when it splits into characters that each match a row, and in one way only
pub accepted-once : (s : List ℕ) → (utf8 s ≡ true) ↔ ((cs : List (List ℕ)) × Split cs s × ((ds : List (List ℕ)) → Split ds s → ds ≡ cs))
accepted-once s = (
  λ h. let u = (utf8-is s).0 h in (u.0, u.1, λ ds v. split-once ds u.0 s s v u.1 refl),
  λ u. (utf8-is s).1 (u.0, u.1),
)

-- ---- at a place of a slice

part : (k i t : ℕ) (l : List ℕ) → i + k ≤ t → take k (slice i t l) ≡ take k (drop i l)
part k zero t l h = take-take k t l (omega arith)
part k (suc i) zero l h = absurd (omega arith)
part k (suc i) (suc t) [] h = refl
part k (suc i) (suc t) (x ∷ l) h = part k i t l (omega arith)

-- a byte more of a character: t is the test of those before it, and w its own
pub byte_more : (t w : Bool) (n at then : ℕ) (g : Range) (gs : List Range) (s : List ℕ) → then ≡ at + 1 → at < length s → w ≡ In g (get_or s at 0)
    → t && matches (take (suc n) (g ∷ gs)) (take (suc n) (drop at s)) ≡ (t && w) && matches (take n gs) (take n (drop then s))
unfolding matches
byte_more t w n at then g gs s o h e = rw (drop-cons s at 0 h, e, o, add-one at) (sym (and_assoc t (In g (get_or s at 0)) (matches (take n gs) (take n (drop (suc at) s)))))

-- k bytes that change nothing in front are passed
pub part-pass : (s : List ℕ) (i k to : ℕ) → i + k ≤ to → ((t : List ℕ) → utf8 (take k (drop i s) ++ t) ≡ utf8 t) → utf8 (slice (i + k) to s) ≡ utf8 (slice i to s)
part-pass s i k to h f =
    let l = slice i to s in
    sym (ap utf8 (sym (take-append-drop k l)) ∙ ap (λ (c : List ℕ). utf8 (c ++ drop k l)) (part k i to s h) ∙ f (drop k l) ∙ ap utf8 (drop-drop k i (take to s)))

-- a character of the row r is passed
pub row-pass : (s : List ℕ) (i to : ℕ) (r : Row) → Memᴰ r rows → i + r.0 ≤ to → is_char r (take r.0 (drop i s)) ≡ true
    → utf8 (slice (i + r.0) to s) ≡ utf8 (slice i to s)
row-pass s i to r m h is = part-pass s i r.0 to h (λ t. run-char r (take r.0 (drop i s)) t m (subst T (sym is) tt))

-- two bytes are passed whose tests by the row UTF8-2 are a and b
pub pair-pass : (s : List ℕ) (i to : ℕ) (a b : Bool) → i + 2 ≤ to → to ≤ length s → a ≡ In (row_at 1).1 (get_or s i 0) → b ≡ In (row_at 1).2 (get_or s (i + 1) 0)
    → not (a && b) ≡ false → utf8 (slice (i + 2) to s) ≡ utf8 (slice i to s)
unfolding rows matches
pair-pass s i to a b l h first second t =
    row-pass s i to (row_at 1) (row-mem 1 (row_at 1) (lit< tt) refl) l
    (byte_more true a 1 i (i + 1) (row_at 1).1 ((row_at 1).2 ∷ []) s refl (omega arith) first
    ∙ byte_more a b 0 (i + 1) (i + 2) (row_at 1).2 [] s (omega arith) (omega arith) second ∙ and-true (a && b) ∙ not-false (a && b) t)

-- no character of the row r stands at a place: its bytes are not in the ranges, or there are too few
pub row-none : (s : List ℕ) (i from to : ℕ) (r : Row) → i ≡ from → i + r.0 ≤ to → is_char r (take r.0 (drop i s)) ≡ false
    → is_char r (take r.0 (slice from to s)) ≡ false
row-none s i from to r e h f =
    ap (λ (j : ℕ). is_char r (take r.0 (slice j to s))) (sym e) ∙ ap (is_char r) (part r.0 i to s h) ∙ f

pub row-short : (s : List ℕ) (from to : ℕ) (r : Row) → Memᴰ r rows → to ≤ length s → to < from + r.0 → is_char r (take r.0 (slice from to s)) ≡ false
row-short s from to r m h l =
    char-short r (take r.0 (slice from to s)) m (omega (arith, length-take r.0 (slice from to s), length-slice from to s h, (row-size r m).0))

-- a row that has not the character at the place, though no other row has its lead byte
led_false : (r : Row) (b : ℕ) (l : List ℕ) → Memᴰ r rows → lead_of b (r ∷ []) ≡ next b → is_char r (take r.0 (b ∷ l)) ≡ false → utf8 (b ∷ l) ≡ false
unfolding run lead_of
led_false r b l m e f =
    ap (λ (gs : List Range). run gs l) (sym e)
    ∙ cond-case (λ (gs : List Range). run gs l ≡ false) (In r.1 b) after (empty ∷ [])
    (λ k. run-due after l ∙ ap (λ (t : Bool). t && utf8 (drop (length after) l)) (sym (ap (λ (t : Bool). t && matches after (take (length after) l)) k) ∙ sym (char_is r b _ m) ∙ cut ∙ f))
    (λ k. run-empty l)
  where
    after : List Range
    after = drop 1 (ranges r)

    cut : is_char r (b ∷ take (length after) l) ≡ is_char r (take r.0 (b ∷ l))
    cut = ap (λ (n : ℕ). is_char r (take n (b ∷ l))) (sym (ap length (row-begins r m)) ∙ row-length r m)

pub row-stops : (s : List ℕ) (i to : ℕ) (r : Row) → Memᴰ r rows → i < to → to ≤ length s → lead_of (get_or s i 0) (r ∷ []) ≡ next (get_or s i 0)
    → is_char r (take r.0 (slice i to s)) ≡ false → utf8 (slice i to s) ≡ false
row-stops s i to r m l h e f =
    let is = slice-cons i to s 0 l h in
    ap utf8 is ∙ led_false r (get_or s i 0) (slice (suc i) to s) m e (ap (λ (c : List ℕ). is_char r (take r.0 c)) (sym is) ∙ f)
