-- Laws of a page's lines: each turn of the code that looks for a line and puts it, and that a page of single lines has just these.
use Rattle.std.specs.Prelude.{◌≢◌}
use mathlib.Core.Path.{◌≡◌, refl, ap, ◌∙◌}
use mathlib.Core.Bool.{Bool, true, false, not, ◌&&◌, false≢true}
use mathlib.Core.List.{List, [], ◌∷◌, ◌++◌}
use Prim.Native.Nat.{ℕ, zero, suc, ◌+◌, ◌-◌, ◌≤◌, ◌<◌}
use native.Mathlib.Omega.{arith}
use borrow.Author.Tests.{eq-eqb, ne_eqb, not-true}
use lib.Dec.{eqb}
use lib.ListN.{length, get_or, drop, drop_of_length-le}
use lib.Seq.{drop-cons}
use Rattle.text.specs.Page.{line_of, page_of, one_line, one_lines, page_entry}

-- ---- no byte is left

line-none : (n : ℕ) → line_of n [] ≡ []
unfolding line_of
line-none zero = refl
line-none (suc n) = refl

pub line_past : (page : List ℕ) (n at : ℕ) → length page ≤ at → line_of n (drop at page) ≡ []
line_past page n at h = ap (line_of n) (drop_of_length-le page h) ∙ line-none n

-- ---- one byte

module _ (page : List ℕ) (at : ℕ) (h : at < length page) where
  split : drop at page ≡ get_or page at 0 ∷ drop (at + 1) page
  split = let e : at + 1 ≡ suc at = omega arith in rw e (drop-cons page at 0 h)

  -- the end of a line that is passed
  pub pass_end : (n : ℕ) → 0 < n → get_or page at 0 ≡ 10 → line_of n (drop at page) ≡ line_of (n - 1) (drop (at + 1) page)
  unfolding line_of
  pass_end zero l e = absurd (omega arith)
  pass_end (suc n) l e = let k : suc n - 1 ≡ n = omega arith in rw (k, split, eq-eqb (get_or page at 0) 10 e)

  -- another byte of such a line
  pub pass_byte : (n : ℕ) → 0 < n → get_or page at 0 ≢ 10 → line_of n (drop at page) ≡ line_of n (drop (at + 1) page)
  unfolding line_of
  pass_byte zero l e = absurd (omega arith)
  pass_byte (suc n) l e = rw (split, ne_eqb (get_or page at 0) 10 e)

  -- the end of the line that is put, and another byte of it
  pub put_end : (n : ℕ) → n ≡ 0 → get_or page at 0 ≡ 10 → line_of n (drop at page) ≡ []
  unfolding line_of
  put_end n z e = rw (z, split, eq-eqb (get_or page at 0) 10 e)

  pub put_byte : (n : ℕ) → n ≡ 0 → get_or page at 0 ≢ 10 → line_of n (drop at page) ≡ (get_or page at 0 ∷ []) ++ line_of n (drop (at + 1) page)
  unfolding line_of
  put_byte n z e = rw (z, split, ne_eqb (get_or page at 0) 10 e)

-- Each turn of the code that looks for a line and puts it.
pub ruleset line_turns = (line_past, pass_end, pass_byte, put_end, put_byte)

-- ---- a page of single lines

and_left : (a b : Bool) → (a && b) ≡ true → a ≡ true
and_left true b h = refl
and_left false b h = h

and_right : (a b : Bool) → (a && b) ≡ true → b ≡ true
and_right true b h = h
and_right false b h = absurd (false≢true h)

first-line : (l s : List ℕ) → one_line l ≡ true → line_of 0 (l ++ (10 ∷ s)) ≡ l
unfolding line_of one_line
first-line [] s e = refl
first-line (b ∷ l) s e =
    let n : eqb b 10 ≡ false = not-true (eqb b 10) (and_left (not (eqb b 10)) (one_line l) e) in
    rw n (ap (λ (t : List ℕ). b ∷ t) (first-line l s (and_right (not (eqb b 10)) (one_line l) e)))

later-line : (l s : List ℕ) (n : ℕ) → one_line l ≡ true → line_of (suc n) (l ++ (10 ∷ s)) ≡ line_of n s
unfolding line_of one_line
later-line [] s n e = refl
later-line (b ∷ l) s n e =
    let k : eqb b 10 ≡ false = not-true (eqb b 10) (and_left (not (eqb b 10)) (one_line l) e) in
    rw k (later-line l s n (and_right (not (eqb b 10)) (one_line l) e))

-- Line n of a page is entry n of its lines.
pub line-of_page : (ls : List (List ℕ)) (n : ℕ) → one_lines ls ≡ true → line_of n (page_of ls) ≡ page_entry n ls
unfolding one_lines page_of page_entry
line-of_page [] n e = line-none n
line-of_page (l ∷ ls) zero e = first-line l (page_of ls) (and_left (one_line l) (one_lines ls) e)
line-of_page (l ∷ ls) (suc n) e = later-line l (page_of ls) n (and_left (one_line l) (one_lines ls) e) ∙ line-of_page ls n (and_right (one_line l) (one_lines ls) e)
