-- Laws of texts put on a page, each after the one before it.
use mathlib.Core.Path.{◌≡◌, ap}
use mathlib.Core.List.{List, [], ◌∷◌, ◌++◌}
use Prim.Native.Nat.{ℕ, ◌+◌, ◌≤◌}
use native.Mathlib.Omega.{arith}
use lib.ListN.{length, take, drop, length-append}
use lib.Seq.{length-take-le}
use Rattle.buffer.proofs.Stores.{put-end, put-append, length-put, put_whole}
use Rattle.buffer.specs.Store.{put}
use Rattle.text.specs.declared.Page.{Page}
use Rattle.text.specs.Text.{Shown, put_on, AddedTo}

-- A text, and then another; and none.
pub put_both : (p : Shown) (a b : List ℕ) → put_on (put_on p a) b ≡ put_on p (a ++ b)
unfolding put_on
put_both p a b =
    rw (put-append p.bytes p.len a b, length-append) (let e : p.len + length a + length b ≡ p.len + (length a + length b) = omega arith in rw e)

pub put_none : (p : Shown) → put_on p [] ≡ p
unfolding put_on
put_none p = let e : p.len + 0 ≡ p.len = omega arith in rw (e, put-end p.bytes p.len)

pub put_nothing : (p : Shown) (text : List ℕ) → length text ≡ 0 → put_on p text ≡ p
put_nothing p [] h = put_none p
put_nothing p (b ∷ text) h = absurd (omega (arith, h))

pub added_len : (p q : Page) (text : List ℕ) → AddedTo p q text → q.len ≡ p.len + length text
unfolding put_on
added_len p q text f = ap (λ (s : Shown). s.len) f

-- ---- the whole buffer

-- A buffer with room for a text from its start on holds it whole, and is as it was after it.
pub whole : (out text : List ℕ) → length text ≤ length out → put out 0 text ≡ text ++ drop (length text) out
whole out text h = put_whole out text h

pub same_length : (out : List ℕ) (pos : ℕ) (text : List ℕ) → length (put out pos text) ≡ length out
same_length out pos text = length-put out pos text

pub counted : (s : List ℕ) (n : ℕ) → n ≤ length s → length (take n s) ≡ n
counted s n h = length-take-le n s h

pub ruleset whole_text = (whole, same_length, counted)
