-- Laws of the readers of a block, a VarUInt and a count: what they read, what they accept, what they refuse and why.
use mathlib.Core.Path.{◌≡◌, refl, sym, ap, ◌∙◌}
use mathlib.Core.Logic.{inl, inr, ⊎_elim}
use mathlib.Core.List.{List, [], ◌++◌, append-nil}
use mathlib.Core.Bool.{true}
use Prim.Native.Nat.{ℕ, ◌+◌, ◌-◌, ◌*◌, ◌≤◌, ◌<◌}
use native.Mathlib.Omega.{arith}
use lib.Dec.{leb}
use lib.ListN.{length, take, drop, take-append-drop, length-append, get_or-append}
use lib.Seq.{length-take-le, take-append_seam, drop-append_seam, get_or-take}
use borrow.Author.Tests.{leb-true, leb-false, le-leb, lt-leb}
use Rattle.wire.specs.Varuint.{front_var_u_int, Spelled, Completed, TenthAbove, VarUInt, Number, Cut, Malformed}
use Rattle.wire.proofs.Varuints.{read-spelled, spelled-reads, spelled-cut, cut_completed, malformed-iff}
use Rattle.parse.specs.Reader.{Cursor, refused, seen, and_then, check, number_read, block, var_u_int, MalformedBytes, enough, count}
use Rattle.parse.proofs.Answers.{Seen, value as holds, seen-then, seen-check, Reads, not-ok, ok, stay, reads_then, reads-check, passes, steps, fails}
use Rattle.parse.proofs.Blames.{Blames, fine, blames, blames-check}

-- ---- what they read

pub block_reads : (n : ℕ) (c : Cursor) → Reads c (λ x u. (u ≡ x) × (length x ≡ n)) (block n c)
unfolding block
block_reads n c =
    reads-check _ _ _ _ _ (λ e.
    let l : n ≤ length c.left = leb-true n _ e in
    ok (take n c.left) (sym (take-append-drop n c.left)) (rw (length-take-le n c.left l)) (refl, length-take-le n c.left l))

-- What is left after the bytes u.
pub past : (s u rest : List ℕ) (at next : ℕ) → s ≡ u ++ rest → next ≡ at + length u → drop (next - at) s ≡ rest
past s u rest at next e h =
    let k : next - at ≡ length u = omega arith in
    rw (k, e, drop-append_seam)

pub var_reads : (c : Cursor) → Reads c (λ n u. Spelled n u) (var_u_int c)
unfolding var_u_int
var_reads c = go (front_var_u_int c.left c.at) refl
  where
    go : (r : VarUInt) → front_var_u_int c.left c.at ≡ r → Reads c (λ n u. Spelled n u) (number_read c r)
    go (Number n next) e =
        let s = read-spelled c.left c.at n next e in
        ok s.bytes (s.split ∙ ap (λ (l : List ℕ). s.bytes ++ l) (sym (past c.left s.bytes s.rest c.at next s.split s.place))) s.place s.spells
    go Cut e = not-ok
    go Malformed e = not-ok

pub count-reads : (least : ℕ) (c : Cursor) → Reads c (λ n u. Spelled n u) (count least c)
unfolding count
count-reads least c = reads_then (var_reads c) (λ n c' u s. reads-check _ _ _ _ _ (λ e. stay (rw append-nil s)))

-- After a length or a count there is enough.
pub count-enough : (least : ℕ) (c : Cursor) → Seen (λ n c'. least * n ≤ length c'.left) (count least c)
unfolding count
count-enough least c = seen-then _ (λ n c' _. seen-check _ _ _ _ _ (λ e. holds (leb-true _ _ e)))

-- ---- what they accept

pub block-complete : (n : ℕ) (x rest : List ℕ) (c : Cursor) → length x ≡ n → c.left ≡ x ++ rest → block n c ≡ seen x (record { left = rest; at = c.at + n })
unfolding block and_then check
block-complete n x rest c h e =
    let l : leb (length x) (length (x ++ rest)) ≡ true = le-leb (length x) (length (x ++ rest)) (simp length-append (omega arith)) in
    rw (← h, e, l, take-append_seam, drop-append_seam)

pub var_complete : (n : ℕ) (u rest : List ℕ) (c : Cursor) → Spelled n u → c.left ≡ u ++ rest → var_u_int c ≡ seen n (record { left = rest; at = c.at + length u })
unfolding var_u_int
var_complete n u rest c s e =
    let f : front_var_u_int c.left c.at ≡ Number n (c.at + length u) = rw e (spelled-reads n u rest c.at s) in
    rw (f, past c.left u rest c.at (c.at + length u) e refl)

pub count-complete : (least n : ℕ) (u rest : List ℕ) (c : Cursor) → Spelled n u → c.left ≡ u ++ rest → least * n ≤ length rest
    → count least c ≡ seen n (record { left = rest; at = c.at + length u })
unfolding count and_then
count-complete least n u rest c s e h =
    let room : enough least n rest ≡ true = omega (arith, le-leb) in
    rw (var_complete n u rest c s e, passes (enough least n rest) 20 c.at (record { left = rest; at = c.at + length u }) room)

-- ---- what they refuse has its reason

-- Ten bytes in front of a VarUInt that is malformed by its tenth.
ten : (s : List ℕ) → TenthAbove s → (length (take 10 s) ≡ 10) × TenthAbove (take 10 s)
ten s (long, more, high) =
    let l : length (take 10 s) ≡ 10 = length-take-le 10 s (omega arith) in
    (l, (omega arith, λ i h. rw (get_or-take 10 s i 0 (omega arith)) (more i h), rw (get_or-take 10 s 9 0 (omega arith)) high))

module _ {F : (u x rest : List ℕ) → ℕ → Type 0} (c : Cursor) where
  pub block-blames : (n : ℕ) → (length c.left < n → F [] c.left [] 20) → Blames c F (block n c)
  unfolding block
  block-blames n f =
      blames-check _ _ _ _ _ (λ e. blames [] c.left [] (sym (append-nil c.left)) (omega arith) (f (leb-false n _ e))) (λ _. fine)

  pub var_blames : (Completed Spelled c.left → F [] c.left [] 20) → ((x rest : List ℕ) → MalformedBytes x → F [] x rest 21) → Blames c F (var_u_int c)
  unfolding var_u_int
  var_blames f g = go (front_var_u_int c.left c.at) refl
    where
      go : (r : VarUInt) → front_var_u_int c.left c.at ≡ r → Blames c F (number_read c r)
      go (Number n next) e = fine
      go Cut e = blames {p = c.at} [] c.left [] (sym (append-nil c.left)) (omega arith) (f (cut_completed c.left c.at e))
      go Malformed e =
          ⊎_elim
          (λ (n, x, rest, split, groups, two, last). blames {p = c.at} [] x rest split (omega arith) (g x rest (inl (n, groups, two, last))))
          (λ w. blames {p = c.at} [] (take 10 c.left) (drop 10 c.left) (sym (take-append-drop 10 c.left)) (omega arith) (g _ _ (inr (ten c.left w))))
          ((malformed-iff c.left c.at).0 e)

-- ---- what has a reason they refuse

module _ (c : Cursor) where
  pub block_refused : (n : ℕ) (x : List ℕ) → c.left ≡ x ++ [] → length x < n → block n c ≡ refused 20 c.at
  unfolding block
  block_refused n x l h = fails c _ (lt-leb n (length c.left) (rw (l, append-nil) h)) refl

  pub var_cut : (x : List ℕ) → c.left ≡ x ++ [] → Completed Spelled x → var_u_int c ≡ refused 20 c.at
  unfolding var_u_int
  var_cut x l (n, t, some, s) =
      let e : front_var_u_int c.left c.at ≡ Cut = rw (l, append-nil) (rw (take-append_seam x t) at (spelled-cut n (x ++ t) (length x) c.at s (simp length-append (omega arith)))) in
      rw e

  malformed_bad : (x rest : List ℕ) → MalformedBytes x → front_var_u_int (x ++ rest) c.at ≡ Malformed
  malformed_bad x rest (inl (n, groups, two, last)) = (malformed-iff (x ++ rest) c.at).1 (inl (n, x, rest, refl, groups, two, last))
  malformed_bad x rest (inr (l, (long, more, high))) =
      (malformed-iff (x ++ rest) c.at).1
      (inr (simp length-append (omega arith), λ i h. rw (get_or-append x rest 0 i (omega arith)) (more i h), rw (get_or-append x rest 0 9 (omega arith)) high))

  pub var_bad : (x rest : List ℕ) → c.left ≡ x ++ rest → MalformedBytes x → var_u_int c ≡ refused 21 c.at
  unfolding var_u_int
  var_bad x rest l w = rw (l, malformed_bad x rest w)

  pub count-refused : (a n : ℕ) (x rest : List ℕ) → c.left ≡ x ++ rest → Spelled n x → length rest < a * n → count a c ≡ refused 20 c.at
  unfolding count
  count-refused a n x rest l s h = steps _ (var_complete n x rest c s l) (fails _ _ (lt-leb (a * n) (length rest) h) refl)
