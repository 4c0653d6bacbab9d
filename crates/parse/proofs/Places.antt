-- Laws of a reader at a place of a payload: where it stands, and what it answers there.
use mathlib.Core.Path.{◌≡◌, sym, ap, ◌∙◌}
use mathlib.Core.List.{List, ◌++◌}
use Prim.Native.Nat.{ℕ, ◌+◌, ◌-◌, ◌*◌, ◌≤◌, ◌<◌}
use native.Mathlib.Omega.{arith}
use borrow.Author.Tests.{le-leb, lt-leb}
use lib.ListN.{length, drop, length-append, length-drop}
use lib.Seq.{take-append_seam, drop-append_seam, drop-drop}
use Rattle.buffer.specs.Span.{span, SpanIs}
use Rattle.wire.specs.Varuint.{varuint, Number, Cut, Malformed}
use Rattle.wire.proofs.Varuints.{varuint-inside}
use Rattle.parse.specs.Reader.{Cursor, Answer, refused, seen, and_then, check, cursor_at, block, var_u_int, count}
use Rattle.parse.proofs.Answers.{Seen, nothing, value as holds, seen-map, Reads, not-ok, ok}
use Rattle.parse.proofs.Pieces.{block_reads, count-reads}

module _ (B : List ℕ) where
  -- The cursor stands in the payload B.
  abbrev pub On : Cursor → Type 0
  On c = (c.left ≡ drop c.at B) × (c.at ≤ length B)

  passed : (c c' : Cursor) (u : List ℕ) → On c → c.left ≡ u ++ c'.left → c'.at ≡ c.at + length u → On c' × SpanIs B c.at (length u) u
  passed c c' u o l k =
      let e : u ++ c'.left ≡ drop c.at B = sym l ∙ o.0 in
      let n : length u + length c'.left ≡ length B - c.at = sym (length-append u c'.left) ∙ ap length e ∙ length-drop c.at B in
      let a : drop (length u) (u ++ c'.left) ≡ drop (length u) (drop c.at B) = rw e in (
        (rw k (sym (drop-append_seam u c'.left) ∙ a ∙ drop-drop (length u) c.at B), omega arith),
        (omega arith, rw (← e) (sym (take-append_seam u c'.left))),
      )

  -- A reader stays in the payload.
  pub stays_on : {A : Type 0} {R : A → List ℕ → Type 0} {c : Cursor} {m : Answer A} → On c → Reads c R m
      → Seen (λ a c'. On c' × ((u : List ℕ) × (c'.at ≡ c.at + length u) × SpanIs B c.at (length u) u × R a u)) m
  stays_on o not-ok = nothing
  stays_on {c} o (ok {c'} u l k r) = let w = passed c c' u o l k in holds (w.0, (u, k, w.1, r))

  pub block-placed : (n : ℕ) (c : Cursor) → On c → Seen (λ x c'. On c' × (c'.at ≡ c.at + length x) × (length x ≡ n) × SpanIs B c.at n x) (block n c)
  block-placed n c o =
      seen-map (stays_on o (block_reads n c)) (λ x c' w.
      let r = w.1.3 in
      (w.0, rw r.0 at w.1.1, r.1, rw (r.0, r.1) at w.1.2))

  pub count-placed : (least : ℕ) (c : Cursor) → On c → Seen (λ n c'. On c') (count least c)
  count-placed least c o = seen-map (stays_on o (count-reads least c)) (λ n c' w. w.0)

-- ---- what a VarUInt, a block and a count answer there

module _ (p : List ℕ) (at : ℕ) where
  pub var_here : (n next : ℕ) → varuint p at ≡ Number n next → var_u_int (cursor_at p at) ≡ seen n (cursor_at p next)
  unfolding var_u_int
  var_here n next e =
      let i = varuint-inside p at n next e in
      let f : at + (next - at) ≡ next = omega arith in
      rw (e, drop-drop (next - at) at p, f)

  pub cut-here : varuint p at ≡ Cut → var_u_int (cursor_at p at) ≡ refused 20 at
  unfolding var_u_int
  cut-here e = rw e

  pub malformed-here : varuint p at ≡ Malformed → var_u_int (cursor_at p at) ≡ refused 21 at
  unfolding var_u_int
  malformed-here e = rw e

  pub block_here : (n : ℕ) → n ≤ length p - at → block n (cursor_at p at) ≡ seen (span p at n) (cursor_at p (at + n))
  unfolding block check and_then
  block_here n h =
      let l : n ≤ length (drop at p) = rw length-drop h in
      rw (le-leb n (length (drop at p)) l, drop-drop n at p)

  pub block-short : (n : ℕ) → length p - at < n → block n (cursor_at p at) ≡ refused 20 at
  unfolding block check and_then
  block-short n h =
      let l : length (drop at p) < n = rw length-drop h in
      rw (lt-leb n (length (drop at p)) l)

  module _ (least : ℕ) where
    pub count-stops : (n q : ℕ) → var_u_int (cursor_at p at) ≡ refused n q → count least (cursor_at p at) ≡ refused n q
    unfolding count and_then
    count-stops n q e = rw e

    module _ (n start : ℕ) (is : var_u_int (cursor_at p at) ≡ seen n (cursor_at p start)) where
      pub count-short : length p - start < least * n → count least (cursor_at p at) ≡ refused 20 at
      unfolding count and_then check
      count-short h =
          let l : length (drop start p) < least * n = rw length-drop h in
          rw (is, lt-leb (least * n) (length (drop start p)) l)

      pub count-here : least * n ≤ length p - start → count least (cursor_at p at) ≡ seen n (cursor_at p start)
      unfolding count and_then check
      count-here h =
          let l : least * n ≤ length (drop start p) = rw length-drop h in
          rw (is, le-leb (least * n) (length (drop start p)) l)
