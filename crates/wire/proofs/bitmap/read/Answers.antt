-- `wire::bitmap::read` meets its contract: the machine's counts of the word are those of the bits.
use mathlib.Core.Path.{◌≡◌, sym, ap, ◌∙◌}
use Prim.Native.Nat.{ℕ, ◌+◌, ◌-◌, ◌*◌, ◌/◌, ◌%◌, ◌^◌, ◌≤◌, ◌<◌}
use native.Mathlib.Nat.{le_refl, mod-lt}
use native.Mathlib.Omega.{arith}
use lib.Count.{ones, ones_in, ones-le}
use lib.ListN.{length, take, drop, length-drop}
use lib.Pow.{pow_pos, shr_lt}
use lib.Seq.{length-take-le}
use Rattle.wire.specs.Little.{little, Bytes}
use Rattle.wire.proofs.Numbers.{bytes_drop, bytes_take, little-below, pow-bytes}
use Rattle.wire.proofs.Bitmaps.{ones_split, ones_in_lem, ones_low, known-count, unknown-count}
use Rattle.wire.proofs.bitmap.read.Goals as goal

pub returns : goal.returns
returns c =
    let a = c.args in
    let x = c.number-bits.result in
    let w = (a.n + 7) / 8 in
    let l = take w (drop a.at a.s.now) in
    let is : x ≡ little l = c.number-bits.ensures in
    let low = c.low_bits-known.ensures in
    let bytes : Bytes l = bytes_take w (drop a.at a.s.now) (bytes_drop a.s.now a.at (λ i. omega (arith, c.type_inv.s i))) in
    let long : length l ≡ w = length-take-le w (drop a.at a.s.now) (rw length-drop (omega arith)) in
    let room : a.n ≤ 8 * length l = omega arith in
    let above = 8 * length l - a.n in
    let whole : above + a.n ≡ 8 * length l = omega arith in
    let fits : x < 2 ^ (above + a.n) = rw (whole, is, ← pow-bytes (length l)) (little-below l (length l) bytes (le_refl (length l))) in
    let high = ones_in_lem above (x / 2 ^ a.n) (shr_lt above a.n fits) ∙ ap (λ (y : ℕ). ones_in above (y / 2 ^ a.n)) is ∙ sym (unknown-count l a.n bytes room) in
    record {
      word-is = is;
      known_is = low;
      ones-are = ap ones low ∙ ones_low a.n x ∙ ap (ones_in a.n) is ∙ sym (known-count l a.n bytes room);
      ones-few = rw low (ones-le a.n (x % 2 ^ a.n) (mod-lt x (pow_pos a.n)));
      unknown-is = omega (arith, ones_split x a.n, ap ones low, high);
    }

pub overflow_sub-result : goal.overflow_sub-result
overflow_sub-result c = omega (arith, ones_split c.number-bits.result c.args.n, ap ones c.low_bits-known.ensures)
