-- Laws of a struct's presence bits: what each return of `presence` shows.
use mathlib.Core.Path.{◌≡◌}
use mathlib.Core.Bool.{true, false}
use mathlib.Core.List.{List}
use Prim.Native.Nat.{ℕ, ◌+◌, ◌-◌, ◌/◌, ◌≤◌, ◌<◌}
use native.Mathlib.Omega.{arith}
use lib.ListN.{length}
use Rattle.buffer.specs.Span.{span}
use Rattle.wire.specs.Bitmap.{Present}
use Rattle.wire.specs.Little.{Bytes}
use Rattle.parse.specs.Reader.{Accepted, seen, and_then, check, cursor_at, block}
use Rattle.parse.proofs.Answers.{accepted-check}
use Rattle.parse.proofs.Places.{block_here, block-short}
use Rattle.schema.specs.Table.{Table}
use Rattle.value.specs.Read.{required_set, bitmap}
use Rattle.walks.specs.Shape.{fields_from}
use Rattle.walks.proofs.Presence.{length_fields, bits-read}
use Rattle.flat.specs.Head.{Bits, Refused}
use Rattle.flat.specs.Leaf.{Headed}

module _ (p : List ℕ) (T : Table) (first n at : ℕ) (room : first + n ≤ length T.fields) where
  pub head-cut : length p - at < (n + 7) / 8 → Headed p at (fields_from T first n) (bitmap (fields_from T first n) (cursor_at p at)) (Refused 20)
  unfolding bitmap and_then
  head-cut h = record { same = rw (length_fields T first n room, block-short p at ((n + 7) / 8) h); within = tt }

  module _ (word known ones unknown : ℕ) (inside : at + (n + 7) / 8 ≤ length p)
      (is : Present (span p at ((n + 7) / 8)) n word known ones unknown) where
    there : block ((n + 7) / 8) (cursor_at p at) ≡ seen (span p at ((n + 7) / 8)) (cursor_at p (at + (n + 7) / 8))
    there = block_here p at ((n + 7) / 8) (omega arith)

    pub head-known : Accepted (bitmap (fields_from T first n) (cursor_at p at)) → required_set (fields_from T first n) word ≡ true
    unfolding bitmap and_then
    head-known h =
        (accepted-check (required_set (fields_from T first n) word) 25 at (cursor_at p (at + (n + 7) / 8)) (λ _ c. seen word c)
        (rw (length_fields T first n room, there, ← is.word-is) at h)).0

    pub head-incomplete : required_set (fields_from T first n) word ≡ false
        → Headed p at (fields_from T first n) (bitmap (fields_from T first n) (cursor_at p at)) (Refused 25)
    unfolding bitmap and_then check
    head-incomplete h = record { same = rw (length_fields T first n room, there, ← is.word-is, h); within = tt }

    pub head-bits : required_set (fields_from T first n) word ≡ true → 0 < n → n ≤ 64 → Bytes p
        → Headed p at (fields_from T first n) (bitmap (fields_from T first n) (cursor_at p at)) (Bits word known ones unknown (at + (n + 7) / 8))
    unfolding bitmap and_then check
    head-bits h z few bytes =
        let many : length (fields_from T first n) ≡ n = length_fields T first n room in
        let b = bits-read (fields_from T first n) many p at inside bytes is in
        record { same = rw (many, there, ← is.word-is, h); within = (b.0, b.1, b.2, b.3, omega arith, inside, omega (arith, is.ones-few)) }
