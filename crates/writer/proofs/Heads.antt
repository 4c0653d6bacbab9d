-- Laws of a struct's presence bits: what each return of `struct_bits` shows.
use Rattle.std.specs.Prelude.{Result, Ok}
use mathlib.Core.Path.{◌≡◌, refl, sym, ◌∙◌}
use mathlib.Core.Bool.{Bool, true, false, not, ◌&&◌}
use mathlib.Core.List.{List}
use Prim.Native.Nat.{ℕ, ◌+◌, ◌/◌, ◌^◌, ◌≤◌, ◌<◌}
use native.Mathlib.Nat.{mod-lt}
use borrow.Author.Tests.{le-leb, lt-leb, eq-eqb, ne_eqb, eqb-true, not-true, not-false}
use lib.Bits.{bit_and}
use lib.Dec.{ltb, eqb}
use lib.ListN.{length}
use lib.Pow.{pow_pos}
use Rattle.buffer.specs.Span.{span}
use Rattle.wire.specs.Bitmap.{Present}
use Rattle.wire.specs.Little.{Bytes}
use Rattle.parse.specs.Reader.{CursorOf, refused, seen, and_then, check}
use Rattle.schema.specs.declared.Field.{Field}
use Rattle.schema.specs.Table.{Shape, struct}
use Rattle.schema.proofs.Bools.{clash}
use Rattle.value.specs.declared.Row.{Row}
use Rattle.value.specs.Read.{parts}
use Rattle.value.specs.Write.{row_due, bits_at}
use Rattle.walks.specs.Required.{Requires}
use Rattle.walks.proofs.Presence.{bits-read, word_below, word-above}
use Rattle.constants.specs.declared.refusal.Refusal.TheVariants.{Sheet, Outside, AbsentField}
use Rattle.constants.specs.declared.refusal.Refused.{Refused}
use Rattle.writer.specs.declared.leaf.RowSays.{RowSays}
use Rattle.writer.specs.Leaf.{rows_at, DueRow, head_says, HeadIn, Headed, HeadedBy}
use Rattle.writer.proofs.Leaves.{refused_at, due_in, row_read}

-- what is refused of the bitmap is refused of the row
row_bad : (inner : Bool) (B : List ℕ) (k : ℕ) (fs : List Field) (p c : ℕ) (cur : CursorOf Row) {number : ℕ} → bits_at B k fs p cur ≡ refused number k
    → refused number k ≡ head_says inner B k fs p c cur
unfolding and_then
row_bad true B k fs p c cur e = rw e
row_bad false B k fs p c cur e = rw e

module _ (B : List ℕ) {required n : ℕ} (p c k : ℕ) where
  pub head-outside : (inner : Bool) → length B < p + (n + 7) / 8 → HeadedBy B required n p c k inner (refused_at k Outside)
  unfolding bits_at and_then check
  head-outside inner h = record { same = λ fs many asks cur. row_bad inner B k fs p c cur (rw (many, lt-leb (p + (n + 7) / 8) (length B) h)); within = tt }

  module _ {word known ones unknown : ℕ} (inside : p + (n + 7) / 8 ≤ length B)
      (is : Present (span B p ((n + 7) / 8)) n word known ones unknown) where
    pub head-incomplete : (inner : Bool) → (bit_and required word ≡ required → ⊥) → HeadedBy B required n p c k inner (refused_at k AbsentField)
    unfolding bits_at and_then check
    head-incomplete inner h =
        record {
          same = λ fs many asks cur.
              row_bad inner B k fs p c cur (rw (many, le-leb (p + (n + 7) / 8) (length B) inside, ← is.word-is, sym (asks word) ∙ ne_eqb (bit_and required word) required h));
          within = tt;
        }

    module _ (bytes : Bytes B) (complete : bit_and required word ≡ required) where
      module _ (fs : List Field) (many : length fs ≡ n) (asks : Requires required fs) (cur : CursorOf Row) where
        word-seen : bits_at B k fs p cur ≡ seen word cur
        unfolding bits_at and_then check
        word-seen = rw (many, le-leb (p + (n + 7) / 8) (length B) inside, ← is.word-is, sym (asks word) ∙ eq-eqb (bit_and required word) required complete)

        unknown-said : (inner : Bool) → (inner && not (eqb word known)) ≡ true → refused 50 k ≡ head_says inner B k fs p c cur
        unfolding and_then check
        unknown-said true t =
            let b = bits-read fs many B p inside bytes is in
            let f : ltb word (2 ^ length fs) ≡ false = word-above (length fs) b.0 (λ e. clash (eqb word known) (eq-eqb word known e) (not-true (eqb word known) t)) in
            rw (word-seen, f)
        unknown-said false t = clash false t refl

        -- where no unknown bit counts, the row's count decides
        known-said : (inner : Bool) → (inner && not (eqb word known)) ≡ false
            → head_says inner B k fs p c cur ≡ and_then (check (eqb c ones) 50 k cur) (λ _ c₁. seen (parts 0 known) c₁)
        unfolding and_then
        known-said true t =
            let b = bits-read fs many B p inside bytes is in
            let e : word ≡ known = eqb-true word known (not-false (eqb word known) t) in
            let f : ltb word (2 ^ length fs) ≡ true = word_below (length fs) b.0 e in
            rw (word-seen, f, b.1, ← e)
        known-said false t =
            let b = bits-read fs many B p inside bytes is in
            rw (word-seen, b.1, b.0)

      pub head-unknown : (inner : Bool) → (inner && not (eqb word known)) ≡ true → HeadedBy B required n p c k inner (refused_at k Sheet)
      head-unknown inner t = record { same = λ fs many asks cur. unknown-said fs many asks cur inner t; within = tt }

      module _ (inner : Bool) (t : (inner && not (eqb word known)) ≡ false) where
        pub head-miscounted : (c ≡ ones → ⊥) → HeadedBy B required n p c k inner (refused_at k Sheet)
        unfolding and_then check
        head-miscounted h = record { same = λ fs many asks cur. rw (known-said fs many asks cur inner t, ne_eqb c ones h); within = tt }

        pub head-bits : c ≡ ones → HeadedBy B required n p c k inner (Ok known)
        unfolding and_then check
        head-bits e =
            record { same = λ fs many asks cur. rw (known-said fs many asks cur inner t, eq-eqb c ones e); within = rw is.known_is (mod-lt word (pow_pos n)) }

-- A struct's row that was found, with what its bits say.
pub record HeadRow (inner : Bool) (S : ℕ → Shape) (B cells : List ℕ) (row t n : ℕ) (fs : List Field) (head : Result ℕ Refused) : Type 0 where
  pub is : S t ≡ struct fs
  pub many : length fs ≡ n
  pub own : Row
  pub read : row_due t (rows_at cells row) ≡ seen own (rows_at cells (row + 1))
  pub inside : row < length cells / 4
  pub headed : Headed inner B fs own.place own.count row head
  pub within : HeadIn n head

pub head-row : {inner : Bool} {S : ℕ → Shape} {B cells : List ℕ} {row t required n : ℕ} {w : RowSays} {fs : List Field} {due : Result RowSays Refused} {head : Result ℕ Refused} → DueRow cells row t due → due ≡ Ok w
    → HeadedBy B required n w.place w.count row inner head → S t ≡ struct fs → length fs ≡ n → Requires required fs → HeadRow inner S B cells row t n fs head
head-row {t = t} {w = w} {fs} found e headed is many asks =
    record {
      is = is;
      many = many;
      own = record { ty = t; place = w.place; length = w.length; count = w.count };
      read = row_read found e;
      inside = (due_in found e).0;
      headed = headed.same fs many asks;
      within = headed.within;
    }

-- the known bits are those of the fields
pub head-fits : {inner : Bool} {S : ℕ → Shape} {B cells : List ℕ} {row t n : ℕ} {fs : List Field} {head : Result ℕ Refused} {known : ℕ}
    → HeadRow inner S B cells row t n fs head → head ≡ Ok known → known < 2 ^ n
head-fits w q = rw q at w.within
