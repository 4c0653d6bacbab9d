-- The numbers of the refusals. A value's are 20 to 28 and 31: no type of a good table leads to another number.
use mathlib.Core.Path.{◌≡◌}
use mathlib.Core.List.{List}
use Prim.Native.Nat.{ℕ, ◌<◌}
use native.Mathlib.Omega.{arith}
use lib.Dec.{lit≤}
use Rattle.parse.specs.Reader.{Cursor, Answer, refused, seen}
use Rattle.parse.proofs.Blames.{Blames, fine, blames}
use Rattle.schema.specs.declared.Field.{Field}
use Rattle.schema.specs.Table.{Table, Shape, struct, shape}
use Rattle.schema.specs.Good.{GoodSchema}
use Rattle.value.specs.declared.Row.{Row}
use Rattle.value.specs.Read.{root_struct}
use Rattle.value.specs.Reasons.{BitmapFault, cut, absent, OwnFault, cut-number, bad_number, exceeds, cut-scalar, no_bool, no_string, many-pairs, bits, unknown-bit}
use Rattle.value.specs.Reasons.{Faulty, too_deep, own, inner, repeated, RootFault, bits as root-bits, field, surplus, short-tail}
use Rattle.value.specs.Reasons.{Reason, no-struct, too_long, faulty, too_few-rows}
use Rattle.value.specs.SheetReasons as sheet
use Rattle.value.specs.Numbered as listed
use Rattle.value.specs.Numbered.{ValueFault, within-list, many-pairs as pairs, ReadNumber, WriteNumber}
use Rattle.value.proofs.Refusals.{good-blames}

-- an answer that is no refusal, or one with a number of a value's fault
pub data Numbered {A : Type 0} : Answer A → Type 0 where
  refuses : {k p : ℕ} → ValueFault k → Numbered (refused k p)
  goes_on : {a : A} {c : Cursor} → Numbered (seen a c)

bitmap-number : {fs : List Field} {x rest : List ℕ} {n : ℕ} → BitmapFault fs x rest n → ValueFault n
bitmap-number (cut h) = within-list (lit≤ tt) (lit≤ tt)
bitmap-number (absent i l a) = within-list (lit≤ tt) (lit≤ tt)

own-number : {s : Shape} {u x rest : List ℕ} {n : ℕ} → OwnFault s u x rest n → ValueFault n
own-number (cut-number h w) = within-list (lit≤ tt) (lit≤ tt)
own-number (bad_number h w) = within-list (lit≤ tt) (lit≤ tt)
own-number (exceeds m s h) = within-list (lit≤ tt) (lit≤ tt)
own-number (cut-scalar h) = within-list (lit≤ tt) (lit≤ tt)
own-number (no_bool h) = within-list (lit≤ tt) (lit≤ tt)
own-number (no_string s h) = within-list (lit≤ tt) (lit≤ tt)
own-number (many-pairs m s room h) = pairs
own-number (bits f) = bitmap-number f
own-number (unknown-bit m s b) = within-list (lit≤ tt) (lit≤ tt)

module _ {S : ℕ → Shape} where
  value-number : {d t n : ℕ} {u x rest : List ℕ} → Faulty S d t u x rest n → ValueFault n
  value-number too_deep = within-list (lit≤ tt) (lit≤ tt)
  value-number (own f) = own-number f
  value-number (inner due f) = value-number f
  value-number (repeated due key v s h) = within-list (lit≤ tt) (lit≤ tt)

  pub fault-number : {fs : List Field} {u x rest : List ℕ} {n : ℕ} → RootFault S fs u x rest n → ValueFault n
  fault-number (root-bits f) = bitmap-number f
  fault-number (field due f) = value-number f
  fault-number (surplus due none some) = within-list (lit≤ tt) (lit≤ tt)
  fault-number (short-tail due few) = within-list (lit≤ tt) (lit≤ tt)

pub root-numbered : (T : Table) → GoodSchema T → (t : ℕ) (fs : List Field) → shape T t ≡ struct fs → (c : Cursor) → Numbered (root_struct (shape T) t fs c)
root-numbered T good t fs st c = go (good-blames T good t fs st c)
  where
    go : {A : Type 0} {m : Answer A} → Blames c (RootFault (shape T) fs) m → Numbered m
    go fine = goes_on
    go (blames u x rest l k f) = refuses (fault-number f)

pub reason-number : {S : ℕ → Shape} {t room n p : ℕ} {payload : List ℕ} → Reason S t payload room n p → ReadNumber n
reason-number (no-struct h) = listed.no-struct
reason-number (too_long fs st h) = listed.too_long
reason-number (faulty fs u x rest st short e f) = listed.value (fault-number f)
reason-number (too_few-rows fs v tail st short s h) = listed.too_few-rows

-- ---- of a sheet

module _ {B : List ℕ} where
  bits-number : {fs : List Field} {p n : ℕ} → sheet.BitsFault B fs p n → WriteNumber n
  bits-number (sheet.outside h) = listed.outside
  bits-number (sheet.absent i h a) = listed.absent-field

  row_number : {s : Shape} {p n c number : ℕ} → sheet.RowFault B s p n c number → WriteNumber number
  row_number (sheet.scalar-unfit h) = listed.unfit
  row_number (sheet.scalar-outside w h) = listed.outside
  row_number (sheet.no_bool b w s h) = listed.no_bool
  row_number (sheet.text-unfit h) = listed.unfit
  row_number (sheet.text-outside h) = listed.outside
  row_number (sheet.no_string x s h) = listed.no_string
  row_number (sheet.many-pairs h) = listed.many-pairs
  row_number (sheet.bits f) = bits-number f
  row_number (sheet.struct-unfit m s h) = listed.unfit

  shown-number : {S : ℕ → Shape} {d t n : ℕ} {u x rest : List Row} → sheet.SheetFaulty B S d t u x rest n → WriteNumber n
  shown-number sheet.too_deep = listed.too_deep
  shown-number (sheet.no_row h) = listed.unfit
  shown-number (sheet.own of-type f) = row_number f
  shown-number (sheet.inner due f) = shown-number f
  shown-number (sheet.repeated tree due key f h) = listed.repeated-key

  sheet-number : {S : ℕ → Shape} {t n : ℕ} {fs : List Field} {u x rest : List Row} → sheet.SheetFault B S t fs u x rest n → WriteNumber n
  sheet-number (sheet.no_row h) = listed.unfit
  sheet-number (sheet.bits of-type f) = bits-number f
  sheet-number (sheet.miscounted m of-type s h) = listed.unfit
  sheet-number (sheet.field due f) = shown-number f
  sheet-number (sheet.left_over due some) = listed.unfit

pub sheet-reason-number : {S : ℕ → Shape} {t room n k : ℕ} {rs : List Row} {B : List ℕ} → sheet.SheetReason S t rs B room n k → WriteNumber n
sheet-reason-number (sheet.no-struct h) = listed.no-struct
sheet-reason-number (sheet.faulty fs u x rest st e f) = sheet-number f
sheet-reason-number (sheet.too_long fs v st s h) = listed.too_long
sheet-reason-number (sheet.too_small fs v st s h h') = listed.too_small

-- ---- none is 0

pub read-number-above : {n : ℕ} → ReadNumber n → 0 < n
read-number-above (listed.value (within-list low high)) = omega arith
read-number-above (listed.value pairs) = omega arith
read-number-above listed.no-struct = omega arith
read-number-above listed.too_long = omega arith
read-number-above listed.too_few-rows = omega arith

pub write-number-above : {n : ℕ} → WriteNumber n → 0 < n
write-number-above listed.no_bool = omega arith
write-number-above listed.no_string = omega arith
write-number-above listed.repeated-key = omega arith
write-number-above listed.absent-field = omega arith
write-number-above listed.too_deep = omega arith
write-number-above listed.many-pairs = omega arith
write-number-above listed.unfit = omega arith
write-number-above listed.outside = omega arith
write-number-above listed.no-struct = omega arith
write-number-above listed.too_long = omega arith
write-number-above listed.too_small = omega arith
