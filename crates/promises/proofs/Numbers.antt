-- What `read_beside`, `write`, `forward` and `write_value_frame` answer, in numbers, with the sheet or the output afterwards.
use mathlib.Core.Path.{◌≡◌, refl, ap}
use mathlib.Core.Logic.{◌↔◌}
use mathlib.Core.List.{List, ◌++◌}
use Prim.Native.Nat.{ℕ, ◌≤◌, ◌<◌}
use native.Mathlib.Omega.{arith}
use lib.ListN.{length, drop}
use Rattle.wire.specs.Little.{Bytes}
use Rattle.schema.specs.declared.Field.{Field}
use Rattle.schema.specs.Table.{struct}
use Rattle.schema.specs.File.{table_of}
use Rattle.schema.specs.Check.{IsGood}
use Rattle.schema.specs.Extend.{Widens}
use Rattle.value.specs.declared.Row.{Row}
use Rattle.value.specs.Beside.{DelimitedBeside}
use Rattle.value.specs.Sheet.{rows_of}
use Rattle.value.specs.Claims.{Writes}
use Rattle.frame.specs.declared.Header.{Header}
use Rattle.reader.specs.Reading.{Shown, Refused}
use Rattle.flat.specs.Sheet.{shown_in}
use Rattle.reader.specs.Entry as reading
use Rattle.reader.specs.Beside.{beside_outcome}
use Rattle.writer.specs.Entry.{file_outcome}
use Rattle.writer.specs.Numbers.{numbers}
use Rattle.writer.proofs.Numbers.{refused-told, written-told}
use Rattle.forward.specs.Entry.{forward_outcome}
use Rattle.forward.specs.Claims.{Forwards}
use Rattle.valueframe.specs.Entry.{frame_outcome}
use Rattle.valueframe.specs.Claims.{InTurn, Unwritten, table, kind, value, surplus, full}
use Rattle.valueframe.proofs.InTurn.{written-iff_in_turn, refused-iff-unwritten}
use Rattle.promises.specs.Claims.{shapes, WriteReason, ForwardReason}
use Rattle.promises.specs.Beside.{RefusedBeside}
use Rattle.promises.proofs.Beside.{listed, refused-numbers, rows-beside}
use Rattle.promises.proofs.Refusals.{write-refused-iff, write-refused-above, file-above}
use Rattle.promises.proofs.ReadBack.{written-iff-shown}
use Rattle.promises.proofs.Forwarding as forward

through : {A B C : Type 0} → A ↔ B → B ↔ C → A ↔ C
through (f, g) (h, k) = (λ a. h (f a), λ c. g (k c))

-- ---- the reader with another's table beside

module _ (o : reading.Outcome) (after : List ℕ) where
  shown-told : ((n q : ℕ) (out : List ℕ) → o ≡ reading.outcome (Refused n q) out → 0 < n) → (k place n c : ℕ)
      → ((reading.numbers (reading.reading_in o) ≡ record { number = 0; place = 0; rows = k; tail_place_of = place; tail_length_of = n; comparisons = c }) × (reading.sheet_in o ≡ after))
      ↔ (o ≡ reading.outcome (Shown k place n c) after)
  shown-told above k place n c = (λ (e, f). go o above e f, λ e. rw e (refl, refl))
    where
      go : (o : reading.Outcome) → ((n q : ℕ) (out : List ℕ) → o ≡ reading.outcome (Refused n q) out → 0 < n)
          → reading.numbers (reading.reading_in o) ≡ record { number = 0; place = 0; rows = k; tail_place_of = place; tail_length_of = n; comparisons = c }
          → reading.sheet_in o ≡ after → o ≡ reading.outcome (Shown k place n c) after
      go (reading.outcome (Shown k' place' n' c') out) above e f =
          cc (ap (λ (x : reading.Numbers). x.rows) e, ap (λ (x : reading.Numbers). x.tail_place_of) e, ap (λ (x : reading.Numbers). x.tail_length_of) e, ap (λ (x : reading.Numbers). x.comparisons) e, f)
      go (reading.outcome (Refused m q) out) above e f = absurd (omega (arith, above m q out refl, ap (λ (x : reading.Numbers). x.number) e))

  unread-told : (n q : ℕ) → 0 < n
      → (((reading.numbers (reading.reading_in o)).number ≡ n) × ((reading.numbers (reading.reading_in o)).place ≡ q) × (reading.sheet_in o ≡ after))
      ↔ (o ≡ reading.outcome (Refused n q) after)
  unread-told n q h = (λ (e, f, g). go o e f g, λ e. rw e (refl, refl, refl))
    where
      go : (o : reading.Outcome) → (reading.numbers (reading.reading_in o)).number ≡ n → (reading.numbers (reading.reading_in o)).place ≡ q → reading.sheet_in o ≡ after
          → o ≡ reading.outcome (Refused n q) after
      go (reading.outcome (Shown k place m c) out) e f g = absurd (omega (arith, h, e))
      go (reading.outcome (Refused m p) out) e f g = cc (e, f, g)

module _ (ours theirs : List ℕ) (ty : ℕ) (payload sheet after : List ℕ) where
  abbrev answered : reading.Outcome
  answered = beside_outcome ours theirs ty payload sheet

  -- By good files, of which theirs extends ours but for the bitmaps, and for a struct of ours, 0 comes back with rows, tail and comparisons exactly for the
  -- rows of the tree that delimits the payload by theirs, without the added fields.
  pub zero-iff-beside : IsGood ours → IsGood theirs → Widens (table_of ours) (table_of theirs) → (fs : List Field) → shapes ours ty ≡ struct fs → (k place n comparisons : ℕ)
      → ((reading.numbers (reading.reading_in answered) ≡ record { number = 0; place = 0; rows = k; tail_place_of = place; tail_length_of = n; comparisons = comparisons }) × (reading.sheet_in answered ≡ after))
      ↔ ((rs : List Row) × DelimitedBeside (shapes ours) (shapes theirs) ty payload (reading.room sheet) rs place n comparisons × (length rs ≡ k) × (after ≡ shown_in sheet rs))
  zero-iff-beside good good' widens fs st k place n comparisons =
      through (shown-told answered after (λ m q out e. omega (arith, refused-numbers ours theirs ty payload sheet m q out e)) k place n comparisons)
      (rows-beside ours theirs good good' widens ty fs st payload sheet k place n comparisons after)

  -- Any other number comes back with a place only for a reason of the list, and leaves the sheet untouched.
  pub number-refused-beside : (n q : ℕ) → 0 < n
      → (((reading.numbers (reading.reading_in answered)).number ≡ n) × ((reading.numbers (reading.reading_in answered)).place ≡ q) × (reading.sheet_in answered ≡ after))
      → RefusedBeside ours theirs ty payload (reading.room sheet) n q × (after ≡ sheet)
  number-refused-beside n q h w = listed ours theirs ty payload sheet n q after ((unread-told answered after n q h).0 w)

-- ---- the writer

module _ (s : List ℕ) (ty : ℕ) (sheet B out : List ℕ) where
  -- By a good file 0 comes back with a length exactly when the sheet shows a value whose encoding has that length, is a payload and fits into the output.
  -- It stands at the output's front, and past it nothing changes.
  pub zero-iff-shown : IsGood s → (n : ℕ) (out' : List ℕ) → (numbers (file_outcome s ty sheet B out) ≡ record { number = 0; place = 0; length = n; out = out' })
      ↔ ((bs : List ℕ) × Writes (shapes s) ty (rows_of sheet) B (length out) bs × (length bs ≡ n) × (out' ≡ bs ++ drop n out))
  zero-iff-shown good n out' =
      through (written-told (file_outcome s ty sheet B out) (write-refused-above s ty sheet B out) n out') (written-iff-shown s good ty sheet B out n out')

  -- Any other number comes back with a place exactly for its reason, and leaves the output untouched.
  pub number-iff-refused : (n q : ℕ) (out' : List ℕ) → 0 < n
      → (numbers (file_outcome s ty sheet B out) ≡ record { number = n; place = q; length = 0; out = out' })
      ↔ ((out' ≡ out) × WriteReason s ty (rows_of sheet) B (length out) n q)
  number-iff-refused n q out' h = through (refused-told (file_outcome s ty sheet B out) n q out' h) (write-refused-iff s ty sheet B out n q out')

-- ---- the forwarding writer

module _ (s : List ℕ) (ty : ℕ) (sheet B : List ℕ) (place m : ℕ) (out : List ℕ) where
  -- 0 comes back with a length exactly when the file is good and bytes of that length spell the value that the sheet shows, end in the tail, and keep the
  -- root's presence bytes; they stand at the output's front, and past them nothing changes.
  pub zero-iff-forwarded : (n : ℕ) (out' : List ℕ) → Bytes out'
      → (numbers (forward_outcome s ty sheet B place m out) ≡ record { number = 0; place = 0; length = n; out = out' })
      ↔ (IsGood s × ((bs : List ℕ) × Forwards (shapes s) ty (rows_of sheet) B place m (length out) bs × (length bs ≡ n) × (out' ≡ bs ++ drop n out)))
  zero-iff-forwarded n out' b =
      through (written-told (forward_outcome s ty sheet B place m out) (forward.refused-above s ty sheet B place m out) n out')
      (forward.forwarded-iff-spelled s ty sheet B place m out n out' b)

  pub number-iff_unforwarded : (n q : ℕ) (out' : List ℕ) → 0 < n
      → (numbers (forward_outcome s ty sheet B place m out) ≡ record { number = n; place = q; length = 0; out = out' })
      ↔ ((out' ≡ out) × ForwardReason s ty (rows_of sheet) B place m (length out) n q)
  number-iff_unforwarded n q out' h =
      through (refused-told (forward_outcome s ty sheet B place m out) n q out' h) (forward.refused-iff s ty sheet B place m out n q out')

-- ---- the writer of a whole frame

unwritten-above : {h : Header} {s : List ℕ} {ty : ℕ} {cells B mid : List ℕ} {room n q : ℕ} → Unwritten h s ty cells B mid room n q → 0 < n
unwritten-above {s} (table n q e) = file-above s n q e
unwritten-above (kind good w) = omega arith
unwritten-above {s} {ty} {cells} {B} {mid} (value low high w n q e) = write-refused-above s ty cells B mid n q mid e
unwritten-above (surplus good low high is more) = omega arith
unwritten-above (full p w e) = omega arith

module _ (h : Header) (s : List ℕ) (ty : ℕ) (cells B out mid : List ℕ) (room : 16384 ≤ length mid) where
  -- 0 comes back with a length exactly where `write`, with room for every payload, and then `write_frame` accept, and the output is theirs.
  pub zero-iff_in_turn : (n : ℕ) (out' : List ℕ)
      → (numbers (frame_outcome h s ty cells B out) ≡ record { number = 0; place = 0; length = n; out = out' }) ↔ InTurn h s ty cells B mid out n out'
  zero-iff_in_turn n out' =
      through (written-told (frame_outcome h s ty cells B out) (λ k q o e. unwritten-above ((refused-iff-unwritten h s ty cells B out mid room k q o).0 e).0) n out')
      (written-iff_in_turn h s ty cells B out mid room n out')

  pub number-iff-unwritten : (n q : ℕ) (out' : List ℕ) → 0 < n
      → (numbers (frame_outcome h s ty cells B out) ≡ record { number = n; place = q; length = 0; out = out' })
      ↔ (Unwritten h s ty cells B mid (length out) n q × (out' ≡ out))
  number-iff-unwritten n q out' above =
      through (refused-told (frame_outcome h s ty cells B out) n q out' above) (refused-iff-unwritten h s ty cells B out mid room n q out')
