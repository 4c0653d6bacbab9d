-- Laws of the entries: what each of their returns shows of the whole forwarding.
use Rattle.std.specs.Prelude.{Result, Ok, Err}
use mathlib.Core.Path.{◌≡◌, refl, sym, ap, ap₂, ◌∙◌}
use mathlib.Core.Logic.{⊎_elim}
use mathlib.Core.Bool.{Bool, true, false, cond}
use mathlib.Core.List.{List, ◌++◌, append_assoc, append-nil}
use Prim.Native.Nat.{ℕ, ◌+◌, ◌-◌, ◌/◌, ◌≤◌, ◌<◌}
use native.Mathlib.Omega.{arith}
use native.Mathlib.Decide.{dec_le}
use borrow.Author.Tests.{leb-true, le-leb, lt-leb}
use lib.Dec.{leb}
use lib.ListN.{length, get_or, take, drop, length-append, length-drop, drop_of_length-le}
use lib.Seq.{drop-append-le, drop-drop, length-take-le}
use Rattle.buffer.specs.Span.{span, inside}
use Rattle.buffer.specs.Store.{put}
use Rattle.buffer.proofs.Spans.{length-span}
use Rattle.buffer.proofs.Stores.{put-seam, put_whole}
use Rattle.wire.specs.Little.{little, Bytes}
use Rattle.wire.specs.Bitmap.{Present}
use Rattle.wire.proofs.Cases.{differ}
use Rattle.parse.specs.Reader.{CursorOf, AnswerOf, refused, seen, Accepted}
use Rattle.schema.specs.declared.TypeRow.{TypeRow}
use Rattle.schema.specs.declared.Field.{Field}
use Rattle.schema.specs.Checked.{Good, Refused as TableRefused}
use Rattle.schema.specs.Table.{struct, row_at, shape, bitmap_bytes}
use Rattle.schema.specs.File.{table_of}
use Rattle.schema.specs.Check.{IsGood, checked}
use Rattle.schema.proofs.Bools.{cases}
use Rattle.value.specs.declared.Row.{Row}
use Rattle.value.specs.Value.{Tree, value}
use Rattle.value.specs.Sheet.{rows_of}
use Rattle.value.specs.Read.{unknown_bits}
use Rattle.value.specs.Spell.{encode}
use Rattle.value.specs.Write.{refusal, written, show_root}
use Rattle.value.specs.Fits.{Shows}
use Rattle.value.proofs.Sheets.{rows-from, no_rows}
use Rattle.value.proofs.Writing.{sheet-shows}
use Rattle.walks.proofs.Presence.{bits-read}
use Rattle.walks.proofs.Tables.{no-struct}
use Rattle.walks.proofs.Walks.{nothing-before}
use Rattle.writer.specs.Writing.{Written, Refused}
use Rattle.constants.specs.Number.{number_of}
use Rattle.constants.specs.declared.refusal.Refusal.{Refusal}
use Rattle.constants.specs.declared.refusal.Refusal.TheVariants.{Magic}
use Rattle.constants.specs.declared.refusal.Refused as error
use Rattle.constants.proofs.Number.{named, named-number_of}
use Rattle.writer.specs.declared.walk.Past.{Past}
use Rattle.writer.specs.Emit.{cap, done, stopped, emit}
use Rattle.writer.specs.Leaf.{rows_at}
use Rattle.writer.specs.Walk.{end_of, Walked}
use Rattle.writer.specs.Entry.{Outcome, outcome, outcome_of}
use Rattle.writer.proofs.Entries.{emit-done, emit-stopped}
use Rattle.forward.specs.Forward.{root_place, root_bytes, root_unknown, suits, spliced, with_tail, forwarding, forward, fault_of}
use Rattle.forward.specs.Entry.{sheet_forwarded, forward_outcome}
use Rattle.forward.proofs.Laws.{root-inside, bytes-length, root-long, joined_length}

-- ---- the root's place and its unknown bits

pub place_none : (cells : List ℕ) → length cells < 4 → 0 ≡ root_place (rows_of cells)
place_none cells h = sym (ap root_place (no_rows cells 0 (omega arith)))

pub place-first : (cells : List ℕ) → 4 ≤ length cells → get_or cells 1 0 ≡ root_place (rows_of cells)
place-first cells h = sym (ap root_place (rows-from cells 0 (omega arith)))

pub unknown-is : (B : List ℕ) (place n : ℕ) → place + (n + 7) / 8 ≤ length B → Bytes B → (word known ones unknown : ℕ)
    → Present (span B place ((n + 7) / 8)) n word known ones unknown → (fs : List Field) → length fs ≡ n
    → unknown ≡ unknown_bits fs (little (span B place (bitmap_bytes (length fs))))
unknown-is B place n within b word known ones unknown is fs many =
    let read = bits-read fs many B place within b is in
    read.2 ∙ ap (unknown_bits fs) (is.word-is ∙ ap (λ (k : ℕ). little (span B place ((k + 7) / 8))) (sym many))

-- ---- the number of the first fault

module _ (size unknown place n plain room : ℕ) where
  pub fault-outside : size < place + n → 51 ≡ fault_of size unknown place n plain room
  unfolding fault_of
  fault-outside h = let a : leb (place + n) size ≡ false = lt-leb (place + n) size h in rw a

  module _ (within : place + n ≤ size) where
    in_size : leb (place + n) size ≡ true
    in_size = le-leb (place + n) size within

    pub fault-unfit : suits unknown n ≡ false → 50 ≡ fault_of size unknown place n plain room
    unfolding fault_of
    fault-unfit b = rw (in_size, b)

    module _ (b : suits unknown n ≡ true) where
      pub fault-long : 16384 < plain + n → 7 ≡ fault_of size unknown place n plain room
      unfolding fault_of
      fault-long h = let c : leb (plain + n) 16384 ≡ false = lt-leb (plain + n) 16384 h in rw (in_size, b, c)

      pub fault-room : plain + n ≤ 16384 → room < plain + n → 52 ≡ fault_of size unknown place n plain room
      unfolding fault_of
      fault-room h l =
          let c : leb (plain + n) 16384 ≡ true = le-leb (plain + n) 16384 h in
          let d : leb (plain + n) room ≡ false = lt-leb (plain + n) room l in
          rw (in_size, b, c, d)

      pub fault-none : plain + n ≤ 16384 → plain + n ≤ room → 0 ≡ fault_of size unknown place n plain room
      unfolding fault_of
      fault-none h l =
          let c : leb (plain + n) 16384 ≡ true = le-leb (plain + n) 16384 h in
          let d : leb (plain + n) room ≡ true = le-leb (plain + n) room l in
          rw (in_size, b, c, d)

  -- The length before the tail matters as far as it is a payload's.
  fault-cap : fault_of size unknown place n (cap plain) room ≡ fault_of size unknown place n plain room
  unfolding fault_of
  fault-cap = elim (dec_le plain 16384) [
    | yes l ↦ let e : cap plain ≡ plain = omega arith in rw e
    | no g ↦
        let a : leb (cap plain + n) 16384 ≡ false = lt-leb (cap plain + n) 16384 (omega arith) in
        let b : leb (plain + n) 16384 ≡ false = lt-leb (plain + n) 16384 (omega arith) in
        rw (a, b)
  ]

-- The two forms of the four tests.
test-refused : (a b c d : Bool) (out : List ℕ) (k : ℕ) → k ≡ cond a (cond b (cond c (cond d 0 52) 7) 50) 51 → (k ≡ 0 → ⊥)
    → refusal k 0 ≡ cond a (cond b (cond c (cond d (written out) (refusal 52 0)) (refusal 7 0)) (refusal 50 0)) (refusal 51 0)
test-refused true true true true out k e h = absurd (h e)
test-refused true true true false out k e h = ap (λ (i : ℕ). refusal i 0) e
test-refused true true false d out k e h = ap (λ (i : ℕ). refusal i 0) e
test-refused true false c d out k e h = ap (λ (i : ℕ). refusal i 0) e
test-refused false b c d out k e h = ap (λ (i : ℕ). refusal i 0) e

test-passed : (a b c d : Bool) → ◌≡◌ {A = ℕ} 0 (cond a (cond b (cond c (cond d 0 52) 7) 50) 51) → (a ≡ true) × (b ≡ true) × (c ≡ true) × (d ≡ true)
test-passed true true true true e = (refl, refl, refl, refl)
test-passed true true true false e = absurd (omega arith)
test-passed true true false d e = absurd (omega arith)
test-passed true false c d e = absurd (omega arith)
test-passed false b c d e = absurd (omega arith)

-- ---- the bytes, over those of the plain writer

put-joined : (bits plain tail out : List ℕ) (pos : ℕ) → length plain ≡ pos → length bits ≤ pos → pos + length tail ≤ length out
    → put (put (plain ++ drop pos out) 0 bits) pos tail ≡ spliced bits plain tail ++ drop (pos + length tail) out
put-joined bits plain tail out pos l b h =
    let front : List ℕ = bits ++ drop (length bits) plain in
    let rest : length (drop pos out) ≡ length out - pos = length-drop pos out in
    let all : length (plain ++ drop pos out) ≡ pos + (length out - pos) = simp length-append (omega (arith, rest, l)) in
    let long : length front ≡ pos = simp (length-append, length-drop) (omega (arith, l, b)) in
    let first : put (plain ++ drop pos out) 0 bits ≡ front ++ drop pos out =
    put_whole (plain ++ drop pos out) bits (omega (arith, all, b, h))
    ∙ ap (λ (x : List ℕ). bits ++ x) (drop-append-le (length bits) plain (drop pos out) (omega (arith, l, b)))
    ∙ sym (append_assoc bits (drop (length bits) plain) (drop pos out)) in
    let second : put (front ++ drop pos out) (length front) tail ≡ front ++ (tail ++ drop (length tail) (drop pos out)) =
    put-seam front (drop pos out) tail (omega (arith, rest, h)) in
    ap (λ (x : List ℕ). put x pos tail) first
    ∙ ap (λ (i : ℕ). put (front ++ drop pos out) i tail) (sym long)
    ∙ second
    ∙ ap (λ (x : List ℕ). front ++ (tail ++ x)) (drop-drop (length tail) pos out)
    ∙ sym (append_assoc front tail (drop (pos + length tail) out))
    ∙ ap (λ (x : List ℕ). x ++ drop (pos + length tail) out) (append_assoc bits (drop (length bits) plain) tail)

-- no refusal has the number 0
number-above : (r : Refusal) → number_of r ≡ 0 → ⊥
number-above r e =
    let first : r ≡ Magic = sym (named-number_of r) ∙ ap named e in
    let two : number_of r ≡ 2 = ap number_of first in
    omega (arith, e, two)

-- ---- a type that is no struct

pub entry_other : (s : List ℕ) → IsGood s → (ty : ℕ) (cells B : List ℕ) (place n : ℕ) (out : List ℕ) (r : TypeRow) → r ≡ row_at (table_of s) ty → (r.kind ≡ 16 → ⊥)
    → outcome (Refused 46 0) out ≡ sheet_forwarded s ty cells B place n out
unfolding sheet_forwarded forward
entry_other s good ty cells B place n out r is h =
    sym (ap (outcome_of out)
    (no-struct s good ty r is h (refusal 46 0) (λ fs. forwarding (rows_of cells) B place n (length out) (shape (table_of s)) ty fs (show_root (shape (table_of s)) B ty fs (rows_at cells 0)))))

-- ---- the two walks

module _ (s : List ℕ) (ty : ℕ) (cells B : List ℕ) (place n : ℕ) (out : List ℕ) (fs : List Field) (is : shape (table_of s) ty ≡ struct fs)
    (o o' : List ℕ) (r : Result Past error.Refused) (walked : Walked cells (emit (shape (table_of s)) ty (show_root (shape (table_of s)) B ty fs (rows_at cells 0)) 0 o) r o') (z : length o' ≡ 0) where
  same_out : o' ++ out ≡ out
  same_out = nothing-before o' out z

  entry-stopped : (k q : ℕ) → show_root (shape (table_of s)) B ty fs (rows_at cells 0) ≡ refused k q → outcome (Refused k q) out ≡ sheet_forwarded s ty cells B place n out
  unfolding sheet_forwarded forward
  entry-stopped k q e = rw (is, e)

  pub entry-refused : {f : error.Refused} → r ≡ Err f → outcome (Refused (number_of f.refusal) f.place) (o' ++ out) ≡ sheet_forwarded s ty cells B place n out
  entry-refused {f} e =
      let k = number_of f.refusal in
      let q = f.place in
      let w : stopped k q ≡ emit (shape (table_of s)) ty (show_root (shape (table_of s)) B ty fs (rows_at cells 0)) 0 o = rw e at walked.same in
      rw same_out (entry-stopped k q (emit-stopped (shape (table_of s)) ty _ k q o w))

  module _ (past : Past) (e : r ≡ Ok past) where
    abbrev row : ℕ
    row = past.row

    abbrev pos : ℕ
    pos = past.pos

    shown : (tree : Tree) × (show_root (shape (table_of s)) B ty fs (rows_at cells 0) ≡ seen tree (rows_at cells row))
        × (pos ≡ cap (length (encode (shape (table_of s)) (value tree) ty)))
        × (o' ≡ put o 0 (encode (shape (table_of s)) (value tree) ty))
    shown =
        let w : done (rows_at cells row) pos o' ≡ emit (shape (table_of s)) ty (show_root (shape (table_of s)) B ty fs (rows_at cells 0)) 0 o = rw e at walked.same in
        emit-done (shape (table_of s)) ty _ (rows_at cells row) pos o o' w

    abbrev tree : Tree
    tree = shown.0

    abbrev plain : List ℕ
    plain = encode (shape (table_of s)) (value tree) ty

    abbrev tail : List ℕ
    tail = span B place n

    abbrev bits : List ℕ
    bits = root_bytes fs (rows_of cells) B

    seen-tree : show_root (shape (table_of s)) B ty fs (rows_at cells 0) ≡ seen tree (rows_at cells row)
    seen-tree = shown.1

    capped : pos ≡ cap (length plain)
    capped = shown.2

    shows : Shows (shape (table_of s)) B ty fs (rows_of cells) (value tree)
    shows = sheet-shows (shape (table_of s)) ty fs (rows_of cells) B tree (rows_at cells row) seen-tree

    pub entry-accepted : Accepted (show_root (shape (table_of s)) B ty fs (rows_at cells 0))
    entry-accepted = rw seen-tree tt

    inside-root : root_place (rows_of cells) + bitmap_bytes (length fs) ≤ length B
    inside-root = root-inside (shape (table_of s)) B ty fs is (rows_of cells) (value tree) shows

    entry-by : sheet_forwarded s ty cells B place n out ≡ outcome_of out (with_tail (rows_of cells) B place n (length out) fs plain)
    unfolding sheet_forwarded forward
    entry-by = rw (is, seen-tree)

    -- the root's place p, its number of fields m and its unknown bits, as the code has them
    module _ (p m : ℕ) (p-is : p ≡ root_place (rows_of cells)) (many : length fs ≡ m) where
      pub entry-inside : p + (m + 7) / 8 ≤ length B
      entry-inside = rw (p-is, ← many) inside-root

      bits_is : span B p ((m + 7) / 8) ≡ bits
      bits_is = rw (p-is, ← many) refl

      module _ (unknown : ℕ) (unknown-of : (gs : List Field) → length gs ≡ m → unknown ≡ unknown_bits gs (little (span B p (bitmap_bytes (length gs)))))
          (k : ℕ) (fault : k ≡ fault_of (length B) unknown place n pos (length (o' ++ out))) where
        all-unknown : unknown ≡ root_unknown fs (rows_of cells) B
        all-unknown = unknown-of fs many ∙ ap (λ (i : ℕ). unknown_bits fs (little (span B i (bitmap_bytes (length fs))))) p-is

        -- the tests by the length that the first walk measured
        fault-plain : k ≡ fault_of (length B) (root_unknown fs (rows_of cells) B) place n (length plain) (length out)
        fault-plain =
            fault
            ∙ ap₂ (λ (i j : ℕ). fault_of (length B) i place n j (length (o' ++ out))) all-unknown capped
            ∙ ap (fault_of (length B) (root_unknown fs (rows_of cells) B) place n (cap (length plain))) (ap length same_out)
            ∙ fault-cap (length B) (root_unknown fs (rows_of cells) B) place n (length plain) (length out)

        whole_length : place + n ≤ length B → length (spliced bits plain tail) ≡ length plain + n
        whole_length within =
            joined_length (shape (table_of s)) B ty fs is (rows_of cells) (value tree) shows tail ∙ ap (λ (i : ℕ). length plain + i) (length-span B place n within)

        tests : with_tail (rows_of cells) B place n (length out) fs plain
            ≡ cond (inside B place n)
            (cond (suits (root_unknown fs (rows_of cells) B) n)
            (cond (leb (length plain + n) 16384) (cond (leb (length plain + n) (length out)) (written (spliced bits plain tail)) (refusal 52 0)) (refusal 7 0))
            (refusal 50 0))
            (refusal 51 0)
        tests = ⊎_elim (λ a. rw (a, whole_length (leb-true (place + n) (length B) a))) (λ a. rw a) (cases (inside B place n))

        faulty : (k ≡ 0 → ⊥) → outcome (Refused k 0) (o' ++ out) ≡ sheet_forwarded s ty cells B place n out
        unfolding fault_of
        faulty h =
            let f = test-refused (inside B place n) (suits (root_unknown fs (rows_of cells) B) n) (leb (length plain + n) 16384) (leb (length plain + n) (length out)) (spliced bits plain tail) k fault-plain h in
            rw (same_out, entry-by, tests) (ap (outcome_of out) f)

        pub entry-fault : (f : error.Refused) → k ≡ number_of f.refusal → f.place ≡ 0 → outcome (Refused (number_of f.refusal) f.place) (o' ++ out) ≡ sheet_forwarded s ty cells B place n out
        entry-fault f same first = rw (← same, first) (faulty (λ z. number-above f.refusal (sym same ∙ z)))

        module _ (none : k ≡ 0) where
          passed : (inside B place n ≡ true) × (suits (root_unknown fs (rows_of cells) B) n ≡ true) × (leb (length plain + n) 16384 ≡ true) × (leb (length plain + n) (length out) ≡ true)
          unfolding fault_of
          passed =
              test-passed (inside B place n) (suits (root_unknown fs (rows_of cells) B) n) (leb (length plain + n) 16384) (leb (length plain + n) (length out)) (sym none ∙ fault-plain)

          pub entry-tail : place + n ≤ length B
          entry-tail = leb-true (place + n) (length B) passed.0

          pub entry-short : pos + n ≤ 16384
          entry-short = let h = leb-true (length plain + n) 16384 passed.2 in let c = capped in omega arith

          entry-room : pos + n ≤ length (o' ++ out)
          entry-room = let h = leb-true (length plain + n) (length out) passed.3 in let c = capped in rw (ap length same_out) (omega arith)

          pub entry-fits : pos ≤ length (o' ++ out)
          entry-fits = let h = entry-room in omega arith

          -- the second walk writes what the plain writer writes,
          second-bytes : (r₂ : Result Past error.Refused) (o₂ : List ℕ)
              → Walked cells (emit (shape (table_of s)) ty (show_root (shape (table_of s)) B ty fs (rows_at cells 0)) 0 (take pos (o' ++ out))) r₂ o₂
              → (length plain ≡ pos) × (o₂ ≡ plain)
          second-bytes r₂ o₂ w =
              let c = capped in
              let h = entry-short in
              let long : length plain ≡ pos = omega arith in
              (long, go long r₂ w.same)
            where
              again : (t t' : Tree) (c c' : CursorOf Row) (m : AnswerOf Row Tree) → m ≡ seen t c → m ≡ seen t' c' → t' ≡ t
              again t t' c c' m e e' = cc

              go : length plain ≡ pos → (r₂ : Result Past error.Refused)
                  → end_of cells r₂ o₂ ≡ emit (shape (table_of s)) ty (show_root (shape (table_of s)) B ty fs (rows_at cells 0)) 0 (take pos (o' ++ out)) → o₂ ≡ plain
              go long (Ok past₂) e₂ =
                  let (tree₂, seen₂, _, puts) = emit-done (shape (table_of s)) ty _ (rows_at cells past₂.row) past₂.pos (take pos (o' ++ out)) o₂ e₂ in
                  let same : tree₂ ≡ tree = again tree tree₂ _ _ _ seen-tree seen₂ in
                  let k : length (take pos (o' ++ out)) ≡ pos = length-take-le pos (o' ++ out) entry-fits in
                  puts
                  ∙ ap (λ (x : Tree). put (take pos (o' ++ out)) 0 (encode (shape (table_of s)) (value x) ty)) same
                  ∙ put_whole (take pos (o' ++ out)) plain (omega (arith, k, long))
                  ∙ ap (λ (x : List ℕ). plain ++ x) (drop_of_length-le (take pos (o' ++ out)) {i = length plain} (omega (arith, k, long)))
                  ∙ append-nil plain
              go long (Err _) e₂ =
                  let f = emit-stopped (shape (table_of s)) ty _ _ _ (take pos (o' ++ out)) e₂ in
                  let g = sym seen-tree ∙ f in
                  differ cc

          -- and the bits and the tail are put over it
          pub entry-written : (r₂ : Result Past error.Refused) (o₂ : List ℕ)
              → Walked cells (emit (shape (table_of s)) ty (show_root (shape (table_of s)) B ty fs (rows_at cells 0)) 0 (take pos (o' ++ out))) r₂ o₂
              → (out₃ : List ℕ) → out₃ ≡ put (put (o₂ ++ drop pos (o' ++ out)) 0 (span B p ((m + 7) / 8))) pos tail
              → outcome (Written (pos + n)) out₃ ≡ sheet_forwarded s ty cells B place n out
          entry-written r₂ o₂ w out₃ is₃ =
              let (long, whole) = second-bytes r₂ o₂ w in
              let first : o₂ ++ drop pos (o' ++ out) ≡ plain ++ drop pos out = ap₂ (λ (x y : List ℕ). x ++ drop pos y) whole same_out in
              let few = bytes-length (shape (table_of s)) B ty fs is (rows_of cells) (value tree) shows in
              let many = root-long (shape (table_of s)) B ty fs is (rows_of cells) (value tree) shows in
              let last = length-span B place n entry-tail in
              let end : length (spliced bits plain tail) ≡ pos + n = whole_length entry-tail ∙ ap (λ (i : ℕ). i + n) long in
              let room : pos + n ≤ length out = rw (ap length same_out) at entry-room in
              let second = put-joined bits plain tail out pos long (omega (arith, few, many, long)) (omega (arith, last, room)) in
              let all : out₃ ≡ spliced bits plain tail ++ drop (pos + n) out =
              is₃ ∙ ap₂ (λ (x y : List ℕ). put (put x 0 y) pos tail) first bits_is ∙ second ∙ ap (λ (i : ℕ). spliced bits plain tail ++ drop (pos + i) out) last in
              rw (entry-by, tests, passed.0, passed.1, passed.2, passed.3, end, all)

-- ---- any table

module _ (s : List ℕ) (ty : ℕ) (cells B : List ℕ) (place n : ℕ) (out : List ℕ) where
  pub file-refused : (k q : ℕ) → checked s ≡ TableRefused k q → outcome (Refused k q) out ≡ forward_outcome s ty cells B place n out
  unfolding forward_outcome
  file-refused k q e = rw e

  pub file-good : (x : Outcome) → checked s ≡ Good → x ≡ sheet_forwarded s ty cells B place n out → x ≡ forward_outcome s ty cells B place n out
  unfolding forward_outcome
  file-good x e h = rw e h
