-- The theorems about the forwarding writer, of tables.
use mathlib.Core.Path.{◌≡◌, refl, sym, ap, subst, ◌∙◌}
use mathlib.Core.Logic.{◌↔◌, ⊎_elim}
use mathlib.Core.List.{List}
use mathlib.Core.Bool.{Bool, true, false, cond, false≢true}
use Prim.Native.Nat.{ℕ, ◌+◌, ◌≤◌, ◌<◌}
use native.Mathlib.Omega.{arith}
use native.Mathlib.Decide.{dec_le}
use borrow.Author.Tests.{leb-true, le-leb, lt-leb}
use lib.Dec.{leb}
use lib.ListN.{length, take, drop, length-drop}
use lib.Seq.{take_all}
use Rattle.buffer.specs.Span.{span, inside}
use Rattle.buffer.proofs.Spans.{length-span}
use Rattle.wire.specs.Little.{Bytes}
use Rattle.wire.proofs.Cases.{differ, chosen}
use Rattle.parse.specs.Reader.{AnswerOf, refused, seen}
use Rattle.parse.proofs.Answers.{yields-end}
use Rattle.schema.specs.declared.Field.{Field}
use Rattle.schema.specs.Table.{Table, Shape, unknown, scalar, text, array, map, struct, shape, bitmap_bytes}
use Rattle.schema.specs.Good.{GoodSchema}
use Rattle.schema.proofs.Bools.{cases}
use Rattle.value.specs.declared.Row.{Row}
use Rattle.value.specs.Value.{Tree, tip, branch, rows, Value, value}
use Rattle.value.specs.Read.{on_struct_of, accepted, read}
use Rattle.value.specs.Spell.{TailFits, RootSpells, encode}
use Rattle.value.specs.Write.{refusal, written, fitted, writing, show_root, write}
use Rattle.value.specs.Fits.{RootFits, Shows}
use Rattle.value.specs.Delimits.{RootDelimits}
use Rattle.value.proofs.Shapes.{good-solid}
use Rattle.value.proofs.Shown.{root-shown}
use Rattle.value.proofs.Writing.{not_written, fitted-inv, sheet-shows}
use Rattle.value.proofs.Statements as value
use Rattle.forward.specs.Forward.{root_place, root_bytes, root_unknown, suits, spliced, with_tail, forwarding, forward}
use Rattle.forward.specs.Claims.{TailReason, by_rows, outside, unfit, whole_long, whole_tight, Passes, Forwards}
use Rattle.forward.proofs.Laws.{suits-fits, fits-suits, unfit-suits, root-first, joined_length, joined-front, joined-spells, spelled-joined, spelled-fits}

module _ (T : Table) (t : ℕ) (rs : List Row) (B : List ℕ) (place n room : ℕ) where
  -- Only a sheet that shows a value is forwarded.
  forward-shows : (out : List ℕ) → forward T t rs B place n room ≡ written out
      → (fs : List Field) × (v : Value) × (shape T t ≡ struct fs) × Shows (shape T) B t fs rs v
  unfolding forward
  forward-shows out e = go (shape T t) refl e
    where
      inside_of : (fs : List Field) → shape T t ≡ struct fs → (m : AnswerOf Row Tree) → show_root (shape T) B t fs (record { left = rs; at = 0 }) ≡ m
          → forwarding rs B place n room (shape T) t fs m ≡ written out → (fs : List Field) × (v : Value) × (shape T t ≡ struct fs) × Shows (shape T) B t fs rs v
      inside_of fs st (refused _ _) k e = not_written e
      inside_of fs st (seen tree end) k e = (fs, value tree, st, sheet-shows (shape T) t fs rs B tree end k)

      go : (s : Shape) → shape T t ≡ s
          → on_struct_of s (refusal 46 0) (λ fs. forwarding rs B place n room (shape T) t fs (show_root (shape T) B t fs (record { left = rs; at = 0 }))) ≡ written out
          → (fs : List Field) × (v : Value) × (shape T t ≡ struct fs) × Shows (shape T) B t fs rs v
      go (struct fs) st e = inside_of fs st (show_root (shape T) B t fs (record { left = rs; at = 0 })) refl e
      go unknown st e = not_written e
      go (scalar _) st e = not_written e
      go (text _) st e = not_written e
      go (array _) st e = not_written e
      go (map _ _) st e = not_written e

  -- What the plain writer refuses, but for 7 and 52, is refused alike.
  pub refused-alike : (room' k q : ℕ) → write T t rs B room' ≡ refusal k q → (k ≡ 7 → ⊥) → (k ≡ 52 → ⊥) → forward T t rs B place n room ≡ refusal k q
  unfolding forward write
  refused-alike room' k q e no7 no52 = go (shape T t) e
    where
      unfit : (a b : Bool) (out : List ℕ) → cond a (cond b (written out) (refusal 52 0)) (refusal 7 0) ≡ refusal k q → ⊥
      unfit true true out e = differ cc
      unfit true false out e = no52 cc
      unfit false b out e = no7 cc

      inside_of : (fs : List Field) (m : AnswerOf Row Tree) → writing (shape T) t room' m ≡ refusal k q → forwarding rs B place n room (shape T) t fs m ≡ refusal k q
      inside_of fs (refused _ _) e = e
      inside_of fs (seen tree end) e = absurd (unfit (leb (length (encode (shape T) (value tree) t)) 16384) (leb (length (encode (shape T) (value tree) t)) room') (encode (shape T) (value tree) t) e)

      go : (s : Shape) → writing (shape T) t room' (on_struct_of s (refused 46 0) (λ fs. show_root (shape T) B t fs (record { left = rs; at = 0 }))) ≡ refusal k q
          → on_struct_of s (refusal 46 0) (λ fs. forwarding rs B place n room (shape T) t fs (show_root (shape T) B t fs (record { left = rs; at = 0 }))) ≡ refusal k q
      go (struct fs) e = inside_of fs (show_root (shape T) B t fs (record { left = rs; at = 0 })) e
      go unknown e = e
      go (scalar _) e = e
      go (text _) e = e
      go (array _) e = e
      go (map _ _) e = e

  module _ (fs : List Field) (st : shape T t ≡ struct fs) (v : Value) (shows : Shows (shape T) B t fs rs v) where
    abbrev whole : List ℕ
    whole = spliced (root_bytes fs rs B) (encode (shape T) v t) (span B place n)

    shown-forward : forward T t rs B place n room ≡ with_tail rs B place n room fs (encode (shape T) v t)
    unfolding forward
    shown-forward =
        let (tree, r, f, k) = shows in
        let y = yields-end (root-shown (shape T) B t fs tree (record { left = rs; at = 0 }) f (sym r)) in
        rw (st, y.2, y.3.0, k)

    -- The tail is judged once the sheet shows a value: 51 where it lies outside the bytes,
    pub tail-outside : length B < place + n → forward T t rs B place n room ≡ refusal 51 0
    tail-outside h = let a : inside B place n ≡ false = lt-leb _ _ h in rw (shown-forward, a)

    module _ (within : place + n ≤ length B) where
      in_bytes : inside B place n ≡ true
      in_bytes = le-leb _ _ within

      tail-length : length (span B place n) ≡ n
      tail-length = length-span B place n within

      -- then 50 where it is shorter than the unknown bits, or present without any,
      pub tail-unfit : (TailFits (root_unknown fs rs B) (span B place n) → ⊥) → forward T t rs B place n room ≡ refusal 50 0
      tail-unfit h =
          let b : suits (root_unknown fs rs B) n ≡ false = unfit-suits (root_unknown fs rs B) n (λ w. h (rw tail-length w)) in
          rw (shown-forward, in_bytes, b)

      module _ (fits : TailFits (root_unknown fs rs B) (span B place n)) where
        forward-fitted : forward T t rs B place n room ≡ fitted room whole
        forward-fitted =
            let b : suits (root_unknown fs rs B) n ≡ true = fits-suits (root_unknown fs rs B) n (rw tail-length at fits) in
            rw (shown-forward, in_bytes, b)

        whole_length : length whole ≡ length (encode (shape T) v t) + n
        whole_length = joined_length (shape T) B t fs st rs v shows (span B place n) ∙ ap (λ (k : ℕ). length (encode (shape T) v t) + k) tail-length

        -- then 7 and 52 for the whole.
        pub too_long : 16384 < length (encode (shape T) v t) + n → forward T t rs B place n room ≡ refusal 7 0
        too_long h =
            let a : leb (length whole) 16384 ≡ false = lt-leb (length whole) 16384 (omega (arith, whole_length, h)) in
            rw (forward-fitted, a)

        pub no_room : length (encode (shape T) v t) + n ≤ 16384 → room < length (encode (shape T) v t) + n → forward T t rs B place n room ≡ refusal 52 0
        no_room l h =
            let a : leb (length whole) 16384 ≡ true = le-leb (length whole) 16384 (omega (arith, whole_length, l)) in
            let b : leb (length whole) room ≡ false = lt-leb (length whole) room (omega (arith, whole_length, h)) in
            rw (forward-fitted, a, b)

        forward-written : length whole ≤ 16384 → length whole ≤ room → forward T t rs B place n room ≡ written whole
        forward-written l h =
            let a : leb (length whole) 16384 ≡ true = le-leb _ _ l in
            let b : leb (length whole) room ≡ true = le-leb _ _ h in
            rw (forward-fitted, a, b)

    -- What is written had such a tail.
    written-joined : (out : List ℕ) → forward T t rs B place n room ≡ written out
        → (place + n ≤ length B) × TailFits (root_unknown fs rs B) (span B place n) × (whole ≡ out) × (length whole ≤ 16384) × (length whole ≤ room)
    written-joined out e =
        let (a, e₁) = chosen (inside B place n) _ (refusal 51 0) not_written (sym shown-forward ∙ e) in
        let (b, e₂) = chosen (suits (root_unknown fs rs B) n) _ (refusal 50 0) not_written e₁ in
        let (c, l, h) = fitted-inv room whole out e₂ in
        let within : place + n ≤ length B = leb-true _ _ a in
        (within, rw (length-span B place n within) (suits-fits (root_unknown fs rs B) n b), c, l, h)

  -- ---- each refusal is listed, for the reason that is said there

  module _ (good : GoodSchema T) where
    abbrev ListedAs : (k q : ℕ) → Type 0
    ListedAs k q = TailReason (shape T) t rs B place n room k q

    listed_same : {k q k' q' : ℕ} → refusal k q ≡ refusal k' q' → ListedAs k' q' → ListedAs k q
    listed_same {k} {q} {k'} {q'} e l =
        let a : k' ≡ k = cc in
        let b : q' ≡ q = cc in
        subst (ListedAs k) b (subst (λ (i : ℕ). ListedAs i q') a l)

    shown-listed : (fs : List Field) → shape T t ≡ struct fs → (v : Value) → Shows (shape T) B t fs rs v → (k q : ℕ) → forward T t rs B place n room ≡ refusal k q → ListedAs k q
    shown-listed fs st v shows k q e = elim (dec_le (place + n) (length B)) [
      | no out ↦ let h : length B < place + n = omega arith in listed_same (sym e ∙ tail-outside fs st v shows h) (outside fs v st shows h)
      | yes within ↦ ⊎_elim (inner within) (λ b. let h = unfit-of within b in listed_same (sym e ∙ tail-unfit fs st v shows within h) (unfit fs v st shows within h)) (cases (suits (root_unknown fs rs B) n))
    ]
      where
        unfit-of : (within : place + n ≤ length B) → suits (root_unknown fs rs B) n ≡ false → TailFits (root_unknown fs rs B) (span B place n) → ⊥
        unfit-of within b f = false≢true (sym b ∙ fits-suits (root_unknown fs rs B) n (rw (length-span B place n within) at f))

        inner : (within : place + n ≤ length B) → suits (root_unknown fs rs B) n ≡ true → ListedAs k q
        inner within b =
            let fits : TailFits (root_unknown fs rs B) (span B place n) = rw (length-span B place n within) (suits-fits (root_unknown fs rs B) n b) in
            let w = whole_length fs st v shows within fits in
            elim (dec_le (length (encode (shape T) v t) + n) 16384) [
              | no long ↦ let h : 16384 < length (encode (shape T) v t) + n = omega arith in listed_same (sym e ∙ too_long fs st v shows within fits h) (whole_long fs v st shows within fits h)
              | yes l ↦ elim (dec_le (length (encode (shape T) v t) + n) room) [
                | no tight ↦ let h : room < length (encode (shape T) v t) + n = omega arith in listed_same (sym e ∙ no_room fs st v shows within fits l h) (whole_tight fs v st shows within fits l h)
                | yes r ↦ not_written (sym e ∙ forward-written fs st v shows within fits (omega (arith, w, l)) (omega (arith, w, r)))
              ]
            ]

    refused-by : (fs : List Field) → shape T t ≡ struct fs → (k q : ℕ) → show_root (shape T) B t fs (record { left = rs; at = 0 }) ≡ refused k q
        → write T t rs B room ≡ refusal k q
    unfolding write
    refused-by fs st k q h = rw (st, h)

    shows-none : (fs : List Field) → shape T t ≡ struct fs → (k q : ℕ) → show_root (shape T) B t fs (record { left = rs; at = 0 }) ≡ refused k q
        → (gs : List Field) (v : Value) → shape T t ≡ struct gs → Shows (shape T) B t gs rs v → ⊥
    shows-none fs st k q h gs v st' (tree, r, f, _) =
        let same : gs ≡ fs = cc (st, st') in
        let f' : RootFits (shape T) B t fs tree = subst (λ (l : List Field). RootFits (shape T) B t l tree) same f in
        let y = yields-end (root-shown (shape T) B t fs tree (record { left = rs; at = 0 }) f' (sym r)) in
        differ (cc (h, y.2))

    refused-listed : (k q : ℕ) → forward T t rs B place n room ≡ refusal k q → ListedAs k q
    unfolding forward write
    refused-listed k q e = go (shape T t) refl e
      where
        inside_of : (fs : List Field) → shape T t ≡ struct fs → (m : AnswerOf Row Tree) → show_root (shape T) B t fs (record { left = rs; at = 0 }) ≡ m
            → forwarding rs B place n room (shape T) t fs m ≡ refusal k q → ListedAs k q
        inside_of fs st (refused i j) h e' =
            let a : write T t rs B room ≡ refusal k q = refused-by fs st i j h ∙ e' in
            by_rows ((value.write-refused-iff T good t rs B room k q).0 a) (shows-none fs st i j h)
        inside_of fs st (seen tree end) h e' = shown-listed fs st (value tree) (sheet-shows (shape T) t fs rs B tree end h) k q e

        go : (s : Shape) → shape T t ≡ s
            → on_struct_of s (refusal 46 0) (λ fs. forwarding rs B place n room (shape T) t fs (show_root (shape T) B t fs (record { left = rs; at = 0 }))) ≡ refusal k q
            → ListedAs k q
        go (struct fs) st e' = inside_of fs st (show_root (shape T) B t fs (record { left = rs; at = 0 })) refl e'
        go unknown st e' = by_rows ((value.write-refused-iff T good t rs B room k q).0 (rw st e')) (λ gs v st' _. differ (cc (st, st')))
        go (scalar _) st e' = by_rows ((value.write-refused-iff T good t rs B room k q).0 (rw st e')) (λ gs v st' _. differ (cc (st, st')))
        go (text _) st e' = by_rows ((value.write-refused-iff T good t rs B room k q).0 (rw st e')) (λ gs v st' _. differ (cc (st, st')))
        go (array _) st e' = by_rows ((value.write-refused-iff T good t rs B room k q).0 (rw st e')) (λ gs v st' _. differ (cc (st, st')))
        go (map _ _) st e' = by_rows ((value.write-refused-iff T good t rs B room k q).0 (rw st e')) (λ gs v st' _. differ (cc (st, st')))

    -- A sheet that shows no value is refused as the plain writer refuses it.
    rows-refused : (k q : ℕ) → write T t rs B room ≡ refusal k q → ((fs : List Field) (v : Value) → shape T t ≡ struct fs → Shows (shape T) B t fs rs v → ⊥)
        → forward T t rs B place n room ≡ refusal k q
    unfolding forward write
    rows-refused k q e hidden = go (shape T t) refl e
      where
        inside_of : (fs : List Field) → shape T t ≡ struct fs → (m : AnswerOf Row Tree) → show_root (shape T) B t fs (record { left = rs; at = 0 }) ≡ m
            → writing (shape T) t room m ≡ refusal k q → forwarding rs B place n room (shape T) t fs m ≡ refusal k q
        inside_of fs st (refused _ _) h e = e
        inside_of fs st (seen tree end) h e = absurd (hidden fs (value tree) st (sheet-shows (shape T) t fs rs B tree end h))

        go : (s : Shape) → shape T t ≡ s
            → writing (shape T) t room (on_struct_of s (refused 46 0) (λ fs. show_root (shape T) B t fs (record { left = rs; at = 0 }))) ≡ refusal k q
            → on_struct_of s (refusal 46 0) (λ fs. forwarding rs B place n room (shape T) t fs (show_root (shape T) B t fs (record { left = rs; at = 0 }))) ≡ refusal k q
        go (struct fs) st e = inside_of fs st (show_root (shape T) B t fs (record { left = rs; at = 0 })) refl e
        go unknown st e = e
        go (scalar _) st e = e
        go (text _) st e = e
        go (array _) st e = e
        go (map _ _) st e = e

    listed-refused : (k q : ℕ) → ListedAs k q → forward T t rs B place n room ≡ refusal k q
    listed-refused k q (by_rows r hidden) = rows-refused k q ((value.write-refused-iff T good t rs B room k q).1 r) hidden
    listed-refused _ _ (outside fs v st shows h) = tail-outside fs st v shows h
    listed-refused _ _ (unfit fs v st shows within h) = tail-unfit fs st v shows within h
    listed-refused _ _ (whole_long fs v st shows within fits h) = too_long fs st v shows within fits h
    listed-refused _ _ (whole_tight fs v st shows within fits l h) = no_room fs st v shows within fits l h

    -- A sheet with a tail is refused with a number at a row exactly for its reason.
    pub refused-iff : (k q : ℕ) → (forward T t rs B place n room ≡ refusal k q) ↔ TailReason (shape T) t rs B place n room k q
    refused-iff k q = (refused-listed k q, listed-refused k q)

  -- A sheet is forwarded exactly when it shows a value and the tail fits, with the whole a payload and room for it.
  pub accepted-iff : ((out : List ℕ) × (forward T t rs B place n room ≡ written out)) ↔ Passes (shape T) t rs B place n room
  accepted-iff = (
    λ (out, e).
        let (fs, v, st, shows) = forward-shows out e in
        let (within, fits, _, l, h) = written-joined fs st v shows out e in
        let k = whole_length fs st v shows within fits in
        (fs, v, st, shows, within, fits, omega (arith, k, l), omega (arith, k, h)),
    λ (fs, v, st, shows, within, fits, l, h).
        let k = whole_length fs st v shows within fits in
        (whole fs st v shows, forward-written fs st v shows within fits (omega (arith, k, l)) (omega (arith, k, h))),
  )

  -- What is written spells the value that the sheet shows, ends in the tail and keeps the presence bytes as they stand; and nothing else does.
  pub forwarded-iff-spelled : GoodSchema T → (out : List ℕ) → Bytes out → (forward T t rs B place n room ≡ written out) ↔ Forwards (shape T) t rs B place n room out
  forwarded-iff-spelled good out b = (
    λ e.
        let (fs, v, st, shows) = forward-shows out e in
        let (within, fits, same, l, h) = written-joined fs st v shows out e in
        let k = whole_length fs st v shows within fits in
        let q = joined-spells (shape T) B t fs st rs v shows (good-solid T good) (omega (arith, k, l)) (span B place n) fits in
        let (r, below, first) = root-first (shape T) B t fs st rs v shows in
        let front = joined-front (shape T) B t fs st rs v shows (span B place n) ∙ ap (λ (i : List Row). root_bytes fs i B) first in
        (fs, v, r, below, st, shows, first, within, rw same at q, rw same at front, rw same at l, rw same at h),
    λ (fs, v, r, below, st, shows, first, within, q, front', l, h).
        let front : take (bitmap_bytes (length fs)) out ≡ root_bytes fs rs B = front' ∙ ap (λ (i : List Row). root_bytes fs i B) (sym first) in
        let same = spelled-joined (shape T) B t fs st rs v shows out (span B place n) b q front in
        let fits = spelled-fits (shape T) B t fs st rs v shows out (span B place n) b q front in
        rw same (forward-written fs st v shows within fits (rw same at l) (rw same at h)),
  )

-- ---- what is read

-- The root's row stands at 0, and its tree spells the payload.
read-root : (S : ℕ → Shape) (B : List ℕ) (fs : List Field) (tree : Tree) (end : ℕ) → RootDelimits S B fs tree end
    → RootSpells S fs (value tree) B (drop end B) × (root_place (rows tree) ≡ 0)
unfolding value rows
read-root S B fs (tip r x) end d = absurd d
read-root S B fs (branch r h ts) end d = (d.0, d.1)

-- What is read by a table, with a tail or without one, is forwarded by the same table to the very same bytes.
pub same_bytes : (T : Table) → GoodSchema T → (t : ℕ) (payload : List ℕ) (room : ℕ) (rs : List Row) (place n c : ℕ) → Bytes payload
    → read T t payload room ≡ accepted rs place n c → (room' : ℕ) → length payload ≤ room' → forward T t rs payload place n room' ≡ written payload
same_bytes T good t payload room rs place n c b e room' h =
    let (tree, (fs, st, f, d, p, short), r, _, _) = (value.rows_delimit T good t payload room rs place n c).0 e in
    let (q, zero) = read-root (shape T) payload fs tree place d in
    let tail : span payload place n ≡ drop place payload = take_all n (drop place payload) (rw length-drop (omega (arith, p))) in
    let (root, below, first) = root-first (shape T) payload t fs st rs (value tree) (tree, r, f, refl) in
    let start : root.place ≡ 0 = sym (ap root_place first) ∙ sym (ap root_place r) ∙ zero in
    let front : take (bitmap_bytes (length fs)) payload ≡ span payload root.place (bitmap_bytes (length fs)) = rw start refl in
    (forwarded-iff-spelled T t rs payload place n room' good payload b).1
    (fs, value tree, root, below, st, (tree, r, f, refl), first, omega (arith, p), rw tail q, front, short, h)
