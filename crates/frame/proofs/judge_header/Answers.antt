-- `frame::judge_header` meets its contract: field by field, what is left to be judged gives the answer to the whole.
use mathlib.Core.Path.{◌≡◌, refl, sym, ap, ◌∙◌}
use mathlib.Core.Bool.{Bool, true, false, cond}
use mathlib.Core.List.{List}
use Prim.Native.Nat.{ℕ, ◌≤◌}
use native.Mathlib.Omega.{arith}
use borrow.Author.Tests.{leb-true, eq-eqb, ne_eqb}
use lib.Dec.{leb}
use Rattle.wire.specs.Varuint.{varuint}
use lib.ListN.{length}
use Rattle.std.proofs.Common.{Ok}
use Rattle.wire.proofs.Cases.{differ}
use Rattle.wire.proofs.Numbers.{little-one}
use Rattle.frame.specs.FrameRead.{FrameRead, More}
use Rattle.frame.specs.Told.{told_header}
use Rattle.frame.specs.Frame.{is_magic, known_kind, frame_payload, frame_of}
use Rattle.frame.specs.Places.{number_at, header_at, judged}
use Rattle.frame.proofs.Places.{short, wrong, passed, from_length, from_flags, from_kind, from_version, by-places}
use Rattle.frame.proofs.judge_header.Goals as goal

magic : (s : List ℕ) → 2 ≤ length s → is_magic s ≡ true → frame_of s ≡ from_version s
magic s l m = by-places s ∙ passed s 2 _ 2 _ l m

version : (s : List ℕ) → 3 ≤ length s → is_magic s ≡ true → number_at s 2 1 ≡ 1 → frame_of s ≡ from_kind s
version s l m v = magic s (omega arith) m ∙ passed s 3 _ 3 _ l (eq-eqb _ _ v)

kind : (s : List ℕ) → 4 ≤ length s → is_magic s ≡ true → number_at s 2 1 ≡ 1 → known_kind (number_at s 3 1) ≡ true → frame_of s ≡ from_flags s
kind s l m v k = version s (omega arith) m v ∙ passed s 4 _ 4 _ l k

flags : (s : List ℕ) → 5 ≤ length s → is_magic s ≡ true → number_at s 2 1 ≡ 1 → known_kind (number_at s 3 1) ≡ true → number_at s 4 1 ≡ 0
    → frame_of s ≡ from_length s
flags s l m v k f = kind s (omega arith) m v k ∙ passed s 5 _ 5 _ l (eq-eqb _ _ f)

-- of a right header, whether it is whole
whole : (b : Bool) (next : FrameRead) → judged (told_header (Ok b)) next ≡ cond b next More
whole true next = refl
whole false next = refl

pub returns-then-n-lt-VERSION_AT : goal.returns-then-n-lt-VERSION_AT
returns-then-n-lt-VERSION_AT c = (sym (by-places _ ∙ short _ 2 _ 2 _ c.if-n-lt-VERSION_AT.true), λ e. differ cc)

pub returns-then-not-bytes : goal.returns-then-not-bytes
returns-then-not-bytes c = (sym (by-places _ ∙ wrong _ 2 _ 2 _ c.if-n-lt-VERSION_AT.false c.if-not-bytes.true), λ e. differ cc)

pub returns-then-n-lt-KIND_AT : goal.returns-then-n-lt-KIND_AT
returns-then-n-lt-KIND_AT c =
    (sym (magic _ c.if-n-lt-VERSION_AT.false c.if-not-bytes.false ∙ short _ 3 _ 3 _ c.if-n-lt-KIND_AT.true), λ e. differ cc)

pub returns-then-bytes-ne-VERSION : goal.returns-then-bytes-ne-VERSION
returns-then-bytes-ne-VERSION c =
    let wrong_one = ne_eqb _ _ (λ e. c.if-bytes-ne-VERSION.true (sym (little-one c.args.bytes.now 2 (omega arith)) ∙ e)) in
    (sym (magic _ c.if-n-lt-VERSION_AT.false c.if-not-bytes.false ∙ wrong _ 3 _ 3 _ c.if-n-lt-KIND_AT.false wrong_one), λ e. differ cc)

pub returns-then-n-lt-FLAGS_AT : goal.returns-then-n-lt-FLAGS_AT
returns-then-n-lt-FLAGS_AT c =
    let v = little-one c.args.bytes.now 2 (omega arith) ∙ c.if-bytes-ne-VERSION.false in
    (sym (version _ c.if-n-lt-KIND_AT.false c.if-not-bytes.false v ∙ short _ 4 _ 4 _ c.if-n-lt-FLAGS_AT.true), λ e. differ cc)

pub returns-then-not-known_kind : goal.returns-then-not-known_kind
returns-then-not-known_kind c =
    let v = little-one c.args.bytes.now 2 (omega arith) ∙ c.if-bytes-ne-VERSION.false in
    let none = ap known_kind (little-one c.args.bytes.now 3 (omega arith) ∙ sym c.from.ensures) ∙ sym c.known_kind.ensures ∙ c.if-not-known_kind.true in
    (sym (version _ c.if-n-lt-KIND_AT.false c.if-not-bytes.false v ∙ wrong _ 4 _ 4 _ c.if-n-lt-FLAGS_AT.false none), λ e. differ cc)

pub returns-then-n-lt-PACKAGE_AT : goal.returns-then-n-lt-PACKAGE_AT
returns-then-n-lt-PACKAGE_AT c =
    let v = little-one c.args.bytes.now 2 (omega arith) ∙ c.if-bytes-ne-VERSION.false in
    let k = ap known_kind (little-one c.args.bytes.now 3 (omega arith) ∙ sym c.from.ensures) ∙ sym c.known_kind.ensures ∙ c.if-not-known_kind.false in
    (sym (kind _ c.if-n-lt-FLAGS_AT.false c.if-not-bytes.false v k ∙ short _ 5 _ 5 _ c.if-n-lt-PACKAGE_AT.true), λ e. differ cc)

pub returns-then-bytes-ne-FLAGS : goal.returns-then-bytes-ne-FLAGS
returns-then-bytes-ne-FLAGS c =
    let v = little-one c.args.bytes.now 2 (omega arith) ∙ c.if-bytes-ne-VERSION.false in
    let k = ap known_kind (little-one c.args.bytes.now 3 (omega arith) ∙ sym c.from.ensures) ∙ sym c.known_kind.ensures ∙ c.if-not-known_kind.false in
    let wrong_one = ne_eqb _ _ (λ e. c.if-bytes-ne-FLAGS.true (sym (little-one c.args.bytes.now 4 (omega arith)) ∙ e)) in
    (sym (kind _ c.if-n-lt-FLAGS_AT.false c.if-not-bytes.false v k ∙ wrong _ 5 _ 5 _ c.if-n-lt-PACKAGE_AT.false wrong_one), λ e. differ cc)

pub returns : goal.returns
returns c =
    let v = little-one c.args.bytes.now 2 (omega arith) ∙ c.if-bytes-ne-VERSION.false in
    let k = ap known_kind (little-one c.args.bytes.now 3 (omega arith) ∙ sym c.from.ensures) ∙ sym c.known_kind.ensures ∙ c.if-not-known_kind.false in
    let f = little-one c.args.bytes.now 4 (omega arith) ∙ c.if-bytes-ne-FLAGS.false in
    let s = c.args.bytes.now in (
      whole (leb 25 (length s)) (frame_payload (length s) (header_at s) (varuint s 25)) ∙ sym (flags _ c.if-n-lt-PACKAGE_AT.false c.if-not-bytes.false v k f),
      λ e. leb-true 25 (length s) cc,
    )
