-- `walks::key::is_repeated` meets its contract: a key whose flag is not set is new, and any other is looked for.
use Rattle.std.proofs.Common.{ap, ◌∙◌, arith}
use Rattle.buffer.specs.Span.{span}
use Rattle.value.specs.Read.{among}
use Rattle.walks.proofs.Keys as keys_of
use Rattle.walks.proofs.key.is_repeated.Goals as goal

pub returns-then-flags-d-eq0 : goal.returns-then-flags-d-eq0
returns-then-flags-d-eq0 c =
    let first = c in
    let a = first.args in
    let asked = first.requires in
    let B = a.s.now in
    let digest-of = c.digest_of-d in
    let d = digest-of.result in
    let room = asked.i_in_bounds.0 in
    let short = asked.i_in_bounds.2 in
    let clear = keys_of.flag-clear B a.keys.now a.i a.place a.n d room short c.if-flags-d-eq0.true in (
      keys_of.unheld-either B a.keys.now (span B a.place a.n) a.judging a.i d asked.i_in_bounds.4 digest-of.ensures asked.i_value clear,
      keys_of.marked_more B a.keys.now a.i a.place a.n d room short,
      keys_of.kept-marked B a.keys.now a.i a.place a.n d room short a.judging asked.i_in_bounds.4 asked.i_in_bounds.3 digest-of.ensures,
    )

pub is_among-requires : goal.is_among-requires
is_among-requires c =
    let first = c in
    let a = first.args in
    let asked = first.requires in
    let B = a.s.now in
    let digest-of = c.digest_of-d in
    let d = digest-of.result in
    let room = asked.i_in_bounds.0 in
    let short = asked.i_in_bounds.2 in
    let stay = keys_of.keys-same B a.keys.now a.i a.place a.n d room short a.i (omega arith) in record {
      held_in_bounds = (
        keys_of.room_after B a.keys.now a.i a.place a.n d room short,
        asked.i_in_bounds.3,
        keys_of.kept_same B a.keys.now a.i a.place a.n d room short a.judging asked.i_in_bounds.4,
      );
      d_value = (digest-of.ensures, λ j. ap (among (span B a.place a.n)) stay ∙ asked.i_value j);
    }

pub returns : goal.returns
returns c =
    let first = c in
    let a = first.args in
    let asked = first.requires in
    let B = a.s.now in
    let digest-of = c.digest_of-d in
    let d = digest-of.result in
    let room = asked.i_in_bounds.0 in
    let short = asked.i_in_bounds.2 in
    let stay = keys_of.keys-same B a.keys.now a.i a.place a.n d room short a.i (omega arith) in
    let was = keys_of.flag-there B a.keys.now a.i a.place a.n d room short c.if-flags-d-eq0.false in (
      c.is_among.ensures ∙ ap (among (span B a.place a.n)) stay,
      keys_of.keys-more B a.keys.now a.i a.place a.n d room short,
      keys_of.kept_more B a.keys.now a.i a.place a.n d room short a.judging asked.i_in_bounds.4 asked.i_in_bounds.3 digest-of.ensures was,
    )
