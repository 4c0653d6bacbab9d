-- `walks::key::is_key` meets its contract: a content of another digest is another.
use Rattle.std.proofs.Common.{sym, refl, ◌∙◌}
use Rattle.buffer.specs.Span.{span}
use Rattle.walks.specs.Keys.{key_at}
use Rattle.walks.proofs.Keys.{digests_differ}
use Rattle.walks.proofs.key.is_key.Goals as goal

pub returns-then-keys-j : goal.returns-then-keys-j
returns-then-keys-j c =
    let first = c in
    let args = first.args in
    let asked = first.requires in
    digests_differ (span args.s.now args.place args.n) (key_at args.s.now args.keys.now args.j) (λ e. c.if-keys-j.true (asked.2.1 refl ∙ e ∙ sym asked.3))
