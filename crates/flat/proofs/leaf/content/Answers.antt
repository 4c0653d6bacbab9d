-- `flat::leaf::content` meets its contract.
use Rattle.walks.proofs.Tables.{leaf-scalar, leaf-text}
use Rattle.flat.proofs.leaf.content.Goals as goal

pub text-requires : goal.text-requires
text-requires c = (c.requires.0, λ j. rw (leaf-text c.args.kind c.if-kind.false) at (c.requires.4 j))

pub returns-then-kind : goal.returns-then-kind
returns-then-kind c = rw (leaf-scalar c.args.kind c.if-kind.true) c.scalar.ensures

pub returns-else-kind : goal.returns-else-kind
returns-else-kind c = rw (leaf-text c.args.kind c.if-kind.false) c.text.ensures
