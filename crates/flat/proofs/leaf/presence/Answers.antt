-- `flat::leaf::presence` meets its contract.
use mathlib.Core.Path.{refl, sym, ◌∙◌}
use native.Mathlib.Omega.{arith}
use Rattle.schema.specs.File.{table_of}
use Rattle.flat.proofs.Heads.{head-cut, head-known, head-incomplete, head-bits}
use Rattle.flat.proofs.leaf.presence.Goals as goal

pub returns-then-p-at : goal.returns-then-p-at
returns-then-p-at c =
    rw c.at.ensures (record { told = head-cut c.args.p.now (table_of c.args.s.now) c.args.first c.args.n c.args.at c.requires.3 c.if-p-at.true; place = refl })

pub is_complete-requires : goal.is_complete-requires
is_complete-requires c = (
  c.requires.0,
  c.requires.3,
  λ j. head-known c.args.p.now (table_of c.args.s.now)
      c.args.first c.args.n c.args.at c.requires.3 _ _ _ _ (omega arith)
      c.read-b.ensures (c.requires.5 j),
)

pub returns-then-not-is_complete : goal.returns-then-not-is_complete
returns-then-not-is_complete c =
    let fault = head-incomplete c.args.p.now (table_of c.args.s.now)
    c.args.first c.args.n c.args.at
    c.requires.3 _ _ _ _ (omega arith) c.read-b.ensures (sym c.is_complete.ensures ∙ c.if-not-is_complete.true) in
    rw c.at-then-not-is_complete.ensures (record { told = fault; place = refl })

pub returns : goal.returns
returns c =
    record {
      told = head-bits c.args.p.now (table_of c.args.s.now)
          c.args.first c.args.n
          c.args.at c.requires.3 _ _ _ _ (omega arith)
          c.read-b.ensures (sym c.is_complete.ensures ∙ c.if-not-is_complete.false)
          c.requires.1 c.requires.2
          (λ i. omega (arith, c.type_inv.p i));
      place = tt;
    }
