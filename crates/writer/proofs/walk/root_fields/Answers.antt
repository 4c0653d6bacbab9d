-- `writer::walk::root_fields` meets its contract.
use Rattle.writer.proofs.Steps.{handed, was, as_refused}
use Rattle.writer.proofs.Roots.{whole-stopped, whole-left, whole-done}
use Rattle.writer.proofs.walk.root_fields.Goals as goal

pub returns-in_err-past : goal.returns-in_err-past
returns-in_err-past c = as_refused (handed c.from_residual.ensures.1) (whole-stopped (was c.write_fields.ensures c.in_err-past.was).same)

pub returns-then-past-rows : goal.returns-then-past-rows
returns-then-past-rows c =
    let w = was c.write_fields.ensures c.in_ok-past.was in
    as_refused c.at.ensures (whole-left _ w.same w.within.0 c.if-past-rows.true)

pub returns : goal.returns
returns c =
    let w = was c.write_fields.ensures c.in_ok-past.was in
    record { same = whole-done _ w.same w.within.0 c.if-past-rows.false; within = w.within }
