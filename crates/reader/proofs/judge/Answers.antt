-- `reader::judge` meets its contract: each return says which case holds.
use mathlib.Core.Path.{sym, ap}
use mathlib.Core.Bool.{false≢true}
use native.Mathlib.Omega.{arith}
use Rattle.schema.specs.File.{table_of}
use Rattle.walks.proofs.Tables.{struct_row, shape-struct}
use Rattle.flat.specs.Told.{told_walk}
use Rattle.flat.proofs.Steps.{was}
use Rattle.reader.specs.Judged.{stops, goes}
use Rattle.reader.proofs.Told.{exit}
use Rattle.reader.proofs.Entries.{entry-type, entry-long, entry-refused, entry-full}
use Rattle.reader.proofs.judge.Goals as goal

pub returns-then-t : goal.returns-then-t
returns-then-t c =
    let a = c.args in
    let t = c.type_row-t in
    rw c.at.ensures
    (stops (λ sheet e. entry-type a.shown.now a.schema.now.bytes.now a.ty a.payload.now sheet t.result t.ensures a.schema.now.good c.if-t.true))

pub returns-then-payload-gt-PAYLOAD : goal.returns-then-payload-gt-PAYLOAD
returns-then-payload-gt-PAYLOAD c =
    let a = c.args in
    let t = c.type_row-t in
    rw c.at-then-payload-gt-PAYLOAD.ensures
    (stops (λ sheet e. entry-long a.shown.now a.schema.now.bytes.now a.ty a.payload.now sheet t.result t.ensures c.if-t.false c.if-payload-gt-PAYLOAD.true))

pub root-requires : goal.root-requires
root-requires c =
    let a = c.args in
    let s = a.schema.now.bytes.now in
    let t = c.type_row-t in
    let kind = c.if-t.false in
    let row = struct_row s a.schema.now.good a.ty _ t.ensures kind in record {
      ready = record {
        good = a.schema.now.good;
        small = c.if-payload-gt-PAYLOAD.false;
        inside = omega arith;
        behind = omega arith;
        judged = λ j. absurd (false≢true (sym j));
      };
      ty_value = (shape-struct (table_of s) a.ty _ t.ensures kind, row.0, row.1, row.2);
    }

pub returns-in_err-past : goal.returns-in_err-past
returns-in_err-past c =
    let a = c.args in
    let t = c.type_row-t in
    let walked = was c.root.ensures (ap told_walk c.in_err-past.was) in
    rw (exit c.from_residual.result c.from_residual.ensures.1)
    (stops (λ sheet e. entry-refused a.shown.now a.schema.now.bytes.now a.ty a.payload.now sheet t.result t.ensures c.if-t.false c.if-payload-gt-PAYLOAD.false _ _ _ _ walked))

pub returns-then-rows-past : goal.returns-then-rows-past
returns-then-rows-past c =
    let a = c.args in
    let t = c.type_row-t in
    let walked = was c.root.ensures (ap told_walk c.in_ok-past.was) in
    rw c.at-then-rows-past.ensures
    (stops (λ sheet e. entry-full a.shown.now a.schema.now.bytes.now a.ty a.payload.now sheet t.result t.ensures c.if-t.false c.if-payload-gt-PAYLOAD.false _ _ _ _ _ walked
    (omega (arith, e, c.if-rows-past.true))))

pub returns : goal.returns
returns c =
    let t = c.type_row-t in
    let walked = was c.root.ensures (ap told_walk c.in_ok-past.was) in
    goes (rw (← t.ensures) c.if-t.false) c.if-payload-gt-PAYLOAD.false c.if-rows-past.false (rw (← t.ensures) walked)
