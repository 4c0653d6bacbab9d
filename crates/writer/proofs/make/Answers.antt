-- `writer::make` meets its contract.
use mathlib.Core.Path.{◌≡◌, sym, ap}
use mathlib.Core.Bool.{false≢true}
use native.Mathlib.Omega.{arith}
use Rattle.schema.specs.File.{table_of}
use Rattle.walks.specs.Shape.{fields_from}
use Rattle.walks.proofs.Tables.{shape-struct, struct_row}
use Rattle.writer.specs.Entry.{length_of}
use Rattle.writer.proofs.Steps.{handed}
use Rattle.writer.proofs.Entries.{payload-other, front-refused, payload-refused, payload-long, payload-length, payload-front}
use Rattle.writer.proofs.make.Goals as goal

pub returns-then-t : goal.returns-then-t
returns-then-t c =
    let schema = c.of_good-schema.result.bytes.now in
    let same : schema ≡ c.args.s.now = rw c.of_good-schema.ensures in
    let args = c.args in
    let none = payload-other schema c.of_good-schema.result.good args.ty args.sheet.now args.source.now _ c.type_row-t.ensures c.if-t.true in
    record { value = rw (c.at.ensures, ← same) (sym (ap length_of none)); fronts = rw (← same) (front-refused _ _ none) }

pub root-requires : goal.root-requires
root-requires c =
    let schema = c.of_good-schema.result.bytes.now in
    let same : schema ≡ c.args.s.now = rw c.of_good-schema.ensures in
    let args = c.args in
    let asked = c.requires in
    let type_row = c.type_row-t in
    let if1 = c.if-t in record {
      ready = (
        record { inside = omega arith; capped = omega arith; small = asked.1; judged = λ j. absurd (false≢true (sym j)) },
        shape-struct (table_of schema) args.ty _ type_row.ensures if1.false,
      );
      n_nonzero = struct_row schema c.of_good-schema.result.good args.ty _ type_row.ensures if1.false;
    }

pub returns-then-past-gt-PAYLOAD : goal.returns-then-past-gt-PAYLOAD
returns-then-past-gt-PAYLOAD c =
    let schema = c.of_good-schema.result.bytes.now in
    let same : schema ≡ c.args.s.now = rw c.of_good-schema.ensures in
    let if1 = c.if-t in
    let args = c.args in
    let type_row = c.type_row-t in
    let root = c.root in
    let T = table_of schema in
    let is = shape-struct T args.ty _ type_row.ensures if1.false in
    let fs = fields_from T type_row.result.a type_row.result.b in
    let long = payload-long schema args.ty args.sheet.now args.source.now fs is _ _ _ root.ensures _ c.in_ok-past.was c.if-past-gt-PAYLOAD.true in
    record { value = rw (c.at-then-past-gt-PAYLOAD.ensures, ← same) (sym (ap length_of long)); fronts = rw (← same) (front-refused _ _ long) }

pub returns-in_err-past : goal.returns-in_err-past
returns-in_err-past c =
    let schema = c.of_good-schema.result.bytes.now in
    let same : schema ≡ c.args.s.now = rw c.of_good-schema.ensures in
    let if1 = c.if-t in
    let args = c.args in
    let type_row = c.type_row-t in
    let root = c.root in
    let T = table_of schema in
    let is = shape-struct T args.ty _ type_row.ensures if1.false in
    let fs = fields_from T type_row.result.a type_row.result.b in
    let none = payload-refused schema args.ty args.sheet.now args.source.now fs is _ _ _ root.ensures _ c.in_err-past.was in
    record { value = rw (handed c.from_residual.ensures.1, ← same) (sym (ap length_of none)); fronts = rw (← same) (front-refused _ _ none) }

pub returns : goal.returns
returns c =
    let schema = c.of_good-schema.result.bytes.now in
    let same : schema ≡ c.args.s.now = rw c.of_good-schema.ensures in
    let if1 = c.if-t in
    let args = c.args in
    let type_row = c.type_row-t in
    let root = c.root in
    let T = table_of schema in
    let is = shape-struct T args.ty _ type_row.ensures if1.false in
    let fs = fields_from T type_row.result.a type_row.result.b in
    record {
      value = rw (← same) (sym (payload-length schema args.ty args.sheet.now args.source.now fs is _ _ _ root.ensures _ c.in_ok-past.was c.if-past-gt-PAYLOAD.false));
      fronts = rw (← same) (payload-front schema args.ty args.sheet.now args.source.now fs is _ _ _ root.ensures);
    }
