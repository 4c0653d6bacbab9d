-- `writer::put_payload` meets its contract.
use mathlib.Core.Path.{◌≡◌, refl}
use native.Mathlib.Omega.{arith}
use Rattle.schema.specs.File.{table_of}
use Rattle.walks.specs.Shape.{fields_from}
use Rattle.walks.proofs.Tables.{shape-struct, struct_row}
use Rattle.writer.proofs.Entries.{payload-struct, payload-room, payload-accepted, payload-put}
use Rattle.writer.proofs.put_payload.Goals as goal

pub root-requires : goal.root-requires
root-requires c =
    let schema = c.of_good-schema.result.bytes.now in
    let same : schema ≡ c.args.s.now = rw c.of_good-schema.ensures in
    let args = c.args in
    let measured = rw (← same) at c.requires.source_value in
    let type_row = c.type_row-t in
    let T = table_of schema in
    let struct = payload-struct schema c.of_good-schema.result.good args.ty args.sheet.now args.source.now _ type_row.ensures measured in
    let is = shape-struct T args.ty _ type_row.ensures struct in
    let fs = fields_from T type_row.result.a type_row.result.b in record {
      ready = (
        record {
          inside = omega arith;
          capped = omega arith;
          small = payload-room schema args.ty args.sheet.now args.source.now fs is measured;
          judged = λ j. payload-accepted schema args.ty args.sheet.now args.source.now fs is measured;
        },
        is,
      );
      n_nonzero = struct_row schema c.of_good-schema.result.good args.ty _ type_row.ensures struct;
    }

pub returns : goal.returns
returns c =
    let schema = c.of_good-schema.result.bytes.now in
    let same : schema ≡ c.args.s.now = rw c.of_good-schema.ensures in
    let args = c.args in
    let measured = rw (← same) at c.requires.source_value in
    let type_row = c.type_row-t in
    let T = table_of schema in
    let struct = payload-struct schema c.of_good-schema.result.good args.ty args.sheet.now args.source.now _ type_row.ensures measured in
    let is = shape-struct T args.ty _ type_row.ensures struct in
    let fs = fields_from T type_row.result.a type_row.result.b in
    rw (← same) (payload-put schema args.ty args.sheet.now args.source.now fs is measured args.out.now _ _ refl c.root.ensures)
