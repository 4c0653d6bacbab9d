-- `forward::forward_sheet` meets its contract.
use Rattle.std.proofs.lemmas.Result.{IfErr-at_err}
use Rattle.constants.specs.declared.refusal.Refused.{Refused}
use mathlib.Core.Path.{◌≡◌, sym, ap}
use mathlib.Core.Bool.{false≢true}
use native.Mathlib.Omega.{arith}
use lib.Seq.{length-take-le}
use Rattle.schema.specs.File.{table_of}
use Rattle.walks.specs.Shape.{fields_from}
use Rattle.walks.proofs.Presence.{length_fields}
use Rattle.walks.proofs.Tables.{shape-struct, struct_row}
use Rattle.writer.proofs.Steps.{handed}
use Rattle.forward.specs.Told.{told_fault}
use Rattle.forward.proofs.Entries.{
  entry_other,
  entry-refused,
  entry-accepted,
  entry-inside,
  entry-fault,
  entry-tail,
  entry-short,
  entry-fits,
  entry-written,
}
use Rattle.forward.proofs.forward_sheet.Goals as goal

pub returns-then-t : goal.returns-then-t
returns-then-t c =
    let args = c.args in
    let type_row = c.type_row-t in
    rw c.at.ensures
    (entry_other args.schema.now.bytes.now c.args.schema.now.good args.ty args.sheet.now args.source.now
    args.tail.place args.tail.length args.out.now _ type_row.ensures c.if-t.true)

pub root-requires : goal.root-requires
root-requires c =
    let args = c.args in
    let type_row = c.type_row-t in
    let if1 = c.if-t in
    let is = shape-struct (table_of args.schema.now.bytes.now) args.ty _ type_row.ensures if1.false in record {
      ready = (
        record {
          inside = omega arith;
          capped = omega arith;
          small = omega arith;
          judged = λ j. absurd (false≢true (sym j));
        },
        is,
      );
      n_nonzero = struct_row args.schema.now.bytes.now c.args.schema.now.good args.ty _ type_row.ensures if1.false;
    }

pub unknown_at-unknown-requires : goal.unknown_at-unknown-requires
unknown_at-unknown-requires c =
    let placed = c.root_place-place in
    let args = c.args in
    let if1 = c.if-t in
    let type_row = c.type_row-t in
    let T = table_of args.schema.now.bytes.now in
    let is = shape-struct T args.ty _ type_row.ensures if1.false in
    let fs = fields_from T type_row.result.a type_row.result.b in
    let there = struct_row args.schema.now.bytes.now c.args.schema.now.good args.ty _ type_row.ensures if1.false in
    let many = length_fields T type_row.result.a type_row.result.b there.2 in
    let within = entry-inside args.schema.now.bytes.now args.ty args.sheet.now args.source.now args.tail.place args.tail.length args.out.now fs is
    _ _ _ c.root.ensures c.root.auto.out _ c.in_ok-pos.was
    placed.result _ placed.ensures many in
    (there.1, within)

pub returns-in_err-fault_of : goal.returns-in_err-fault_of
returns-in_err-fault_of c =
    let unknown = c.unknown_at-unknown in
    let placed = c.root_place-place in
    let args = c.args in
    let if1 = c.if-t in
    let type_row = c.type_row-t in
    let T = table_of args.schema.now.bytes.now in
    let is = shape-struct T args.ty _ type_row.ensures if1.false in
    let fs = fields_from T type_row.result.a type_row.result.b in
    let there = struct_row args.schema.now.bytes.now c.args.schema.now.good args.ty _ type_row.ensures if1.false in
    let many = length_fields T type_row.result.a type_row.result.b there.2 in
    rw (handed c.from_residual-in_err-fault_of.ensures.1)
    (entry-fault args.schema.now.bytes.now args.ty args.sheet.now args.source.now args.tail.place args.tail.length args.out.now fs is
    _ _ _ c.root.ensures c.root.auto.out _ c.in_ok-pos.was
    placed.result _ placed.ensures many _ unknown.ensures _ c.fault_of.ensures.fault _ (ap told_fault c.in_err-fault_of.was) (IfErr-at_err (λ (e : Refused). e.place ≡ 0) c.in_err-fault_of.was c.fault_of.ensures.place))

pub slice_bounds-root-end-3 : goal.slice_bounds-root-end-3
slice_bounds-root-end-3 c =
    let unknown = c.unknown_at-unknown in
    let placed = c.root_place-place in
    let args = c.args in
    let if1 = c.if-t in
    let type_row = c.type_row-t in
    let T = table_of args.schema.now.bytes.now in
    let is = shape-struct T args.ty _ type_row.ensures if1.false in
    let fs = fields_from T type_row.result.a type_row.result.b in
    let there = struct_row args.schema.now.bytes.now c.args.schema.now.good args.ty _ type_row.ensures if1.false in
    let many = length_fields T type_row.result.a type_row.result.b there.2 in
    entry-fits args.schema.now.bytes.now args.ty args.sheet.now args.source.now args.tail.place args.tail.length args.out.now fs is
    _ _ _ c.root.ensures c.root.auto.out _ c.in_ok-pos.was
    placed.result _ placed.ensures many _ unknown.ensures _ c.fault_of.ensures.fault (ap told_fault c.in_ok-fault_of.was)

pub slice_bounds-root-end-4 : goal.slice_bounds-root-end-4
slice_bounds-root-end-4 c =
    let unknown = c.unknown_at-unknown in
    let placed = c.root_place-place in
    let args = c.args in
    let if1 = c.if-t in
    let type_row = c.type_row-t in
    let T = table_of args.schema.now.bytes.now in
    let is = shape-struct T args.ty _ type_row.ensures if1.false in
    let fs = fields_from T type_row.result.a type_row.result.b in
    let there = struct_row args.schema.now.bytes.now c.args.schema.now.good args.ty _ type_row.ensures if1.false in
    let many = length_fields T type_row.result.a type_row.result.b there.2 in
    sym (length-take-le _ _
    (entry-fits args.schema.now.bytes.now args.ty args.sheet.now args.source.now args.tail.place args.tail.length args.out.now fs is
    _ _ _ c.root.ensures c.root.auto.out _ c.in_ok-pos.was
    placed.result _ placed.ensures many _ unknown.ensures _ c.fault_of.ensures.fault (ap told_fault c.in_ok-fault_of.was)))

pub root-requires-2 : goal.root-requires-2
root-requires-2 c =
    let unknown = c.unknown_at-unknown in
    let placed = c.root_place-place in
    let args = c.args in
    let if1 = c.if-t in
    let type_row = c.type_row-t in
    let T = table_of args.schema.now.bytes.now in
    let is = shape-struct T args.ty _ type_row.ensures if1.false in
    let fs = fields_from T type_row.result.a type_row.result.b in
    let there = struct_row args.schema.now.bytes.now c.args.schema.now.good args.ty _ type_row.ensures if1.false in
    let many = length_fields T type_row.result.a type_row.result.b there.2 in
    let room = entry-fits args.schema.now.bytes.now args.ty args.sheet.now args.source.now args.tail.place args.tail.length args.out.now fs is
    _ _ _ c.root.ensures c.root.auto.out _ c.in_ok-pos.was
    placed.result _ placed.ensures many _ unknown.ensures _ c.fault_of.ensures.fault (ap told_fault c.in_ok-fault_of.was) in
    let short = entry-short args.schema.now.bytes.now args.ty args.sheet.now args.source.now args.tail.place args.tail.length args.out.now fs is
    _ _ _ c.root.ensures c.root.auto.out _ c.in_ok-pos.was
    placed.result _ placed.ensures many _ unknown.ensures _ c.fault_of.ensures.fault (ap told_fault c.in_ok-fault_of.was) in
    let shown = entry-accepted args.schema.now.bytes.now args.ty args.sheet.now args.source.now args.tail.place args.tail.length args.out.now fs is
    _ _ _ c.root.ensures c.root.auto.out _ c.in_ok-pos.was in record {
      ready = (
        record {
          inside = omega arith;
          capped = omega arith;
          small = rw (length-take-le _ _ room) (omega (arith, short));
          judged = λ j. shown;
        },
        is,
      );
      n_nonzero = there;
    }

pub keep-requires : goal.keep-requires
keep-requires c =
    let unknown = c.unknown_at-unknown in
    let placed = c.root_place-place in
    let args = c.args in
    let if1 = c.if-t in
    let type_row = c.type_row-t in
    let T = table_of args.schema.now.bytes.now in
    let is = shape-struct T args.ty _ type_row.ensures if1.false in
    let fs = fields_from T type_row.result.a type_row.result.b in
    let there = struct_row args.schema.now.bytes.now c.args.schema.now.good args.ty _ type_row.ensures if1.false in
    let many = length_fields T type_row.result.a type_row.result.b there.2 in
    let none = ap told_fault c.in_ok-fault_of.was in
    let short = entry-short args.schema.now.bytes.now args.ty args.sheet.now args.source.now args.tail.place args.tail.length args.out.now fs is
    _ _ _ c.root.ensures c.root.auto.out _ c.in_ok-pos.was
    placed.result _ placed.ensures many _ unknown.ensures _ c.fault_of.ensures.fault none in
    let within = entry-inside args.schema.now.bytes.now args.ty args.sheet.now args.source.now args.tail.place args.tail.length args.out.now fs is
    _ _ _ c.root.ensures c.root.auto.out _ c.in_ok-pos.was
    placed.result _ placed.ensures many in
    let tail = entry-tail args.schema.now.bytes.now args.ty args.sheet.now args.source.now args.tail.place args.tail.length args.out.now fs is
    _ _ _ c.root.ensures c.root.auto.out _ c.in_ok-pos.was
    placed.result _ placed.ensures many _ unknown.ensures _ c.fault_of.ensures.fault none in
    (omega (arith, short), within, tail)

pub overflow_add-result : goal.overflow_add-result
overflow_add-result c =
    let unknown = c.unknown_at-unknown in
    let placed = c.root_place-place in
    let args = c.args in
    let if1 = c.if-t in
    let type_row = c.type_row-t in
    let T = table_of args.schema.now.bytes.now in
    let is = shape-struct T args.ty _ type_row.ensures if1.false in
    let fs = fields_from T type_row.result.a type_row.result.b in
    let there = struct_row args.schema.now.bytes.now c.args.schema.now.good args.ty _ type_row.ensures if1.false in
    let many = length_fields T type_row.result.a type_row.result.b there.2 in
    let short = entry-short args.schema.now.bytes.now args.ty args.sheet.now args.source.now args.tail.place args.tail.length args.out.now fs is
    _ _ _ c.root.ensures c.root.auto.out _ c.in_ok-pos.was
    placed.result _ placed.ensures many _ unknown.ensures _ c.fault_of.ensures.fault (ap told_fault c.in_ok-fault_of.was) in
    omega (arith, short)

pub returns-in_err-pos : goal.returns-in_err-pos
returns-in_err-pos c =
    let args = c.args in
    let if1 = c.if-t in
    let type_row = c.type_row-t in
    let T = table_of args.schema.now.bytes.now in
    let is = shape-struct T args.ty _ type_row.ensures if1.false in
    let fs = fields_from T type_row.result.a type_row.result.b in
    rw (handed c.from_residual.ensures.1)
    (entry-refused args.schema.now.bytes.now args.ty args.sheet.now args.source.now args.tail.place args.tail.length args.out.now fs is
    _ _ _ c.root.ensures c.root.auto.out c.in_err-pos.was)

pub returns : goal.returns
returns c =
    let unknown = c.unknown_at-unknown in
    let placed = c.root_place-place in
    let args = c.args in
    let if1 = c.if-t in
    let type_row = c.type_row-t in
    let T = table_of args.schema.now.bytes.now in
    let is = shape-struct T args.ty _ type_row.ensures if1.false in
    let fs = fields_from T type_row.result.a type_row.result.b in
    let there = struct_row args.schema.now.bytes.now c.args.schema.now.good args.ty _ type_row.ensures if1.false in
    let many = length_fields T type_row.result.a type_row.result.b there.2 in
    let root2 = c.root-2 in
    entry-written args.schema.now.bytes.now args.ty args.sheet.now args.source.now args.tail.place args.tail.length args.out.now fs is
    _ _ _ c.root.ensures c.root.auto.out _ c.in_ok-pos.was
    placed.result _ placed.ensures many _ unknown.ensures _ c.fault_of.ensures.fault (ap told_fault c.in_ok-fault_of.was)
    _ _ root2.ensures _ c.keep.ensures
