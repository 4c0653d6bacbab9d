-- `flat::elements::is_flat` meets its contract.
use Prim.Native.Nat.{◌<◌}
use native.Mathlib.Omega.{arith}
use borrow.Author.Tests.{ltb-true}
use Rattle.schema.specs.Table.{row_at}
use Rattle.schema.specs.File.{table_of}
use Rattle.walks.proofs.Tables.{struct_row, struct_type, shape-struct}
use Rattle.flat.proofs.Turns.{flat-array, array-shown, flat-struct, struct-shown}
use Rattle.flat.proofs.elements.is_flat.Goals as goal

pub returns-then-t : goal.returns-then-t
returns-then-t c e =
    let args = c.args in
    let t = c.type_row-t in
    let T = table_of args.s.now in
    let leaf : c.type_row-e.result.kind < 14 = ltb-true _ 14 e in
    let inner : (row_at T t.result.a).kind < 14 = rw (← c.type_row-e.ensures) leaf in (
      flat-array args.s.now args.depth args.ty t.result t.ensures c.if-t.true (omega (arith, c.if-depth-lt2.false)) inner,
      array-shown args.s.now args.depth args.ty t.result t.ensures c.if-t.true args.shown.now,
    )

pub shown_of-requires : goal.shown_of-requires
shown_of-requires c =
    let args = c.args in
    let t = c.type_row-t in
    (struct_type args.s.now c.requires args.ty _ (shape-struct (table_of args.s.now) args.ty t.result t.ensures c.if-t-2.false)).1

pub are_leaves-requires : goal.are_leaves-requires
are_leaves-requires c =
    let back = c in
    let t = c.type_row-t in
    (back.requires, (struct_row _ back.requires _ _ t.ensures c.if-t-2.false).2)

pub returns : goal.returns
returns c e =
    let back = c in
    let args = back.args in
    let t = c.type_row-t in
    let k = c.if-t-2.false in
    let room = (struct_row _ back.requires _ _ t.ensures k).2 in (
      flat-struct args.s.now args.depth args.ty t.result t.ensures k (omega (arith, back.if-depth-lt2.false)) (c.are_leaves.ensures e),
      struct-shown args.s.now args.depth args.ty t.result t.ensures k args.shown.now room (omega (arith, c.shown_of.ensures, c.if-shown_of-n.false)),
    )
