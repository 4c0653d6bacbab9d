-- `flat::elements::flat_array` meets its contract.
use mathlib.Core.Path.{◌∙◌}
use mathlib.Core.Path.{◌≡◌, ap}
use Prim.Native.Nat.{◌<◌}
use native.Mathlib.Omega.{arith}
use Rattle.schema.specs.Table.{row_at, shape}
use Rattle.schema.specs.File.{table_of}
use Rattle.walks.proofs.Tables.{array_row, shape-array}
use Rattle.flat.proofs.Steps.{as_refused}
use Rattle.flat.proofs.Composites.{count_in, array-refused, array_whole, array-valued}
use Rattle.flat.specs.Count.{Is}
use Rattle.flat.specs.Told.{told_count}
use Rattle.std.proofs.lemmas.Result.{IfErr-at_err, err_from_is_err_and}
use Rattle.flat.proofs.elements.flat_array.Goals.{In_ok-count}
use Rattle.flat.proofs.elements.flat_array.Goals as goal

-- What the count is.
counted : (c : In_ok-count) → told_count c.read_count.result ≡ Is c.in_ok-count.count.n c.in_ok-count.count.start
counted c = ap told_count c.in_ok-count.was

pub read_leaves-requires : goal.read_leaves-requires
read_leaves-requires c =
    let args = c.args in
    let pre = c.requires in
    let f = args.f in
    let S = shape (table_of args.source.now.schema.bytes.now) in
    let row = pre.1.is in
    let k = pre.3 in
    let is = shape-array (table_of args.source.now.schema.bytes.now) f.ty f.row row k in
    let read = c.read_count.ensures.told in
    let n = c.in_ok-count.count.n in
    let start = c.in_ok-count.count.start in
    let is-n = counted (goal.at.read_leaves-requires c).In_ok-count in
    let w = count_in S args.depth f.ty args.source.now.payload.now args.at 1 _ read n start is-n in
    let whole = array_whole S args.depth f.ty args.source.now.payload.now args.at f.row.a is _ read n start is-n in
    let ready = pre.0 in
    let leaf : (row_at (table_of args.source.now.schema.bytes.now) f.row.a).kind < 14 = rw row (pre.2.elements (rw row at k)) in record {
      ready = record {
        good = ready.good;
        small = ready.small;
        inside = omega (arith, w);
        behind = omega (arith, w, ready.behind);
        judged = λ j. rw whole at (ready.judged j);
      };
      kind_nonzero = (array_row _ ready.good f.ty f.row row k, leaf, omega (arith, w, ready.small));
    }

pub returns-in_err-count : goal.returns-in_err-count
returns-in_err-count c =
    let args = c.args in
    let pre = c.requires in
    let f = args.f in
    let array_is = shape-array (table_of args.source.now.schema.bytes.now) f.ty f.row pre.1.is pre.3 in
    let place = IfErr-at_err (λ e. e.place ≡ c.args.at) c.in_err-count.was c.read_count.ensures.place in
    let (_, is, same) = err_from_is_err_and c.from_residual.result c.from_residual.ensures.1 in
    rw (is, same, place)
    (λ R shown. as_refused _ _ _ (array-refused (shape (table_of args.source.now.schema.bytes.now)) args.depth f.ty args.source.now.payload.now args.at f.row.a array_is _ c.read_count.ensures.told _ (ap told_count c.in_err-count.was)))

pub returns : goal.returns
returns c =
    let args = c.args in
    let pre = c.requires in
    let f = args.f in
    let S = shape (table_of args.source.now.schema.bytes.now) in
    let is = shape-array (table_of args.source.now.schema.bytes.now) f.ty f.row pre.1.is pre.3 in
    let n = c.in_ok-count.count.n in
    let start = c.in_ok-count.count.start in
    λ R shown.
    array-valued S args.depth f.ty args.source.now.payload.now args.at f.row.a is _ c.read_count.ensures.told R (shown ∙ is) n start (counted (goal.at.returns c).In_ok-count) _ (c.read_leaves.ensures R)
