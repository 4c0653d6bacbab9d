-- `reader::walk::root` meets its contract: the fields are those of an inner struct, at depth 2.
use Rattle.std.proofs.Common.{◌≡◌, ap}
use Rattle.std.proofs.lemmas.Result.{IfErr-at_err}
use native.Mathlib.Omega.{arith}
use Rattle.schema.specs.Table.{shape}
use Rattle.schema.specs.File.{table_of}
use Rattle.walks.specs.Shape.{fields_from}
use Rattle.flat.specs.Head.{Bits}
use Rattle.flat.specs.Told.{told_head, told_walk}
use Rattle.flat.specs.Walk.{told_in}
use Rattle.reader.proofs.Told.{exit}
use Rattle.flat.proofs.Steps.{was, as_refused}
use Rattle.reader.proofs.Roots.{root-bitmap, root-refused, root_in, root-fields, root-stop, root-end}
use Rattle.reader.proofs.walk.root.Goals.{In_ok-bits}
use Rattle.reader.proofs.walk.root.Goals as goal

-- After the bitmap.
bits-read : (c : In_ok-bits) → let b = c.in_ok-bits.bits in told_head c.presence.result ≡ Bits b.word b.known b.ones b.unknown b.start
bits-read c = ap told_head c.in_ok-bits.was

pub presence-requires : goal.presence-requires
presence-requires c =
    let args = c.args in
    let asked = c.requires in
    let T = table_of args.view.now.source.schema.bytes.now in
    let S = shape T in
    let p = args.view.now.source.payload.now in
    let pre = asked.ready in
    let n = asked.ty_value in
    (pre.good, n.1, n.2, n.3, omega arith, λ j. root-bitmap S args.ty (fields_from T args.first args.n) p (pre.judged j))

pub read_root_fields-requires : goal.read_root_fields-requires
read_root_fields-requires c =
    let args = c.args in
    let asked = c.requires in
    let T = table_of args.view.now.source.schema.bytes.now in
    let S = shape T in
    let p = args.view.now.source.payload.now in
    let fs = fields_from T args.first args.n in
    let read = c.presence.ensures.told in
    let pre = asked.ready in
    let h = root_in S args.ty fs p _ read _ _ _ _ _ (bits-read (goal.at.read_root_fields-requires c).In_ok-bits) in (
      record {
        ready = record {
          good = pre.good;
          small = pre.small;
          inside = h.5;
          behind = omega (arith, h.4);
          judged = λ j. root-fields S args.ty fs p _ read _ _ _ _ _ (bits-read (goal.at.read_root_fields-requires c).In_ok-bits) (pre.judged j);
        };
        in_table = asked.ty_value.3;
        forth = omega arith;
      },
      (asked.ty_value.0, asked.ty_value.2),
      (h.6, h.1),
    )

pub returns-in_err-bits : goal.returns-in_err-bits
returns-in_err-bits c =
    let args = c.args in
    let asked = c.requires in
    let T = table_of args.view.now.source.schema.bytes.now in
    let S = shape T in
    let p = args.view.now.source.payload.now in
    let placed = IfErr-at_err (λ e. e.place ≡ 0) c.in_err-bits.was c.presence.ensures.place in
    rw (exit c.from_residual.result c.from_residual.ensures.1, placed)
    (as_refused _ _ _ (root-refused S args.ty (fields_from T args.first args.n) p _ c.presence.ensures.told _ (ap told_head c.in_err-bits.was)))

pub returns-in_err-past : goal.returns-in_err-past
returns-in_err-past c =
    let args = c.args in
    let asked = c.requires in
    let T = table_of args.view.now.source.schema.bytes.now in
    let S = shape T in
    let p = args.view.now.source.payload.now in
    let fs = fields_from T args.first args.n in
    let tell = told_in args.view.now.shown.now args.view.now.source.schema.bytes.now args.ty in
    let read = c.presence.ensures.told in
    rw (exit c.from_residual-in_err-past.result c.from_residual-in_err-past.ensures.1)
    (root-stop S args.ty fs p _ read _ _ _ _ _ (bits-read (goal.at.returns-in_err-past c).In_ok-bits) tell _ _ _ _
    (was c.read_root_fields.ensures (ap told_walk c.in_err-past.was)))

pub returns : goal.returns
returns c =
    let args = c.args in
    let T = table_of args.view.now.source.schema.bytes.now in
    let tell = told_in args.view.now.shown.now args.view.now.source.schema.bytes.now args.ty in
    root-end (shape T) args.ty (fields_from T args.first args.n) args.view.now.source.payload.now _ c.presence.ensures.told _ _ _ _ _ (bits-read (goal.at.returns c).In_ok-bits) tell _ _ _ _ _
    (was c.read_root_fields.ensures (ap told_walk c.in_ok-past.was)) c.end_root.ensures
