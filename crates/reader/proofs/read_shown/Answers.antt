-- `reader::read_shown` meets its contract. The first walk writes into cells of its own; few rows are copied from them, and where there are more the second
-- walk is known to accept.
use mathlib.Core.Path.{◌≡◌, refl, ◌∙◌}
use native.Mathlib.Omega.{arith}
use Rattle.schema.specs.File.{table_of}
use Rattle.walks.proofs.Tables.{struct_row, shape-struct}
use Rattle.reader.proofs.Entries.{entry-judged, entry-copied, entry-shown, judged-struct, judged-small, judged-few, judged-walked}
use Rattle.reader.proofs.read_shown.Goals.{else-past-le-SCRATCH_ROWS, then-past-le-SCRATCH_ROWS}
use Rattle.reader.proofs.read_shown.Goals as goal

pub root-requires : goal.root-requires
root-requires c =
    let a = c.args in
    let s = a.schema.now.bytes.now in
    let t = c.type_row-t in
    let judged = c.in_ok-past.ensures in
    let kind : t.result.kind ≡ 16 = rw t.ensures (judged-struct judged) in
    let row = struct_row s a.schema.now.good a.ty _ t.ensures kind in record {
      ready = record {
        good = a.schema.now.good;
        small = judged-small judged;
        inside = omega arith;
        behind = omega arith;
        judged = λ j. rw t.ensures (entry-judged a.shown.now s a.ty a.payload.now a.sheet.now _ refl (judged-struct judged) (judged-small judged) _ _ _ _ _ (judged-walked judged));
      };
      ty_value = (shape-struct (table_of s) a.ty _ t.ensures kind, row.0, row.1, row.2);
    }

pub returns : goal.returns
returns c =
    let a = c.args in
    let s = a.schema.now.bytes.now in
    let judged = c.in_ok-past.ensures in
    let kind = judged-struct judged in
    let small = judged-small judged in
    let few = judged-few judged in
    let walked = judged-walked judged in
    (elim c.if-past-le-SCRATCH_ROWS.branch [
      | then-past-le-SCRATCH_ROWS w ↦ rw (w.sheet-is ∙ w.copy_cells.ensures) (entry-copied a.shown.now s a.ty a.payload.now a.sheet.now _ refl kind small _ _ _ _ _ walked few w.if-past-le-SCRATCH_ROWS.true)
      | else-past-le-SCRATCH_ROWS w ↦ rw w.sheet-is (entry-shown a.shown.now s a.ty a.payload.now a.sheet.now _ refl kind small _ _ _ _ _ walked _ _ few (rw w.type_row-t.ensures at w.root.ensures))
    ])
