-- `flat::sheet::put_row` meets its contract.
use mathlib.Core.Path.{sym}
use Rattle.flat.specs.Sheet.{put4}
use Rattle.flat.proofs.Sheets.{put-fits, put-none}
use Rattle.flat.proofs.sheet.put_row.Goals as goal

pub returns-then-base-sheet : goal.returns-then-base-sheet
unfolding put4
returns-then-base-sheet c = sym (put-fits c.args.sheet.now c.args.row (record { ty = c.args.ty; place = c.args.place; length = c.args.length; count = c.args.count }) c.if-base-sheet.true)

pub returns-else-base-sheet : goal.returns-else-base-sheet
returns-else-base-sheet c = sym (put-none c.args.sheet.now c.args.row (record { ty = c.args.ty; place = c.args.place; length = c.args.length; count = c.args.count }) c.if-base-sheet.false)
