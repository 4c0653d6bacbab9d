-- `scalar::entry::scalar_of` meets its contract, by the kind of the row's type.
use mathlib.Core.Path.{◌≡◌, sym, ap, ◌∙◌}
use Rattle.schema.specs.declared.TypeRow.{TypeRow}
use Rattle.scalar.specs.Told.{told}
use Rattle.schema.specs.Table.{row_at}
use Rattle.schema.specs.File.{table_of}
use Rattle.schema.specs.Good.{GoodSchema}
use Rattle.schema.proofs.Goods.{good-table}
use Rattle.scalar.proofs.Answers.{row-refused, row-passed, number-row, text-row}
use Rattle.scalar.proofs.entry.scalar_of.Goals.{After-type_row-kind}
use Rattle.scalar.proofs.entry.scalar_of.Goals as goal

-- The kind is the table's.
kind-is : (c : After-type_row-kind) → let a = c.args in (row_at (table_of a.schema.now.bytes.now) a.row.ty).kind ≡ c.type_row-kind.result.kind
kind-is c = ap (λ (r : TypeRow). r.kind) (sym c.type_row-kind.ensures)

good : (c : After-type_row-kind) → GoodSchema (table_of c.args.schema.now.bytes.now)
good c = good-table _ c.args.schema.now.good

pub returns-then-kind-row : goal.returns-then-kind-row
returns-then-kind-row c =
    let t = (goal.at.returns-then-kind-row c).After-type_row-kind in
    ap told c.at.ensures ∙ sym (row-refused _ (good t) _ _ _ (kind-is t) c.if-kind-row.true)

pub returns-then-kind : goal.returns-then-kind
returns-then-kind c =
    let t = (goal.at.returns-then-kind c).After-type_row-kind in
    let p = row-passed _ (good t) c.args.row c.args.bytes.now _ (kind-is t) c.if-kind-row.false in
    c.number_at.ensures ∙ sym (number-row _ (good t) _ _ _ (kind-is t) p.0 c.if-kind.true p.2)

pub returns-else-kind : goal.returns-else-kind
returns-else-kind c =
    let t = (goal.at.returns-else-kind c).After-type_row-kind in
    let p = row-passed _ (good t) c.args.row c.args.bytes.now _ (kind-is t) c.if-kind-row.false in
    c.text_at.ensures ∙ sym (text-row _ (good t) _ _ _ (kind-is t) c.if-kind.false p.1 p.2)
