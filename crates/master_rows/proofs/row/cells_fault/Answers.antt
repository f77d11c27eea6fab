use Rattle.std.proofs.Common.{rules, ◌≡◌, ◌<◌, ◌≤◌, ◌+◌, ◌∙◌, ◌∷◌, suc, add-one, drop, length, sym, ap}
use Rattle.desk_base.specs.declared.limits.TheConstants.{MAX_TEXT}
use Rattle.csv.specs.Records.{fields_of}
use Rattle.master_rows.specs.Row.{cells_fault}
use Rattle.master_rows.proofs.Faults.{cells_fault-long, cells_fault-next}
use Rattle.master_rows.proofs.Records.{drop-field_at}
use Rattle.master_rows.proofs.row.cells_fault.Goals as goal
use Rattle.master_rows.proofs.row.cells_fault.Goals.{After-field_at}

-- the first fault is that of the cell at the place and of those after it
left-at : (c : After-field_at) → cells_fault c.args.row 1 (fields_of c.args.source.now)
    ≡ cells_fault c.args.row (c.places.place + 1)
    (c.field_at.result.now ∷ drop (suc c.places.place) (fields_of c.args.source.now))
left-at c = c.places.invariant ∙ ap (cells_fault c.args.row (c.places.place + 1))
    (drop-field_at (fields_of c.args.source.now) c.places.place c.field_at.result.now c.field_at.ensures)

pub returns-then-field_at-gt-MAX_TEXT : goal.returns-then-field_at-gt-MAX_TEXT
returns-then-field_at-gt-MAX_TEXT c =
    let fields = fields_of c.args.source.now in
    let long : MAX_TEXT < length c.field_at.result.now = search rules in
    sym (left-at (goal.at.returns-then-field_at-gt-MAX_TEXT c).After-field_at
    ∙ cells_fault-long c.args.row (c.places.place + 1) c.field_at.result.now
    (drop (suc c.places.place) fields) long)

pub places-preserved : goal.places-preserved
places-preserved c =
    let fields = fields_of c.args.source.now in
    let place = c.places.place in
    let short : length c.field_at.result.now ≤ MAX_TEXT = search rules in
    left-at (goal.at.places-preserved c).After-field_at
    ∙ cells_fault-next c.args.row (place + 1) c.field_at.result.now (drop (suc place) fields) short
    ∙ ap (λ n. cells_fault c.args.row (place + 1 + 1) (drop n fields)) (sym (add-one place))
