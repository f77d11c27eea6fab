use Rattle.std.proofs.Common.{◌≡◌, map, Some}
use Rattle.serde_json.specs.View.{view}
use Rattle.json_parts.specs.Parts.{items_in}
use Rattle.case_json.proofs.Reading.{items_in-Array}
use Rattle.case_json.proofs.masters.table_of.Goals as goal

pub returns-in-Array : goal.returns-in-Array
returns-in-Array c =
    let rows : items_in (view c.args.value) ≡ Some (map view c.in-Array.rows.items) =
    rw c.in-Array.is (items_in-Array c.in-Array.rows) in
    record {
      table = c.table_among.ensures.table (view c.args.value) rows;
      none = c.table_among.ensures.none (view c.args.value) rows;
    }
