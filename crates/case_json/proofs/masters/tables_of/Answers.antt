use Rattle.case_json.proofs.Reading.{items_in-Array}
use Rattle.case_json.proofs.masters.tables_of.Goals as goal

pub returns-in-Array : goal.returns-in-Array
returns-in-Array c = rw (c.in-Array.is, items_in-Array) c.each_table.ensures
