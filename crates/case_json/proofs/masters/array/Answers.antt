use Rattle.json_parts.proofs.Reading.{all_items-items_of}
use Rattle.case_json.proofs.masters.array.Goals as goal

pub returns-in-Some : goal.returns-in-Some
returns-in-Some c = rw (← c.in-Some.ensures, c.as_slice.ensures.value, all_items-items_of)
