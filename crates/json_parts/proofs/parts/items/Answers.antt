use Rattle.json_parts.proofs.Reading.{all_items-items_of}
use Rattle.json_parts.proofs.parts.items.Goals as goal

pub returns-in-Some-clause-items : goal.returns-in-Some-clause-items
returns-in-Some-clause-items c = rw (← c.in-Some.ensures, c.as_slice.ensures.value, all_items-items_of)
