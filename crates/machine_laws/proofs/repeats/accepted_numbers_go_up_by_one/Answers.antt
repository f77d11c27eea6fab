use Rattle.std.proofs.Common.{◌∙◌, ◌+◌, ap, length}
use Rattle.std.specs.List.{range_with_len}
use Rattle.desk_words.specs.Tables.{rows_of}
use Rattle.machine_core.specs.Own.{Own, own_of}
use Rattle.machine_laws.specs.Callers.{place_of}
use Rattle.machine_laws.specs.Events.{numbers_of}
use Rattle.machine_laws.proofs.Listed.{numbers-from, numbers-listed}
use Rattle.machine_laws.proofs.Staying.{chain-done}
use Rattle.machine_laws.proofs.repeats.accepted_numbers_go_up_by_one.Goals as goal

pub returns-clause-all : goal.returns-clause-all
returns-clause-all c = λ caller own events is steps.
    let rows = rows_of c.args.tables.now in
    let found = chain-done (place_of rows caller) (own_of rows) own is in
    numbers-from rows caller found.0 events c.requires found.1 steps
    ∙ ap (λ (one : Own). range_with_len (one.row.last + 1) (length (numbers_of caller events))) found.2

pub returns-clause-from_one_on : goal.returns-clause-from_one_on
returns-clause-from_one_on c = λ caller event events write steps.
    numbers-listed (rows_of c.args.tables.now) caller event events c.requires write steps
