use Rattle.std.proofs.Common.{◌∙◌, ◌+◌, ap}
use Rattle.desk_words.specs.Tables.{rows_of}
use Rattle.machine_core.specs.Own.{Own, own_of}
use Rattle.machine_laws.specs.Callers.{place_of}
use Rattle.machine_laws.proofs.Numbers.{number-next}
use Rattle.machine_laws.proofs.Staying.{chain-done}
use Rattle.machine_laws.proofs.repeats.an_accepted_write_has_the_next_number.Goals as goal

pub returns : goal.returns
returns c = λ caller own answer changes is asked_it some step.
    let found = chain-done (place_of (rows_of c.args.tables.now) caller) (own_of (rows_of c.args.tables.now)) own is in
    (number-next (rows_of c.args.tables.now) c.requires c.args.command.now answer changes step caller found.0 some
    asked_it found.1).0 ∙ ap (λ (one : Own). one.row.last + 1) found.2
