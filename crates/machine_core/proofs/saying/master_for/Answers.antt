use Rattle.std.proofs.Common.{◌∙◌, ap, sym}
use Rattle.std.specs.Prelude.{option_and_then}
use Rattle.desk_words.specs.Tables.{published_of, rows_of}
use Rattle.desk_valid.specs.Readings.{master_at}
use Rattle.machine_core.proofs.saying.master_for.Goals as goal

pub returns-in_ok-master_of-in-Some : goal.returns-in_ok-master_of-in-Some
returns-in_ok-master_of-in-Some c =
    let found = rw (c.as_slice.ensures, c.as_str.ensures.text) at c.place_of.ensures.place in
    sym (ap (option_and_then (master_at (published_of (rows_of c.args.tables.now)))) (sym found ∙ c.in-Some.is)
    ∙ c.in_ok-master_of-in-Some.ensures.master)

pub returns-in-None : goal.returns-in-None
returns-in-None c =
    let found = rw (c.as_slice.ensures, c.as_str.ensures.text) at c.place_of.ensures.place in
    sym (ap (option_and_then (master_at (published_of (rows_of c.args.tables.now)))) (sym found ∙ c.in-None.is))
