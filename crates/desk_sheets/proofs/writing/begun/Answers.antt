use Rattle.std.proofs.Common.{[], rules}
use Rattle.desk_sheets.specs.Writing.{HasWritten}
use Rattle.desk_sheets.proofs.writing.begun.Goals as goal

-- nothing was written before
pub returns : goal.returns
returns c =
    let start : HasWritten c.from_writer-writer.result [] = record {
      setup = search rules;
      ended = search rules;
      clean = search rules;
      text = search rules;
    } in
    c.in_ok-write.ensures [] start
