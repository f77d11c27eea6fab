use Rattle.std.proofs.Common.{◌≡◌, ◌∙◌, Some, IsErrOf, IsTrue, rules}
use Rattle.desk_words.specs.Tables.{rows_of}
use Rattle.desk_dump.specs.Dumps.{dump_of}
use Rattle.json_parts.specs.declared.fault.PartFault.TheVariants as part
use Rattle.desk_restore.specs.Reading.{changes_in, lines_in}
use Rattle.desk_restore.proofs.Refusing.{dump-again, dump-fits, rows-again}
use Rattle.desk_restore.proofs.restoring.restore.Goals as goal
use Rattle.desk_restore.proofs.restoring.restore.Goals.{else-is_ok-via-else-is_ok}
use Rattle.desk_restore.proofs.restoring.restore.Goals.{else-is_ok-via-then-is_ok+else-is_same}

-- tables whose dump the text is are those that were read
pub returns-then-is_same-clause-only : goal.returns-then-is_same-clause-only
returns-then-is_same-clause-only c rows tables are dump =
    let read : changes_in (lines_in c.args.text.now) ≡ Some c.read-read.new.self.changes = search rules in
    rows-again c.args.text.now rows tables are dump c.read-read.new.self c.read-read.ensures.made read

-- where a text is refused, no tables have it as their dump
pub returns-clause-refused : goal.returns-clause-refused
returns-clause-refused c line refused rows tables are dump = elim c.else-is_ok.branch [
  | else-is_ok-via-then-is_ok+else-is_same w ↦
      let read : changes_in (lines_in c.args.text.now) ≡ Some c.read-read.new.self.changes = search rules in
      let again : dump_of (rows_of c.read-read.new.self.tables) ≡ c.args.text.now =
      dump-again c.args.text.now rows tables are dump c.read-read.new.self c.read-read.ensures.made read in
      let same : IsTrue w.is_same.result =
      w.is_same.ensures.1 (w.as_slice.ensures ∙ c.in_ok-dump.ensures ∙ again) in
      absurd (let other = w.if-is_same.false in cc)
  | else-is_ok-via-else-is_ok w ↦
      let wrong : IsErrOf c.read-read.result part.WrongForm = search rules in
      dump-fits c.args.text.now rows tables are dump (c.read-read.ensures.refused wrong)
]
