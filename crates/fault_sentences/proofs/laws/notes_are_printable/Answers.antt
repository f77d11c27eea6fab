use Rattle.fault_sentences.proofs.PrintableNotes.{absent_note-printable, column_note-printable, rules_told-printable}
use Rattle.fault_sentences.proofs.PrintableNotes.{schema_notes-printable, sheet_notes-printable}
use Rattle.fault_sentences.proofs.laws.notes_are_printable.Goals as goal

pub returns-clause-schema : goal.returns-clause-schema
returns-clause-schema c = schema_notes-printable c.args.schema.now

pub returns-clause-sheet : goal.returns-clause-sheet
returns-clause-sheet c = sheet_notes-printable c.args.master.now

pub returns-clause-absent : goal.returns-clause-absent
returns-clause-absent c = absent_note-printable c.args.line.now

pub returns-clause-column : goal.returns-clause-column
returns-clause-column c = column_note-printable c.args.line.now c.args.version c.args.sheet.now

pub returns-clause-rules : goal.returns-clause-rules
returns-clause-rules c = rules_told-printable
