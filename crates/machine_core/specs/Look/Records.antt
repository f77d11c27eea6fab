-- Records: a clerk's records over a version of an edition.
use Rattle.std.specs.Prelude.{ℕ, ◌==◌, List, map, filter, zip, length}
use Rattle.std.specs.List.{range_with_len}
use Rattle.std.specs.Option.{option_map_or}
use Rattle.std.specs.Prelude.{Bool, false}
use Rattle.desk_words.specs.declared.refusal.Kind.TheVariants as kind
use Rattle.desk_words.specs.declared.refusal.Refusal.TheVariants.{NoSuch}
use Rattle.desk_words.specs.declared.report.RecordLine.{RecordLine}
use Rattle.desk_words.specs.declared.report.RecordSheet.{RecordSheet}
use Rattle.desk_words.specs.declared.rows.record.RecordRow.{RecordRow}
use Rattle.desk_words.specs.Tables.{Published}
use Rattle.desk_valid.specs.Bindings.{bound_at}
use Rattle.machine_core.specs.Checked.{Checked, ◌>>=◌, done, some_or, certainly}
use Rattle.machine_core.specs.Finding.{edition_named, session_at}
use Rattle.machine_core.specs.Own.{Own}

-- the record's session is on the edition
abbrev pub is_on : Own → ℕ → ℕ × RecordRow → Bool
is_on own edition numbered =
    option_map_or (λ session. session.edition == edition) (session_at own.sessions numbered.1.session) false

-- a record with its number
abbrev pub record_line : ℕ × RecordRow → RecordLine
record_line numbered =
    record { number = numbered.0; session = numbered.1.session; certain = numbered.1.certain; texts = numbered.1.texts }

-- the sheet of the clerk's records whose sessions are on this version of an edition, each with its number from 1
abbrev pub records_of : Published → Own → List ℕ → ℕ → Checked RecordSheet
records_of published own edition_name version = do
  edition ← some_or (edition_named published.editions edition_name version) (NoSuch kind.Edition)
  bound ← certainly (bound_at published edition)
  let numbered = zip (range_with_len 1 (length own.records)) own.records
  done (record { attributes = bound.names.attributes; lines = map record_line (filter (is_on own edition) numbered) })
