-- What is told to a person of a proposal that fits: the likely slips in it, by what it proposes.
use Rattle.std.specs.Prelude.{ℕ, List, [], slice_get, Option, Some, option_and_then, Result, Ok, Err}
use Rattle.std.specs.List.{filter_map}
use Rattle.std.specs.Option.{option_map_or}
use Rattle.desk_words.specs.declared.proposal.Proposal.{Proposal}
use Rattle.desk_words.specs.declared.proposal.Proposal.TheVariants.{Schema, Master, Rulebook, Edition}
use Rattle.desk_words.specs.declared.rows.text.TextRow.{TextRow}
use Rattle.desk_words.specs.Tables.{Published}
use Rattle.fault_sentences.specs.Notes.{absent_note, column_note, rules_told, schema_notes, sheet_notes}
use Rattle.master_rows.specs.Sheet.{read_sheet}
use Rattle.rule_text.specs.declared.rulebook.RuleLine.{RuleLine}
use Rattle.rule_text.specs.Reading.{read_rules}
use Rattle.schema_core.specs.Reading.{schema_of}
use Rattle.machine_core.specs.Finding.{newest_master}
use Rattle.machine_core.specs.Says.{schema_for}

-- the notes on what is read, and none on what is not
abbrev pub if_read : {A E : Type 0} → (A → List (List ℕ)) → Result A E → List (List ℕ)
if_read notes (Ok value) = notes value
if_read notes (Err fault) = []

-- the newest version of a master's name
abbrev pub newest_row : List TextRow → List ℕ → Option TextRow
newest_row masters name = option_and_then (slice_get masters) (newest_master masters name)

-- what is told of a rule that looks into no master of the desk, or that its newest version lacks a column
abbrev pub rule_note : List TextRow → RuleLine → Option (List ℕ)
rule_note masters line =
    option_map_or (λ row. column_note line row.version row.body) (newest_row masters line.master)
    (Some (absent_note line))

-- on rules: those that lack something
abbrev pub rules_notes : List TextRow → List RuleLine → List (List ℕ)
rules_notes masters lines = rules_told (filter_map (rule_note masters) lines)

-- on a text of rules over a version of a schema
abbrev pub rulebook_notes : Published → List ℕ → ℕ → List ℕ → List (List ℕ)
rulebook_notes rows schema version body =
    option_map_or (λ read. if_read (λ rulebook. rules_notes rows.masters rulebook.lines) (read_rules body read))
    (schema_for rows schema version) []

-- the notes on a proposal; an edition has none
abbrev pub notes_of : Published → Proposal → List (List ℕ)
notes_of rows (Schema body) = if_read schema_notes (schema_of body)
notes_of rows (Master name body) = if_read sheet_notes (read_sheet body)
notes_of rows (Rulebook name schema version body) = rulebook_notes rows schema version body
notes_of rows (Edition name rulebook masters folded) = []
