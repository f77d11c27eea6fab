-- Check: what publishing a proposal next would come to. Nothing is made.
use Rattle.std.specs.Prelude.{ℕ, List, map, Result, Ok, Err}
use Rattle.desk_words.specs.declared.fits.Fits.{Fits}
use Rattle.desk_words.specs.declared.fits.Fits.TheVariants as fits
use Rattle.desk_words.specs.declared.proposal.Proposal.{Proposal}
use Rattle.desk_words.specs.declared.proposal.Proposal.TheVariants.{Schema, Master, Rulebook, Edition}
use Rattle.desk_words.specs.declared.refusal.Refusal.{Refusal}
use Rattle.desk_words.specs.declared.reply.Reply.{Reply}
use Rattle.desk_words.specs.declared.reply.Reply.TheVariants as reply
use Rattle.desk_words.specs.declared.rows.edition.EditionRow.{EditionRow}
use Rattle.desk_words.specs.declared.rows.text.TextRow.{TextRow}
use Rattle.desk_words.specs.Tables.{Published}
use Rattle.desk_valid.specs.Bindings.{binding, parts_of}
use Rattle.desk_valid.specs.Readings.{schema_at}
use Rattle.fix_model.specs.Entries.{entries}
use Rattle.master_rows.specs.Outline.{read_outline}
use Rattle.rule_text.specs.Reading.{read_rules}
use Rattle.schema_core.specs.Reading.{schema_of}
use Rattle.machine_core.specs.Checked.{Checked, Outcome, ◌>>=◌, asked, awaits, certainly, done, never, nothing}
use Rattle.machine_core.specs.Checked.{run, told, value_or}
use Rattle.machine_core.specs.Faults.{bind_refusal, rules_refusal, schema_refusal, sheet_refusal}
use Rattle.machine_core.specs.Notes.{notes_of}
use Rattle.machine_core.specs.Says.{said_of}
use Rattle.machine_core.specs.Steward.AddEdition.{edition_row}
use Rattle.machine_core.specs.Steward.AddMaster.{master_row}
use Rattle.machine_core.specs.Steward.AddRulebook.{rulebook_row}
use Rattle.machine_core.specs.Steward.AddSchema.{schema_row}

-- the schema that would be made, with the attributes that it reads as
abbrev pub schema_fits : List TextRow → List ℕ → Checked Fits
schema_fits schemas body = do
  row ← schema_row schemas body
  schema ← value_or (schema_of row.body) schema_refusal
  done (fits.Schema row.name row.version schema.attributes)

-- the master that would be made, with its columns and how many rows it has
abbrev pub master_fits : List TextRow → List ℕ → List ℕ → Checked Fits
master_fits masters name body = do
  row ← master_row masters name body
  outline ← value_or (read_outline row.body) sheet_refusal
  done (fits.Master row.name row.version outline.columns outline.rows)

-- the rulebook that would be made, with the names of its rules
abbrev pub rulebook_fits : Published → List ℕ → List ℕ → ℕ → List ℕ → Checked Fits
rulebook_fits rows name schema_name version body = do
  row ← rulebook_row rows name schema_name version body
  schema ← certainly (schema_at rows row.schema)
  rulebook ← value_or (read_rules row.body schema) rules_refusal
  done (fits.Rulebook row.name row.version (map (λ line. line.name) rulebook.lines))

-- how many entries the index of an edition has
abbrev pub entries_of : Published → EditionRow → Checked ℕ
entries_of rows row = do
  parts ← certainly (parts_of rows row)
  kit ← value_or (binding parts row.folded) bind_refusal
  done (entries kit)

-- the edition that would be made, with the entries of its index
abbrev pub edition_fits : Published → List ℕ → List ℕ × ℕ → List (List ℕ × ℕ) → List (List ℕ) → Checked Fits
edition_fits rows name rulebook masters folded = do
  row ← edition_row rows name rulebook masters folded
  count ← entries_of rows row
  done (fits.Edition row.name row.version count)

-- what a proposal would be made to, one kind a case
abbrev pub fits_of : Published → Proposal → Checked Fits
fits_of rows (Schema body) = schema_fits rows.schemas body
fits_of rows (Master name body) = master_fits rows.masters name body
fits_of rows (Rulebook name schema version body) = rulebook_fits rows name schema version body
fits_of rows (Edition name rulebook masters folded) = edition_fits rows name rulebook masters folded

-- what comes of tests, also where it is a refusal
abbrev pub result_of : {A : Type 0} → Outcome A → Checked (Result A Refusal)
result_of (told result) = done result
result_of (awaits question more) = do
  answer ← asked question
  result_of (more answer)
result_of nothing = never

-- what is replied: what the proposal would be made to with the notes on it, or its refusal with what is said of it
abbrev pub check_reply : Published → Proposal → Result Fits Refusal → Reply
check_reply rows proposal (Ok made) = reply.Fits made (notes_of rows proposal)
check_reply rows proposal (Err refusal) = reply.Unfit refusal (said_of rows proposal refusal)

-- what a proposal would be made to, or its refusal
abbrev pub tried : Published → Proposal → Checked (Result Fits Refusal)
tried rows proposal = result_of (run (fits_of rows proposal))

-- the check of a proposal
abbrev pub checked : Published → Proposal → Checked Reply
checked rows proposal = do
  result ← tried rows proposal
  done (check_reply rows proposal result)
