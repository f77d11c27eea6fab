-- What a command names.
use Rattle.std.specs.Prelude.{ℕ, List, [], ◌++◌, Contains, map, zip, Option, Some, None, Result, Ok, Err}
use Rattle.std.specs.Option.{option_to_list}
use Rattle.desk_words.specs.declared.clerk_work.ClerkWork.TheVariants.{Enter, Confirm, Withdraw, Commit, Abandon, Batch}
use Rattle.desk_words.specs.declared.clerk_work.ClerkWork.TheVariants.{Carry}
use Rattle.desk_words.specs.declared.command.Command.{Command}
use Rattle.desk_words.specs.declared.command.Command.TheVariants.{Steward, Clerk, Look, Desk}
use Rattle.desk_words.specs.declared.proposal.Proposal.TheVariants as proposal
use Rattle.desk_words.specs.declared.steward_work.StewardWork.TheVariants.{AddClerk, Publish, AddRegion, AddDerived}
use Rattle.master_rows.specs.declared.error.SheetFault.{SheetFault}
use Rattle.master_rows.specs.declared.master.Master.{Master}
use Rattle.master_rows.specs.Sheet.{read_sheet}
use Rattle.machine_core.specs.Clerk.Batch.{word_of}
use Rattle.machine_core.specs.DeskLook.{desk_named_by}
use Rattle.machine_core.specs.Look.{named_by}

-- the clerk's name; the steward has none
abbrev pub clerk_in : Command → Option (List ℕ)
clerk_in (Clerk name ticket work) = Some name
clerk_in (Look name look) = Some name
clerk_in _ = None

-- the number of a session
abbrev pub session_in : Command → Option ℕ
session_in (Clerk name ticket (Confirm number cells)) = Some number
session_in (Clerk name ticket (Withdraw number names)) = Some number
session_in (Clerk name ticket (Commit number accept)) = Some number
session_in (Clerk name ticket (Abandon number)) = Some number
session_in (Clerk name ticket (Carry number version)) = Some number
session_in (Look name look) = (named_by look).session
session_in _ = None

-- an edition, of which the newest version is meant
abbrev pub edition_in : Command → Option (List ℕ)
edition_in (Clerk name ticket (Enter edition cells confirmed)) = Some edition
edition_in (Clerk name ticket (Batch edition body)) = Some edition
edition_in _ = None

-- a version of an edition
abbrev pub version_in : Command → Option (List ℕ × ℕ)
version_in (Steward ticket (AddRegion edition version attributes rows)) = Some (edition, version)
version_in (Steward ticket (AddDerived edition version master pairs from)) = Some (edition, version)
version_in (Look name look) = (named_by look).edition
version_in (Desk look) = (desk_named_by look).edition
version_in _ = None

-- a version of a schema
abbrev pub schema_in : Command → Option (List ℕ × ℕ)
schema_in (Steward ticket (Publish (proposal.Rulebook name schema version body))) = Some (schema, version)
schema_in (Desk look) = (desk_named_by look).schema
schema_in _ = None

-- a version of a rulebook
abbrev pub rulebook_in : Command → Option (List ℕ × ℕ)
rulebook_in (Steward ticket (Publish (proposal.Edition name rulebook masters folded))) = Some rulebook
rulebook_in (Desk look) = (desk_named_by look).rulebook
rulebook_in _ = None

-- the words of the columns of a sheet that reads
abbrev pub sheet_words : Result Master SheetFault → List (List ℕ)
sheet_words (Ok sheet) = map word_of sheet.columns
sheet_words (Err fault) = []

-- attributes, by their words
abbrev pub attributes_in : Command → List (List ℕ)
attributes_in (Steward ticket (Publish (proposal.Edition name rulebook masters folded))) = folded
attributes_in (Steward ticket (AddRegion edition version attributes rows)) = attributes
attributes_in (Steward ticket (AddDerived edition version master pairs from)) = map (λ pair. pair.0) pairs
attributes_in (Clerk name ticket (Enter edition cells confirmed)) = map (λ cell. cell.0) cells ++ confirmed
attributes_in (Clerk name ticket (Confirm number cells)) = map (λ cell. cell.0) cells
attributes_in (Clerk name ticket (Withdraw number names)) = names
attributes_in (Clerk name ticket (Batch edition body)) = sheet_words (read_sheet body)
attributes_in (Look name look) = (named_by look).attributes
attributes_in (Desk look) = map (λ pair. pair.0) (desk_named_by look).pairs
attributes_in _ = []

-- masters, by their names and versions
abbrev pub masters_in : Command → List (List ℕ × ℕ)
masters_in (Steward ticket (Publish (proposal.Edition name rulebook masters folded))) = masters
masters_in (Desk look) = option_to_list (desk_named_by look).sheet
masters_in _ = []

-- one of the masters of an edition, by its name
abbrev pub master_in : Command → Option (List ℕ)
master_in (Steward ticket (AddDerived edition version master pairs from)) = Some master
master_in (Desk look) = (desk_named_by look).master
master_in _ = None

-- columns of it, by their words
abbrev pub columns_in : Command → List (List ℕ)
columns_in (Steward ticket (AddDerived edition version master pairs from)) = map (λ pair. pair.1) pairs
columns_in (Desk look) = map (λ pair. pair.1) (desk_named_by look).pairs
columns_in _ = []

-- a region of the edition, by its number among those of the edition
abbrev pub region_in : Command → Option ℕ
region_in (Desk look) = (desk_named_by look).region
region_in _ = None

-- a rule of the edition, by its name
abbrev pub rule_in : Command → Option (List ℕ)
rule_in (Desk look) = (desk_named_by look).rule
rule_in _ = None

-- a row of a master, by its number
abbrev pub row_in : Command → Option ℕ
row_in (Desk look) = (desk_named_by look).row
row_in _ = None

-- the version to which a session is to be carried, or might be
abbrev pub carried_in : Command → Option ℕ
carried_in (Clerk name ticket (Carry number version)) = Some version
carried_in (Look name look) = (named_by look).version
carried_in _ = None

-- the word of the attribute whose reason is asked for
abbrev pub reason_in : Command → Option (List ℕ)
reason_in (Look name look) = (named_by look).reason
reason_in _ = None

-- a text for an attribute, by its word
abbrev pub GivesText : Command → List ℕ → List ℕ → Type 0
GivesText (Clerk name ticket (Enter edition cells confirmed)) word text = Contains cells (word, text)
GivesText (Clerk name ticket (Confirm number cells)) word text = Contains cells (word, text)
GivesText (Look name look) word text = Contains (named_by look).cells (word, text)
GivesText (Steward ticket (AddRegion edition version attributes rows)) word text =
    (texts : List (List ℕ)) × Contains rows texts × Contains (zip attributes texts) (word, text)
GivesText _ word text = ⊥

-- a name that is to be published, or a clerk's
abbrev pub new_name_in : Command → Option (List ℕ)
new_name_in (Steward ticket (AddClerk name)) = Some name
new_name_in (Steward ticket (Publish (proposal.Master name body))) = Some name
new_name_in (Steward ticket (Publish (proposal.Rulebook name schema version body))) = Some name
new_name_in (Steward ticket (Publish (proposal.Edition name rulebook masters folded))) = Some name
new_name_in _ = None
