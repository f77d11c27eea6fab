-- Why a request is refused: one equation a refusal, without any order.
use Rattle.std.specs.Prelude.{◌≡◌, ◌≢◌, ◌⊎◌, ℕ, ◌+◌, ◌-◌, ◌<◌, ◌≤◌, false, IsSomeAnd, List, [], ◌∷◌, ◌++◌, All}
use Rattle.std.specs.Prelude.{Contains, IsTrue, drop, length, map, option_map, position, replicate, slice_get}
use Rattle.std.specs.Prelude.{slice_index_or, Some, None, Ok, Err}
use Rattle.std.specs.Str.{bytes_eq}
use Rattle.desk_base.specs.declared.limits.TheConstants.{MAX_ENTRIES, MAX_TEXT}
use Rattle.desk_base.specs.Words.{is_name}
use Rattle.desk_words.specs.declared.clerk_work.Accept.{Accept}
use Rattle.desk_words.specs.declared.clerk_work.Accept.TheVariants.{Certain}
use Rattle.desk_words.specs.declared.clerk_work.ClerkWork.TheVariants.{Enter, Confirm, Withdraw, Commit, Batch}
use Rattle.desk_words.specs.declared.command.Command.{Command}
use Rattle.desk_words.specs.declared.command.Command.TheVariants.{Steward, Clerk, Look}
use Rattle.desk_words.specs.declared.command.Ticket.{Ticket}
use Rattle.desk_words.specs.declared.limit.Which.{Which}
use Rattle.desk_words.specs.declared.look.Look.TheVariants.{Blocked}
use Rattle.desk_words.specs.declared.limit.Which.TheVariants as which
use Rattle.desk_words.specs.declared.refusal.Kind.TheVariants as kind
use Rattle.desk_words.specs.declared.refusal.Reader.TheVariants as reader
use Rattle.desk_words.specs.declared.refusal.Refusal.{Refusal}
use Rattle.desk_words.specs.declared.refusal.Refusal.TheVariants.{NoClerk, Stale, Gap, Reused, NoSuch, Closed}
use Rattle.desk_words.specs.declared.refusal.Refusal.TheVariants.{UnknownAttr, ValueLong, NotCertain, InConflict}
use Rattle.desk_words.specs.declared.refusal.Refusal.TheVariants.{NotConfirmed, Limit, BadText, Unavailable, NoMemory}
use Rattle.desk_words.specs.declared.refusal.Refusal.TheVariants.{Twice, Taken, BadName, RowWidth, NotFixed, NoColumn}
use Rattle.desk_words.specs.declared.refusal.Refusal.TheVariants.{NotNewer}
use Rattle.desk_words.specs.declared.rows.clerk.ClerkRow.{ClerkRow}
use Rattle.desk_words.specs.declared.rows.edition.EditionRow.{EditionRow}
use Rattle.desk_words.specs.declared.rows.session.SessionRow.{SessionRow}
use Rattle.desk_words.specs.declared.rows.session.Stage.TheVariants.{Active}
use Rattle.desk_words.specs.declared.proposal.Proposal.TheVariants as proposal
use Rattle.desk_words.specs.declared.steward_work.StewardWork.TheVariants.{AddClerk, Publish, AddRegion}
use Rattle.desk_words.specs.Tables.{Rows, published_of}
use Rattle.desk_valid.specs.declared.bound.Bound.{Bound}
use Rattle.desk_valid.specs.Bindings.{binding, bound_at, parts_of}
use Rattle.desk_valid.specs.Readings.{all_of, master_at, rules_at, schema_at}
use Rattle.desk_valid.specs.Tallies.{active_count, bytes_in, cell_count, master_cells, text_bytes, typed_bytes}
use Rattle.fix_engine.specs.declared.verdict.Verdict.TheVariants.{Conflict}
use Rattle.fix_explain.specs.Reasons.{IsFixed}
use Rattle.fix_engine.specs.Verdicts.{IsAnswer}
use Rattle.fix_model.specs.declared.kit.Kit.{Kit}
use Rattle.fix_model.specs.Entries.{entries}
use Rattle.fix_model.specs.Run.{end_of}
use Rattle.fix_model.specs.States.{uncovered_count}
use Rattle.master_rows.specs.declared.error.SheetFault.{SheetFault}
use Rattle.master_rows.specs.declared.master.Master.{Master}
use Rattle.master_rows.specs.Sheet.{read_sheet}
use Rattle.rule_text.specs.declared.binding.BindFault.{BindFault}
use Rattle.rule_text.specs.declared.fault.RuleFault.{RuleFault}
use Rattle.rule_text.specs.Reading.{read_rules}
use Rattle.schema_core.specs.declared.fault.SchemaFault.{SchemaFault}
use Rattle.schema_core.specs.declared.schema.Schema.{Schema}
use Rattle.schema_core.specs.Reading.{schema_of}
use Rattle.machine_core.specs.Answers.{state_of}
use Rattle.machine_core.specs.Checked.{Answer, each, each_following, Gives, IsFound}
use Rattle.machine_core.specs.declared.column.Column.{Column}
use Rattle.machine_core.specs.Clerk.Batch.{another_column, row_session}
use Rattle.machine_core.specs.Clerk.Commit.{record_at}
use Rattle.machine_core.specs.Clerk.Confirm.{bytes_with, confirm_row}
use Rattle.machine_core.specs.Clerk.Enter.{typed_over}
use Rattle.machine_core.specs.Deriving.{master_of}
use Rattle.machine_core.specs.Faults.{bind_refusal, rules_refusal, schema_refusal, sheet_refusal}
use Rattle.machine_core.specs.Finding.{edition_named, newest_edition, rulebook_named, text_named}
use Rattle.machine_core.specs.Finding.{numbered, session_at}
use Rattle.machine_core.specs.Limits.{limit_of}
use Rattle.machine_core.specs.Look.Suggest.{regions_of}
use Rattle.machine_core.specs.Machine.{clerk_of}
use Rattle.machine_core.specs.Named.{GivesText, attributes_in, carried_in, clerk_in, columns_in, edition_in, master_in}
use Rattle.machine_core.specs.Named.{masters_in, new_name_in, reason_in, region_in, row_in, rule_in, rulebook_in}
use Rattle.machine_core.specs.Named.{schema_in, session_in, version_in}
use Rattle.machine_core.specs.Own.{Own, own_of}
use Rattle.machine_core.specs.Steward.AddEdition.{master_name}
use Rattle.machine_core.specs.Steward.AddRegion.{region_count}
use Rattle.machine_core.specs.Tests.{typed_cell}
use Rattle.machine_core.specs.Views.{edition_at}

-- a clerk asks, and these are the clerk's own rows
pub record AsksWith (rows : Rows) (command : Command) (own : Own) : Type 0 where
  pub name : List ℕ
  pub asks : clerk_in command ≡ Some name
  pub place : ℕ
  pub found : IsFound (clerk_of rows.clerks name) place
  pub is_own : own ≡ own_of rows place

-- the row of the caller who writes, and the ticket
abbrev pub WritesWith : Rows → Command → ClerkRow → Ticket → Type 0
WritesWith rows (Steward ticket work) row one = (row ≡ (own_of rows 0).row) × (one ≡ ticket)
WritesWith rows (Clerk name ticket work) row one =
    (place : ℕ) × (IsFound (clerk_of rows.clerks name) place) × (row ≡ (own_of rows place).row) × (one ≡ ticket)
WritesWith rows _ row one = ⊥

-- the command names this session of the clerk who asks
pub record Names (rows : Rows) (command : Command) (session : SessionRow) : Type 0 where
  pub own : Own
  pub asks : AsksWith rows command own
  pub number : ℕ
  pub names : session_in command ≡ Some number
  pub stands : session_at own.sessions number ≡ Some session

-- the place of the edition that the command is about: the newest of a name, a version, or that of a session
abbrev pub IsAbout : Rows → Command → ℕ → Type 0
IsAbout rows command place =
    ((name : List ℕ) × (edition_in command ≡ Some name) × (newest_edition rows.editions name ≡ Some place))
    ⊎ ((version : List ℕ × ℕ) × (version_in command ≡ Some version)
    × (edition_named rows.editions version.0 version.1 ≡ Some place))
    ⊎ ((session : SessionRow) × Names rows command session × (place ≡ session.edition))

-- the words of the attributes of the edition that the command is about
pub record AreEditionWords (rows : Rows) (command : Command) (words : List (List ℕ)) : Type 0 where
  pub place : ℕ
  pub about : IsAbout rows command place
  pub bound : Bound
  pub binds : bound_at (published_of rows) place ≡ Some bound
  pub are : words ≡ bound.names.attributes

-- those of the schema of the rulebook that the command names
pub record AreRulebookWords (rows : Rows) (command : Command) (words : List (List ℕ)) : Type 0 where
  pub version : List ℕ × ℕ
  pub names : rulebook_in command ≡ Some version
  pub place : ℕ
  pub stands : rulebook_named rows.rulebooks version.0 version.1 ≡ Some place
  pub are : option_map (λ rules. rules.schema.attributes) (rules_at (published_of rows) place) ≡ Some words

-- the words among which the command's attributes are looked up
abbrev pub AreWords : Rows → Command → List (List ℕ) → Type 0
AreWords rows command words = AreEditionWords rows command words ⊎ AreRulebookWords rows command words

-- the command commits this session, and the rules make this of it
pub record Commits (rows : Rows) (command : Command) (accept : Accept) (session : SessionRow) (bound : Bound)
    (answer : Answer) : Type 0 where
  pub name : List ℕ
  pub ticket : Ticket
  pub number : ℕ
  pub is : command ≡ Clerk name ticket (Commit number accept)
  pub names : Names rows command session
  pub binds : bound_at (published_of rows) session.edition ≡ Some bound
  pub answers : IsAnswer bound.kit (state_of session) answer.first answer.second answer.verdict

-- the command asks why this attribute of this session is fixed, and the rules make this of it
pub record Explains (rows : Rows) (command : Command) (word : List ℕ) (session : SessionRow) (bound : Bound)
    (answer : Answer) : Type 0 where
  pub asks : reason_in command ≡ Some word
  pub names : Names rows command session
  pub binds : bound_at (published_of rows) session.edition ≡ Some bound
  pub answers : IsAnswer bound.kit (state_of session) answer.first answer.second answer.verdict

-- the command asks what is blocked in this session, and the rules make this of it
pub record AsksBlocked (rows : Rows) (command : Command) (session : SessionRow) (bound : Bound) (answer : Answer)
    : Type 0 where
  pub name : List ℕ
  pub number : ℕ
  pub is : command ≡ Look name (Blocked number)
  pub names : Names rows command session
  pub binds : bound_at (published_of rows) session.edition ≡ Some bound
  pub answers : IsAnswer bound.kit (state_of session) answer.first answer.second answer.verdict

-- the edition's row that the command is about, and the name of one of its masters
pub record AsksMaster (rows : Rows) (command : Command) (edition : EditionRow) (name : List ℕ) : Type 0 where
  pub place : ℕ
  pub about : IsAbout rows command place
  pub is : edition ≡ edition_at (published_of rows) place
  pub names : master_in command ≡ Some name

-- so many attributes are uncovered at the end of the first run
abbrev pub open_count : SessionRow → Bound → Answer → ℕ
open_count session bound answer = uncovered_count (end_of bound.kit (state_of session) answer.first)

-- the command withdraws this attribute of this session
pub record Withdraws (rows : Rows) (command : Command) (word : List ℕ) (session : SessionRow) (place : ℕ) : Type 0 where
  pub name : List ℕ
  pub ticket : Ticket
  pub number : ℕ
  pub words : List (List ℕ)
  pub is : command ≡ Clerk name ticket (Withdraw number words)
  pub names : Names rows command session
  pub listed : Contains words word
  pub attributes : List (List ℕ)
  pub are : AreWords rows command attributes
  pub found : position (bytes_eq word) attributes ≡ Some place

-- this reader refuses the body with this refusal
abbrev pub RefusesBody : Rows → Command → Refusal → Type 0
RefusesBody rows (Steward ticket (Publish (proposal.Schema body))) refusal =
    (fault : SchemaFault) × (schema_of body ≡ Err fault) × (refusal ≡ schema_refusal fault)
RefusesBody rows (Steward ticket (Publish (proposal.Master name body))) refusal =
    (fault : SheetFault) × (read_sheet body ≡ Err fault) × (refusal ≡ sheet_refusal fault)
RefusesBody rows (Steward ticket (Publish (proposal.Rulebook name schema version body))) refusal =
    (place : ℕ) × (over : Schema) × (fault : RuleFault) × (text_named rows.schemas schema version ≡ Some place)
    × (schema_at (published_of rows) place ≡ Some over) × (read_rules body over ≡ Err fault)
    × (refusal ≡ rules_refusal fault)
RefusesBody rows (Steward ticket (Publish (proposal.Edition name rulebook masters folded))) refusal =
    (row : EditionRow) × (rulebook_named rows.rulebooks rulebook.0 rulebook.1 ≡ Some row.rulebook)
    × (all_of (map (λ master. text_named rows.masters master.0 master.1) masters) ≡ Some row.masters)
    × IsSomeAnd (parts_of (published_of rows) row) (λ parts.
    ((fault : BindFault) × (binding parts row.folded ≡ Err fault) × (refusal ≡ bind_refusal fault))
    ⊎ ((kit : Kit) × (binding parts row.folded ≡ Ok kit) × (MAX_ENTRIES < entries kit)
    × (refusal ≡ BadText reader.Index 1 (entries kit) 0)))
RefusesBody rows (Clerk name ticket (Batch edition body)) refusal =
    (fault : SheetFault) × (read_sheet body ≡ Err fault) × (refusal ≡ sheet_refusal fault)
RefusesBody rows _ refusal = ⊥

-- a row of this number in a new region has not one text for each attribute
abbrev pub HasNarrowRow : Command → ℕ → Type 0
HasNarrowRow (Steward ticket (AddRegion edition version attributes rows)) number =
    (texts : List (List ℕ)) × (1 ≤ number) × (slice_get rows (number - 1) ≡ Some texts)
    × (length texts ≢ length attributes)
HasNarrowRow _ number = ⊥

-- an equal name stands before this one among names
pub record StandsTwice (names : List (List ℕ)) (name : List ℕ) : Type 0 where
  pub earlier : List (List ℕ)
  pub later : List (List ℕ)
  pub is : names ≡ earlier ++ name ∷ later
  pub twice : Contains earlier name

-- a clerk's command that makes so many sessions
abbrev pub MakesSessions : Command → ℕ → Type 0
MakesSessions (Clerk name ticket (Enter edition cells confirmed)) count = count ≡ 1
MakesSessions (Clerk name ticket (Batch edition body)) count =
    (sheet : Master) × (read_sheet body ≡ Ok sheet) × (count ≡ length sheet.grid.rows)
MakesSessions _ count = ⊥

-- so many bytes of a clerk's texts would stand
abbrev pub HoldsBytes : Rows → Command → Own → ℕ → Type 0
HoldsBytes rows (Clerk name ticket (Enter edition cells confirmed)) own count =
    (place : ℕ) × (bound : Bound) × (texts : List (ℕ × List ℕ)) × (newest_edition rows.editions edition ≡ Some place)
    × (bound_at (published_of rows) place ≡ Some bound)
    × Gives (each (typed_cell bound.names.attributes) cells) (Ok texts)
    × (count ≡ text_bytes own.sessions own.records
    + bytes_in (typed_over (replicate (length bound.names.attributes) []) texts))
HoldsBytes rows (Clerk name ticket (Confirm number cells)) own count =
    (session : SessionRow) × Gives (confirm_row (published_of rows) own number cells) (Ok session)
    × (count ≡ bytes_with own number session)
HoldsBytes rows (Clerk name ticket (Commit number accept)) own count =
    (session : SessionRow) × (bound : Bound) × (answer : Answer)
    × Commits rows (Clerk name ticket (Commit number accept)) accept session bound answer
    × (count ≡ text_bytes own.sessions own.records
    + bytes_in (record_at bound number (end_of bound.kit (state_of session) answer.first)).texts)
HoldsBytes rows (Clerk name ticket (Batch edition body)) own count =
    (place : ℕ) × (bound : Bound) × (sheet : Master) × (columns : List Column)
    × (newest_edition rows.editions edition ≡ Some place) × (bound_at (published_of rows) place ≡ Some bound)
    × (read_sheet body ≡ Ok sheet)
    × Gives (each_following [] (another_column bound.names.attributes) sheet.columns) (Ok columns)
    × (count ≡ text_bytes own.sessions own.records + typed_bytes (map (row_session place
    (length bound.names.attributes) (length own.batches + 1) columns) sheet.grid.rows))
HoldsBytes rows _ own count = ⊥

-- so many of a kind would stand after the command
abbrev pub WouldStand : Rows → Command → Which → ℕ → Type 0
WouldStand rows command which.Clerks count =
    (ticket : Ticket) × (name : List ℕ) × (command ≡ Steward ticket (AddClerk name)) × (count ≡ length rows.clerks)
WouldStand rows command which.Schemas count =
    (ticket : Ticket) × (body : List ℕ) × (command ≡ Steward ticket (Publish (proposal.Schema body)))
    × (count ≡ length rows.schemas + 1)
WouldStand rows command which.Masters count =
    (ticket : Ticket) × (name : List ℕ) × (body : List ℕ)
    × (command ≡ Steward ticket (Publish (proposal.Master name body))) × (count ≡ length rows.masters + 1)
WouldStand rows command which.MasterCells count =
    (ticket : Ticket) × (name : List ℕ) × (body : List ℕ) × (master : Master)
    × (command ≡ Steward ticket (Publish (proposal.Master name body))) × (read_sheet body ≡ Ok master)
    × (count ≡ master_cells rows.masters + cell_count master)
WouldStand rows command which.Rulebooks count =
    (ticket : Ticket) × (name : List ℕ) × (schema : List ℕ) × (version : ℕ) × (body : List ℕ)
    × (command ≡ Steward ticket (Publish (proposal.Rulebook name schema version body)))
    × (count ≡ length rows.rulebooks + 1)
WouldStand rows command which.EditionMasters count = count ≡ length (masters_in command)
WouldStand rows command which.Editions count =
    (ticket : Ticket) × (name : List ℕ) × (rulebook : List ℕ × ℕ) × (masters : List (List ℕ × ℕ))
    × (folded : List (List ℕ)) × (command ≡ Steward ticket (Publish (proposal.Edition name rulebook masters folded)))
    × (count ≡ length rows.editions + 1)
WouldStand rows command which.RegionRows count =
    (ticket : Ticket) × (edition : List ℕ) × (version : ℕ) × (attributes : List (List ℕ))
    × (texts : List (List (List ℕ))) × (command ≡ Steward ticket (AddRegion edition version attributes texts))
    × (count ≡ length texts)
WouldStand rows command which.Regions count =
    (place : ℕ) × IsAbout rows command place × (count ≡ region_count rows.regions place + 1)
WouldStand rows command which.ActiveSessions count =
    (own : Own) × (more : ℕ) × AsksWith rows command own × MakesSessions command more
    × (count ≡ active_count own.sessions + more)
WouldStand rows command which.Sessions count =
    (own : Own) × (more : ℕ) × AsksWith rows command own × MakesSessions command more
    × (count ≡ length own.sessions + more)
WouldStand rows command which.Bytes count = (own : Own) × AsksWith rows command own × HoldsBytes rows command own count
WouldStand rows command which.BatchRows count =
    (name : List ℕ) × (ticket : Ticket) × (edition : List ℕ) × (body : List ℕ)
    × (command ≡ Clerk name ticket (Batch edition body)) × MakesSessions command count
WouldStand rows command which.Batches count =
    (own : Own) × (name : List ℕ) × (ticket : Ticket) × (edition : List ℕ) × (body : List ℕ)
    × AsksWith rows command own × (command ≡ Clerk name ticket (Batch edition body))
    × (count ≡ length own.batches + 1)

-- the cause of a refusal
abbrev pub Cause : Rows → Command → Refusal → Type 0
Cause rows command NoClerk =
    (name : List ℕ) × (clerk_in command ≡ Some name) × All (λ clerk. clerk.name ≢ name) (drop 1 rows.clerks)
Cause rows command (Stale last) =
    (row : ClerkRow) × (ticket : Ticket) × WritesWith rows command row ticket × (last ≡ row.last)
    × (ticket.number < row.last)
Cause rows command (Gap last) =
    (row : ClerkRow) × (ticket : Ticket) × WritesWith rows command row ticket × (last ≡ row.last)
    × (row.last + 1 < ticket.number)
Cause rows command (Reused last) =
    (row : ClerkRow) × (ticket : Ticket) × WritesWith rows command row ticket × (last ≡ row.last)
    × (ticket.number ≡ row.last) × (row.digest.bytes ≢ ticket.digest.bytes)
Cause rows command (NoSuch kind.Schema) =
    (version : List ℕ × ℕ) × (schema_in command ≡ Some version)
    × (text_named rows.schemas version.0 version.1 ≡ None)
Cause rows command (NoSuch kind.Master) =
    ((version : List ℕ × ℕ) × Contains (masters_in command) version
    × (text_named rows.masters version.0 version.1 ≡ None))
    ⊎ ((edition : EditionRow) × (name : List ℕ) × AsksMaster rows command edition name
    × All (λ place. master_name rows.masters place ≢ name) edition.masters)
Cause rows command (NoSuch kind.Rulebook) =
    (version : List ℕ × ℕ) × (rulebook_in command ≡ Some version)
    × (rulebook_named rows.rulebooks version.0 version.1 ≡ None)
Cause rows command (NoSuch kind.Edition) =
    ((name : List ℕ) × (edition_in command ≡ Some name) × (newest_edition rows.editions name ≡ None))
    ⊎ ((version : List ℕ × ℕ) × (version_in command ≡ Some version)
    × (edition_named rows.editions version.0 version.1 ≡ None))
    ⊎ ((session : SessionRow) × (version : ℕ) × Names rows command session × (carried_in command ≡ Some version)
    × (edition_named rows.editions (edition_at (published_of rows) session.edition).name version ≡ None))
Cause rows command (NoSuch kind.Session) =
    (own : Own) × (number : ℕ) × AsksWith rows command own × (session_in command ≡ Some number)
    × (session_at own.sessions number ≡ None)
Cause rows command (NoSuch kind.Region) =
    (version : List ℕ × ℕ) × (edition : ℕ) × (number : ℕ) × (version_in command ≡ Some version)
    × (edition_named rows.editions version.0 version.1 ≡ Some edition) × (region_in command ≡ Some number)
    × (numbered (regions_of rows.regions edition) number ≡ None)
Cause rows command (NoSuch kind.Row) =
    (version : List ℕ × ℕ) × (place : ℕ) × (master : List ℕ × Master) × (number : ℕ)
    × Contains (masters_in command) version × (text_named rows.masters version.0 version.1 ≡ Some place)
    × (master_at (published_of rows) place ≡ Some master) × (row_in command ≡ Some number)
    × (numbered master.1.grid.rows number ≡ None)
Cause rows command (NoSuch kind.Rule) =
    (place : ℕ) × (bound : Bound) × (name : List ℕ) × IsAbout rows command place
    × (bound_at (published_of rows) place ≡ Some bound) × (rule_in command ≡ Some name)
    × All (λ one. one ≢ name) bound.names.rules
Cause rows command (Closed stage) =
    (session : SessionRow) × Names rows command session × (session.stage ≡ stage) × (stage ≢ Active)
Cause rows command (UnknownAttr word) =
    (words : List (List ℕ)) × AreWords rows command words × Contains (attributes_in command) word
    × All (λ one. one ≢ word) words
Cause rows command (ValueLong word) = (text : List ℕ) × GivesText command word text × (MAX_TEXT < length text)
Cause rows command (NotCertain count) =
    (session : SessionRow) × (bound : Bound) × (answer : Answer) × Commits rows command Certain session bound answer
    × (answer.verdict ≢ Conflict) × (count ≡ open_count session bound answer) × (0 < count)
Cause rows command InConflict =
    (session : SessionRow) × (bound : Bound) × (answer : Answer) × (answer.verdict ≡ Conflict)
    × (((accept : Accept) × Commits rows command accept session bound answer)
    ⊎ ((word : List ℕ) × Explains rows command word session bound answer)
    ⊎ AsksBlocked rows command session bound answer)
Cause rows command (NotConfirmed word) =
    (session : SessionRow) × (place : ℕ) × Withdraws rows command word session place
    × (slice_index_or session.confirmed place false ≡ false)
Cause rows command (Limit which number) =
    (count : ℕ) × WouldStand rows command which count × (number ≡ limit_of which) × (number < count)
Cause rows command (BadText reader code one other) = RefusesBody rows command (BadText reader code one other)
Cause rows command Unavailable = ⊥
Cause rows command NoMemory = ⊥
Cause rows command (Twice name) =
    StandsTwice (attributes_in command) name ⊎ StandsTwice (map (λ master. master.0) (masters_in command)) name
    ⊎ StandsTwice (columns_in command) name
Cause rows command (Taken name) =
    (ticket : Ticket) × (row : ClerkRow) × (command ≡ Steward ticket (AddClerk name)) × Contains rows.clerks row
    × (row.name ≡ name)
Cause rows command (BadName name) = (new_name_in command ≡ Some name) × ¬ IsTrue (is_name name)
Cause rows command (RowWidth number) = HasNarrowRow command number
Cause rows command (NotFixed word) =
    (session : SessionRow) × (bound : Bound) × (answer : Answer) × (place : ℕ)
    × Explains rows command word session bound answer × (answer.verdict ≢ Conflict)
    × (position (bytes_eq word) bound.names.attributes ≡ Some place)
    × ¬ IsFixed (end_of bound.kit (state_of session) answer.first) place
Cause rows command (NoColumn word) =
    (edition : EditionRow) × (name : List ℕ) × (sheet : Master) × AsksMaster rows command edition name
    × (IsFound (master_of (published_of rows) edition name) sheet) × Contains (columns_in command) word
    × All (λ one. one ≢ word) sheet.columns
Cause rows command (NotNewer version) =
    (session : SessionRow) × (asked_for : ℕ) × Names rows command session × (carried_in command ≡ Some asked_for)
    × (version ≡ (edition_at (published_of rows) session.edition).version) × (asked_for ≤ version)
