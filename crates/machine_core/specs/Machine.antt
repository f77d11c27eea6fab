-- The session machine: what a request comes to, the dispatch alone.
use Rattle.std.specs.Prelude.{◌≡◌, ℕ, ◌+◌, List, [], ◌∷◌, drop, length, option_map, position, Option, Some, None}
use Rattle.std.specs.Prelude.{Result, Ok, Err}
use Rattle.std.specs.Str.{bytes_eq}
use Rattle.desk_words.specs.declared.change.Change.{Change}
use Rattle.desk_words.specs.declared.change.Change.TheVariants as change
use Rattle.desk_words.specs.declared.clerk_work.ClerkWork.{ClerkWork}
use Rattle.desk_words.specs.declared.clerk_work.ClerkWork.TheVariants.{Enter, Confirm, Withdraw, Commit, Abandon, Batch}
use Rattle.desk_words.specs.declared.clerk_work.ClerkWork.TheVariants.{Carry}
use Rattle.desk_words.specs.declared.command.Command.{Command}
use Rattle.desk_words.specs.declared.command.Command.TheVariants.{Steward, Clerk, Look, Desk}
use Rattle.desk_words.specs.declared.command.Ticket.{Ticket}
use Rattle.desk_words.specs.declared.refusal.Refusal.{Refusal}
use Rattle.desk_words.specs.declared.refusal.Refusal.TheVariants.{NoClerk}
use Rattle.desk_words.specs.declared.reply.Reply.{Reply}
use Rattle.desk_words.specs.declared.reply.Reply.TheVariants as reply
use Rattle.desk_words.specs.declared.rows.act.Act.TheVariants as act
use Rattle.desk_words.specs.declared.rows.clerk.ClerkRow.{ClerkRow}
use Rattle.desk_words.specs.declared.steward_work.StewardWork.{StewardWork}
use Rattle.desk_words.specs.declared.proposal.Proposal.TheVariants.{Schema, Master, Rulebook, Edition}
use Rattle.desk_words.specs.declared.steward_work.StewardWork.TheVariants.{AddClerk, Publish, AddRegion, AddDerived}
use Rattle.desk_words.specs.Changes.{changed}
use Rattle.desk_words.specs.Tables.{Published, Rows, published_of}
use Rattle.machine_core.specs.Checked.{Checked, ◌>>=◌, done, Gives, some_or}
use Rattle.machine_core.specs.Clerk.Abandon.{abandon}
use Rattle.machine_core.specs.Clerk.Batch.{enter_batch}
use Rattle.machine_core.specs.Clerk.Carry.{carry}
use Rattle.machine_core.specs.Clerk.Commit.{commit}
use Rattle.machine_core.specs.Clerk.Confirm.{confirm}
use Rattle.machine_core.specs.Clerk.Enter.{enter}
use Rattle.machine_core.specs.Clerk.Withdraw.{withdraw}
use Rattle.machine_core.specs.DeskLook.{desk_reply}
use Rattle.machine_core.specs.Kept.{kept_reply, kept_made}
use Rattle.machine_core.specs.Look.{look_reply}
use Rattle.machine_core.specs.Own.{Own, after, changes_of, own_of}
use Rattle.machine_core.specs.declared.deed.Deed.{Deed}
use Rattle.machine_core.specs.declared.making.Making.{Making}
use Rattle.machine_core.specs.Steward.AddClerk.{clerk_row}
use Rattle.machine_core.specs.Steward.AddDerived.{derived_region}
use Rattle.machine_core.specs.Steward.AddEdition.{edition_row}
use Rattle.machine_core.specs.Steward.AddMaster.{master_row}
use Rattle.machine_core.specs.Steward.AddRegion.{region_row}
use Rattle.machine_core.specs.Steward.AddRulebook.{rulebook_row}
use Rattle.machine_core.specs.Steward.AddSchema.{schema_row}
use Rattle.machine_core.specs.declared.ticket.Use.{Use as UseOf}
use Rattle.machine_core.specs.declared.ticket.Use.TheVariants.{Fresh, Repeated}
use Rattle.machine_core.specs.Ticket.{ticketed, use_of}

-- what the steward's write makes, one command a case
abbrev pub making_of : Rows → StewardWork → Checked Making
making_of rows (AddClerk name) = do
  row ← clerk_row rows.clerks name
  done (record { change = change.Clerk (length rows.clerks) row; act = act.Clerk; target = length rows.clerks })
making_of rows (Publish (Schema body)) = do
  row ← schema_row rows.schemas body
  done (record { change = change.Schema row; act = act.Schema; target = length rows.schemas })
making_of rows (Publish (Master name body)) = do
  row ← master_row rows.masters name body
  done (record { change = change.Master row; act = act.Master; target = length rows.masters })
making_of rows (Publish (Rulebook name schema version body)) = do
  row ← rulebook_row (published_of rows) name schema version body
  done (record { change = change.Rulebook row; act = act.Rulebook; target = length rows.rulebooks })
making_of rows (Publish (Edition name rulebook masters folded)) = do
  row ← edition_row (published_of rows) name rulebook masters folded
  done (record { change = change.Edition row; act = act.Edition; target = length rows.editions })
making_of rows (AddRegion edition version attributes texts) = do
  row ← region_row (published_of rows) edition version attributes texts
  done (record { change = change.Region row; act = act.Region; target = length rows.regions })
making_of rows (AddDerived edition version master pairs from) = do
  row ← derived_region (published_of rows) edition version master pairs from
  done (record { change = change.Region row; act = act.Region; target = length rows.regions })

-- the changes of what the steward makes: the steward's own row stands last
abbrev pub making_changes : ClerkRow → Ticket → Making → List Change
making_changes row ticket making =
    making.change ∷ change.Clerk 0 (ticketed row ticket making.act making.target) ∷ []

-- the steward's write: a repeat has the kept reply and no changes, a new one has the kept reply over the rows after it
abbrev pub steward_write : Rows → Ticket → StewardWork → UseOf → Checked (Reply × List Change)
steward_write rows ticket work Repeated = do
  made ← kept_made rows (own_of rows 0).row.act (own_of rows 0).row.target
  done (reply.Made made, [])
steward_write rows ticket work Fresh = do
  making ← making_of rows work
  made ← kept_made (changed rows making.change) making.act making.target
  done (reply.Made made, making_changes (own_of rows 0).row ticket making)

-- what a clerk's write does, one command a case
abbrev pub deed_of : Published → Own → ClerkWork → Checked Deed
deed_of published own (Enter edition cells confirmed) = enter published own edition cells confirmed
deed_of published own (Confirm number cells) = confirm published own number cells
deed_of published own (Withdraw number names) = withdraw published own number names
deed_of published own (Commit number accept) = commit published own number accept
deed_of published own (Abandon number) = abandon own number
deed_of published own (Batch edition body) = enter_batch published own edition body
deed_of published own (Carry number version) = carry published own number version

-- a clerk's write at its turn: the reply is the kept one over the rows after it
abbrev pub clerk_write_at : Published → Own → ClerkWork → UseOf → Checked (Reply × Option Deed)
clerk_write_at published own work Repeated = do
  answer ← kept_reply published own own.row.act own.row.target
  done (answer, None)
clerk_write_at published own work Fresh = do
  deed ← deed_of published own work
  answer ← kept_reply published (after own deed) deed.act deed.target
  done (answer, Some deed)

-- a clerk's write
abbrev pub clerk_write : Published → Own → Ticket → ClerkWork → Checked (Reply × Option Deed)
clerk_write published own ticket work = do
  use_made ← use_of own.row ticket
  clerk_write_at published own work use_made

-- the place of a clerk who is not the steward
abbrev pub clerk_of : List ClerkRow → List ℕ → Checked ℕ
clerk_of clerks name =
    some_or (option_map (λ place. place + 1) (position (λ clerk. bytes_eq clerk.name name) (drop 1 clerks))) NoClerk

-- the changes of a write of the clerk at a place, if it was a new one
abbrev pub changes_if : ℕ → ClerkRow → Ticket → Option Deed → List Change
changes_if place row ticket None = []
changes_if place row ticket (Some deed) = changes_of place row ticket deed

-- what a request comes to: the reply and the changes
abbrev pub machine : Rows → Command → Checked (Reply × List Change)
machine rows (Steward ticket work) = do
  use_made ← use_of (own_of rows 0).row ticket
  steward_write rows ticket work use_made
machine rows (Clerk name ticket work) = do
  place ← clerk_of rows.clerks name
  (answer, deed) ← clerk_write (published_of rows) (own_of rows place) ticket work
  done (answer, changes_if place (own_of rows place).row ticket deed)
machine rows (Look name look) = do
  place ← clerk_of rows.clerks name
  answer ← look_reply (published_of rows) (own_of rows place) look
  done (answer, [])
machine rows (Desk look) = do
  answer ← desk_reply rows look
  done (answer, [])

-- what is answered: the reply, or that the request is refused, which changes nothing
abbrev pub answered : Result (Reply × List Change) Refusal → Reply × List Change
answered (Ok made) = made
answered (Err refusal) = (reply.Refused refusal, [])

-- the reply and the changes of a step
pub record IsStep (rows : Rows) (command : Command) (answer : Reply) (changes : List Change) : Type 0 where
  pub outcome : Result (Reply × List Change) Refusal
  pub gives : Gives (machine rows command) outcome
  pub answers : (answer, changes) ≡ answered outcome
