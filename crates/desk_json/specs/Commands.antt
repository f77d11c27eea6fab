-- The command that a route and a body are (docs/api.md). A body that is no JSON is passed on as it stands, and a
-- route without one passes it over.
use Rattle.std.specs.Prelude.{ℕ, List, Ok}
use Rattle.desk_words.specs.declared.clerk_work.ClerkWork.{ClerkWork}
use Rattle.desk_words.specs.declared.clerk_work.ClerkWork.TheVariants as clerk_works
use Rattle.desk_words.specs.declared.command.Command.{Command}
use Rattle.desk_words.specs.declared.command.Command.TheVariants as commands
use Rattle.desk_words.specs.declared.desk_look.DeskLook.{DeskLook}
use Rattle.desk_words.specs.declared.desk_look.DeskLook.TheVariants as desk_looks
use Rattle.desk_words.specs.declared.look.Look.{Look}
use Rattle.desk_words.specs.declared.look.Look.TheVariants as looks
use Rattle.desk_words.specs.declared.proposal.Proposal.{Proposal}
use Rattle.desk_words.specs.declared.proposal.Proposal.TheVariants.{Schema, Master, Rulebook}
use Rattle.desk_words.specs.declared.rows.clerk.Digest.{Digest}
use Rattle.desk_words.specs.declared.steward_work.StewardWork.{StewardWork}
use Rattle.desk_words.specs.declared.steward_work.StewardWork.TheVariants.{Publish}
use Rattle.desk_json.specs.Bodies.Abandon.{abandon}
use Rattle.desk_json.specs.Bodies.AddClerk.{add_clerk}
use Rattle.desk_json.specs.Bodies.AddDerived.{add_derived}
use Rattle.desk_json.specs.Bodies.AddEdition.{proposed_edition}
use Rattle.desk_json.specs.Bodies.AddRegion.{add_region}
use Rattle.desk_json.specs.Bodies.Carry.{carry}
use Rattle.desk_json.specs.Bodies.Commit.{commit}
use Rattle.desk_json.specs.Bodies.Confirm.{confirm, preview}
use Rattle.desk_json.specs.Bodies.DeskDerive.{desk_derive}
use Rattle.desk_json.specs.Bodies.Enter.{enter}
use Rattle.desk_json.specs.Bodies.Withdraw.{withdraw}
use Rattle.desk_json.specs.Checked.{Checked, ◌>>=◌}
use Rattle.desk_json.specs.declared.route.Route.{Route}
use Rattle.desk_json.specs.declared.route.Route.TheVariants.{AddClerk, AddSchema, AddMaster, AddRulebook, AddEdition}
use Rattle.desk_json.specs.declared.route.Route.TheVariants.{AddRegion, Enter, Confirm, Withdraw, Commit, Abandon}
use Rattle.desk_json.specs.declared.route.Route.TheVariants.{Batch, View, Suggest, Preview, Report, Records, DeskReport}
use Rattle.desk_json.specs.declared.route.Route.TheVariants.{Explain, DeskDerive, AddDerived, SeeCarry, Carry, Sessions}
use Rattle.desk_json.specs.declared.route.Route.TheVariants.{DeskPublished, DeskEdition, DeskRow, DeskRegion}
use Rattle.desk_json.specs.declared.route.Route.TheVariants.{Body, Choices, Blocked, DeskContradictions}
use Rattle.desk_json.specs.declared.route.Route.TheVariants.{CheckSchema, CheckMaster, CheckRulebook, CheckEdition}
use Rattle.desk_json.specs.declared.route.Route.TheVariants.{DeskDump}

-- who asks for what, or the first fault of the body
pub data Asked : Type 0 where
  by_steward : ℕ → Checked StewardWork → Asked
  by_clerk : List ℕ → ℕ → Checked ClerkWork → Asked
  seen_by : List ℕ → Checked Look → Asked
  at_desk : Checked DeskLook → Asked

-- the steward asks that what is proposed is published
abbrev pub to_publish : ℕ → Checked Proposal → Asked
to_publish n read = by_steward n do
  proposal ← read
  Ok (Publish proposal)

-- it is asked what publishing this would come to
abbrev pub to_check : Checked Proposal → Asked
to_check read = at_desk do
  proposal ← read
  Ok (desk_looks.Check proposal)

-- who asks for what by a route and a body
abbrev pub asked_in : Route → List ℕ → Asked
asked_in (AddClerk n) body = by_steward n (add_clerk body)
asked_in (AddSchema n) body = to_publish n (Ok (Schema body))
asked_in (AddMaster n name) body = to_publish n (Ok (Master name body))
asked_in (AddRulebook n name schema version) body = to_publish n (Ok (Rulebook name schema version body))
asked_in (AddEdition n name) body = to_publish n (proposed_edition name body)
asked_in (AddRegion n edition version) body = by_steward n (add_region edition version body)
asked_in (AddDerived n edition version) body = by_steward n (add_derived edition version body)
asked_in (Enter clerk n edition) body = by_clerk clerk n (enter edition body)
asked_in (Confirm clerk n session) body = by_clerk clerk n (confirm session body)
asked_in (Withdraw clerk n session) body = by_clerk clerk n (withdraw session body)
asked_in (Commit clerk n session) body = by_clerk clerk n (commit session body)
asked_in (Abandon clerk n session) body = by_clerk clerk n (abandon session body)
asked_in (Batch clerk n edition) body = by_clerk clerk n (Ok (clerk_works.Batch edition body))
asked_in (Carry clerk n session) body = by_clerk clerk n (carry session body)
asked_in (View clerk session) body = seen_by clerk (Ok (looks.View session))
asked_in (Suggest clerk session) body = seen_by clerk (Ok (looks.Suggest session))
asked_in (Preview clerk session) body = seen_by clerk (preview session body)
asked_in (Report clerk) body = seen_by clerk (Ok looks.Report)
asked_in (Records clerk edition version) body = seen_by clerk (Ok (looks.Records edition version))
asked_in (Explain clerk session name) body = seen_by clerk (Ok (looks.Explain session name))
asked_in (SeeCarry clerk session version) body = seen_by clerk (Ok (looks.Carry session version))
asked_in (Sessions clerk from) body = seen_by clerk (Ok (looks.Sessions from))
asked_in DeskReport body = at_desk (Ok desk_looks.Report)
asked_in (Choices clerk session) body = seen_by clerk (Ok (looks.Choices session))
asked_in (Blocked clerk session) body = seen_by clerk (Ok (looks.Blocked session))
asked_in (DeskDerive edition version) body = at_desk (desk_derive edition version body)
asked_in DeskPublished body = at_desk (Ok desk_looks.Published)
asked_in (DeskEdition edition version) body = at_desk (Ok (desk_looks.Edition edition version))
asked_in (DeskRow master version row) body = at_desk (Ok (desk_looks.Row master version row))
asked_in (DeskRegion edition version region) body = at_desk (Ok (desk_looks.Region edition version region))
asked_in (Body what name version) body = at_desk (Ok (desk_looks.Body what name version))
asked_in (DeskContradictions edition version rule) body = at_desk (Ok (desk_looks.Contradictions edition version rule))
asked_in CheckSchema body = to_check (Ok (Schema body))
asked_in (CheckMaster name) body = to_check (Ok (Master name body))
asked_in (CheckRulebook name schema version) body = to_check (Ok (Rulebook name schema version body))
asked_in (CheckEdition name) body = to_check (proposed_edition name body)
asked_in DeskDump body = at_desk (Ok desk_looks.Dump)

-- the command that is asked for, where a write has this digest
abbrev pub command_by : Digest → Asked → Checked Command
command_by digest (by_steward n read) = do
  work ← read
  Ok (commands.Steward (record { number = n; digest = digest }) work)
command_by digest (by_clerk clerk n read) = do
  work ← read
  Ok (commands.Clerk clerk (record { number = n; digest = digest }) work)
command_by digest (seen_by clerk read) = do
  look ← read
  Ok (commands.Look clerk look)
command_by digest (at_desk read) = do
  look ← read
  Ok (commands.Desk look)

-- the command, or the first fault of the body
abbrev pub command_in : Route → Digest → List ℕ → Checked Command
command_in route digest body = command_by digest (asked_in route body)
