-- A value, or the first test before the machine that a request fails.
use Rattle.std.specs.Prelude.{◌≡◌, ◌≢◌, Bool, true, false, if◌then◌else◌, Option, Some, None, Result, Ok, Err}
use Rattle.desk_json.specs.declared.fault.JsonFault.{JsonFault}
use Rattle.desk_json.specs.declared.fault.JsonFault.TheVariants as fault
use Rattle.desk_json.specs.declared.route.Route.{Route}
use Rattle.desk_json.specs.declared.route.Route.TheVariants.{CheckEdition}
use Rattle.http_desk.specs.declared.declined.Declined.{Declined}
use Rattle.http_desk.specs.declared.declined.Declined.TheVariants.{Refused, BadBody, BadProposal}
use Rattle.http_desk.specs.declared.refusal.Refused.{Refused as RefusedBy}
use Rattle.http_desk.specs.declared.refusal.Refused.TheVariants.{NoRoute, NoMemory}

-- a value, or why the request is answered without the machine
abbrev pub Checked : Type 0 → Type 0
Checked A = Result A Declined

-- refused by a test of the head
abbrev pub or_refused : {A : Type 0} → Result A RefusedBy → Checked A
or_refused (Ok value) = Ok value
or_refused (Err refusal) = Err (Refused refusal)

-- without a route, where there is none
abbrev pub or_no_route : {A : Type 0} → Option A → Checked A
or_no_route (Some found) = Ok found
or_no_route None = Err (Refused NoRoute)

-- the route checks an edition, whose body is JSON
abbrev pub checks_json : Route → Bool
checks_json (CheckEdition name) = true
checks_json other = false

-- a body that is not read, where a route wants another: a check tells a person of it
abbrev pub unread : Route → JsonFault → Declined
unread route fault = if checks_json route then BadProposal fault else BadBody fault

-- why it does so: want of memory is no fault of the body
abbrev pub declined_for : Route → JsonFault → Declined
declined_for route fault.NoMemory = Refused NoMemory
declined_for route other = unread route other

-- declined for a fault of the body
abbrev pub or_bad_body : {A : Type 0} → Route → Result A JsonFault → Checked A
or_bad_body route (Ok value) = Ok value
or_bad_body route (Err fault) = Err (declined_for route fault)

-- what is answered is the value, or the first test that fails, or that there was no memory
abbrev pub Finds : {A : Type 0} → Result A Declined → Checked A → Type 0
Finds (Ok value) checked = checked ≡ Ok value
Finds (Err why) checked = why ≢ Refused NoMemory → checked ≡ Err why
