-- What a clerk looks at, one look a file: what is replied to it, and what it names.
pub mod View
pub mod Suggest
pub mod Preview
pub mod Report
pub mod Records
pub mod Explain
pub mod Carry
pub mod Sessions
pub mod Choices
pub mod Blocked
use Rattle.std.specs.Prelude.{ℕ, List, [], ◌∷◌, map, Option, Some, None}
use Rattle.desk_words.specs.declared.look.Look.{Look}
use Rattle.desk_words.specs.declared.look.Look.TheVariants as look
use Rattle.desk_words.specs.declared.reply.Reply.{Reply}
use Rattle.desk_words.specs.declared.reply.Reply.TheVariants as reply
use Rattle.desk_words.specs.Tables.{Published}
use Rattle.machine_core.specs.Checked.{Checked, ◌>>=◌, done}
use Rattle.machine_core.specs.Look.Blocked.{blocked_at}
use Rattle.machine_core.specs.Look.Carry.{carrying}
use Rattle.machine_core.specs.Look.Choices.{choices_at}
use Rattle.machine_core.specs.Look.Explain.{explain}
use Rattle.machine_core.specs.Look.Preview.{preview}
use Rattle.machine_core.specs.Look.Records.{records_of}
use Rattle.machine_core.specs.Look.Report.{report_of}
use Rattle.machine_core.specs.Look.Sessions.{sessions_from}
use Rattle.machine_core.specs.Look.Suggest.{suggestion_of}
use Rattle.machine_core.specs.Look.View.{view_at}
use Rattle.machine_core.specs.Own.{Own}

-- tests that find a value, and the reply that tells it
pub data Told : Type 1 where
  told : {A : Type 0} → Checked A → (A → Reply) → Told

-- a clerk's look, one look a case
abbrev pub look_at : Published → Own → Look → Told
look_at published own (look.View number) = told (view_at published own number) reply.View
look_at published own (look.Suggest number) = told (suggestion_of published own number) reply.Suggested
look_at published own (look.Preview number cells) = told (preview published own number cells) reply.View
look_at published own look.Report = told (report_of published (Some own.row.name) own.sessions) reply.Report
look_at published own (look.Records edition version) = told (records_of published own edition version) reply.Records
look_at published own (look.Explain number word) = told (explain published own number word) reply.Explained
look_at published own (look.Carry number version) = told (carrying published own number version) reply.Carried
look_at published own (look.Sessions from) = told (sessions_from published own from) reply.Sessions
look_at published own (look.Choices number) = told (choices_at published own number) reply.Choices
look_at published own (look.Blocked number) = told (blocked_at published own number) reply.Blocked

-- what is found, as it is told
abbrev pub reply_of : Told → Checked Reply
reply_of (told found as_reply) = do
  value ← found
  done (as_reply value)

-- what is replied to a look
abbrev pub look_reply : Published → Own → Look → Checked Reply
look_reply published own look = reply_of (look_at published own look)

-- ---- what a look names

-- a session by its number, a version of an edition, the version to which the session might be carried, attributes by
-- their words, texts for attributes, and the attribute whose reason is asked for
pub record Naming : Type 0 where
  pub session : Option ℕ
  pub edition : Option (List ℕ × ℕ)
  pub version : Option ℕ
  pub attributes : List (List ℕ)
  pub cells : List (List ℕ × List ℕ)
  pub reason : Option (List ℕ)

-- nothing
abbrev pub names_nothing : Naming
names_nothing =
    record { session = None; edition = None; version = None; attributes = []; cells = []; reason = None }

-- a session alone
abbrev pub names_session : ℕ → Naming
names_session number = record names_nothing { session = Some number }

-- what a look names, one look a case
abbrev pub named_by : Look → Naming
named_by (look.View number) = names_session number
named_by (look.Suggest number) = names_session number
named_by (look.Preview number cells) =
    record (names_session number) { attributes = map (λ cell. cell.0) cells; cells = cells }
named_by look.Report = names_nothing
named_by (look.Records edition version) = record names_nothing { edition = Some (edition, version) }
named_by (look.Explain number word) = record (names_session number) { attributes = word ∷ []; reason = Some word }
named_by (look.Carry number version) = record (names_session number) { version = Some version }
named_by (look.Sessions from) = names_nothing
named_by (look.Choices number) = names_session number
named_by (look.Blocked number) = names_session number
