-- The responses to what is answered: the status, the type and the body of each (docs/api.md).
use Rattle.std.specs.Prelude.{ℕ, List, [], Bool, Option, Some, None}
use Rattle.serde_json.specs.Data.{Data}
use Rattle.serde_json.specs.Written.{compact_text}
use Rattle.desk_words.specs.declared.desk_look.Publication.{Publication}
use Rattle.desk_words.specs.declared.desk_look.Publication.TheVariants as publication
use Rattle.desk_words.specs.declared.refusal.Refusal.{Refusal}
use Rattle.desk_words.specs.declared.refusal.Refusal.TheVariants as refusal
use Rattle.desk_words.specs.declared.reply.Reply.{Reply}
use Rattle.desk_words.specs.declared.reply.Reply.TheVariants.{Made, Opened, Committed, Batched, Report, Records}
use Rattle.desk_words.specs.declared.reply.Reply.TheVariants.{Body, Contradictions, Derived, Dump, Refused, Unfit}
use Rattle.desk_words.specs.Tables.{rows_of}
use Rattle.desk_dump.specs.Dumps.{dump_of}
use Rattle.desk_json.specs.Faults.{fault_saying}
use Rattle.desk_json.specs.Replies.{reply_shown}
use Rattle.desk_json.specs.declared.fault.JsonFault.{JsonFault}
use Rattle.desk_sheets.specs.Contradictions.{contradictions_text}
use Rattle.desk_sheets.specs.Derived.{derived_text}
use Rattle.desk_sheets.specs.Records.{records_text}
use Rattle.desk_sheets.specs.Report.{report_text}
use Rattle.http_desk.specs.declared.declined.Declined.{Declined}
use Rattle.http_desk.specs.declared.declined.Declined.TheVariants as declined
use Rattle.http_desk.specs.declared.status.ContentType.{ContentType}
use Rattle.http_desk.specs.declared.status.ContentType.TheVariants.{Json, Text, Csv, Toml, Lines}
use Rattle.http_desk.specs.declared.status.Status.{Status}
use Rattle.http_desk.specs.declared.status.Status.TheVariants as status
use Rattle.http_desk.specs.Refusals.{refusal_text}
use Rattle.http_desk.specs.Says.{fault_sentence}
use Rattle.http_desk.specs.Responses.{response}

-- ---- the machine's replies

-- the status of a refusal: 422 but for those that are named here
abbrev pub refusal_status : Refusal → Status
refusal_status refusal.NoClerk = status.NotFound
refusal_status (refusal.NoSuch kind) = status.NotFound
refusal_status (refusal.Stale last) = status.Conflict
refusal_status (refusal.Gap last) = status.Conflict
refusal_status (refusal.Reused last) = status.Conflict
refusal_status (refusal.Closed stage) = status.Conflict
refusal_status (refusal.Taken name) = status.Conflict
refusal_status (refusal.NotNewer version) = status.Conflict
refusal_status (refusal.Limit which most) = status.ContentTooLarge
refusal_status refusal.Unavailable = status.ServiceUnavailable
refusal_status refusal.NoMemory = status.InsufficientStorage
refusal_status unfit = status.UnprocessableContent

-- the status of a reply: what was made or refused, or would be refused, or else looked at
abbrev pub reply_status : Reply → Status
reply_status (Made made) = status.Created
reply_status (Opened session) = status.Created
reply_status (Committed number session certain) = status.Created
reply_status (Batched batch) = status.Created
reply_status (Unfit refusal says) = refusal_status refusal
reply_status (Refused refusal) = refusal_status refusal
reply_status reply = status.Ok

-- what a published text is
abbrev pub published_type : Publication → ContentType
published_type publication.Schema = Toml
published_type publication.Master = Csv
published_type publication.Rulebook = Text

-- what the body of a reply is
abbrev pub reply_type : Reply → ContentType
reply_type (Report sheet) = Text
reply_type (Records sheet) = Csv
reply_type (Derived sheet) = Csv
reply_type (Body what body) = published_type what
reply_type (Contradictions sheet) = Csv
reply_type (Dump tables) = Lines
reply_type reply = Json

-- the text of a value
abbrev pub json_text : Option Data → List ℕ
json_text (Some value) = compact_text value
json_text None = []

-- the body of a reply
abbrev pub reply_body : Reply → List ℕ
reply_body (Report sheet) = report_text sheet
reply_body (Records sheet) = records_text sheet
reply_body (Derived sheet) = derived_text sheet
reply_body (Body what body) = body
reply_body (Contradictions sheet) = contradictions_text sheet
reply_body (Dump tables) = dump_of (rows_of tables)
reply_body reply = json_text (reply_shown reply)

-- the response to a request that the machine replies to, which closes the stream or not, and whose method may be HEAD
abbrev pub reply_text : Reply → Bool → Bool → List ℕ
reply_text reply closing asks_head =
    response (reply_status reply) (reply_type reply) (reply_body reply) closing asks_head

-- ---- before the machine

-- the response to a body with this fault, with a sentence for a person where there is one
abbrev pub unread_text : JsonFault → Option (List ℕ) → Bool → Bool → List ℕ
unread_text fault sentence closing asks_head =
    response status.BadRequest Json (compact_text (fault_saying fault sentence)) closing asks_head

-- the response to a request that the machine is not asked about
abbrev pub declined_text : Declined → Bool → Bool → List ℕ
declined_text (declined.Refused refusal) closing asks_head = refusal_text refusal closing asks_head
declined_text (declined.Shown page) closing asks_head = response status.Ok page.kind page.text.now closing asks_head
declined_text (declined.BadBody fault) closing asks_head = unread_text fault None closing asks_head
declined_text (declined.BadProposal fault) closing asks_head =
    unread_text fault (Some (fault_sentence fault)) closing asks_head
