-- What `make` leaves of the link: the summary of the sessions that the requests of the generator open.
use Rattle.std.specs.Prelude.{◌≡◌, ◌≢◌, ℕ, ◌+◌, ◌<◌, List, [], ◌∷◌, ◌++◌, length, Ok, Some, codes, decimal}
use Rattle.std.specs.List.{find}
use Rattle.std.specs.Str.{bytes_eq}
use Rattle.desk_links.specs.Doors.{LinkSeen}
use Rattle.desk_made.specs.Made.{made_requests}
use Rattle.desk_made.specs.Requests.{stream_of}
use Rattle.json_parts.specs.Shapes.{line}
use Rattle.desk_valid.specs.Valid.{AreValid}
use Rattle.desk_words.specs.declared.change.Change.{Change}
use Rattle.desk_words.specs.declared.command.Command.TheVariants.{Desk}
use Rattle.desk_words.specs.declared.desk_look.DeskLook.TheVariants as desk_look
use Rattle.desk_words.specs.declared.reply.Reply.{Reply}
use Rattle.desk_words.specs.declared.reply.Reply.TheVariants as reply
use Rattle.desk_words.specs.declared.report.ReportLine.{ReportLine}
use Rattle.desk_words.specs.declared.report.ReportSheet.{ReportSheet}
use Rattle.desk_words.specs.Changes.{changed_all}
use Rattle.desk_words.specs.Tables.{Rows, empty_rows}
use Rattle.http_cut.specs.Cut.{IsCut, WholeRequest, clean}
use Rattle.http_desk.specs.Answered.{Answered, IsAsked, Served, last_tables, requests}
use Rattle.http_desk.specs.Commands.{command_for}
use Rattle.http_desk.specs.Fronts.{bare}
use Rattle.machine_core.specs.declared.machine.Weighed.{Weighed}
use Rattle.machine_core.specs.Checked.{Gives}
use Rattle.machine_core.specs.Machine.{machine}
use Rattle.machine_core.specs.Ticket.{turn_of}
use Rattle.once_run.specs.declared.status.Status.{Status}
use Rattle.once_run.specs.declared.status.Status.TheVariants.{Done, NoCommand, ReadFault, WriteFault, Unavailable}
use Rattle.once_run.specs.declared.status.Status.TheVariants.{NoMemory, Damaged, Refused, Limit}
use Rattle.fixdesk_run.specs.Link.{IsSilent, Says, SaysPart}

-- ---- the desk that is made

-- the session machine accepts a request over these tables, and leaves those
pub record IsAccepted (before : Rows) (request : WholeRequest) (after : Rows) : Type 0 where
  pub reply : Reply
  pub changes : List Change
  pub asked : IsAsked before (command_for request) reply changes
  pub some : changes ≢ []
  pub leaves : after ≡ changed_all before changes

-- it accepts these requests one after another
abbrev pub AreAccepted : Rows → List WholeRequest → Rows → Type 0
AreAccepted before [] after = after ≡ before
AreAccepted before (request ∷ requests) after =
    (next : Rows) × IsAccepted before request next × AreAccepted next requests after

-- how many requests the generator makes, with so many sessions
abbrev pub request_count : ℕ → ℕ
request_count sessions = sessions + 5

-- the tables that an empty desk has when it has accepted all requests that the generator makes
pub record IsMade (sessions start : ℕ) (rows : Rows) : Type 0 where
  pub requests : List WholeRequest
  pub cut : IsCut (stream_of (made_requests sessions start)) requests [] clean
  pub count : length requests ≡ request_count sessions
  pub accepted : AreAccepted empty_rows requests rows

-- ---- the summary

-- the numbers of the desk's report over these tables for the edition `e`
pub record IsCounted (rows : Rows) (counted : ReportLine) : Type 0 where
  pub sheet : ReportSheet
  pub gives : Gives (machine rows (Desk desk_look.Report)) (Ok (reply.Report sheet, []))
  pub is : find (λ line. bytes_eq line.edition (codes "e")) sheet.lines ≡ Some counted

-- the line that tells them
abbrev pub summary_line : ReportLine → List ℕ
summary_line counted = line (
    codes "sessions " ++ decimal counted.sessions
    ++ codes " certain " ++ decimal counted.certain
    ++ codes " partial " ++ decimal counted.partial
    ++ codes " conflict " ++ decimal counted.conflict
    ++ codes " confirmed " ++ decimal counted.confirmed
    ++ codes " fixed " ++ decimal counted.fixed
    ++ codes " uncovered " ++ decimal counted.uncovered)

-- a summary of these tables
abbrev pub IsSummaryOf : Rows → List ℕ → Type 0
IsSummaryOf rows text = (counted : ReportLine) × IsCounted rows counted × (text ≡ summary_line counted)

-- the summary of so many sessions, by draws from a start
abbrev pub IsSummary : ℕ → ℕ → List ℕ → Type 0
IsSummary sessions start text = (rows : Rows) × IsMade sessions start rows × IsSummaryOf rows text

-- what is left, by the status
abbrev pub EndsMake : ℕ → ℕ → LinkSeen → LinkSeen → Status → Type 0
EndsMake sessions start old new Done = (text : List ℕ) × IsSummary sessions start text × Says text old new
EndsMake sessions start old new NoCommand = ⊥
EndsMake sessions start old new ReadFault = ⊥
EndsMake sessions start old new WriteFault = (text : List ℕ) × IsSummary sessions start text × SaysPart text old new
EndsMake sessions start old new Unavailable = ⊥
EndsMake sessions start old new NoMemory = IsSilent old new
EndsMake sessions start old new Damaged = ⊥
EndsMake sessions start old new Refused = ⊥
EndsMake sessions start old new Limit = ⊥

-- ---- on the way there

-- a desk over tables has answered all requests of a stream, fewer than the limit, and has these tables then; whether
-- they were accepted is not known yet
pub record AllServed (limit : ℕ) (bytes : List ℕ) (before after : Rows) : Type 0 where
  pub answers : List Answered
  pub cut : IsCut bytes (requests answers) [] clean
  pub served : Served bare limit 0 before answers
  pub few : length answers < limit
  pub valid : AreValid before
  pub leaves : after ≡ last_tables before answers

-- an empty desk has answered all requests that the generator makes, and no more
abbrev pub AllAnswered : ℕ → ℕ → Rows → Type 0
AllAnswered sessions start =
    AllServed (request_count sessions + 1) (stream_of (made_requests sessions start)) empty_rows

-- the summary of a sheet's line for the edition `e`
abbrev pub TellsSheet : ReportSheet → List ℕ → Type 0
TellsSheet sheet text =
    (counted : ReportLine) × (find (λ line. bytes_eq line.edition (codes "e")) sheet.lines ≡ Some counted)
    × (text ≡ summary_line counted)

-- the summary of a report that was weighed over tables in which so many requests were accepted
pub record TellsReport (sessions : ℕ) (weighed : Weighed) (text : List ℕ) : Type 0 where
  pub turn : weighed.turn ≡ request_count sessions
  pub sheet : ReportSheet
  pub is : weighed.reply ≡ reply.Report sheet
  pub tells : TellsSheet sheet text

-- the tables' turn says that so many requests were accepted, and this is their summary
pub record IsTold (sessions : ℕ) (rows : Rows) (text : List ℕ) : Type 0 where
  pub turn : turn_of rows.clerks ≡ request_count sessions
  pub summary : IsSummaryOf rows text
