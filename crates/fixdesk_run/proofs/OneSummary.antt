-- The words of `make` have one summary at most: the stream is cut in one way, and each step is the machine's one.
use Rattle.std.proofs.Common.{◌≡◌, ◌∙◌, ℕ, List, [], ◌∷◌, sym, ap, subst}
use Rattle.std.specs.Prelude.{Result, Ok}
use Rattle.desk_made.specs.Made.{made_requests}
use Rattle.desk_made.specs.Requests.{stream_of}
use Rattle.desk_words.specs.declared.change.Change.{Change}
use Rattle.desk_words.specs.declared.command.Command.{Command}
use Rattle.desk_words.specs.declared.command.Command.TheVariants.{Desk}
use Rattle.desk_words.specs.declared.desk_look.DeskLook.TheVariants as desk_look
use Rattle.desk_words.specs.declared.refusal.Refusal.{Refusal}
use Rattle.desk_words.specs.declared.reply.Reply.{Reply}
use Rattle.desk_words.specs.declared.reply.Reply.TheVariants as reply
use Rattle.desk_words.specs.declared.report.ReportLine.{ReportLine}
use Rattle.desk_words.specs.declared.report.ReportSheet.{ReportSheet}
use Rattle.desk_words.specs.Changes.{changed_all}
use Rattle.desk_words.specs.Tables.{Rows, empty_rows}
use Rattle.machine_core.specs.Machine.{IsStep, answered, machine}
use Rattle.machine_core.proofs.Chains.{Gives-unique}
use Rattle.http_cut.specs.Cut.{WholeRequest, clean}
use Rattle.http_cut.proofs.Cuts.{IsCut_unique}
use Rattle.http_desk.specs.Checked.{Checked}
use Rattle.http_desk.specs.Commands.{command_for}
use Rattle.fixdesk_run.specs.Make.{AreAccepted, IsAccepted, IsCounted, IsMade, IsSummary, summary_line}

-- a request is one command
one_command : (asks : Checked Command) (command other : Command) → asks ≡ Ok command → asks ≡ Ok other → command ≡ other
one_command asks command other is also = cc

-- a step has one list of changes
one_list : (rows : Rows) (command : Command) (answer other : Reply) (changes others : List Change)
    → IsStep rows command answer changes → IsStep rows command other others → changes ≡ others
one_list rows command answer other changes others step step_too =
    let same = Gives-unique (machine rows command) step.outcome step_too.outcome step.gives step_too.gives in
    ap (λ (both : Reply × List Change). both.1) (step.answers ∙ ap answered same ∙ sym step_too.answers)

-- an accepted request leaves one value of the tables
one_leaves : (before : Rows) (request : WholeRequest) (after other : Rows) → IsAccepted before request after
    → IsAccepted before request other → after ≡ other
one_leaves before request after other one two =
    let same : two.asked.command ≡ one.asked.command =
    one_command (command_for request) two.asked.command one.asked.command two.asked.is one.asked.is in
    let step = subst (λ command. IsStep before command two.reply two.changes) same two.asked.step in
    one.leaves ∙ ap (changed_all before)
    (one_list before one.asked.command one.reply two.reply one.changes two.changes one.asked.step step)
    ∙ sym two.leaves

-- and so do many
many_leave : (requests : List WholeRequest) (before after other : Rows) → AreAccepted before requests after
    → AreAccepted before requests other → after ≡ other
many_leave [] before after other one two = one ∙ sym two
many_leave (request ∷ requests) before after other one two =
    let same : two.0 ≡ one.0 = one_leaves before request two.0 one.0 two.1 one.1 in
    many_leave requests one.0 after other one.2 (subst (λ next. AreAccepted next requests other) same two.2)

-- the desk that is made has one value of the tables
one_desk : (sessions start : ℕ) (rows other : Rows) → IsMade sessions start rows → IsMade sessions start other
    → rows ≡ other
one_desk sessions start rows other one two =
    let cuts = IsCut_unique (stream_of (made_requests sessions start)) two.requests one.requests [] [] clean clean
    two.cut one.cut in
    many_leave one.requests empty_rows rows other one.accepted
    (subst (λ requests. AreAccepted empty_rows requests other) cuts.0 two.accepted)

-- a desk has one report
one_pair : (one other : Reply × List Change) → ◌≡◌ {A = Result (Reply × List Change) Refusal} (Ok one) (Ok other)
    → one ≡ other
one_pair one other is = cc

one_report : (sheet other : ReportSheet) → reply.Report sheet ≡ reply.Report other → sheet ≡ other
one_report sheet other is = cc

one_sheet : (sheet other : ReportSheet)
    → ◌≡◌ {A = Result (Reply × List Change) Refusal} (Ok (reply.Report sheet, [])) (Ok (reply.Report other, []))
    → sheet ≡ other
one_sheet sheet other is =
    let pair = one_pair (reply.Report sheet, []) (reply.Report other, []) is in
    one_report sheet other (ap (λ (both : Reply × List Change). both.0) pair)

-- and one line of the edition
one_line : (rows : Rows) (counted other : ReportLine) → IsCounted rows counted → IsCounted rows other → counted ≡ other
one_line rows counted other one two =
    let same : one.sheet ≡ two.sheet = one_sheet one.sheet two.sheet
    (Gives-unique (machine rows (Desk desk_look.Report)) _ _ one.gives two.gives) in
    let first = one.is in
    let second = two.is in
    cc

-- the summary
pub one_summary : (sessions start : ℕ) (text other : List ℕ) → IsSummary sessions start text
    → IsSummary sessions start other → text ≡ other
one_summary sessions start text other (rows, made, (counted, is, shows)) (desk, made_too, (line, is_too, shows_too)) =
    let same : desk ≡ rows = one_desk sessions start desk rows made_too made in
    shows ∙ ap summary_line
    (one_line rows counted line is (subst (λ one. IsCounted one line) same is_too)) ∙ sym shows_too
