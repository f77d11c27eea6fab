-- The stream that `make` serves, and the summary that it makes of the report that the machine gives.
use Rattle.std.proofs.Common.{◌≡◌, ◌∙◌, ◌++◌, ℕ, List, [], sym, subst}
use Rattle.std.specs.Prelude.{Some, Result, Ok, Err, IfOk}
use Rattle.desk_words.specs.declared.command.Command.TheVariants.{Desk}
use Rattle.desk_words.specs.declared.desk_look.DeskLook.TheVariants as desk_look
use Rattle.desk_words.specs.declared.reply.Reply.TheVariants as reply
use Rattle.desk_words.specs.declared.report.ReportSheet.{ReportSheet}
use Rattle.desk_words.specs.Tables.{Rows}
use Rattle.desk_valid.specs.Valid.{AreValid}
use Rattle.http_cut.specs.Cut.{IsCut, clean}
use Rattle.http_desk.specs.declared.serving.Ended.{Ended}
use Rattle.http_desk.specs.declared.serving.Ended.TheVariants as ended
use Rattle.http_desk.specs.Answered.{Served, last_tables, requests}
use Rattle.http_desk.specs.Fronts.{bare}
use Rattle.http_desk.specs.Scenes.{Scene}
use Rattle.http_desk.specs.Streams.{IfShown, Streams}
use Rattle.machine_core.specs.declared.machine.Weighed.{Weighed}
use Rattle.machine_core.specs.Weighing.{IsSettleable, IsWeighed}
use Rattle.fixdesk_run.specs.Make.{AllAnswered, AllServed, IsSummary, IsTold, TellsReport, TellsSheet, request_count}
use Rattle.fixdesk_run.proofs.Accepted.{summary_made}
use Rattle.fixdesk_run.proofs.Reports.{sheet_given}

-- a stream that was served to its clean end: all its requests were answered
pub all_served : (limit : ℕ) (bytes : List ℕ) (before : Rows) (old new : Scene) (end : Ended)
    → Streams bare limit old new end → end ≡ ended.Clean → old.left ≡ Some bytes → old.tables ≡ before
    → AreValid old.tables → AllServed limit bytes before new.tables
all_served limit bytes before old new end ends clean_end left is valid =
    let streams : Streams bare limit old new ended.Clean =
    subst (λ one. Streams bare limit old new one) clean_end ends in
    let answers = streams.answers in
    let whole : IsCut streams.bytes (requests answers) (streams.rest ++ streams.after) clean = streams.ends.0.0 in
    let shown : bytes ≡ streams.bytes = subst (λ told. IfShown told streams.bytes) left streams.left.had in
    record {
      answers = answers;
      cut = subst (λ (all : List ℕ). IsCut all (requests answers) [] clean) (sym shown)
          (subst (λ (rest : List ℕ). IsCut streams.bytes (requests answers) rest clean) whole.ends whole);
      served = subst (λ (rows : Rows). Served bare limit 0 rows answers) is streams.progress.served;
      few = streams.ends.0.1;
      valid = subst AreValid is valid;
      leaves = subst (λ (rows : Rows). new.tables ≡ last_tables rows answers) is streams.progress.tables;
    }

-- the summary of a report that was weighed
pub tells_report : {E : Type 0} (sessions : ℕ) (weighed : Weighed) (sheet : ReportSheet) (result : Result (List ℕ) E)
    → weighed.reply ≡ reply.Report sheet → weighed.turn ≡ request_count sessions → IfOk result (TellsSheet sheet)
    → IfOk result (TellsReport sessions weighed)
tells_report sessions weighed sheet (Ok text) is turn tells =
    record { turn = turn; sheet = sheet; is = is; tells = tells }
tells_report sessions weighed sheet (Err why) is turn tells = tt

-- and so of the tables over which it was weighed
pub told_of : {E : Type 0} (sessions : ℕ) (rows : Rows) (weighed : Weighed) (result : Result (List ℕ) E)
    → IsWeighed rows (Desk desk_look.Report) weighed → IsSettleable rows weighed
    → IfOk result (TellsReport sessions weighed)
    → IfOk result (IsTold sessions rows)
told_of sessions rows weighed (Ok text) is_weighed settleable report =
    let (counted, found, shows) = report.tells in
    record {
      turn = sym settleable.turn ∙ report.turn;
      summary = (
        counted,
        record {
          sheet = report.sheet;
          gives = sheet_given rows weighed report.sheet is_weighed report.is;
          is = found;
        },
        shows,
      );
    }
told_of sessions rows weighed (Err why) is_weighed settleable report = tt

-- the summary of the desk that was made
pub summarized : {E : Type 0} (sessions start : ℕ) (rows : Rows) (result : Result (List ℕ) E)
    → AllAnswered sessions start rows → IfOk result (IsTold sessions rows) → IfOk result (IsSummary sessions start)
summarized sessions start rows (Ok text) all told = summary_made sessions start rows text all told
summarized sessions start rows (Err why) all told = tt
