-- The desk's report, and what is left of it.
use Rattle.std.proofs.Common.{◌≡◌, inl, inr, ℕ, List, [], ap, sym, subst}
use Rattle.std.specs.Prelude.{Result, Ok, Err, IfOk}
use Rattle.desk_sheets.specs.Report.{report_text}
use Rattle.desk_words.specs.declared.change.Change.{Change}
use Rattle.desk_words.specs.declared.command.Command.TheVariants.{Desk}
use Rattle.desk_words.specs.declared.desk_look.DeskLook.TheVariants as desk_look
use Rattle.desk_words.specs.declared.refusal.Refusal.{Refusal}
use Rattle.desk_words.specs.declared.reply.Reply.{Reply}
use Rattle.desk_words.specs.declared.reply.Reply.TheVariants as reply
use Rattle.desk_words.specs.declared.report.ReportSheet.{ReportSheet}
use Rattle.desk_words.specs.Tables.{Rows}
use Rattle.machine_core.specs.declared.machine.Weighed.{Weighed}
use Rattle.machine_core.specs.Checked.{Gives}
use Rattle.machine_core.specs.Machine.{answered, machine}
use Rattle.machine_core.specs.Weighing.{IsWeighed}
use Rattle.machine_laws.proofs.Writes.{desk-unchanged}
use Rattle.fixdesk_run.specs.Report.{IsReport, TellsReply}

-- pairs of equal parts are equal
pairs : {A B : Type 0} {x z : A} {y w : B} → x ≡ z → y ≡ w → ◌≡◌ {A = A × B} (x, y) (z, w)
pairs first second = cc

-- what the step of the report answers, where that is a report
report_step : (rows : Rows) (sheet : ReportSheet) (changes : List Change)
    (outcome : Result (Reply × List Change) Refusal) → Gives (machine rows (Desk desk_look.Report)) outcome
    → (reply.Report sheet, changes) ≡ answered outcome
    → Gives (machine rows (Desk desk_look.Report)) (Ok (reply.Report sheet, []))
report_step rows sheet changes (Ok (found, made)) gives is =
    let none = desk-unchanged rows desk_look.Report (found, made) gives in
    let same = sym (ap (λ (pair : Reply × List Change). pair.0) is) in
    subst (λ (pair : Reply × List Change). Gives (machine rows (Desk desk_look.Report)) (Ok pair)) (pairs same none)
    gives
report_step rows sheet changes (Err refusal) gives is =
    let other = ap (λ (pair : Reply × List Change). pair.0) is in
    absurd cc

-- the sheet of what was weighed
pub sheet_given : (rows : Rows) (weighed : Weighed) (sheet : ReportSheet)
    → IsWeighed rows (Desk desk_look.Report) weighed
    → weighed.reply ≡ reply.Report sheet → Gives (machine rows (Desk desk_look.Report)) (Ok (reply.Report sheet, []))
sheet_given rows weighed sheet (inl step) is = report_step rows sheet weighed.changes step.outcome step.gives
    (subst (λ (found : Reply). (found, weighed.changes) ≡ answered step.outcome) is step.answers)
sheet_given rows weighed sheet (inr none) is = absurd (let other = none.reply in cc)

-- the text of what was weighed
is_report : (rows : Rows) (weighed : Weighed) (sheet : ReportSheet) (text : List ℕ)
    → IsWeighed rows (Desk desk_look.Report) weighed → weighed.reply ≡ reply.Report sheet → text ≡ report_text sheet
    → IsReport rows text
is_report rows weighed sheet text step is shows =
    record { sheet = sheet; gives = sheet_given rows weighed sheet step is; is = shows }

-- and what is made of it, where there is memory
pub reported : {E : Type 0} (rows : Rows) (weighed : Weighed) (result : Result (List ℕ) E)
    → IsWeighed rows (Desk desk_look.Report) weighed → IfOk result (TellsReply weighed.reply)
    → IfOk result (IsReport rows)
reported rows weighed (Ok text) step (sheet, is, shows) = is_report rows weighed sheet text step is shows
reported rows weighed (Err why) step tells = tt

-- the text of a sheet that is replied, where there is memory
pub tells_reply : {E : Type 0} (replied : Reply) (sheet : ReportSheet) (result : Result (List ℕ) E)
    → replied ≡ reply.Report sheet → IfOk result (λ text. text ≡ report_text sheet) → IfOk result (TellsReply replied)
tells_reply replied sheet (Ok text) is shows = (sheet, is, shows)
tells_reply replied sheet (Err why) is shows = tt
