-- What `report` leaves of the link and the keeper.
use Rattle.std.specs.Prelude.{◌≡◌, ◌⊎◌, List, [], Option, Ok, ℕ}
use Rattle.desk_sheets.specs.Report.{report_text}
use Rattle.desk_words.specs.declared.command.Command.TheVariants.{Desk}
use Rattle.desk_words.specs.declared.desk_look.DeskLook.TheVariants as desk_look
use Rattle.desk_words.specs.declared.reply.Reply.{Reply}
use Rattle.desk_words.specs.declared.reply.Reply.TheVariants as reply
use Rattle.desk_words.specs.declared.report.ReportSheet.{ReportSheet}
use Rattle.desk_words.specs.Tables.{Rows}
use Rattle.keeper_core.specs.Keeping.{LoadsHeld}
use Rattle.machine_core.specs.Checked.{Gives}
use Rattle.machine_core.specs.Machine.{machine}
use Rattle.machine_core.specs.Starting.{AreStarted, IfStillTold}
use Rattle.once_run.specs.declared.status.Status.{Status}
use Rattle.once_run.specs.declared.status.Status.TheVariants.{Done, NoCommand, ReadFault, WriteFault, Unavailable}
use Rattle.once_run.specs.declared.status.Status.TheVariants.{NoMemory, Damaged, Refused, Limit}
use Rattle.fixdesk_run.specs.Link.{IsSilent, Says, SaysPart}
use Rattle.fixdesk_run.specs.Opening.{AreOpened, StaysShut}
use Rattle.fixdesk_run.specs.World.{World, loaded}

-- the text of the report that is replied
abbrev pub TellsReply : Reply → List ℕ → Type 0
TellsReply replied text = (sheet : ReportSheet) × (replied ≡ reply.Report sheet) × (text ≡ report_text sheet)

-- the text of the desk's report over these tables
pub record IsReport (rows : Rows) (text : List ℕ) : Type 0 where
  pub sheet : ReportSheet
  pub gives : Gives (machine rows (Desk desk_look.Report)) (Ok (reply.Report sheet, []))
  pub is : text ≡ report_text sheet

-- over the tables that were loaded from a keeper, which held such tables and told this before and that after
pub record IsReportOf (holds : Rows → Type 0) (old new : Option Rows) (text : List ℕ) : Type 0 where
  pub rows : Rows
  pub started : AreStarted old new rows
  pub held : LoadsHeld holds new rows
  pub report : IsReport rows text

-- a report that may be due where a keeper tells this
abbrev pub MayBeReport : Option Rows → List ℕ → Type 0
MayBeReport told text = (rows : Rows) × AreOpened told rows × IsReport rows text

-- what is left where a machine began, by the status; the keeper was called once, and its tables stay, where they are
-- told
abbrev pub Reports : (Rows → Type 0) → World → World → Status → Type 0
Reports holds old new Done = (text : List ℕ) × IsReportOf holds old.told new.told text × Says text old.link new.link
    × (new.uses ≡ loaded old.uses)
Reports holds old new NoCommand = ⊥
Reports holds old new ReadFault = ⊥
Reports holds old new WriteFault = (text : List ℕ) × IsReportOf holds old.told new.told text
    × SaysPart text old.link new.link × (new.uses ≡ loaded old.uses)
Reports holds old new Unavailable = ⊥
Reports holds old new NoMemory =
    IfStillTold old.told new.told × IsSilent old.link new.link × (new.uses ≡ loaded old.uses)
Reports holds old new Damaged = ⊥
Reports holds old new Refused = ⊥
Reports holds old new Limit = ⊥

-- what is left: the report was made, or no machine began
abbrev pub EndsReport : (Rows → Type 0) → World → World → Status → Type 0
EndsReport holds old new status = Reports holds old new status ⊎ StaysShut old new status
