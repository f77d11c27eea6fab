-- A report whose numbers add up.
use Rattle.std.specs.Prelude.{◌≡◌, ℕ, ◌+◌, ◌*◌, length, sum_by, IfSome}
use Rattle.desk_words.specs.declared.report.ReportLine.{ReportLine}
use Rattle.desk_words.specs.declared.report.ReportSheet.{ReportSheet}
use Rattle.desk_words.specs.Tables.{Published}
use Rattle.desk_valid.specs.Readings.{width_at}
use Rattle.desk_valid.specs.Valid.{EachAt}

-- in the line of the edition at a place the stages add up to the sessions, and so do the verdicts; the cells add up to
-- the sessions times the edition's attributes
pub record LineAddsUp (published : Published) (place : ℕ) (line : ReportLine) : Type 0 where
  pub stages : line.active + line.committed + line.abandoned ≡ line.sessions
  pub verdicts : line.certain + line.partial + line.conflict ≡ line.sessions
  pub cells : IfSome (width_at published place) (λ width. line.confirmed + line.fixed + line.uncovered
      ≡ line.sessions * width)

-- there is a line for each edition, each adds up, and their sessions add up to the total
pub record AddsUp (published : Published) (sheet : ReportSheet) : Type 0 where
  pub whole : length sheet.lines ≡ length published.editions
  pub lines : EachAt sheet.lines (LineAddsUp published)
  pub total : sheet.total ≡ sum_by (λ line. line.sessions) sheet.lines
