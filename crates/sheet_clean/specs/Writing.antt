-- What a writer of lines in memory has written.
use Rattle.std.specs.Prelude.{◌≡◌, ◌++◌, ℕ, List, Vec, Some, false, length}
use Rattle.std.specs.declared.alloc.Global.{Global}
use Rattle.csv.specs.Writing.{fields_written, has_written, text_written, writer_setup}
use Rattle.csv.specs.declared.writer.Writer.{Writer}
use Rattle.sheet_clean.specs.declared.drafts.Drafts.{Drafts}
use Rattle.sheet_clean.specs.declared.drafts.SheetTexts.{SheetTexts}
use Rattle.sheet_clean.specs.declared.setting.Setting.{Setting}
use Rattle.sheet_clean.specs.Setting.{writer_of}
use Rattle.sheet_clean.specs.Sheets.{Sheets, joined, lines_text, row_sheets, row_summary}
use Rattle.sheet_clean.specs.Decision.{Decision, IsDecision, Row}
use Rattle.sheet_clean.specs.Row.{row_state}
use Rattle.sheet_clean.specs.declared.summary.Summary.{Summary}
use Rattle.fix_model.specs.declared.kit.Kit.{Kit}

-- this text, as lines with the setting's delimiter, and it stands after the last of them
pub record HasWritten (setting : Setting) (writer : Writer (Vec ℕ Global)) (text : List ℕ) : Type 0 where
  pub setup : writer_setup writer ≡ writer_of setting
  pub ended : fields_written writer ≡ 0
  pub clean : has_written writer ≡ false
  pub text_is : text_written (λ v. Some v.items) writer ≡ Some text

-- lines were written after those that were there, so many
pub record Writes (setting : Setting) (old new : Writer (Vec ℕ Global)) (lines : List (List (List ℕ)))
    (count : ℕ) : Type 0 where
  pub written : (text : List ℕ) → HasWritten setting old text
      → HasWritten setting new (text ++ lines_text setting lines)
  pub counted : count ≡ length lines

-- each writer has written the text of its sheet
pub record HaveWritten (setting : Setting) (drafts : Drafts) (sheets : Sheets) : Type 0 where
  pub clean : HasWritten setting drafts.clean sheets.clean
  pub changes : HasWritten setting drafts.changes sheets.changes
  pub conflicts : HasWritten setting drafts.conflicts sheets.conflicts
  pub dissents : HasWritten setting drafts.dissents sheets.dissents

-- the texts, each of its sheet
abbrev pub sheets_seen : SheetTexts → Sheets
sheets_seen texts = record {
  clean = texts.clean.items;
  changes = texts.changes.items;
  conflicts = texts.conflicts.items;
  dissents = texts.dissents.items;
}

-- what a row gives was written after what was there, and this is its summary
pub record GivesLines (kit : Kit) (setting : Setting) (header : List (List ℕ)) (number : ℕ) (row : Row)
    (old new : Drafts) (summary : Summary) : Type 0 where
  pub written : (sheets : Sheets) → HaveWritten setting old sheets
      → HaveWritten setting new (joined sheets (row_sheets kit setting header number row))
  pub summary_is : summary ≡ row_summary kit setting header number row

-- the row with these cells was decided, and gave its lines
pub record GivesRow (kit : Kit) (setting : Setting) (header : List (List ℕ)) (number : ℕ) (cells : List (List ℕ))
    (old new : Drafts) (summary : Summary) : Type 0 where
  pub decision : Decision
  pub decided : IsDecision kit (row_state setting header cells) decision
  pub lines : GivesLines kit setting header number (record { cells = cells; decision = decision }) old new summary
