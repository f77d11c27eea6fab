-- The texts of the four sheets, the clean one and those of changes, conflicts and dissents, and what rows come to.
use Rattle.std.specs.Prelude.{ℕ, ◌+◌, ◌^◌, ◌≤◌, ◌⊎◌, true, false, List, [], ◌∷◌, ◌++◌, length, flat_map, codes}
use Rattle.csv.specs.Writing.{row_text}
use Rattle.fix_model.specs.declared.kit.Kit.{Kit}
use Rattle.fix_engine.specs.declared.verdict.Verdict.{Verdict}
use Rattle.fix_engine.specs.declared.verdict.Verdict.TheVariants.{Fix, Conflict}
use Rattle.sheet_clean.specs.declared.setting.Setting.{Setting}
use Rattle.sheet_clean.specs.declared.summary.Summary.{Summary}
use Rattle.sheet_clean.specs.Decision.{Row}
use Rattle.sheet_clean.specs.Fields.{change_lines, clean_fields, clean_header, conflict_lines, dissent_lines}
use Rattle.sheet_clean.specs.Setting.{writer_of}

-- a text for each sheet
pub record Sheets : Type 0 where
  pub clean : List ℕ
  pub changes : List ℕ
  pub conflicts : List ℕ
  pub dissents : List ℕ

-- no text for any of them
abbrev pub no_sheets : Sheets
no_sheets = record { clean = []; changes = []; conflicts = []; dissents = [] }

-- for each sheet the one text, and then the other
abbrev pub joined : Sheets → Sheets → Sheets
joined one other = record {
  clean = one.clean ++ other.clean;
  changes = one.changes ++ other.changes;
  conflicts = one.conflicts ++ other.conflicts;
  dissents = one.dissents ++ other.dissents;
}

-- the text of a line, as csv's writer states it
abbrev pub line_text : Setting → List (List ℕ) → List ℕ
line_text setting fields = row_text (writer_of setting) fields

-- the text of lines
abbrev pub lines_text : Setting → List (List (List ℕ)) → List ℕ
lines_text setting lines = flat_map (line_text setting) lines

-- the header of the sheet of changes
abbrev pub change_header : List (List ℕ)
change_header = codes "row" ∷ codes "attribute" ∷ codes "typed" ∷ codes "fixed" ∷ codes "rule" ∷ codes "master"
    ∷ codes "master_row" ∷ []

-- that of the sheet of conflicts
abbrev pub conflict_header : List (List ℕ)
conflict_header = codes "row" ∷ codes "attribute"
    ∷ codes "first" ∷ codes "first_rule" ∷ codes "first_master" ∷ codes "first_row"
    ∷ codes "second" ∷ codes "second_rule" ∷ codes "second_master" ∷ codes "second_row" ∷ []

-- and that of the sheet of dissents
abbrev pub dissent_header : List (List ℕ)
dissent_header = codes "row" ∷ codes "attribute" ∷ codes "text" ∷ codes "rule" ∷ codes "master" ∷ codes "master_row"
    ∷ codes "other" ∷ []

-- the headers of the sheets, where the sheet that came has this header
abbrev pub heads : Setting → List (List ℕ) → Sheets
heads setting header = record {
  clean = line_text setting (clean_header setting header);
  changes = line_text setting change_header;
  conflicts = line_text setting conflict_header;
  dissents = line_text setting dissent_header;
}

-- what the row of this number gives to the sheets
abbrev pub row_sheets : Kit → Setting → List (List ℕ) → ℕ → Row → Sheets
row_sheets kit setting header number row =
    let verdict = row.decision.verdict in
    let first = row.decision.first in
    record {
      clean = line_text setting (clean_fields kit setting header row.cells verdict first);
      changes = lines_text setting (change_lines kit setting header number row.cells verdict first);
      conflicts = lines_text setting
          (conflict_lines kit setting header number row.cells verdict first row.decision.second);
      dissents = lines_text setting (dissent_lines kit setting number verdict first);
    }

-- what rows give to the sheets, of which the first has this number
abbrev pub rows_sheets : Kit → Setting → List (List ℕ) → ℕ → List Row → Sheets
rows_sheets kit setting header number [] = no_sheets
rows_sheets kit setting header number (row ∷ rows) =
    joined (row_sheets kit setting header number row) (rows_sheets kit setting header (number + 1) rows)

-- ---- what rows come to

-- one row, by its verdict
abbrev pub verdict_summary : Verdict → Summary
verdict_summary (Fix true dissent) =
    record { rows = 1; certain = 1; partial = 0; conflict = 0; changed = 0; dissents = 0 }
verdict_summary (Fix false dissent) =
    record { rows = 1; certain = 0; partial = 1; conflict = 0; changed = 0; dissents = 0 }
verdict_summary Conflict = record { rows = 1; certain = 0; partial = 0; conflict = 1; changed = 0; dissents = 0 }

-- one row, with how many of its cells were changed, and whether a step dissents from it
abbrev pub row_summary : Kit → Setting → List (List ℕ) → ℕ → Row → Summary
row_summary kit setting header number row =
    let verdict = row.decision.verdict in
    record (verdict_summary verdict) {
      changed = length (change_lines kit setting header number row.cells verdict row.decision.first);
      dissents = length (dissent_lines kit setting number verdict row.decision.first);
    }

-- two summaries added up
abbrev pub added : Summary → Summary → Summary
added one other = record {
  rows = one.rows + other.rows;
  certain = one.certain + other.certain;
  partial = one.partial + other.partial;
  conflict = one.conflict + other.conflict;
  changed = one.changed + other.changed;
  dissents = one.dissents + other.dissents;
}

-- a count is greater than 64 bits hold
abbrev pub IsTooGreat : Summary → Type 0
IsTooGreat summary = (2 ^ 64 ≤ summary.rows) ⊎ (2 ^ 64 ≤ summary.certain) ⊎ (2 ^ 64 ≤ summary.partial)
    ⊎ (2 ^ 64 ≤ summary.conflict) ⊎ (2 ^ 64 ≤ summary.changed) ⊎ (2 ^ 64 ≤ summary.dissents)

-- the summary of no row
abbrev pub no_rows : Summary
no_rows = record { rows = 0; certain = 0; partial = 0; conflict = 0; changed = 0; dissents = 0 }

-- the summary of rows, of which the first has this number
abbrev pub rows_summary : Kit → Setting → List (List ℕ) → ℕ → List Row → Summary
rows_summary kit setting header number [] = no_rows
rows_summary kit setting header number (row ∷ rows) =
    added (row_summary kit setting header number row) (rows_summary kit setting header (number + 1) rows)
