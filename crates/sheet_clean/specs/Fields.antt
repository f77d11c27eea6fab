-- The fields of the lines that a row gives: its line in the clean sheet, and those in the three sheets of changes.
use Rattle.std.specs.Prelude.{ℕ, true, false, List, [], ◌∷◌, ◌++◌, length, map, flat_map, codes, decimal}
use Rattle.std.specs.Prelude.{Option, Some, None, slice_index_or, is_some, if◌then◌else◌}
use Rattle.std.specs.List.{range_with_len}
use Rattle.std.specs.Str.{bytes_eq}
use Rattle.fix_model.specs.declared.kit.Kit.{Kit}
use Rattle.fix_model.specs.declared.state.State.{State}
use Rattle.fix_model.specs.declared.state.Step.{Step}
use Rattle.fix_model.specs.Rules.{rule_at, step_text}
use Rattle.fix_model.specs.States.{cell_at, fixed_by, shown}
use Rattle.fix_choices.specs.Choices.{differs}
use Rattle.fix_choices.specs.Dissents.{dissent_at}
use Rattle.fix_engine.specs.declared.verdict.Verdict.{Verdict}
use Rattle.fix_engine.specs.declared.verdict.Verdict.TheVariants.{Fix, Conflict}
use Rattle.sheet_clean.specs.declared.setting.Setting.{Setting}
use Rattle.sheet_clean.specs.Header.{attribute_of, column_of}
use Rattle.sheet_clean.specs.Row.{typed_at}
use Rattle.sheet_clean.specs.Setting.{attribute_name}
use Rattle.sheet_clean.specs.Steps.{origin_digits}

-- ---- the clean sheet

-- the cell of an attribute at the end of a run: the text of the step that fixed it, else the cell as it came
abbrev pub shown_at : Kit → State → List ℕ → ℕ → List ℕ
shown_at kit end cell attribute = shown kit (cell_at end attribute) cell

-- the cell of a column at the end of a run: where the column is no attribute, the cell as it came
abbrev pub column_shown : Kit → State → List ℕ → Option ℕ → List ℕ
column_shown kit end cell None = cell
column_shown kit end cell (Some attribute) = shown_at kit end cell attribute

-- the cell of a row in a column, at the end of a run
abbrev pub cell_shown : Kit → Setting → List (List ℕ) → List (List ℕ) → State → ℕ → List ℕ
cell_shown kit setting header cells end column = column_shown kit end (slice_index_or cells column [])
    (attribute_of setting (slice_index_or header column []))

-- the cells of a row at the end of a run
abbrev pub cells_shown : Kit → Setting → List (List ℕ) → List (List ℕ) → State → List (List ℕ)
cells_shown kit setting header cells end =
    map (cell_shown kit setting header cells end) (range_with_len 0 (length header))

-- the cells of a cleaned row: at a fix those at the end of the first run, at a conflict those that came
abbrev pub cleaned_cells : Kit → Setting → List (List ℕ) → List (List ℕ) → Verdict → State → List (List ℕ)
cleaned_cells kit setting header cells (Fix certain dissent) end = cells_shown kit setting header cells end
cleaned_cells kit setting header cells Conflict end = cells

-- the word that says what is decided
abbrev pub verdict_word : Verdict → List ℕ
verdict_word (Fix true dissent) = codes "certain"
verdict_word (Fix false dissent) = codes "partial"
verdict_word Conflict = codes "conflict"

-- the field at the end of a line, where a column of verdicts is wanted
abbrev pub verdict_field : Option (List ℕ) → Verdict → List (List ℕ)
verdict_field None verdict = []
verdict_field (Some name) verdict = verdict_word verdict ∷ []

-- the column of verdicts at the end of the header, where it is wanted
abbrev pub verdict_column : Option (List ℕ) → List (List ℕ)
verdict_column None = []
verdict_column (Some name) = name ∷ []

-- the header of the clean sheet
abbrev pub clean_header : Setting → List (List ℕ) → List (List ℕ)
clean_header setting header = header ++ verdict_column setting.verdict

-- the fields of a row's line in the clean sheet
abbrev pub clean_fields : Kit → Setting → List (List ℕ) → List (List ℕ) → Verdict → State → List (List ℕ)
clean_fields kit setting header cells verdict end =
    cleaned_cells kit setting header cells verdict end ++ verdict_field setting.verdict verdict

-- ---- steps

-- the rule of a step by its name, the rule's master by its name, and the row, counted from 1
abbrev pub step_fields : Kit → Setting → Step → List (List ℕ)
step_fields kit setting step =
    slice_index_or setting.names.rules step.rule []
    ∷ slice_index_or setting.names.masters (rule_at kit step.rule).master []
    ∷ origin_digits (Some step)
    ∷ []

-- the same of a step that may not be there: three blanks
abbrev pub origin_fields : Kit → Setting → Option Step → List (List ℕ)
origin_fields kit setting None = [] ∷ [] ∷ [] ∷ []
origin_fields kit setting (Some step) = step_fields kit setting step

-- ---- the sheet of changes

-- the line of an attribute whose cell a step changed
abbrev pub fixed_line : Kit → Setting → ℕ → ℕ → List ℕ → Step → List (List ℕ)
fixed_line kit setting number attribute cell step = decimal number ∷ attribute_name setting attribute
    ∷ cell ∷ step_text kit step ∷ step_fields kit setting step

-- the line of an attribute with this cell that a step may have fixed: where it did, and its text differs
abbrev pub fixed_lines : Kit → Setting → ℕ → ℕ → List ℕ → Option Step → List (List (List ℕ))
fixed_lines kit setting number attribute cell None = []
fixed_lines kit setting number attribute cell (Some step) =
    if bytes_eq cell (step_text kit step) then [] else fixed_line kit setting number attribute cell step ∷ []

-- the line of an attribute, if it has a column and its cell was changed
abbrev pub change_line : Kit → Setting → List (List ℕ) → ℕ → List (List ℕ) → State → ℕ → List (List (List ℕ))
change_line kit setting header number cells end attribute =
    if is_some (column_of setting header attribute)
    then fixed_lines kit setting number attribute (typed_at setting header cells attribute)
    (fixed_by (cell_at end attribute))
    else []

-- the lines of the row of this number: at a fix, one for each cell that was changed
abbrev pub change_lines : Kit → Setting → List (List ℕ) → ℕ → List (List ℕ) → Verdict → State → List (List (List ℕ))
change_lines kit setting header number cells (Fix certain dissent) end =
    flat_map (change_line kit setting header number cells end) (range_with_len 0 (length setting.names.attributes))
change_lines kit setting header number cells Conflict end = []

-- ---- the sheet of conflicts

-- the text of an attribute at an end, with the step that fixed it there
abbrev pub end_fields : Kit → Setting → State → List ℕ → ℕ → List (List ℕ)
end_fields kit setting end typed attribute =
    shown_at kit end typed attribute ∷ origin_fields kit setting (fixed_by (cell_at end attribute))

-- the line of an attribute: its texts at the two ends
abbrev pub ends_line : Kit → Setting → ℕ → List ℕ → State → State → ℕ → List (List ℕ)
ends_line kit setting number typed first second attribute = decimal number ∷ attribute_name setting attribute
    ∷ end_fields kit setting first typed attribute ++ end_fields kit setting second typed attribute

-- the same, if they differ
abbrev pub ends_lines : Kit → Setting → ℕ → List ℕ → State → State → ℕ → List (List (List ℕ))
ends_lines kit setting number typed first second attribute =
    if differs kit first second attribute then ends_line kit setting number typed first second attribute ∷ [] else []

-- the line of an attribute, if its texts at the two ends differ
abbrev pub conflict_line : Kit → Setting → List (List ℕ) → ℕ → List (List ℕ) → State → State → ℕ
    → List (List (List ℕ))
conflict_line kit setting header number cells first second attribute =
    ends_lines kit setting number (typed_at setting header cells attribute) first second attribute

-- the lines of the row of this number: at a conflict, one for each attribute whose texts differ
abbrev pub conflict_lines : Kit → Setting → List (List ℕ) → ℕ → List (List ℕ) → Verdict → State → State
    → List (List (List ℕ))
conflict_lines kit setting header number cells (Fix certain dissent) first second = []
conflict_lines kit setting header number cells Conflict first second =
    flat_map (conflict_line kit setting header number cells first second)
    (range_with_len 0 (length setting.names.attributes))

-- ---- the sheet of dissents

-- the line of a step that dissents: what the record has at its end, and what the step would have given
abbrev pub dissent_line : Kit → Setting → ℕ → State → Step → List (List ℕ)
dissent_line kit setting number end step =
    let dissent = dissent_at kit end step in
    decimal number ∷ attribute_name setting dissent.attribute
    ∷ dissent.text
    ∷ step_fields kit setting step ++ dissent.other ∷ []

-- the line of the row of this number: at a fix from which a step dissents, that of the least such step
abbrev pub dissent_lines : Kit → Setting → ℕ → Verdict → State → List (List (List ℕ))
dissent_lines kit setting number (Fix certain None) end = []
dissent_lines kit setting number (Fix certain (Some step)) end = dissent_line kit setting number end step ∷ []
dissent_lines kit setting number Conflict end = []
