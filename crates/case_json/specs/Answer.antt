-- The text that answers a case (docs/formats.md, The case of `fixdesk once`).
use Rattle.std.specs.Prelude.{◌≡◌, ℕ, ◌+◌, Bool, List, [], ◌∷◌, map, Option, slice_index_or, codes}
use Rattle.std.specs.List.{range_with_len}
use Rattle.serde_json.specs.Data.{Data, boolean, string}
use Rattle.serde_json.specs.Written.{compact_text}
use Rattle.fix_model.specs.declared.kit.Kit.{Kit}
use Rattle.fix_model.specs.declared.state.Cell.{Cell}
use Rattle.fix_model.specs.declared.state.Cell.TheVariants.{Uncovered, Confirmed, Fixed}
use Rattle.fix_model.specs.declared.state.State.{State}
use Rattle.fix_model.specs.declared.state.Step.{Step}
use Rattle.fix_model.specs.Run.{end_of}
use Rattle.fix_model.specs.States.{cell_at, value_at}
use Rattle.fix_engine.specs.declared.verdict.Verdict.{Verdict}
use Rattle.fix_engine.specs.declared.verdict.Verdict.TheVariants.{Fix, Conflict}
use Rattle.fix_engine.specs.Verdicts as engine
use Rattle.case_json.specs.declared.case.Case.{Case}
use Rattle.desk_base.specs.Texts.{line}
use Rattle.json_parts.specs.Shapes.{list_of, object_of, or_null, whole}

-- a place from 0, as it is written: counted from 1
abbrev pub count_of : ℕ → Data
count_of place = whole (place + 1)

-- an attribute with its value, which no rule fixes: `[name,value,word]`
abbrev pub plain_shown : List ℕ → List ℕ → List ℕ → Data
plain_shown name text word = list_of (string name ∷ string text ∷ string word ∷ [])

-- an attribute with its value, which this step fixes
abbrev pub fixed_shown : List ℕ → List ℕ → Step → Data
fixed_shown name text step =
    list_of (string name ∷ string text ∷ string (codes "fixed") ∷ count_of step.rule ∷ count_of step.row ∷ [])

-- an attribute with its value, which came to it so
abbrev pub cell_shown : Cell → List ℕ → List ℕ → Data
cell_shown Uncovered name text = plain_shown name text (codes "open")
cell_shown Confirmed name text = plain_shown name text (codes "confirmed")
cell_shown (Fixed step) name text = fixed_shown name text step

-- an attribute at a state
abbrev pub attribute_shown : List (List ℕ) → Kit → State → ℕ → Data
attribute_shown attributes kit state attribute =
    cell_shown (cell_at state attribute) (slice_index_or attributes attribute []) (value_at kit state attribute)

-- all attributes in their order
abbrev pub cells_shown : List (List ℕ) → Kit → State → Data
cells_shown attributes kit state = list_of (map (attribute_shown attributes kit state) (range_with_len 0 kit.width))

-- a step: `[rule,row]`
abbrev pub step_shown : Step → Data
step_shown step = list_of (count_of step.rule ∷ count_of step.row ∷ [])

-- a run
abbrev pub run_shown : List Step → Data
run_shown run = list_of (map step_shown run)

-- a fix: the cells at the end of the first run, whether it is certain, the step that dissents there, or null where none
-- does, and that run
abbrev pub fix_shown : List (List ℕ) → Kit → State → List Step → Bool → Option Step → Data
fix_shown attributes kit end first certain dissent = object_of (
    (codes "answer", string (codes "fix"))
    ∷ (codes "cells", cells_shown attributes kit end)
    ∷ (codes "certain", boolean certain)
    ∷ (codes "dissent", or_null step_shown dissent)
    ∷ (codes "first", run_shown first)
    ∷ [])

-- a conflict: the first run, and the second, which ends in another record
abbrev pub conflict_shown : List Step → List Step → Data
conflict_shown first second = object_of (
    (codes "answer", string (codes "conflict"))
    ∷ (codes "first", run_shown first)
    ∷ (codes "second", run_shown second)
    ∷ [])

-- the line that shows a fix from its end
unfoldable pub fix_line : List (List ℕ) → Kit → State → List Step → Bool → Option Step → List ℕ
fix_line attributes kit end first certain dissent =
    line (compact_text (fix_shown attributes kit end first certain dissent))

-- the line that shows a conflict
unfoldable pub conflict_line : List Step → List Step → List ℕ
conflict_line first second = line (compact_text (conflict_shown first second))

-- the line that shows a verdict with its runs
abbrev pub answer_line : Case → List Step → List Step → Verdict → List ℕ
answer_line case first second (Fix certain dissent) =
    fix_line case.attributes case.kit (end_of case.kit case.state first) first certain dissent
answer_line case first second Conflict = conflict_line first second

-- the text answers the case: it shows the verdict of its kit and state, with the runs that go with it
pub record IsAnswer (case : Case) (text : List ℕ) : Type 0 where
  pub first : List Step
  pub second : List Step
  pub verdict : Verdict
  pub decided : engine.IsAnswer case.kit case.state first second verdict
  pub shows : text ≡ answer_line case first second verdict
