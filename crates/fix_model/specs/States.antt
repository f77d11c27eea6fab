-- The record of a clerk and its covered attributes.
use Rattle.std.specs.Prelude.{◌≡◌, ℕ, Bool, true, false, List, [], length, filter, map, not, All, IsTrue}
use Rattle.std.specs.Prelude.{slice_index_or, Option, Some, None, ⊤}
use Rattle.std.specs.List.{range_with_len}
use Rattle.fix_model.specs.declared.kit.Kit.{Kit}
use Rattle.fix_model.specs.declared.state.Cell.{Cell}
use Rattle.fix_model.specs.declared.state.Cell.TheVariants.{Uncovered, Confirmed, Fixed}
use Rattle.fix_model.specs.declared.state.State.{State}
use Rattle.fix_model.specs.declared.state.Step.{Step}
use Rattle.fix_model.specs.Rules.{IsStepOf, step_text}

-- the cell of an attribute, uncovered past the last
abbrev pub cell_at : State → ℕ → Cell
cell_at state attribute = slice_index_or state.cells attribute Uncovered

-- a cell that was confirmed or fixed
abbrev pub is_covering : Cell → Bool
is_covering Uncovered = false
is_covering Confirmed = true
is_covering (Fixed step) = true

-- the attribute was confirmed or fixed
abbrev pub IsCovered : State → ℕ → Type 0
IsCovered state attribute = IsTrue (is_covering (cell_at state attribute))

-- the step that fixed a cell, if one did
abbrev pub fixed_by : Cell → Option Step
fixed_by Uncovered = None
fixed_by Confirmed = None
fixed_by (Fixed step) = Some step

-- what an attribute of this cell shows: the text of the step that fixed it, else the typed text
abbrev pub shown : Kit → Cell → List ℕ → List ℕ
shown kit Uncovered typed = typed
shown kit Confirmed typed = typed
shown kit (Fixed step) typed = step_text kit step

-- the value of an attribute
abbrev pub value_at : Kit → State → ℕ → List ℕ
value_at kit state attribute = shown kit (cell_at state attribute) (slice_index_or state.typed attribute [])

-- the values of all attributes
abbrev pub record_of : Kit → State → List (List ℕ)
record_of kit state = map (value_at kit state) (range_with_len 0 kit.width)

-- the cell is fixed by a step of the kit, or not fixed
abbrev pub IsCellOf : Kit → Cell → Type 0
IsCellOf kit Uncovered = ⊤
IsCellOf kit Confirmed = ⊤
IsCellOf kit (Fixed step) = IsStepOf kit step

-- the state has a text and a cell for each attribute of the kit, and a fixed cell names a step of the kit
pub record Fits (kit : Kit) (state : State) : Type 0 where
  pub typed : length state.typed ≡ kit.width
  pub cells : length state.cells ≡ kit.width
  pub fixed : All (IsCellOf kit) state.cells

-- the cell of an attribute without a step: confirmed where its flag is true
abbrev pub confirmed_cell : Bool → Cell
confirmed_cell true = Confirmed
confirmed_cell false = Uncovered

-- how many attributes are uncovered
abbrev pub uncovered_count : State → ℕ
uncovered_count state = length (filter (λ cell. not (is_covering cell)) state.cells)
