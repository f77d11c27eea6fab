-- Where a run can depart from the end of the first run: a step gives its head another value than it has there.
use Rattle.std.specs.Prelude.{◌≡◌, ◌≢◌, ◌↔◌, ℕ, ◌<◌, Bool, true, List, [], ◌∷◌, length, map, IsSome, slice_index_or, ⊤}
use Rattle.fix_model.specs.declared.kit.Kit.{Kit}
use Rattle.fix_model.specs.declared.rule.Rule.{Rule}
use Rattle.fix_model.specs.declared.state.State.{State}
use Rattle.fix_model.specs.declared.state.Step.{Step}
use Rattle.fix_model.specs.Application.{Fires, IsEnabled, after}
use Rattle.fix_model.specs.Hit.{IsFirstRow}
use Rattle.fix_model.specs.Rules.{rule_at, from_text, step_text}
use Rattle.fix_model.specs.Run.{IsFinal, end_of}
use Rattle.fix_model.specs.States.{IsCovered, is_covering, record_of, value_at}
use Rattle.fix_engine.specs.declared.leads.Lead.{Lead}
use Rattle.fix_engine.specs.declared.leads.Lead.TheVariants.{Nothing}
use Rattle.fix_engine.specs.Flags.{HasFlags, IsFlagged}
use Rattle.fix_engine.specs.Leads.{AreLeads, is_keeping, leaving_row}

-- what is covered at a state is covered at the end, with the same value
pub record IsInside (kit : Kit) (state end : State) : Type 0 where
  pub covered : (attribute : ℕ) → IsCovered state attribute → IsCovered end attribute
  pub value : (attribute : ℕ) → IsCovered state attribute → value_at kit state attribute ≡ value_at kit end attribute

-- the state is on the way to the end, where nothing fires: a state between the two in which nothing fires covers all
-- that the end covers, and the leads are those of the end
pub record IsLedTo (kit : Kit) (state end : State) (leads : List Lead) : Type 0 where
  pub final : IsFinal kit end
  pub typed : end.typed ≡ state.typed
  pub inside : IsInside kit state end
  pub only : (other : State) → IsFinal kit other → IsInside kit state other → IsInside kit other end
      → IsInside kit end other
  pub leads_there : AreLeads kit end leads

-- the rule supports the end: it is enabled there, and the first row that agrees gives its head the value there
pub record Supports (kit : Kit) (end : State) (place : ℕ) : Type 0 where
  pub enabled : IsEnabled kit end (rule_at kit place)
  pub row : ℕ
  pub first : IsFirstRow kit (value_at kit end) (rule_at kit place) row
  pub keeps : from_text kit (rule_at kit place) row ≡ value_at kit end (rule_at kit place).head

-- the step gives its head the value at the end
abbrev pub Keeps : Kit → State → Step → Type 0
Keeps kit end step = step_text kit step ≡ value_at kit end (rule_at kit step.rule).head

-- the step fires, by a rule that supports the end, and keeps to it
pub record IsSupportedStep (kit : Kit) (end state : State) (step : Step) : Type 0 where
  pub fires : Fires kit state step
  pub supports : Supports kit end step.rule
  pub keeps : Keeps kit end step

-- a run of such steps
abbrev pub IsSupportedRun : Kit → State → State → List Step → Type 0
IsSupportedRun kit end state [] = ⊤
IsSupportedRun kit end state (step ∷ rest) =
    IsSupportedStep kit end state step × IsSupportedRun kit end (after kit state step) rest

-- after such a run some step departs at the attribute
pub record CanDepart (kit : Kit) (end state : State) (attribute : ℕ) : Type 0 where
  pub run : List Step
  pub supported : IsSupportedRun kit end state run
  pub step : Step
  pub fires : Fires kit (end_of kit state run) step
  pub head : (rule_at kit step.rule).head ≡ attribute
  pub departs : ¬ Keeps kit end step

-- the run ends in another record
abbrev pub EndsElsewhere : Kit → State → State → List Step → Type 0
EndsElsewhere kit end state run = record_of kit (end_of kit state run) ≢ record_of kit end

-- the flags are closed: where a rule supports the end, its head is not the one left out, and its keys and conditions
-- are flagged, its head is flagged
abbrev pub IsClosed : Kit → State → ℕ → List Bool → Type 0
IsClosed kit end left_out flags = (place : ℕ) → place < length kit.rules → Supports kit end place
    → (rule_at kit place).head ≢ left_out → HasFlags flags (rule_at kit place)
    → IsFlagged flags (rule_at kit place).head

-- the flags are what some supported run covers that leaves this attribute out
pub record IsReach (kit : Kit) (end state : State) (left_out : ℕ) (flags : List Bool) : Type 0 where
  pub run : List Step
  pub supported : IsSupportedRun kit end state run
  pub uncovered : ¬ IsCovered (end_of kit state run) left_out
  pub covers : flags ≡ map is_covering (end_of kit state run).cells

-- the flags are those of the attributes at which a run can depart
pub record AreDepartures (kit : Kit) (end state : State) (flags : List Bool) : Type 0 where
  pub whole : length flags ≡ kit.width
  pub each : (attribute : ℕ) → IsFlagged flags attribute ↔ CanDepart kit end state attribute

-- the rule's keys and conditions are flagged, and its head is neither flagged nor left out
pub record GoesOn (flags : List Bool) (left_out : ℕ) (rule : Rule) : Type 0 where
  pub apart : rule.head ≢ left_out
  pub unflagged : ¬ IsFlagged flags rule.head
  pub flagged : HasFlags flags rule

-- the rule at this place supports the end, its keys and conditions are flagged, and its head is neither flagged nor
-- left out
pub record IsNextRule (kit : Kit) (leads : List Lead) (flags : List Bool) (left_out place : ℕ) : Type 0 where
  pub keeps : is_keeping (slice_index_or leads place Nothing) ≡ true
  pub goes_on : GoesOn flags left_out (rule_at kit place)

-- the rule at this place has this head, and a row that gives it another value than it has at the end
pub record LeavesBy (kit : Kit) (leads : List Lead) (attribute place : ℕ) : Type 0 where
  pub head : (rule_at kit place).head ≡ attribute
  pub leaves : IsSome (leaving_row (slice_index_or leads place Nothing))

-- some rule with this head has a row that gives it another value than it has at the end
abbrev pub IsLeftSomehow : Kit → List Lead → ℕ → Type 0
IsLeftSomehow kit leads attribute = (place : ℕ) × (place < length kit.rules) × LeavesBy kit leads attribute place

-- such a rule has flagged keys and conditions
abbrev pub IsLeft : Kit → List Lead → List Bool → ℕ → Type 0
IsLeft kit leads flags attribute =
    (place : ℕ) × (place < length kit.rules) × (LeavesBy kit leads attribute place × HasFlags flags (rule_at kit place))
