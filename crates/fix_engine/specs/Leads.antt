-- What the rules do at the end of the first run.
use Rattle.std.specs.Prelude.{◌≡◌, ◌≢◌, ℕ, ◌<◌, Bool, true, false, List, length, Option, Some, None, slice_index_or}
use Rattle.fix_model.specs.declared.book.Hit.{Hit}
use Rattle.fix_model.specs.declared.kit.Kit.{Kit}
use Rattle.fix_model.specs.declared.state.State.{State}
use Rattle.fix_model.specs.declared.state.Step.{Step}
use Rattle.fix_model.specs.Application.{IsEnabled}
use Rattle.fix_model.specs.Fix.{IsDissent}
use Rattle.fix_model.specs.Hit.{IsHit, IsMissed}
use Rattle.fix_model.specs.Rules.{rule_at, from_text}
use Rattle.fix_model.specs.Run.{IsFinal}
use Rattle.fix_model.specs.States.{value_at}
use Rattle.fix_engine.specs.declared.leads.Lead.{Lead}
use Rattle.fix_engine.specs.declared.leads.Lead.TheVariants.{Nothing, Keeps, Leaves}

-- the rule is enabled at the end, and this is what a look finds for it there
pub record IsHitAt (kit : Kit) (end : State) (place : ℕ) (hit : Hit) : Type 0 where
  pub enabled : IsEnabled kit end (rule_at kit place)
  pub found : IsHit kit (value_at kit end) (rule_at kit place) hit

-- the rule is not enabled at the end, or no row agrees
abbrev pub IsMissedAt : Kit → State → ℕ → Type 0
IsMissedAt kit end place = IsEnabled kit end (rule_at kit place) → IsMissed kit (value_at kit end) (rule_at kit place)

-- what the rule does at the end: nothing where it is not enabled or no row agrees, else by the first row that agrees
abbrev pub IsLead : Kit → State → ℕ → Lead → Type 0
IsLead kit end place Nothing = IsMissedAt kit end place
IsLead kit end place (Keeps hit) = IsHitAt kit end place hit
    × (from_text kit (rule_at kit place) hit.first ≡ value_at kit end (rule_at kit place).head)
IsLead kit end place (Leaves hit) = IsHitAt kit end place hit
    × (from_text kit (rule_at kit place) hit.first ≢ value_at kit end (rule_at kit place).head)

-- what is known of each rule
pub record AreLeads (kit : Kit) (end : State) (leads : List Lead) : Type 0 where
  pub whole : length leads ≡ length kit.rules
  pub each : (place : ℕ) → place < length kit.rules → IsLead kit end place (slice_index_or leads place Nothing)

-- the least row that gives the head another value than it has at the end
abbrev pub leaving_row : Lead → Option ℕ
leaving_row Nothing = None
leaving_row (Keeps hit) = hit.other
leaving_row (Leaves hit) = Some hit.first

-- the first row that agrees gives the head the value at the end
abbrev pub is_keeping : Lead → Bool
is_keeping Nothing = false
is_keeping (Keeps hit) = true
is_keeping (Leaves hit) = false

-- it is the least step that dissents, or there is none, wherever the leads are these and nothing fires
abbrev pub TellsDissent : List Lead → Option Step → Type 0
TellsDissent leads dissent = (kit : Kit) (end : State) → IsFinal kit end → AreLeads kit end leads
    → IsDissent kit end dissent
