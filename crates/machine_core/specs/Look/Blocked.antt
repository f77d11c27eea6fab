-- Blocked: what stands in the way of each attribute that is not covered at the end of a fix.
use Rattle.std.specs.Prelude.{ℕ, List, map}
use Rattle.desk_words.specs.declared.blocked.Blocked.{Blocked}
use Rattle.desk_words.specs.declared.blocked.ShownBlocked.{ShownBlocked}
use Rattle.desk_words.specs.declared.blocked.ShownBlocker.{ShownBlocker}
use Rattle.desk_words.specs.declared.blocked.ShownBlocker.TheVariants as shown
use Rattle.desk_words.specs.declared.blocked.ShownRule.{ShownRule}
use Rattle.desk_words.specs.declared.rows.session.SessionRow.{SessionRow}
use Rattle.desk_words.specs.Tables.{Published}
use Rattle.desk_valid.specs.declared.bound.Bound.{Bound}
use Rattle.fix_blockers.specs.declared.blocked_attribute.BlockedAttribute.{BlockedAttribute}
use Rattle.fix_blockers.specs.declared.blocked_attribute.BlockedRule.{BlockedRule}
use Rattle.fix_blockers.specs.declared.blocker.Blocker.{Blocker}
use Rattle.fix_blockers.specs.declared.blocker.Blocker.TheVariants.{Unknown, Pattern, NoRow}
use Rattle.fix_model.specs.declared.state.State.{State}
use Rattle.fix_model.specs.Rules.{rule_at}
use Rattle.fix_model.specs.Run.{end_of}
use Rattle.machine_core.specs.Answers.{bound_for, state_of}
use Rattle.machine_core.specs.Checked.{Checked, ◌>>=◌, ◌>>◌, answer_for, blockers_for, done}
use Rattle.machine_core.specs.Clerk.Commit.{not_in_conflict}
use Rattle.machine_core.specs.Own.{Own}
use Rattle.machine_core.specs.Tests.{session_of}
use Rattle.machine_core.specs.Views.{name_at}

-- what stands in the way of the rule at a place, by names
abbrev pub shown_blocker : Bound → ℕ → Blocker → ShownBlocker
shown_blocker bound rule (Unknown attributes) = shown.Unknown (map (name_at bound.names.attributes) attributes)
shown_blocker bound rule (Pattern attribute) = shown.Pattern (name_at bound.names.attributes attribute)
shown_blocker bound rule NoRow = shown.NoRow (name_at bound.names.masters (rule_at bound.kit rule).master)

-- a rule with what stands in its way
abbrev pub shown_rule : Bound → BlockedRule → ShownRule
shown_rule bound one = record {
  rule = name_at bound.names.rules one.rule;
  blocker = shown_blocker bound one.rule one.blocker;
}

-- an attribute with its rules
abbrev pub shown_blocked : Bound → BlockedAttribute → ShownBlocked
shown_blocked bound one = record {
  name = name_at bound.names.attributes one.attribute;
  rules = map (shown_rule bound) one.rules;
}

-- what is blocked at the end of a run, under the number of its session
abbrev pub blocked_in : ℕ → Bound → State → Checked Blocked
blocked_in number bound end = do
  blocked ← blockers_for bound.kit end
  done (record { session = number; attributes = map (shown_blocked bound) blocked })

-- the tests of a session on an edition, in their order, and what is blocked at the end of its fix
abbrev pub blocked_on : ℕ → Bound → SessionRow → Checked Blocked
blocked_on number bound session = do
  answer ← answer_for bound.kit (state_of session)
  not_in_conflict answer.verdict
  blocked_in number bound (end_of bound.kit (state_of session) answer.first)

-- the session of this number, active or closed, and what is blocked in it
abbrev pub blocked_at : Published → Own → ℕ → Checked Blocked
blocked_at published own number = do
  session ← session_of own.sessions number
  bound ← bound_for published session
  blocked_on number bound session
