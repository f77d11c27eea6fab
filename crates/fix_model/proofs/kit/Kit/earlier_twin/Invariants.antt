use Rattle.std.proofs.Common.{◌≡◌, ◌<◌, ℕ, false}
use Rattle.fix_model.specs.Entries.{has_same_triple}
use Rattle.fix_model.specs.Rules.{rule_at}
use Rattle.fix_model.proofs.kit.Kit.earlier_twin.Given as goal

abbrev pub invariant-rules : goal.invariant-rules
invariant-rules l = (k : ℕ) → k < l.earlier → has_same_triple l.self (rule_at l.self l.place) (rule_at l.self k) ≡ false
