use Rattle.std.proofs.Common.{◌≡◌, drop, filter}
use Rattle.std.specs.Prelude.{slice_get}
use Rattle.rule_text.specs.Reading.{begins_rule, extra_rule}
use Rattle.rule_text.proofs.reading.extra_rule.Given as goal

abbrev pub invariant-tokens : goal.invariant-tokens
invariant-tokens l = extra_rule l.tokens ≡ slice_get (filter begins_rule (drop l.token-index l.tokens)) l.more
