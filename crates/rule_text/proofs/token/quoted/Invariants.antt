use Rattle.std.proofs.Common.{◌≡◌, ◌+◌, ◌-◌, ◌≤◌, ◌++◌, length, option_map}
use Rattle.rule_text.specs.Tokens.{quoted}
use Rattle.rule_text.proofs.token.quoted.Given as goal

abbrev pub invariant-loop-rest : goal.invariant-loop-rest
invariant-loop-rest l = record {
  shorter : length l.rest ≤ length l.bytes;
  so_far : quoted l.bytes ≡ option_map (λ q. (l.content ++ q.0, length l.bytes - length l.rest + q.1)) (quoted l.rest);
}

abbrev pub decreases-loop-rest : goal.decreases-loop-rest
decreases-loop-rest l = length l.rest
