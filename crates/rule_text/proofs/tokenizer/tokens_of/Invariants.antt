use Rattle.std.proofs.Common.{◌≡◌, ◌+◌, ◌≤◌, length}
use Rattle.rule_text.specs.Tokenizer.{taken_from, tokens_of}
use Rattle.rule_text.proofs.Tokens.{with_front}
use Rattle.rule_text.proofs.tokenizer.tokens_of.Given as goal

abbrev pub invariant-loop-rest : goal.invariant-loop-rest
invariant-loop-rest l = record {
  counted : 1 ≤ l.place.column;
  line : l.place.line + length l.rest ≤ length l.text + 1;
  column : l.place.column + length l.rest ≤ length l.text + 1;
  so_far : tokens_of l.text ≡ with_front l.tokens.items (taken_from l.expected l.place 0 l.rest);
}

abbrev pub decreases-loop-rest : goal.decreases-loop-rest
decreases-loop-rest l = length l.rest
