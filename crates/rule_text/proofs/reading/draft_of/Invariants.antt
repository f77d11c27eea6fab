use Rattle.std.proofs.Common.{◌≡◌, [], drop}
use Rattle.rule_text.specs.Reading.{draft_following, with_tokens}
use Rattle.rule_text.proofs.reading.draft_of.Given as goal

abbrev pub invariant-tokens : goal.invariant-tokens
invariant-tokens l = with_tokens l.schema l.tokens (draft_following [])
    ≡ with_tokens l.schema (drop l.token-index l.tokens) l.draft
