use Rattle.std.proofs.Common.{rules, ◌≡◌, Ok}
use Rattle.rule_text.specs.Reading.{read_rules}
use Rattle.rule_text.proofs.Sound.{IsRulebook-from_text}
use Rattle.rule_text.proofs.reading.read.Goals as goal

pub returns-clause-sound : goal.returns-clause-sound
unfolding read_rules
returns-clause-sound c =
    let read : read_rules c.args.text.now c.args.schema.now ≡ Ok (record { lines = c.in_ok-draft.draft.lines }) =
    search rules in
    IsRulebook-from_text _ _ _ read
