use Rattle.rule_text.proofs.BindingKits.{IsValid-kit_of}
use Rattle.rule_text.proofs.binding.bind.Goals as goal

pub returns-clause-valid : goal.returns-clause-valid
returns-clause-valid c =
    rw (
      c.in_ok-rules.ensures.rules,
      c.in_ok-grids.ensures,
      c.in_ok-flags.ensures.flags,
      c.len-width.ensures,
      c.as_slice.ensures,
    )
    (IsValid-kit_of c.args.rulebook.now c.args.schema.now c.args.masters.now c.args.folded.now c.requires.masters
    c.requires.schema c.requires.rulebook (rw c.as_slice.ensures at c.in_ok-rules.ensures.found))
