use Rattle.std.proofs.Common.{refl}
use Rattle.desk_made.specs.Rulebook.{rulebook}
use Rattle.desk_made.proofs.Rulebooks.{IsRulebook-rulebook}
use Rattle.desk_made.proofs.rulebook.rulebook.Goals as goal

pub returns-clause-rulebook : goal.returns-clause-rulebook
unfolding rulebook
returns-clause-rulebook c =
    rw (c.in_ok-push.ensures.pushed, c.in_ok-lines.ensures, c.in_ok-dissenting.ensures) refl

pub returns-clause-sound : goal.returns-clause-sound
returns-clause-sound c = rw (returns-clause-rulebook c) IsRulebook-rulebook
