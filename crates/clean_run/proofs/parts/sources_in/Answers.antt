use Rattle.clean_run.proofs.Masters.{AreMasters-named}
use Rattle.clean_run.proofs.parts.sources_in.Goals as goal

pub returns-clause-masters : goal.returns-clause-masters
returns-clause-masters g c = AreMasters-named c.in_ok-masters.masters c.as_slice.result.now
    c.in_ok-masters.ensures.named (rw c.as_slice.ensures c.requires.fit.sheets) c.in_ok-masters.ensures.sound
