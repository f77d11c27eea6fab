use Rattle.fault_sentences.specs.Notes.{twin_at}
use Rattle.fault_sentences.proofs.Ranges.{flat_map-range}
use Rattle.fault_sentences.proofs.twins.twins_of.Goals as goal

pub names-preserved : goal.names-preserved
names-preserved c =
    rw (c.names.invariant, ← flat_map-range (twin_at c.args.names.now) c.names.later) at c.in_ok-add_twin.ensures
