use Rattle.std.proofs.lemmas.List.Elements.{All-push}
use Rattle.desk_links.specs.Memory.{IsUncalled}
use Rattle.serve_cases.proofs.doors.links_of.Goals as goal

-- one link more
pub names-preserved : goal.names-preserved
names-preserved c =
    rw c.in_ok-push.ensures.pushed
    (All-push IsUncalled c.names.links c.in_ok-link.field-0 c.names.invariant c.in_ok-link.ensures)
