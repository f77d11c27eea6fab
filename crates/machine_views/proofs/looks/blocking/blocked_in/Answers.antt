use Rattle.machine_views.proofs.Blocked.{blocked-named}
use Rattle.machine_views.proofs.looks.blocking.blocked_in.Goals as goal

pub shown_attributes-requires-clause-blocked : goal.shown_attributes-requires-clause-blocked
shown_attributes-requires-clause-blocked c =
    rw c.as_slice.ensures
    (blocked-named c.args.shelved.now.book c.args.end.now c.requires.named.named.valid c.in_ok-blocked.blocked
    c.in_ok-blocked.ensures)
