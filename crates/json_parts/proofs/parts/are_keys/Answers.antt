use Rattle.std.proofs.Common.{rules}
use Rattle.json_parts.proofs.Keys.{keys_of-members_view}
use Rattle.json_parts.proofs.parts.are_keys.Goals as goal

pub names-init : goal.names-init
names-init c = rw (
  keys_of-members_view c.args.members.now.entries,
  c.into_iter-name-iterator.ensures.into_iter_gives,
  c.keys-name-items.ensures.rest,
) (search rules)
