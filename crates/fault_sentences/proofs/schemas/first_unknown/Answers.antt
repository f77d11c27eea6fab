use Rattle.std.proofs.Common.{rules}
use Rattle.fault_sentences.proofs.Documents.{keys_of-view}
use Rattle.fault_sentences.proofs.schemas.first_unknown.Goals as goal

pub keys-init : goal.keys-init
keys-init c = rw (
  keys_of-view c.args.document.now.entries,
  c.into_iter-key-iterator.ensures.into_iter_gives,
  c.keys-key-items.ensures.rest,
) (search rules)
