use Rattle.std.proofs.Common.{◌≡◌, Some, take}
use Rattle.toml.specs.View.{items_view}
use Rattle.schema_core.specs.Reading.{texts_in}
use Rattle.fault_sentences.proofs.schemas.texts_in.Given as goal

abbrev pub invariant-items : goal.invariant-items
invariant-items l = texts_in (items_view (take l.item-index l.items)) ≡ Some l.texts
