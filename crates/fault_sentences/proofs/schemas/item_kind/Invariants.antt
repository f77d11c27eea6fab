use Rattle.std.proofs.Common.{◌≡◌, ◌+◌, drop}
use Rattle.toml.specs.View.{items_view}
use Rattle.fault_sentences.specs.Schemas.{item_kind}
use Rattle.fault_sentences.proofs.schemas.item_kind.Given as goal

abbrev pub invariant-items : goal.invariant-items
invariant-items l = record {
  counted : l.place ≡ l.item-index + 1;
  so_far : item_kind 1 (items_view l.items) ≡ item_kind l.place (items_view (drop l.item-index l.items));
  same : l.out ≡ l.initial.out;
}
