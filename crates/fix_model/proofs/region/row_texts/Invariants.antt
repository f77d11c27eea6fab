use Rattle.std.proofs.Common.{◌≡◌, length}
use Rattle.fix_model.specs.Regions.{row_texts}
use Rattle.fix_model.proofs.region.row_texts.Given as goal

-- the attributes so far have their texts
abbrev pub invariant-attributes : goal.invariant-attributes
invariant-attributes l = record {
  texts : l.typed ≡ row_texts l.attribute l.attributes l.texts;
  whole : length l.typed ≡ l.attribute;
}
