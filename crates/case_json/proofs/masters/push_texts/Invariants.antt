use Rattle.std.proofs.Common.{◌≡◌, ◌+◌, option_map, map, ◌++◌, drop, length}
use Rattle.serde_json.specs.View.{view}
use Rattle.json_parts.specs.Parts.{each, text_in}
use Rattle.case_json.proofs.masters.push_texts.Given as goal

abbrev pub invariant-values : goal.invariant-values
invariant-values l = record {
  full : length l.cells ≡ length l.fn.cells + l.value-index;
  same : option_map (λ texts. l.fn.cells ++ texts) (each text_in (map view l.values))
      ≡ option_map (λ rest. l.cells ++ rest) (each text_in (map view (drop l.value-index l.values)));
}
