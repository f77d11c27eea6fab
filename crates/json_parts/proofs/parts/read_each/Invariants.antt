use Rattle.std.proofs.Common.{◌≡◌, option_map, map, ◌++◌, drop}
use Rattle.serde_json.specs.View.{view}
use Rattle.json_parts.specs.Parts.{each}
use Rattle.json_parts.proofs.parts.read_each.Given as goal

abbrev pub invariant-values : goal.invariant-values
invariant-values g l = each (g.T.Part.part_in l.context) (map view l.values)
    ≡ option_map (λ rest. l.parts ++ rest) (each (g.T.Part.part_in l.context) (map view (drop l.value-index l.values)))
