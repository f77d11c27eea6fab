use Rattle.std.proofs.Common.{◌≡◌, ◌+◌, drop, map, option_map}
use Rattle.serde_json.specs.View.{view}
use Rattle.case_json.specs.Pointers.{first_unread}
use Rattle.case_json.proofs.pointers.first_unread.Given as goal

abbrev pub invariant-values : goal.invariant-values
invariant-values g l = first_unread (g.T.Part.part_in l.context) (map view l.values)
    ≡ option_map (λ place. l.place + place)
    (first_unread (g.T.Part.part_in l.context) (map view (drop l.place l.values)))
