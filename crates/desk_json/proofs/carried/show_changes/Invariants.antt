use Rattle.std.proofs.Common.{◌≡◌, map, drop}
use Rattle.serde_json.specs.View.{items_of}
use Rattle.json_parts.specs.Writing.{with_items, with_value}
use Rattle.desk_json.specs.Carried.{change_shown, changes_shown}
use Rattle.desk_json.proofs.carried.show_changes.Given as goal

abbrev pub invariant-changed : goal.invariant-changed
invariant-changed l = with_items l.out (items_of (map (change_shown l.before l.after) (drop l.places-index l.changed)))
    ≡ with_value l.fn.out (changes_shown l.before l.after l.changed)
