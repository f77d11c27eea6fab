use Rattle.std.proofs.Common.{◌≡◌, ◌++◌, option_map}
use Rattle.serde_json.specs.View.{members_view}
use Rattle.desk_json.specs.Forms.{cells_of}
use Rattle.desk_json.proofs.forms.cells_of.Given as goal

abbrev pub invariant-members : goal.invariant-members
invariant-members l = cells_of (members_view l.members.entries)
    ≡ option_map (λ rest. l.cells ++ rest) (cells_of (members_view l.key-iterator))
