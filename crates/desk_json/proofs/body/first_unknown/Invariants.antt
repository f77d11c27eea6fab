use Rattle.std.proofs.Common.{◌≡◌, map, string_bytes}
use Rattle.std.specs.Prelude.{find, not}
use Rattle.serde_json.specs.View.{members_view}
use Rattle.desk_base.specs.Places.{has_text}
use Rattle.desk_json.specs.Body.{first_unknown}
use Rattle.desk_json.proofs.body.first_unknown.Given as goal

abbrev pub invariant-names : goal.invariant-names
invariant-names l = first_unknown (map (λ key. key.now) l.keys) (members_view l.members.entries)
    ≡ find (λ key. not (has_text (map (λ key. key.now) l.keys) key)) (map string_bytes l.name-iterator)
