use Rattle.std.proofs.Common.{◌≡◌, drop, map}
use Rattle.desk_base.specs.Places.{has_text}
use Rattle.desk_json.proofs.body.is_listed.Given as goal

abbrev pub invariant-keys : goal.invariant-keys
invariant-keys l = has_text (map (λ one. one.now) l.keys) l.key
    ≡ has_text (map (λ one. one.now) (drop l.one-index l.keys)) l.key
