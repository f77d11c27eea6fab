use Rattle.std.proofs.Common.{◌≡◌, take}
use Rattle.fix_model.specs.Sought.{aims_at}
use Rattle.fix_model.specs.Hit.{covered_among}
use Rattle.fix_model.proofs.rows.Sought.at.Given as goal

abbrev pub invariant-keys : goal.invariant-keys
invariant-keys l = l.sought ≡ aims_at l.kit l.state (covered_among l.state (take l.key-index l.rule.keys))
