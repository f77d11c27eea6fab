use Rattle.std.proofs.Common.{◌≢◌, ◌<◌, ℕ, [], get_or}
use Rattle.desk_base.specs.Grid.{cell_text}
use Rattle.fix_model.proofs.rows.has_usable_keys.Given as goal

abbrev pub invariant-keys : goal.invariant-keys
invariant-keys l = (k : ℕ) (d : ℕ × ℕ) → k < l.key-index → cell_text l.master l.row (get_or l.rule.keys k d).1 ≢ []
