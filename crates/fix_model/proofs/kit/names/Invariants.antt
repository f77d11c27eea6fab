use Rattle.std.proofs.Common.{◌≢◌, ◌<◌, ℕ, get_or}
use Rattle.fix_model.proofs.kit.names.Given as goal

abbrev pub invariant-pairs : goal.invariant-pairs
invariant-pairs g l = (k : ℕ) (d : _) → k < l.pair-index → (get_or l.pairs k d).0 ≢ l.attribute
