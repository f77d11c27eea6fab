use Rattle.std.proofs.Common.{◌≡◌, ◌<◌, ℕ, true, get_or}
use Rattle.fix_model.specs.Entries.{is_same_key}
use Rattle.fix_model.proofs.kit.Kit.has_same_keys.Given as goal

abbrev pub invariant-keys : goal.invariant-keys
invariant-keys l = (k : ℕ) (d e : ℕ × ℕ) → k < l.place
    → is_same_key l.self (get_or l.rule.keys k d) (get_or l.other.keys k e) ≡ true
