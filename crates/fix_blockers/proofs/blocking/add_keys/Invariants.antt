use Rattle.std.proofs.Common.{◌≡◌, ◌++◌, filter, map, take}
use Rattle.fix_blockers.specs.Blockers.{is_uncovered}
use Rattle.fix_blockers.proofs.blocking.add_keys.Given as goal

-- of the keys so far those that are not covered are added
abbrev pub invariant-keys : goal.invariant-keys
invariant-keys l = l.unknown
    ≡ l.fn.unknown ++ filter (is_uncovered l.state) (map (λ key. key.0) (take l.key-index l.rule.keys))
