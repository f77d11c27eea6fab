use Rattle.std.proofs.Common.{◌≡◌, ◌++◌, filter, map, take}
use Rattle.std.specs.Prelude.{not}
use Rattle.fix_blockers.specs.Blockers.{is_key, is_uncovered}
use Rattle.fix_blockers.proofs.blocking.add_others.Given as goal

-- of the conditions so far those that are not covered are added, but for keys
abbrev pub invariant-conds : goal.invariant-conds
invariant-conds l = l.unknown ≡ l.fn.unknown ++ filter (is_uncovered l.state)
    (filter (λ attribute. not (is_key l.rule attribute)) (map (λ cond. cond.0) (take l.cond-index l.rule.conds)))
