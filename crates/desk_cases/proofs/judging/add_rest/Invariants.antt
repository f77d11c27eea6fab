use Rattle.std.proofs.Common.{◌≡◌, ◌++◌, map}
use Rattle.std.specs.Prelude.{None, Some}
use Rattle.desk_cases.proofs.judging.add_rest.Given as goal

-- each part so far is added
abbrev pub invariant-rest : goal.invariant-rest
invariant-rest l =
    l.found.items ≡ l.initial.found.items ++ map (λ part. record { wanted = None; got = Some part }) l.yielded
