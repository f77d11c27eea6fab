use Rattle.std.proofs.Common.{map, take}
use Rattle.desk_cases.specs.Judging.{IsCompared}
use Rattle.desk_cases.proofs.judging.add_wanted.Given as goal

-- the parts so far are compared
abbrev pub invariant-wanted : goal.invariant-wanted
invariant-wanted l =
    IsCompared l.found.items (map (λ part. part.now) l.fn.wanted)
    (take l.part-index (map (λ part. part.now) l.fn.wanted)) l.initial.answer.items l.answer.items
