use Rattle.std.proofs.Common.{◌≡◌, filter, map}
use Rattle.std.specs.List.{range_with_len}
use Rattle.fix_choices.specs.Choices.{choice_at, differs}
use Rattle.fix_choices.proofs.choosing.choices_between.Given as goal

-- of the attributes so far those whose texts differ are listed
abbrev pub invariant-attributes : goal.invariant-attributes
invariant-attributes g l = let kit = g.B.Book.kit l.book in
    l.choices ≡ map (choice_at kit l.first l.second)
    (filter (differs kit l.first l.second) (range_with_len 0 l.attribute))
