use Rattle.std.proofs.Common.{◌≤◌, ◌+◌, take}
use Rattle.std.specs.List.{count_by}
use Rattle.fix_model.specs.Application.{covers_left_side}
use Rattle.region_suggest.specs.Openings.{AreOpenings}
use Rattle.region_suggest.proofs.opening.open_rules.Given as goal

-- the rules so far have their dependencies, where they are open, by one look for each whose left side is not covered
abbrev pub invariant-rules : goal.invariant-rules
invariant-rules g l = record {
  openings : AreOpenings (g.B.Book.kit l.book) l.state l.place l.made;
  looks : l.counts.looks + count_by (covers_left_side l.state) (take l.place (g.B.Book.kit l.book).rules)
      ≤ l.fn.counts.looks + l.place;
}
