use Rattle.std.proofs.Common.{◌≡◌, ◌<◌, ℕ}
use Rattle.desk_base.specs.Grid.{cell_text}
use Rattle.fix_model.specs.Sought.{Meets}
use Rattle.fix_model.proofs.lent_book.other_row.Given as goal

abbrev pub invariant-rows : goal.invariant-rows
invariant-rows l = (other : ℕ) → other < l.row → Meets l.master l.rule l.sought other
    → cell_text l.master other l.rule.from ≡ cell_text l.master l.first l.rule.from
