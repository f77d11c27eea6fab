use Rattle.std.proofs.Common.{◌<◌, ℕ}
use Rattle.fix_model.specs.Sought.{Meets}
use Rattle.fix_model.proofs.lent_book.first_row.Given as goal

abbrev pub invariant-rows : goal.invariant-rows
invariant-rows l = (other : ℕ) → other < l.row → ¬ Meets l.master l.rule l.sought other
