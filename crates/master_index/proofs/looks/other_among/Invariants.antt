use Rattle.std.proofs.Common.{◌≡◌, ◌<◌, ℕ, get_or}
use Rattle.desk_base.specs.Grid.{cell_text}
use Rattle.fix_model.specs.Sought.{Meets}
use Rattle.master_index.proofs.looks.other_among.Given as goal

abbrev pub invariant-rows : goal.invariant-rows
invariant-rows l = (k : ℕ) → k < l.row-index → Meets l.master l.rule l.sought (get_or l.rows k 0)
    → cell_text l.master (get_or l.rows k 0) l.rule.from ≡ cell_text l.master l.first l.rule.from
