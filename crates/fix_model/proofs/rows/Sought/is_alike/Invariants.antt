use Rattle.std.proofs.Common.{◌<◌, ℕ, get_or}
use Rattle.desk_base.specs.Grid.{cell_text}
use Rattle.fix_model.specs.Alike.{AreAlike}
use Rattle.fix_model.specs.Sought.{Aim}
use Rattle.fix_model.proofs.rows.Sought.is_alike.Given as goal

abbrev pub invariant-texts : goal.invariant-texts
invariant-texts l = (k : ℕ) (d : Aim) → k < l.sought-index
    → let aim = get_or l.self k d in AreAlike aim.folded aim.text (cell_text l.master l.row aim.column)
