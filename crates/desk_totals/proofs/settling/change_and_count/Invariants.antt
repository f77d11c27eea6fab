use Rattle.std.proofs.Common.{◌≡◌, ◌≤◌, reverse, vec_len}
use Rattle.desk_words.specs.Changes.{changed_all}
use Rattle.desk_words.specs.Tables.{rows_of}
use Rattle.keeper_core.specs.Making.{IsReady}
use Rattle.desk_totals.specs.Totals.{AreTotals}
use Rattle.desk_totals.proofs.settling.change_and_count.Given as goal

-- the changes left, the last one first, give what all give, and what stands is counted
abbrev pub invariant-left : goal.invariant-left
invariant-left l = record {
  rows : changed_all (rows_of l.tables) (reverse l.left.items) ≡ changed_all (rows_of l.fn.tables) l.fn.changes;
  ready : IsReady l.tables l.fresh (reverse l.left.items);
  counted : AreTotals (rows_of l.tables) l.totals.items;
  room : vec_len l.left ≤ l.totals.spare;
}

abbrev pub decreases-left : goal.decreases-left
decreases-left l = vec_len l.left
