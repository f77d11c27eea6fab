use Rattle.std.proofs.Common.{◌≤◌}
use Rattle.desk_words.specs.Tables.{rows_of}
use Rattle.desk_valid.specs.declared.table.Table.{Table}
use Rattle.desk_valid.specs.Damage.{number_of}
use Rattle.desk_valid.specs.FirstDamaged.{IsWhole}
use Rattle.desk_valid.proofs.checking.valid.Given as goal

-- the tables so far are whole
abbrev pub invariant-tables : goal.invariant-tables
invariant-tables l = (table : Table) → number_of table ≤ l.table-index → IsWhole (rows_of l.fn.tables) table
