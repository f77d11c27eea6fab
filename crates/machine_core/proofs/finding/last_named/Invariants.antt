use Rattle.std.proofs.Common.{◌≡◌, ◌≤◌, length, take}
use Rattle.std.specs.Prelude.{count_by}
use Rattle.std.specs.Str.{bytes_eq}
use Rattle.machine_core.proofs.finding.last_named.Given as goal

-- the rows before the place have all of the name
abbrev pub invariant-rows : goal.invariant-rows
invariant-rows g l = record {
  within : l.place ≤ length l.rows;
  all : count_by (λ row. bytes_eq (g.T.Versioned.name_of row) l.name) (take l.place l.rows)
      ≡ count_by (λ row. bytes_eq (g.T.Versioned.name_of row) l.name) l.rows;
}

abbrev pub decreases-rows : goal.decreases-rows
decreases-rows g l = l.place
