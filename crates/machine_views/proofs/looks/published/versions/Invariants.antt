use Rattle.std.proofs.Common.{◌≡◌, map, take}
use Rattle.machine_views.proofs.looks.published.versions.Given as goal

-- the rows so far are named
abbrev pub invariant-rows : goal.invariant-rows
invariant-rows g l = l.named ≡ map (λ row. (g.T.Versioned.name_of row, g.T.Versioned.version_of row))
    (take l.row-index l.rows)
