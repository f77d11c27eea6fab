use Rattle.std.proofs.Common.{◌≡◌, List, Some, map, take}
use Rattle.std.specs.Prelude.{slice_get}
use Rattle.desk_words.specs.declared.rows.text.TextRow.{TextRow}
use Rattle.desk_valid.specs.Readings.{all_of}
use Rattle.machine_views.proofs.looks.edition.masters_at.Given as goal

-- the masters so far stand, and are named
abbrev pub invariant-places : goal.invariant-places
invariant-places l = (rows : List TextRow)
    × (all_of (map (slice_get l.masters) (take l.place-index l.places)) ≡ Some rows)
    × (l.named ≡ map (λ row. (row.name, row.version)) rows)
