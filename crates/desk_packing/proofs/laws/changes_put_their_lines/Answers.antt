use Rattle.std.proofs.lemmas.List.Sorted.{IsPermutation-refl}
use Rattle.desk_packing.specs.Stands.{lines_of}
use Rattle.desk_packing.proofs.Changing.{FitLengths-FitAll, StandIn-changes, puts-changes, shape-changed_all}
use Rattle.desk_packing.proofs.laws.changes_put_their_lines.Goals as goal

pub returns : goal.returns
returns c = record {
  lines = λ rows changes. puts-changes (lines_of rows) rows changes (IsPermutation-refl (lines_of rows));
  shape = shape-changed_all;
  fit = FitLengths-FitAll;
  stand = StandIn-changes;
}
