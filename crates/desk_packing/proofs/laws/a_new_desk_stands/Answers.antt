use Rattle.std.proofs.lemmas.List.Sorted.{IsPermutation-refl}
use Rattle.desk_words.specs.Tables.{empty_rows}
use Rattle.desk_packing.specs.Stands.{lines_of}
use Rattle.desk_packing.proofs.Steward.{AreTables-empty, FitFields-empty}
use Rattle.desk_packing.proofs.laws.a_new_desk_stands.Goals as goal

pub returns : goal.returns
returns c = record {
  tables = AreTables-empty;
  fit = FitFields-empty;
  same = IsPermutation-refl (lines_of empty_rows);
}
