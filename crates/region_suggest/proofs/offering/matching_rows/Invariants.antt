use Rattle.std.proofs.Common.{◌≤◌, length, take}
use Rattle.region_suggest.specs.Finding.{IsMatchWithin}
use Rattle.region_suggest.specs.Offers.{ListsExactly}
use Rattle.region_suggest.specs.Verdicts.{row_count}
use Rattle.region_suggest.proofs.offering.matching_rows.Given as goal

-- the matching rows of the regions so far are listed
abbrev pub invariant-regions : goal.invariant-regions
invariant-regions g l = record {
  matches : ListsExactly (IsMatchWithin (g.B.Book.kit l.book) l.state l.regions l.place 0) l.found;
  few : length l.found ≤ row_count (take l.place l.regions);
}
