use Rattle.std.proofs.Common.{◌≤◌, ◌+◌, length}
use Rattle.region_suggest.specs.Finding.{IsMatchWithin}
use Rattle.region_suggest.specs.Offers.{ListsExactly}
use Rattle.region_suggest.proofs.offering.add_rows.Given as goal

-- the matching ones of the rows so far are listed after those of the regions before
abbrev pub invariant-rows : goal.invariant-rows
invariant-rows g l = record {
  matches : ListsExactly (IsMatchWithin (g.B.Book.kit l.book) l.state l.regions l.place l.row) l.found;
  few : length l.found ≤ length l.fn.found + l.row;
}
