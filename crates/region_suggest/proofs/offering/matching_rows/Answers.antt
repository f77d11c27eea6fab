use Rattle.std.proofs.Common.{◌≡◌, length, arith}
use Rattle.region_suggest.specs.Finding.{IsMatchWithin}
use Rattle.region_suggest.specs.Offers.{IsMatch}
use Rattle.region_suggest.proofs.Pairs.{IsMatchWithin-all, ListsExactly-same}
use Rattle.region_suggest.proofs.offering.matching_rows.Goals as goal

pub returns-clause-matches : goal.returns-clause-matches
returns-clause-matches g c = let kit = g.B.Book.kit c.args.book.now in
    let state = c.args.state.now in
    let regions = c.args.regions.now in
    let last : c.regions.place ≡ length regions = omega (arith, c.regions-test.false, c.regions.auto.place-end) in
    ListsExactly-same (IsMatchWithin kit state regions (length regions) 0) (IsMatch kit state regions) c.regions.found
    (IsMatchWithin-all kit state regions) (rw last at c.regions.invariant.matches)
