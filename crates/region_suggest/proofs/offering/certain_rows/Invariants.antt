use Rattle.std.proofs.Common.{◌≤◌, ◌+◌, ◌*◌, ℕ, length}
use Rattle.fix_engine.specs.WorkSeen.{KeepsSize}
use Rattle.region_suggest.specs.Offers.{IsCertain, ListsExactly}
use Rattle.region_suggest.proofs.Pairs.{IsSeen}
use Rattle.region_suggest.proofs.offering.certain_rows.Given as goal

-- the certain ones of the rows so far are listed, by one look for each rule and row
abbrev pub invariant-found : goal.invariant-found
invariant-found g l = let kit = g.B.Book.kit l.book in
    record {
      certain : ListsExactly (λ (pair : ℕ × ℕ). IsSeen l.found l.pair-index pair
          × IsCertain kit l.regions pair) l.offers;
      looks : l.counts.looks ≤ l.fn.counts.looks + length kit.rules * l.pair-index;
      size : KeepsSize l.fn.work l.work;
    }
