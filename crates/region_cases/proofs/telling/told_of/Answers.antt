use Rattle.std.proofs.Common.{refl}
use Rattle.region_cases.proofs.telling.told_of.Goals as goal

-- the book is of the kit whose regions these are
pub told_over-told-requires-clause-regions : goal.told_over-told-requires-clause-regions
told_over-told-requires-clause-regions c = rw c.new-given.ensures.book (c.if-not-are_regions_of.ensures refl)
