use Rattle.std.proofs.Common.{subst, sym}
use Rattle.fix_model.specs.Regions.{IsRegionOf}
use Rattle.region_cases.proofs.telling.tell_all.Goals as goal

pub tell_region-requires : goal.tell_region-requires
tell_region-requires c = subst (λ region. IsRegionOf c.args.book.now region) (sym c.region-item.is)
    (c.requires c.regions.region-index c.region-item.result c.regions-test.true)
