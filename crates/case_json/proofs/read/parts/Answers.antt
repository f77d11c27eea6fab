use Rattle.std.proofs.Common.{◌≡◌, length, sym}
use Rattle.case_json.proofs.read.parts.Goals as goal

-- the kit is as wide as there are attributes
pub returns-clause-fits : goal.returns-clause-fits
returns-clause-fits c =
    let named : length c.in_ok-attributes.attributes ≡ c.in_ok-kit.kit.width = sym c.in_ok-kit.ensures.width in
    record { named = rw c.into_words.ensures named; fits = c.in_ok-state.ensures.fits c.in_ok-kit.kit named }
