use Rattle.std.proofs.Common.{◌++◌, ℕ, refl, inl, inr}
use Rattle.std.specs.Prelude.{Contains}
use Rattle.fix_model.specs.Run.{end_of}
use Rattle.fix_model.specs.States.{IsCovered}
use Rattle.fix_model.proofs.Lengths.{IsCovered-end_of, IsMaximalRun-exists}
use Rattle.fix_model.proofs.Runs.{end_of-append}
use Rattle.fix_engine.proofs.Ends.{IsInside-alike}
use Rattle.fix_engine.proofs.Lists.{All-Contains}
use Rattle.region_suggest.proofs.Wider.{IsCovered-within, IsRun-following, IsRun-wider, IsWider-start, covered-closed}
use Rattle.region_suggest.proofs.laws.hope_is_sound.Goals as goal

pub returns : goal.returns
returns c = λ attribute within flags closed.
    let kit = c.args.kit.now in
    let valid = c.requires.valid in
    let state = c.args.state.now in
    let more = c.args.confirmed.now in
    let run = c.args.run.now in
    let attributes = c.args.attributes.now in
    let open_end = λ (one : ℕ) (h : Contains attributes one).
    All-Contains (λ some. ¬ IsCovered (end_of kit state run) some) attributes one c.requires.uncovered h in
    let open_start = λ (one : ℕ) (h : Contains attributes one) (is : IsCovered state one).
    open_end one h (IsCovered-end_of kit state run one c.requires.run is).0 in
    let wider = IsWider-start kit state more attributes c.requires.confirms open_start in
    let (whole, wide_end, end_fits) = IsRun-wider kit valid attributes state more run wider c.requires.fits
    c.requires.confirmed_fits c.requires.run open_end in
    let (rest, maximal) = IsMaximalRun-exists kit valid more run c.requires.confirmed_fits whole in
    let (first, dissent, fix) = c.requires.certain in
    let alike = fix.unique (run ++ rest) maximal in
    let into = IsInside-alike kit valid more first (run ++ rest) c.requires.confirmed_fits fix.is_first.holds.0 maximal
    alike in
    let last : IsCovered (end_of kit (end_of kit more run) rest) attribute =
    rw end_of-append at (into.covered attribute (fix.is_certain.0 refl attribute within)) in
    covered-closed kit valid attributes (end_of kit state run) flags closed (end_of kit more run) rest end_fits
    wide_end.inside (IsRun-following kit more run rest maximal.0)
    (λ one covered. elim (wide_end.only one covered) [
      | inl before ↦ closed.covered one before
      | inr listed ↦ closed.given_ones one (IsCovered-within kit (end_of kit more run) end_fits one covered) listed
    ]) attribute last
