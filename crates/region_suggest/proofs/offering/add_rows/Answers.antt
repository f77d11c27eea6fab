use Rattle.std.proofs.Common.{◌≡◌, ◌<◌, ◌+◌, ◌∙◌, ◌++◌, ◌∷◌, [], ℕ, List, map, length, length-append, ap, sym}
use Rattle.std.proofs.Common.{subst, arith}
use Rattle.std.specs.Prelude.{All}
use Rattle.fix_model.specs.declared.region.Region.{Region}
use Rattle.fix_model.specs.States.{value_at}
use Rattle.region_suggest.specs.Finding.{IsMatchWithin}
use Rattle.region_suggest.specs.Offers.{HoldsConfirmed, ListsExactly, region_at}
use Rattle.region_suggest.specs.Verdicts.{row_at}
use Rattle.region_suggest.proofs.Pairs.{region-valid, IsMatch-here, IsMatch-values, IsMatchWithin-before}
use Rattle.region_suggest.proofs.Pairs.{IsMatchWithin-lacks, IsMatchWithin-region, IsMatchWithin-row}
use Rattle.region_suggest.proofs.Pairs.{IsMatchWithin-skip, ListsExactly-push, ListsExactly-same}
use Rattle.region_suggest.proofs.offering.add_rows.Given.{Over}
use Rattle.region_suggest.proofs.offering.add_rows.Goals as goal
use Rattle.region_suggest.proofs.offering.add_rows.Goals.{After-as_slice-attributes, After-row_at-texts}
use Rattle.region_suggest.proofs.offering.add_rows.Goals.{then-has_values+in_ok-push, else-has_values}

-- the attributes of the region were read
attributes-read : (g : Over) (c : After-as_slice-attributes g)
    → c.as_slice-attributes.result.now ≡ (region_at c.args.regions.now c.args.place).attrs
attributes-read g c = c.as_slice-attributes.ensures ∙ ap (λ (one : Region). one.attrs) c.region_at-region.ensures

-- the loop is at a row of the region
row-within : (g : Over) (c : After-row_at-texts g)
    → c.rows.row < length (region_at c.args.regions.now c.args.place).rows
row-within g c = omega (
  arith,
  c.rows-test.true,
  c.len-row-end.ensures,
  ap (λ (one : Region). length one.rows) c.region_at-region.ensures,
)

-- and its texts were read
texts-read : (g : Over) (c : After-row_at-texts g)
    → c.row_at-texts.result.now ≡ row_at (region_at c.args.regions.now c.args.place) c.rows.row
texts-read g c = c.row_at-texts.ensures ∙ ap (λ (one : Region). row_at one c.rows.row) c.region_at-region.ensures

pub returns-then-not-holds_confirmed-clause-following : goal.returns-then-not-holds_confirmed-clause-following
returns-then-not-holds_confirmed-clause-following g c = let kit = g.B.Book.kit c.args.book.now in
    let state = c.args.state.now in
    let regions = c.args.regions.now in
    let place : ℕ = c.args.place in
    let attributes = attributes-read g
    (goal.at.returns-then-not-holds_confirmed-clause-following g c).After-as_slice-attributes in
    ListsExactly-same (IsMatchWithin kit state regions place 0) (IsMatchWithin kit state regions (place + 1) 0)
    c.args.found.now
    (IsMatchWithin-lacks kit state regions place (λ holds.
    let there : HoldsConfirmed state c.as_slice-attributes.result.now =
    subst (HoldsConfirmed state) (sym attributes) holds in
    let told = c.holds_confirmed.ensures.1 there in let clash = c.if-not-holds_confirmed.true in cc))
    c.requires.before

pub has_values-requires-clause-within : goal.has_values-requires-clause-within
has_values-requires-clause-within g c = let kit = g.B.Book.kit c.args.book.now in
    let regions = c.args.regions.now in
    let place : ℕ = c.args.place in
    let attributes = attributes-read g (goal.at.has_values-requires-clause-within g c).After-as_slice-attributes in
    subst (λ (some : List ℕ). All (λ attribute. attribute < kit.width) some) (sym attributes)
    (region-valid kit regions place c.requires.regions c.requires.place).attributes.attributes_within

pub has_values-requires-clause-whole : goal.has_values-requires-clause-whole
has_values-requires-clause-whole g c = let kit = g.B.Book.kit c.args.book.now in
    let regions = c.args.regions.now in
    let place : ℕ = c.args.place in
    let row : ℕ = c.rows.row in
    let attributes = attributes-read g (goal.at.has_values-requires-clause-whole g c).After-as_slice-attributes in
    let row_within = row-within g (goal.at.has_values-requires-clause-whole g c).After-row_at-texts in
    let texts = texts-read g (goal.at.has_values-requires-clause-whole g c).After-row_at-texts in
    let whole : length (row_at (region_at regions place) row) ≡ length (region_at regions place).attrs =
    (region-valid kit regions place c.requires.regions c.requires.place).rows row [] row_within in
    ap length texts ∙ whole ∙ ap length (sym attributes)

pub rows-preserved : goal.rows-preserved
rows-preserved g c = let kit = g.B.Book.kit c.args.book.now in
    let state = c.args.state.now in
    let regions = c.args.regions.now in
    let place : ℕ = c.args.place in
    let row : ℕ = c.rows.row in
    let attributes = attributes-read g (goal.at.rows-preserved g c).After-as_slice-attributes in
    let row_within = row-within g (goal.at.rows-preserved g c).After-row_at-texts in
    let texts = texts-read g (goal.at.rows-preserved g c).After-row_at-texts in
    let confirmed : HoldsConfirmed state (region_at regions place).attrs =
    rw attributes at (c.holds_confirmed.ensures.0 c.if-not-holds_confirmed.false) in
    elim c.if-has_values.branch [
      | then-has_values+in_ok-push w ↦
          let values : map (value_at kit state) (region_at regions place).attrs ≡ row_at (region_at regions place) row =
          ap (map (value_at kit state)) (sym attributes) ∙ c.has_values.ensures.0 w.if-has_values.true ∙ texts in
          let pair : ℕ × ℕ = (place + 1, row + 1) in
          let pushed : c.if-has_values.found ≡ c.rows.found ++ pair ∷ [] = w.found-is ∙ w.in_ok-push.ensures.pushed in
          record {
            matches = ListsExactly-push (IsMatchWithin kit state regions place row)
                (IsMatchWithin kit state regions place (row + 1))
                c.rows.found c.if-has_values.found pair pushed c.rows.invariant.matches
                (IsMatchWithin-before kit state regions place row) (IsMatchWithin-row kit state regions place row
                (IsMatch-here kit state regions place row c.requires.place row_within confirmed values));
            few = omega (arith, ap length pushed, length-append c.rows.found (pair ∷ []), c.rows.invariant.few);
          }
      | else-has_values w ↦ record {
        matches = subst (ListsExactly (IsMatchWithin kit state regions place (row + 1))) (sym w.found-is)
            (ListsExactly-same (IsMatchWithin kit state regions place row)
            (IsMatchWithin kit state regions place (row + 1)) c.rows.found
            (IsMatchWithin-skip kit state regions place row (λ matched.
            let values : map (value_at kit state) (region_at regions place).attrs ≡ row_at (region_at regions place)
            row = IsMatch-values kit state regions place row matched in
            let told = c.has_values.ensures.1 (ap (map (value_at kit state)) attributes ∙ values ∙ sym texts) in
            let clash = w.if-has_values.false in cc))
            c.rows.invariant.matches);
        few = omega (arith, ap length w.found-is, c.rows.invariant.few);
      }
    ]

pub returns-clause-following : goal.returns-clause-following
returns-clause-following g c = let kit = g.B.Book.kit c.args.book.now in
    let state = c.args.state.now in
    let regions = c.args.regions.now in
    let place : ℕ = c.args.place in
    let last : c.rows.row ≡ length (region_at regions place).rows =
    omega (
      arith,
      c.rows-test.false,
      c.rows.auto.row-end,
      c.len-row-end.ensures,
      ap (λ (one : Region). length one.rows) c.region_at-region.ensures,
    ) in
    ListsExactly-same (IsMatchWithin kit state regions place c.rows.row) (IsMatchWithin kit state regions (place + 1) 0)
    c.rows.found
    (IsMatchWithin-region kit state regions place c.rows.row last) c.rows.invariant.matches
