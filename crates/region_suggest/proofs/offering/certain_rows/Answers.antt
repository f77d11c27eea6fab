use Rattle.std.proofs.Common.{◌≡◌, ◌+◌, ◌-◌, ◌∙◌, [], ℕ, get_or, length, ap, inl, inr, sym, subst, arith}
use Rattle.std.specs.Prelude.{Contains}
use Rattle.fix_model.specs.declared.region.Region.{Region}
use Rattle.fix_model.specs.declared.state.State.{State}
use Rattle.fix_model.specs.Regions.{IsVerdict, row_state}
use Rattle.region_suggest.specs.Offers.{IsCertain, IsPlace, ListsExactly, attributes_at, texts_at}
use Rattle.region_suggest.specs.Verdicts.{row_at}
use Rattle.region_suggest.proofs.Pairs.{IsSeen, IsSeen-before, IsSeen-grows, ListsExactly-push, ListsExactly-same}
use Rattle.region_suggest.proofs.Pairs.{certain-only, region-valid}
use Rattle.region_suggest.proofs.offering.certain_rows.Given.{Over}
use Rattle.region_suggest.proofs.offering.certain_rows.Goals as goal
use Rattle.region_suggest.proofs.offering.certain_rows.Goals.{After-as_slice, else-is_certain}
use Rattle.region_suggest.proofs.offering.certain_rows.Goals.{then-is_certain+in_ok-push}

-- the pair at which the loop is
abbrev pair_at : (g : Over) → After-as_slice g → ℕ × ℕ
pair_at g c = get_or c.args.found.now c.found.pair-index (0, 0)

-- its region and its row are there
place-at : (g : Over) (c : After-as_slice g) → IsPlace c.args.regions.now (pair_at g c)
place-at g c = c.requires.places c.found.pair-index (0, 0) c.found-test.true

-- the attributes of its region were read
attributes-at : (g : Over) (c : After-as_slice g) → c.as_slice.result.now ≡ attributes_at c.args.regions.now (pair_at g c)
attributes-at g c = c.as_slice.ensures ∙ ap (λ (one : Region). one.attrs) c.region_at-region.ensures

-- and so were the texts of its row
texts-at : (g : Over) (c : After-as_slice g) → c.row_at-texts.result.now ≡ texts_at c.args.regions.now (pair_at g c)
texts-at g c = c.row_at-texts.ensures
    ∙ ap (λ (one : Region). row_at one ((pair_at g c).1 - 1)) c.region_at-region.ensures

pub row_state-requires : goal.row_state-requires
row_state-requires g c =
    let read = (goal.at.row_state-requires g c).After-as_slice in
    let pair : ℕ × ℕ = pair_at g read in
    let (low, high) = (place-at g read).region in
    let (first, last) = (place-at g read).row in
    let valid = region-valid (g.B.Book.kit c.args.book.now) c.args.regions.now (pair.0 - 1) c.requires.regions
    (omega (arith, low, high)) in
    ap length (texts-at g read) ∙ valid.rows (pair.1 - 1) [] (omega (arith, first, last))
    ∙ ap length (sym (attributes-at g read))

pub found-preserved : goal.found-preserved
found-preserved g c = let kit = g.B.Book.kit c.args.book.now in
    let regions = c.args.regions.now in
    let found = c.args.found.now in
    let index : ℕ = c.found.pair-index in
    let pair : ℕ × ℕ = get_or found index (0, 0) in
    let read = (goal.at.found-preserved g c).After-as_slice in
    let state : c.in_ok-state.state ≡ row_state kit.width (attributes_at regions pair) (texts_at regions pair) =
    c.in_ok-state.ensures.state
    ∙ ap (λ n. row_state n c.as_slice.result.now c.row_at-texts.result.now) c.width.ensures.width
    ∙ ap (λ some. row_state kit.width some c.row_at-texts.result.now) (attributes-at g read)
    ∙ ap (λ some. row_state kit.width (attributes_at regions pair) some) (texts-at g read) in
    let verdict : IsVerdict kit (row_state kit.width (attributes_at regions pair) (texts_at regions pair))
    c.verdict_of-verdict.result =
    subst (λ (s : State). IsVerdict kit s c.verdict_of-verdict.result) state c.verdict_of-verdict.ensures.verdict in
    let before : ℕ × ℕ → Type 0 = λ other. IsSeen found index other × IsCertain kit regions other in
    let after : ℕ × ℕ → Type 0 = λ other. IsSeen found (index + 1) other × IsCertain kit regions other in
    record {
      certain = elim c.if-is_certain.branch [
        | then-is_certain+in_ok-push w ↦
            let here : IsCertain kit regions pair = rw (c.is_certain.ensures.0 w.if-is_certain.true) at verdict in
            ListsExactly-push before after c.found.offers c.if-is_certain.offers pair
            (w.offers-is ∙ w.in_ok-push.ensures.pushed)
            c.found.invariant.certain
            (λ other h. IsSeen-before found index c.found-test.true c.requires.in_order other h.0)
            (λ other. (
              (λ h. elim ((IsSeen-grows found index c.found-test.true other).0 h.0) [
                | inl seen ↦ inl (seen, h.1)
                | inr is ↦ inr is
              ]),
              λ h. elim h [
                | inl earlier ↦ ((IsSeen-grows found index c.found-test.true other).1 (inl earlier.0), earlier.1)
                | inr is ↦ (
                  (IsSeen-grows found index c.found-test.true other).1 (inr is),
                  subst (IsCertain kit regions)
                      (sym is) here,
                )
              ],
            ))
        | else-is_certain w ↦ subst (ListsExactly after) (sym w.offers-is)
            (ListsExactly-same before after c.found.offers
            (λ other. (
              (λ h. ((IsSeen-grows found index c.found-test.true other).1 (inl h.0), h.1)),
              λ h. elim ((IsSeen-grows found index c.found-test.true other).0 h.0) [
                | inl seen ↦ (seen, h.1)
                | inr is ↦ absurd (
                    let told = c.is_certain.ensures.1 (certain-only kit
                    (row_state kit.width (attributes_at regions pair) (texts_at regions pair))
                    c.verdict_of-verdict.result verdict (subst (IsCertain kit regions) is h.1)) in
                    let clash = w.if-is_certain.false in
                    cc)
              ],
            ))
            c.found.invariant.certain)
      ];
      looks = omega (arith, c.found.invariant.looks, c.verdict_of-verdict.ensures.looks);
      size = record {
        width = c.verdict_of-verdict.ensures.size.width ∙ c.found.invariant.size.width;
        rules = c.verdict_of-verdict.ensures.size.rules ∙ c.found.invariant.size.rules;
      };
    }

pub returns-clause-certain : goal.returns-clause-certain
returns-clause-certain g c = let kit = g.B.Book.kit c.args.book.now in
    let regions = c.args.regions.now in
    let found = c.args.found.now in
    let index : ℕ = c.found.pair-index in
    let seen : ℕ × ℕ → Type 0 = λ other. IsSeen found index other × IsCertain kit regions other in
    let there : ℕ × ℕ → Type 0 = λ other. Contains found other × IsCertain kit regions other in
    ListsExactly-same seen there c.found.offers
    (λ other. (
      (λ ((k, bound, stands), certain). ((k, omega (arith, bound, c.found.auto.pair-index-end), stands), certain)),
      λ ((k, bound, stands), certain). ((k, omega (arith, bound, c.found-test.false), stands), certain),
    ))
    c.found.invariant.certain
