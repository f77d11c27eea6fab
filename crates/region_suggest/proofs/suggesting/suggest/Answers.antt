use Rattle.std.proofs.Common.{◌≤◌, ◌+◌, ◌∙◌, ℕ, List, length, ap, inl, inr, sym, subst, get_or, arith}
use Rattle.std.specs.Prelude.{All, AllPairs, Contains}
use Rattle.std.proofs.Math.Nat.{mul-le-mul_left}
use Rattle.desk_base.specs.Counts.{Counts}
use Rattle.fix_model.specs.Run.{end_of}
use Rattle.fix_model.proofs.LeftSides.{few_left_sides}
use Rattle.region_suggest.specs.Gains.{AreGains}
use Rattle.region_suggest.specs.Need.{IsNeed}
use Rattle.region_suggest.specs.Offers.{IsCertain, IsMatch, IsOffer, IsOfferBefore, IsPlace, ListsExactly}
use Rattle.region_suggest.proofs.Lists.{Contains-at}
use Rattle.region_suggest.proofs.Pairs.{ListsExactly-same}
use Rattle.region_suggest.proofs.suggesting.suggest.Given.{Over}
use Rattle.region_suggest.proofs.suggesting.suggest.Goals as goal
use Rattle.region_suggest.proofs.suggesting.suggest.Goals.{After-matching_rows, in-Conflict, in-Fix+in_ok-need-in-Fix}

-- each rule was looked up at most once for the record itself
looks-judged : (g : Over) (c : After-matching_rows g)
    → c.match-judge.counts.looks ≤ c.args.counts.now.looks + length (g.B.Book.kit c.args.book.now).rules
looks-judged g c =
    let kit = g.B.Book.kit c.args.book.now in
    elim c.match-judge.branch [
      | in-Conflict w ↦ omega (
        arith,
        ap (λ (n : Counts). n.looks) w.counts-is,
        c.judge.ensures.looks,
        few_left_sides kit (end_of kit c.args.state.now c.judge.new.work.first),
      )
      | in-Fix+in_ok-need-in-Fix w ↦
          let advised = rw (c.judge.ensures.state, w.first.ensures) at w.advice.ensures.looks in
          omega (arith, ap (λ (n : Counts). n.looks) w.counts-is, c.judge.ensures.looks, advised)
    ]

pub certain_rows-requires-clause-places : goal.certain_rows-requires-clause-places
certain_rows-requires-clause-places g c = let found = c.in_ok-found.found in
    let matches : ListsExactly (IsMatch (g.B.Book.kit c.args.book.now) c.judge.new.state c.args.regions.now) found =
    c.in_ok-found.ensures.matches in
    subst (λ (some : List (ℕ × ℕ)). All (IsPlace c.args.regions.now) some) (sym c.as_slice.ensures)
    (λ k d below. ((matches.each (get_or found k d)).0 (Contains-at found k d below)).place)

pub certain_rows-requires-clause-in_order : goal.certain_rows-requires-clause-in_order
certain_rows-requires-clause-in_order g c =
    let matches : ListsExactly (IsMatch (g.B.Book.kit c.args.book.now) c.judge.new.state c.args.regions.now)
    c.in_ok-found.found = c.in_ok-found.ensures.matches in
    subst (λ (some : List (ℕ × ℕ)). AllPairs IsOfferBefore some) (sym c.as_slice.ensures) matches.in_order

pub returns-in_err-need-in-Fix-clause-looks : goal.returns-in_err-need-in-Fix-clause-looks
returns-in_err-need-in-Fix-clause-looks g c = let kit = g.B.Book.kit c.args.book.now in
    let rules : ℕ = length kit.rules in
    let advised = rw (c.judge.ensures.state, c.first.ensures) at c.advice.ensures.looks in
    omega (arith, c.judge.ensures.looks, advised)

pub returns-in_err-found-clause-looks : goal.returns-in_err-found-clause-looks
returns-in_err-found-clause-looks g c =
    omega (arith, looks-judged g (goal.at.returns-in_err-found-clause-looks g c).After-matching_rows)

pub returns-in_err-offers-clause-looks : goal.returns-in_err-offers-clause-looks
returns-in_err-offers-clause-looks g c = omega (
  arith,
  looks-judged g (goal.at.returns-in_err-offers-clause-looks g c).After-matching_rows,
  rw c.as_slice.ensures at c.certain_rows.ensures.looks,
  mul-le-mul_left (length (g.B.Book.kit c.args.book.now).rules) c.in_ok-found.ensures.few,
)

pub returns-clause-suggestion : goal.returns-clause-suggestion
returns-clause-suggestion g c = let kit = g.B.Book.kit c.args.book.now in
    let state = c.args.state.now in
    let regions = c.args.regions.now in
    let found = c.in_ok-found.found in
    let matches : ListsExactly (IsMatch kit state regions) found =
    rw c.judge.ensures.state at c.in_ok-found.ensures.matches in
    let certain : ListsExactly (λ pair. Contains found pair × IsCertain kit regions pair) c.in_ok-offers.offers =
    rw c.as_slice.ensures at c.in_ok-offers.ensures.certain in
    record {
      offers = ListsExactly-same (λ pair. Contains found pair × IsCertain kit regions pair) (IsOffer kit state regions)
          c.in_ok-offers.offers (λ other. (
            (λ h. record { matched = (matches.each other).0 h.0; certain = h.1 }),
            λ h. ((matches.each other).1 h.matched, h.certain),
          )) certain;
      advice = elim c.match-judge.branch [
        | in-Conflict w ↦ inr (record {
          conflict = (c.judge.new.work.first, w.in-Conflict.ensures.judgement.0, w.in-Conflict.ensures.judgement.1);
          need = ap (λ (both : List ℕ × List (ℕ × ℕ)). both.0) w.need-is ∙ w.new.ensures;
          gains = ap (λ (both : List ℕ × List (ℕ × ℕ)). both.1) w.need-is ∙ w.new-in-Conflict.ensures;
        })
        | in-Fix+in_ok-need-in-Fix w ↦
            let first = c.judge.new.work.first in
            let need : IsNeed kit (end_of kit state first) w.in_ok-need-in-Fix.need =
            rw (c.judge.ensures.state, w.first.ensures) at w.in_ok-need-in-Fix.ensures.need in
            let gains : AreGains kit (end_of kit state first) w.in_ok-need-in-Fix.gains =
            rw (c.judge.ensures.state, w.first.ensures) at w.in_ok-need-in-Fix.ensures.gains in
            inl (record {
              first = first;
              certain = w.in-Fix.certain;
              dissent = w.in-Fix.dissent;
              fix = w.in-Fix.ensures.judgement;
              need = subst (IsNeed kit (end_of kit state first))
                  (sym (ap (λ (both : List ℕ × List (ℕ × ℕ)). both.0) w.need-is)) need;
              gains = subst (AreGains kit (end_of kit state first))
                  (sym (ap (λ (both : List ℕ × List (ℕ × ℕ)). both.1) w.need-is)) gains;
            })
      ];
    }

pub returns-clause-looks : goal.returns-clause-looks
returns-clause-looks g c = omega (
  arith,
  looks-judged g (goal.at.returns-clause-looks g c).After-matching_rows,
  rw c.as_slice.ensures at c.certain_rows.ensures.looks,
  mul-le-mul_left (length (g.B.Book.kit c.args.book.now).rules) c.in_ok-found.ensures.few,
)
