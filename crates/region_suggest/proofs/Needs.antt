-- What is needed: it is enough, and nothing of it can be left out.
use Rattle.std.proofs.Common.{◌≡◌, ◌≢◌, ◌⊎◌, ◌<◌, ◌≤◌, ◌+◌, ℕ, zero, suc, false, List, get_or, eqb, eqb-true, inl}
use Rattle.std.proofs.Common.{inr, arith}
use Rattle.std.specs.Prelude.{Contains}
use Rattle.std.proofs.lemmas.Bool.{cases_Bool, eqb-false}
use Rattle.fix_model.specs.declared.kit.Kit.{Kit}
use Rattle.fix_model.specs.declared.state.State.{State}
use Rattle.fix_model.specs.States.{IsCovered, cell_at, is_covering}
use Rattle.fix_model.proofs.Deciding.{decide_less}
use Rattle.region_suggest.specs.Hope.{AreAllHoped}
use Rattle.region_suggest.specs.Need.{IsGivenWithout, IsNeed}
use Rattle.region_suggest.proofs.Wider.{decide_listed}

module _ (kit : Kit) (state : State) where
  -- where more is given, no less is hoped for
  pub AreAllHoped-more : (some more : ℕ → Type 0)
      → ((attribute : ℕ) → attribute < kit.width → some attribute → more attribute)
      → AreAllHoped kit state some → AreAllHoped kit state more
  AreAllHoped-more some more inside all = λ attribute within flags closed. all attribute within flags (record {
    whole = closed.whole;
    covered = closed.covered;
    given_ones = λ other below given. closed.given_ones other below (inside other below given);
    heads = closed.heads;
  })

  -- what is not unhoped for is hoped for
  pub AreAllHoped-stable : (given : ℕ → Type 0) → ((AreAllHoped kit state given → ⊥) → ⊥) → AreAllHoped kit state given
  AreAllHoped-stable given not_none =
      λ attribute within flags closed. elim (cases_Bool (get_or flags attribute false)) [
        | inl flagged ↦ flagged
        | inr clear ↦ absurd (not_none (λ all. let told = all attribute within flags closed in cc))
      ]

  -- whether an attribute is covered
  pub decide_covered : (attribute : ℕ) → IsCovered state attribute ⊎ (IsCovered state attribute → ⊥)
  decide_covered attribute = elim (cases_Bool (is_covering (cell_at state attribute))) [
    | inl covered ↦ inl covered
    | inr not_covered ↦ inr (λ covered. cc)
  ]

  module _ (need : List ℕ) (is_need : IsNeed kit state need) where
    -- the uncovered attributes before one, and the needed ones from it on
    IsFrom : ℕ → ℕ → Type 0
    IsFrom first other = ((other < first) × ¬ IsCovered state other) ⊎ ((first ≤ other) × Contains need other)

    -- from each attribute on they are enough
    enough_from : (gap first : ℕ) → first + gap ≡ kit.width → AreAllHoped kit state (IsFrom first)
    unfolding IsFrom
    enough_from zero first last = λ attribute within flags closed. elim (decide_covered attribute) [
      | inl covered ↦ closed.covered attribute covered
      | inr uncovered ↦ closed.given_ones attribute within (inl (omega (arith, last, within), uncovered))
    ]
    enough_from (suc gap) first more = let later = enough_from gap (first + 1) (omega (arith, more)) in
        let move : (covered_or_needed : IsCovered state first ⊎ Contains need first)
        → AreAllHoped kit state (IsFrom first) =
        λ known. AreAllHoped-more (IsFrom (first + 1)) (IsFrom first) (λ other below given. elim given [
          | inr needed ↦ inr (omega (arith, needed.0), needed.1)
          | inl open_one ↦ elim (cases_Bool (eqb other first)) [
            | inr differs ↦ let apart = eqb-false other first differs in inl
                (omega (arith, open_one.0, apart), open_one.1)
            | inl same ↦
                let is : other ≡ first = eqb-true other first same in
                elim known [
                  | inl covered ↦ absurd (open_one.1 (rw is covered))
                  | inr needed ↦ inr (omega (arith, is), rw is needed)
                ]
          ]
        ]) later in
        elim (decide_listed need first) [
          | inl needed ↦ move (inr needed)
          | inr not_needed ↦ elim (decide_covered first) [
            | inl covered ↦ move (inl covered)
            | inr uncovered ↦ AreAllHoped-more (IsGivenWithout state need first) (IsFrom first)
                (λ other below given. elim given [
                  | inl before ↦ inl before
                  | inr following ↦ inr (omega (arith, following.0), following.1)
                ]) (AreAllHoped-stable (IsGivenWithout state need first)
                (λ missed. not_needed ((is_need.each first).1 (record {
                  within = omega (arith, more);
                  uncovered = uncovered;
                  missed = missed;
                }))))
          ]
        ]

    -- so the need is enough
    pub need-enough : AreAllHoped kit state (Contains need)
    unfolding IsFrom
    need-enough = AreAllHoped-more (IsFrom 0) (Contains need) (λ other below given. elim given [
      | inl none ↦ absurd (let h = none.0 in omega (arith, h))
      | inr needed ↦ needed.1
    ]) (enough_from kit.width 0 (omega arith))

    -- and without any one of its members it is not
    pub need-least : (attribute : ℕ) → Contains need attribute
        → AreAllHoped kit state (λ other. Contains need other × (other ≢ attribute)) → ⊥
    need-least attribute needed all = ((is_need.each attribute).0 needed).missed
        (AreAllHoped-more (λ other. Contains need other × (other ≢ attribute)) (IsGivenWithout state need attribute)
        (λ other below given.
        elim (decide_less other attribute) [
          | inl before ↦ inl (before, ((is_need.each other).0 given.0).uncovered)
          | inr not_before ↦ let apart = given.1 in inr (omega (arith, not_before, apart), given.0)
        ]) all)
