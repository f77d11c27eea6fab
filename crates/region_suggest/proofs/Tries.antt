-- Attributes are tested from the last to the first.
use Rattle.std.proofs.Common.{◌≡◌, ◌≢◌, ◌⊎◌, ◌<◌, ◌+◌, ◌∙◌, ℕ, Bool, true, false, not, List, get_or}
use Rattle.std.proofs.Common.{set, length, length-set, replicate, eqb, eqb-true, refl, sym, ap, inl}
use Rattle.std.proofs.Common.{inr, arith}
use Rattle.std.specs.Prelude.{◌↔◌, IsTrue}
use Rattle.std.proofs.lemmas.Bool.{cases_Bool, eqb-false}
use Rattle.std.proofs.lemmas.List.{get_or-replicate, get_or-set_same, get_or-set_other}
use Rattle.std.proofs.lemmas.List.{get_or_default, length-replicate}
use Rattle.fix_engine.proofs.Listing.{ListsBelow}
use Rattle.fix_model.specs.declared.kit.Kit.{Kit}
use Rattle.fix_model.specs.declared.state.State.{State}
use Rattle.fix_model.specs.States.{Fits, IsCovered}
use Rattle.fix_model.proofs.Deciding.{decide_less}
use Rattle.fix_engine.specs.Flags.{IsFlagged}
use Rattle.region_suggest.specs.declared.dependencies.Dependencies.{Dependencies}
use Rattle.region_suggest.specs.Hope.{AreAllHoped}
use Rattle.region_suggest.specs.Need.{IsGivenWithout, IsNeed}
use Rattle.region_suggest.specs.Openings.{AreOpenings}
use Rattle.region_suggest.specs.Trying.{AreTried, IsGivenAt, IsTested}
use Rattle.region_suggest.proofs.Hopes.{IsClosure-IsHoped}
use Rattle.region_suggest.proofs.Needs.{AreAllHoped-more, decide_covered}

-- which attributes are given where one is tested hangs on the flags after it alone
IsGivenAt-same : (state : State) (flags later : List Bool) (attribute : ℕ)
    → ((other : ℕ) → attribute < other → get_or later other false ≡ get_or flags other false)
    → (width other : ℕ) → other < width → IsGivenAt state flags attribute other → IsGivenAt state later attribute other
IsGivenAt-same state flags later attribute same width other below (inl before) = inl before
IsGivenAt-same state flags later attribute same width other below (inr (after, (flagged, open_there))) =
    inr (after, (same other after ∙ flagged, open_there))

module _ (kit : Kit) (state : State) where
  -- all attributes are given where none is tested yet
  pub AreTried-all : (flags : List Bool) → flags ≡ replicate kit.width true → AreTried kit state kit.width flags
  AreTried-all flags all =
      let flagged : (attribute : ℕ) → attribute < kit.width → IsFlagged flags attribute =
      λ attribute within. rw all (get_or-replicate kit.width attribute true false within) in
      record {
        whole = ap length all ∙ length-replicate kit.width true;
        before = flagged;
        covered = λ attribute within covered. flagged attribute within;
        each = λ attribute past within uncovered. absurd (omega (arith, past, within));
      }

  -- a covered attribute is not tested
  pub AreTried-covered : (first : ℕ) (flags : List Bool) → IsCovered state first → AreTried kit state (first + 1) flags
      → AreTried kit state first flags
  AreTried-covered first flags covered tried = record {
    whole = tried.whole;
    before = λ attribute below. tried.before attribute (omega (arith, below));
    covered = tried.covered;
    each = λ attribute past within uncovered. elim (cases_Bool (eqb attribute first)) [
      | inl same ↦ absurd (uncovered (rw (eqb-true attribute first same) covered))
      | inr differs ↦ let apart = eqb-false attribute first differs in tried.each attribute (omega (arith, past, apart))
          within uncovered
    ];
  }

  module _ (made : Dependencies) (fits : Fits kit state) (openings : AreOpenings kit state (length kit.rules) made)
      (first : ℕ) (flags later : List Bool)
      (within_first : first < kit.width) (uncovered_first : IsCovered state first → ⊥)
      (tried : AreTried kit state (first + 1) flags)
      (tested : IsTested made flags later first) where
    cleared : List Bool
    cleared = set flags first false

    -- the attribute has what was told
    written_here : get_or later first false ≡ not tested.told
    unfolding cleared
    written_here = rw tested.written (get_or-set_same (set flags first false) first (not tested.told) false
        (rw (length-set, tried.whole) within_first))

    -- and the others stay
    written_other : (other : ℕ) → other ≢ first → get_or later other false ≡ get_or flags other false
    unfolding cleared
    written_other other apart = rw tested.written
        (get_or-set_other (set flags first false) first other (not tested.told) false apart
        ∙ get_or-set_other flags first other false false apart)

    -- what was given in the test are the covered attributes and those given where the attribute is tested
    given_there : (attribute : ℕ) → attribute < kit.width
        → IsFlagged (set flags first false) attribute
        ↔ (IsCovered state attribute ⊎ IsGivenAt state later first attribute)
    given_there attribute within = elim (cases_Bool (eqb attribute first)) [
      | inl same ↦
          let is : attribute ≡ first = eqb-true attribute first same in (
            (λ flagged. absurd (let clear = get_or-set_same flags first false false (rw tried.whole within_first) in
                let told = rw is at flagged in let clash = sym clear ∙ told in cc)),
            λ given. elim given [
              | inl covered ↦ absurd (uncovered_first (rw is at covered))
              | inr there ↦ elim there [
                | inl before ↦ absurd (let h = before.0 in omega (arith, h, is))
                | inr following ↦ absurd (let h = following.0 in omega (arith, h, is))
              ]
            ],
          )
      | inr differs ↦
          let apart : attribute ≢ first = eqb-false attribute first differs in
          let read : get_or (set flags first false) attribute false ≡ get_or flags attribute false =
          get_or-set_other flags first attribute false false apart in
          let kept = written_other attribute apart in (
            (λ flagged. elim (decide_covered kit state attribute) [
              | inl covered ↦ inl covered
              | inr uncovered ↦ inr (elim (decide_less attribute first) [
                | inl before ↦ inl (before, uncovered)
                | inr not_before ↦ inr (omega (arith, not_before, apart), (kept ∙ sym read ∙ flagged, uncovered))
              ])
            ]),
            λ given. read ∙ elim given [
              | inl covered ↦ tried.covered attribute within covered
              | inr there ↦ elim there [
                | inl before ↦ let h = before.0 in tried.before attribute (omega (arith, h))
                | inr (after, (flagged, open_there)) ↦ sym kept ∙ flagged
              ]
            ],
          )
    ]

    -- so it was told whether all is hoped for
    told_hoped : IsTrue tested.told ↔ AreAllHoped kit state (IsGivenAt state later first)
    told_hoped = let is_closure = tested.is_told.is_closure in
        let closure = tested.is_told.closure in
        let hoped = IsClosure-IsHoped kit state made (set flags first false) closure (IsGivenAt state later first) fits
        openings is_closure
        (length-set flags first false ∙ tried.whole) given_there in (
          (λ told attribute within. (hoped attribute).0
              (tested.is_told.all.0 told attribute false (rw (is_closure.whole, openings.wide) within))),
          λ all. tested.is_told.all.1 (λ k d h.
              let below : k < kit.width = rw (is_closure.whole, openings.wide) at h in
              get_or_default closure k d false h ∙ (hoped k).1 (all k below)),
        )

    pub AreTried-tested : AreTried kit state first later
    AreTried-tested = record {
      whole = ap length tested.written ∙ length-set (set flags first false) first (not tested.told)
          ∙ length-set flags first false ∙ tried.whole;
      before = λ attribute below. let apart : attribute ≢ first = omega (arith, below) in
          written_other attribute apart ∙ tried.before attribute (omega (arith, below));
      covered = λ attribute within covered. elim (cases_Bool (eqb attribute first)) [
        | inl same ↦ absurd (uncovered_first (rw (eqb-true attribute first same) at covered))
        | inr differs ↦ written_other attribute (eqb-false attribute first differs)
            ∙ tried.covered attribute within covered
      ];
      each = λ attribute past within uncovered. elim (cases_Bool (eqb attribute first)) [
        | inl same ↦
            rw (eqb-true attribute first same) (
              (λ flagged all. let told = told_hoped.1 all in let here = sym written_here
                  ∙ flagged in flag_clash tested.told told here),
              λ missed. written_here ∙ flag_set tested.told (λ told. missed (told_hoped.0 told)),
            )
        | inr differs ↦
            let apart : attribute ≢ first = eqb-false attribute first differs in
            let was = tried.each attribute (omega (arith, past, apart)) within uncovered in
            let kept = written_other attribute apart in
            let same : (other : ℕ) → attribute < other → get_or later other false ≡ get_or flags other false =
            λ other after. written_other other (omega (arith, after, past)) in
            let move = IsGivenAt-same state flags later attribute same kit.width in
            let back = IsGivenAt-same state later flags attribute (λ other after. sym (same other after)) kit.width in (
              (λ flagged all. was.0 (sym kept ∙ flagged)
                  (AreAllHoped-more kit state (IsGivenAt state later attribute) (IsGivenAt state flags attribute) back
                  all)),
              λ missed. kept ∙ was.1 (λ all. missed (AreAllHoped-more kit state (IsGivenAt state flags attribute)
                  (IsGivenAt state later attribute) move all)),
            )
      ];
    }
      where
        flag_clash : (told : Bool) → told ≡ true → not told ≡ true → ⊥
        flag_clash told is_set negated = let clash : not true ≡ true = rw is_set at negated in cc

        flag_set : (told : Bool) → (told ≡ true → ⊥) → not told ≡ true
        flag_set told unset = elim (cases_Bool told) [
          | inl is_set ↦ absurd (unset is_set)
          | inr clear ↦ rw clear refl
        ]

-- what is flagged and not covered, where all are tested, is the need
pub IsNeed-tried : (kit : Kit) (state : State) (flags : List Bool) (need : List ℕ) → AreTried kit state 0 flags
    → ListsBelow (λ attribute. IsFlagged flags attribute × ¬ IsCovered state attribute) kit.width need
    → IsNeed kit state need
IsNeed-tried kit state flags need tried lists =
    let into : (attribute other : ℕ) → other < kit.width → IsGivenAt state flags attribute other
    → IsGivenWithout state need attribute other =
    λ attribute other below given. elim given
    [ inl before ↦ inl before | inr following ↦ inr (following.0, (lists.each other).1 (below, following.1)) ] in
    let out_of : (attribute other : ℕ) → other < kit.width → IsGivenWithout state need attribute other
    → IsGivenAt state flags attribute other =
    λ attribute other below given. elim given
    [ inl before ↦ inl before | inr following ↦ inr (following.0, ((lists.each other).0 following.1).1) ] in
    record {
      in_order = lists.in_order;
      each = λ attribute. (
        (λ h.
            let (within, (flagged, uncovered)) = (lists.each attribute).0 h in
            record {
              within = within;
              uncovered = uncovered;
              missed = λ all. (tried.each attribute (omega arith) within uncovered).0 flagged
                  (AreAllHoped-more kit state (IsGivenWithout state need attribute) (IsGivenAt state flags attribute)
                  (out_of attribute) all);
            }),
        λ needed. (lists.each attribute).1 (
          needed.within,
          (
            (tried.each attribute (omega arith) needed.within needed.uncovered).1
                (λ all. needed.missed (AreAllHoped-more kit state (IsGivenAt state flags attribute)
                (IsGivenWithout state need attribute) (into attribute) all)),
            needed.uncovered,
          ),
        ),
      );
    }
