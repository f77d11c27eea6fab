-- The first condition that does not match: there is one at most, and one where not all match.
use Rattle.std.proofs.Common.{◌≡◌, ◌⊎◌, ◌++◌, ◌∷◌, ◌∙◌, [], ℕ, inl, inr, List, ap, sym, subst, refl}
use Rattle.std.specs.List.{AllByRecursion}
use Rattle.std.proofs.lemmas.List.Elements.{All-from_recursion, recursion_from_All}
use Rattle.fix_model.specs.declared.kit.Kit.{Kit}
use Rattle.fix_model.specs.declared.pattern.Pat.{Pat}
use Rattle.fix_model.specs.declared.rule.Rule.{Rule}
use Rattle.fix_model.specs.declared.state.State.{State}
use Rattle.fix_model.specs.Application.{AreMatched}
use Rattle.fix_model.specs.Rules.{is_folded}
use Rattle.fix_model.specs.States.{value_at}
use Rattle.fix_model.proofs.Deciding.{decide_match}
use Rattle.fix_blockers.specs.Blockers.{IsFirstUnmet, IsMet}

module _ (P : ℕ × Pat → Type 0) where
  -- conditions that meet it, and then one that does not
  pub record IsCut (items before : List (ℕ × Pat)) (item : ℕ × Pat) (later : List (ℕ × Pat)) : Type 0 where
    pub there : items ≡ before ++ item ∷ later
    pub met : AllByRecursion P before
    pub unmet : ¬ P item

  -- two such cuts have one item
  pub one_cut : (items before : List (ℕ × Pat)) (item : ℕ × Pat) (later others : List (ℕ × Pat)) (other : ℕ × Pat)
      (more : List (ℕ × Pat)) → IsCut items before item later → IsCut items others other more → item ≡ other
  one_cut items [] item later [] other more cut again =
      let same : item ∷ later ≡ other ∷ more = sym cut.there ∙ again.there in cc
  one_cut items [] item later (first ∷ others) other more cut again =
      let same : item ∷ later ≡ first ∷ (others ++ other ∷ more) = sym cut.there ∙ again.there in
      let head : item ≡ first = cc in
      absurd (cut.unmet (subst P (sym head) again.met.0))
  one_cut items (first ∷ before) item later [] other more cut again =
      let same : first ∷ (before ++ item ∷ later) ≡ other ∷ more = sym cut.there ∙ again.there in
      let head : first ≡ other = cc in
      absurd (again.unmet (subst P head cut.met.0))
  one_cut items (first ∷ before) item later (front ∷ others) other more cut again =
      let same : first ∷ (before ++ item ∷ later) ≡ front ∷ (others ++ other ∷ more) = sym cut.there ∙ again.there in
      let rest : before ++ item ∷ later ≡ others ++ other ∷ more = cc in
      one_cut (before ++ item ∷ later) before item later others other more
      (record { there = refl; met = cut.met.1; unmet = cut.unmet })
      (record { there = rest; met = again.met.1; unmet = again.unmet })

  -- a cut one item later
  abbrev Cut : List (ℕ × Pat) → Type 0
  Cut items = (before : List (ℕ × Pat)) × (item : ℕ × Pat) × (later : List (ℕ × Pat)) × IsCut items before item later

  -- where it can be decided of each item, all meet it, or there is a cut
  pub all_or_cut : ((item : ℕ × Pat) → P item ⊎ (¬ P item)) → (items : List (ℕ × Pat))
      → AllByRecursion P items ⊎ Cut items
  all_or_cut decide [] = inl tt
  all_or_cut decide (item ∷ items) = elim (decide item) [
    | inr unmet ↦ inr ([], item, items, record { there = refl; met = tt; unmet = unmet })
    | inl met ↦ elim (all_or_cut decide items) [
      | inl rest ↦ inl (met, rest)
      | inr (before, one, later, cut) ↦ inr (
        item ∷ before,
        one,
        later,
        record {
          there = ap (λ (l : List (ℕ × Pat)). item ∷ l) cut.there;
          met = (met, cut.met);
          unmet = cut.unmet;
        },
      )
    ]
  ]

  -- an item that does not meet it stands in a cut
  pub cut-not_all : (items before : List (ℕ × Pat)) (item : ℕ × Pat) (later : List (ℕ × Pat))
      → IsCut items before item later → ¬ AllByRecursion P items
  cut-not_all items [] item later cut all = cut.unmet (subst (AllByRecursion P) cut.there all).0
  cut-not_all items (first ∷ before) item later cut all = cut-not_all (before ++ item ∷ later) before item later
      (record { there = refl; met = cut.met.1; unmet = cut.unmet }) (subst (AllByRecursion P) cut.there all).1

module _ (kit : Kit) (state : State) (rule : Rule) where
  -- what is first unmet is a cut
  cut_of : (attribute : ℕ) (first : IsFirstUnmet kit state rule attribute)
      → IsCut (IsMet kit state) rule.conds first.before (attribute, first.pattern) first.later
  cut_of attribute first = record {
    there = first.there;
    met = recursion_from_All (IsMet kit state) first.before first.met;
    unmet = first.unmet;
  }

  -- there is one first condition that does not match, at most
  pub one_first_unmet : (attribute other : ℕ) → IsFirstUnmet kit state rule attribute
      → IsFirstUnmet kit state rule other → attribute ≡ other
  one_first_unmet attribute other first again = ap (λ (cond : ℕ × Pat). cond.0)
      (one_cut (IsMet kit state) rule.conds _ _ _ _ _ _ (cut_of attribute first) (cut_of other again))

  -- and none where all match
  pub no_first_unmet : (attribute : ℕ) → IsFirstUnmet kit state rule attribute
      → ¬ AreMatched kit (value_at kit state) rule
  no_first_unmet attribute first matched = cut-not_all (IsMet kit state) rule.conds _ _ _ (cut_of attribute first)
      (recursion_from_All (IsMet kit state) rule.conds matched)

  -- all match, or there is a first one that does not
  pub matched_or_unmet : AreMatched kit (value_at kit state) rule
      ⊎ ((attribute : ℕ) × IsFirstUnmet kit state rule attribute)
  matched_or_unmet = elim (all_or_cut (IsMet kit state)
      (λ (cond : ℕ × Pat). decide_match (is_folded kit cond.0) cond.1 (value_at kit state cond.0)) rule.conds) [
        | inl all ↦ inl (All-from_recursion (IsMet kit state) rule.conds all)
        | inr (before, item, later, cut) ↦ inr (
          item.0,
          record {
            before = before;
            pattern = item.1;
            later = later;
            there = cut.there;
            met = All-from_recursion (IsMet kit state) before cut.met;
            unmet = cut.unmet;
          },
        )
      ]
