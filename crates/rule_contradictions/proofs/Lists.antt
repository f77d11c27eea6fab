-- Every rule has its list of contradictions.
use Rattle.std.proofs.Common.{◌≡◌, ◌⊎◌, ◌<◌, ◌≤◌, ◌++◌, ◌∙◌, ◌∷◌, [], ℕ, zero, suc, inl, inr, List, sym}
use Rattle.std.proofs.Common.{subst, arith, length, get_or}
use Rattle.std.specs.Prelude.{AllPairs, Contains, ◌↔◌}
use Rattle.std.proofs.Math.Nat.{eq-or-lt_of_le}
use Rattle.std.proofs.lemmas.Bool.{cases_eq}
use Rattle.std.proofs.lemmas.List.Elements.{Contains-append_left, Contains-get_or, Contains-push, Contains-push_cases}
use Rattle.std.proofs.lemmas.List.Quantifiers.{all_pairs_push}
use Rattle.fix_model.specs.declared.kit.Kit.{Kit}
use Rattle.fix_model.specs.declared.rule.Rule.{Rule}
use Rattle.fix_model.specs.Rules.{master_of}
use Rattle.fix_model.proofs.Deciding.{decide_below}
use Rattle.rule_contradictions.specs.declared.contradiction.Contradiction.{Contradiction}
use Rattle.rule_contradictions.specs.Contradictions.{AgreeOnKeys, AreContradictions, Contradict, IsContradiction}
use Rattle.rule_contradictions.proofs.Keys.{agree-sym, contradiction_of, decide_contradict}

module _ (kit : Kit) (rule : Rule) where
  -- the contradictions whose first rows are below a bound
  record AreBelow (bound : ℕ) (found : List Contradiction) : Type 0 where
    in_order : AllPairs (λ earlier later. earlier.row < later.row) found
    each : (it : Contradiction) → Contains found it ↔ ((it.row < bound) × IsContradiction kit rule it)

  -- a row has one contradiction, as the first of its key
  one_at : (it other : Contradiction) → IsContradiction kit rule it → IsContradiction kit rule other
      → it.row ≡ other.row → it ≡ other
  one_at it other is again same =
      let up_to : it.other_row ≤ other.other_row = is.least other.other_row
      (subst (λ (row : ℕ). Contradict kit rule row other.other_row) (sym same) again.contradict) in
      let back : other.other_row ≤ it.other_row = again.least it.other_row
      (subst (λ (row : ℕ). Contradict kit rule row it.other_row) same is.contradict) in
      let row : it.other_row ≡ other.other_row = omega arith in
      λ i. record { row = same i; other_row = row i }

  -- a row is the first of a contradiction, or of none
  first_or_none : (row : ℕ) → ((it : Contradiction) × (it.row ≡ row) × IsContradiction kit rule it)
      ⊎ ((it : Contradiction) → it.row ≡ row → ¬ IsContradiction kit rule it)
  first_or_none row = elim (decide_below (λ other. Contradict kit rule row other) (decide_contradict kit rule row)
      (length (master_of kit rule).rows)) [
        | inr none ↦ inr (λ it same is. none it.other_row is.contradict.agree.other_usable.row_within
            (subst (λ (one : ℕ). Contradict kit rule one it.other_row) same is.contradict))
        | inl (other, within, contradict) ↦
            let (it, is, agree) = contradiction_of kit rule row other contradict in
            elim (cases_eq it.row row) [
              | inl same ↦ inl (it, same, is)
              | inr differ ↦ inr (λ one same again. differ (
                  let up_to : one.row ≤ it.row = again.first it.row
                  (agree-sym kit rule it.row one.row
                  (subst (λ (n : ℕ). AgreeOnKeys kit rule it.row n)
                  (sym same) agree)) in
                  let back : it.row ≤ row = is.first row agree in
                  omega (arith, up_to, back, same)))
            ]
      ]

  -- the contradictions below one row more
  list_below : (bound : ℕ) → (found : List Contradiction) × AreBelow bound found
  list_below zero = (
    [],
    record {
      in_order = λ i j d before within. absurd (omega (arith, within));
      each = λ it. (λ there. absurd (omega (arith, there.1)), λ is. absurd (omega (arith, is.0)));
    },
  )
  list_below (suc bound) =
      let (found, are) = list_below bound in
      elim (first_or_none bound) [
        | inr none ↦ (
          found,
          record {
            in_order = are.in_order;
            each = λ it. (
              λ there. let (below, is) = (are.each it).0 there in (omega (arith, below), is),
              λ (below, is). elim (eq-or-lt_of_le (let up_to : it.row ≤ bound = omega arith in up_to)) [
                | inl here ↦ absurd (none it here is)
                | inr earlier ↦ (are.each it).1 (earlier, is)
              ],
            );
          },
        )
        | inl (last, same, is_last) ↦ (
          found ++ last ∷ [],
          record {
            in_order = all_pairs_push (λ (earlier later : Contradiction). earlier.row < later.row) found last
                are.in_order (λ k d within. let (below, is) = (are.each (get_or found k d)).0 (Contains-get_or found k d within) in
                omega (arith, below, same));
            each = λ it. (
              λ there. elim (Contains-push_cases found last it there) [
                | inl earlier ↦ let (below, is) = (are.each it).0 earlier in (omega (arith, below), is)
                | inr here ↦ subst (λ (one : Contradiction). (one.row < suc bound) × IsContradiction kit rule one) here
                    (omega (arith, same), is_last)
              ],
              λ (below, is). elim (eq-or-lt_of_le (let up_to : it.row ≤ bound = omega arith in up_to)) [
                | inl here ↦ subst (Contains (found ++ last ∷ [])) (one_at last it is_last is (same ∙ sym here))
                    (Contains-push found last)
                | inr earlier ↦ Contains-append_left found (last ∷ []) it ((are.each it).1 (earlier, is))
              ],
            );
          },
        )
      ]

  -- and of all rows
  pub AreContradictions-some : (found : List Contradiction) × AreContradictions kit rule found
  AreContradictions-some =
      let (found, are) = list_below (length (master_of kit rule).rows) in (
        found,
        record {
          in_order = are.in_order;
          each = λ it. (
            λ there. ((are.each it).0 there).1,
            λ is. (are.each it).1 (is.contradict.agree.usable.row_within, is),
          );
        },
      )
