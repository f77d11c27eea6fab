-- Each key with rows that contradict each other has its contradiction.
use Rattle.std.proofs.Common.{◌≡◌, ◌∙◌, [], ℕ, inl, inr, List, sym, refl, arith}
use Rattle.std.specs.Prelude.{Any}
use Rattle.fix_model.specs.declared.kit.Kit.{Kit}
use Rattle.fix_model.specs.declared.rule.Rule.{Rule}
use Rattle.fix_model.specs.declared.state.State.{State}
use Rattle.fix_model.specs.Alike.{AreAlike}
use Rattle.fix_model.specs.Application.{IsUsable, RowAgrees}
use Rattle.fix_model.specs.Rules.{from_text, is_folded, master_text}
use Rattle.fix_model.proofs.Deciding.{Decided, both, decide_alike, decide_all, decide_equal, decide_usable, opposite}
use Rattle.rule_contradictions.specs.declared.contradiction.Contradiction.{Contradiction}
use Rattle.rule_contradictions.specs.Contradictions.{AgreeOnKeys, AreContradictions, Contradict, IsContradiction}
use Rattle.rule_contradictions.proofs.Least.{least_of}

module _ (kit : Kit) (rule : Rule) where
  -- whether two rows agree on the keys can be decided
  pub decide_agree : (row other : ℕ) → Decided (AgreeOnKeys kit rule row other)
  decide_agree row other =
      let none : State = record { typed = []; cells = [] } in
      let alike = λ (key : ℕ × ℕ). AreAlike (is_folded kit key.0) (master_text kit rule row key.1)
      (master_text kit rule other key.1) in
      elim (both (both (decide_usable kit none rule row) (decide_usable kit none rule other)) (decide_all alike
      (λ key. decide_alike (is_folded kit key.0) (master_text kit rule row key.1) (master_text kit rule other key.1))
      rule.keys)) [
        | inl ((usable, other_usable), are) ↦ inl (record {
          usable = usable;
          other_usable = other_usable;
          alike = are;
        })
        | inr not_both ↦ inr (λ agree. not_both ((agree.usable, agree.other_usable), agree.alike))
      ]

  -- so can whether they contradict each other
  pub decide_contradict : (row other : ℕ) → Decided (Contradict kit rule row other)
  decide_contradict row other = elim (both (decide_agree row other)
      (opposite (decide_equal (from_text kit rule other) (from_text kit rule row)))) [
        | inl (agree, differ) ↦ inl (record { agree = agree; differ = differ })
        | inr not_both ↦ inr (λ contradict. not_both (contradict.agree, contradict.differ))
      ]

  -- a usable row agrees with itself
  pub agree-self : (row : ℕ) → IsUsable kit rule row → AgreeOnKeys kit rule row row
  agree-self row usable = record { usable = usable; other_usable = usable; alike = λ k d within. refl }

  -- what agrees with a row agrees the other way round
  pub agree-sym : (row other : ℕ) → AgreeOnKeys kit rule row other → AgreeOnKeys kit rule other row
  agree-sym row other agree = record {
    usable = agree.other_usable;
    other_usable = agree.usable;
    alike = λ k d within. sym (agree.alike k d within);
  }

  -- and on to a third
  pub agree-trans : (row other third : ℕ) → AgreeOnKeys kit rule row other → AgreeOnKeys kit rule other third
      → AgreeOnKeys kit rule row third
  agree-trans row other third one two = record {
    usable = one.usable;
    other_usable = two.other_usable;
    alike = λ k d within. one.alike k d within ∙ two.alike k d within;
  }

  -- the contradiction of the key of two rows that contradict each other
  pub contradiction_of : (row other : ℕ) → Contradict kit rule row other
      → (it : Contradiction) × IsContradiction kit rule it × AgreeOnKeys kit rule it.row row
  contradiction_of row other contradict =
      let (first, is_first) = least_of (λ (one : ℕ). AgreeOnKeys kit rule row one) (decide_agree row) row
      (agree-self row contradict.agree.usable) in
      let back = agree-sym row first is_first.has in
      let some : (one : ℕ) × Contradict kit rule first one =
      elim (decide_equal (from_text kit rule row) (from_text kit rule first)) [
        | inr differ ↦ (row, record { agree = back; differ = differ })
        | inl same ↦ (
          other,
          record {
            agree = agree-trans first row other back contradict.agree;
            differ = λ is. contradict.differ (is ∙ sym same);
          },
        )
      ] in
      let (second, is_second) = least_of (λ (one : ℕ). Contradict kit rule first one) (decide_contradict first) some.0
      some.1 in (
        record { row = first; other_row = second },
        record {
          contradict = is_second.has;
          first = λ one agree. is_first.least one (agree-trans row first one is_first.has agree);
          least = is_second.least;
        },
        back,
      )

  -- so it is told
  pub contradiction-told : (row other : ℕ) (found : List Contradiction) → Contradict kit rule row other
      → AreContradictions kit rule found → Any (λ it. AgreeOnKeys kit rule it.row row) found
  contradiction-told row other found contradict are =
      let (it, is, agree) = contradiction_of row other contradict in
      let (place, within, there) = (are.each it).1 is in
      (place, it, within, there, agree)

  -- where none is told, rows that agree with the same values give one text
  pub none-one_text : (values : ℕ → List ℕ) (row other : ℕ) → AreContradictions kit rule []
      → RowAgrees kit values rule row → RowAgrees kit values rule other
      → from_text kit rule row ≡ from_text kit rule other
  none-one_text values row other none agrees others =
      elim (decide_equal (from_text kit rule row) (from_text kit rule other)) [
        | inl same ↦ same
        | inr differ ↦
            let agree : AgreeOnKeys kit rule other row = record {
              usable = others.usable;
              other_usable = agrees.usable;
              alike = λ k d within. sym (others.alike k d within) ∙ agrees.alike k d within;
            } in
            let told = contradiction-told other row [] (record { agree = agree; differ = differ }) none in
            absurd (omega (arith, told.2))
      ]
