use Rattle.std.proofs.Common.{◌≡◌, ◌∙◌, ◌++◌, ◌∷◌, [], ℕ, Bool, true, false, not, map, inl, inr, length}
use Rattle.std.proofs.Common.{length-append, ap, sym, arith}
use Rattle.std.proofs.lemmas.Bool.{cases_Bool}
use Rattle.std.proofs.lemmas.List.{map-append}
use Rattle.fix_model.specs.States.{cell_at, is_covering}
use Rattle.fix_model.proofs.Ranges.{filter-range-fails, filter-range-passes}
use Rattle.region_suggest.specs.Gains.{IsGain}
use Rattle.region_suggest.proofs.gaining.gains.Goals as goal
use Rattle.region_suggest.proofs.Lists.{each-push}
use Rattle.region_suggest.proofs.gaining.gains.Goals.{then-not-covers+in_ok-gain+in_ok-push, else-not-covers}

pub attributes-preserved : goal.attributes-preserved
attributes-preserved g c = let kit = g.B.Book.kit c.args.book.now in
    let state = c.args.state.now in
    let attribute : ℕ = c.attributes.attribute in
    let before = c.attributes.invariant in
    let test : ℕ → Bool = λ (one : ℕ). not (is_covering (cell_at state one)) in
    elim c.if-not-covers.branch [
      | then-not-covers+in_ok-gain+in_ok-push w ↦
          let pair : ℕ × ℕ = (attribute, w.in_ok-gain.gain) in
          let pushed : c.if-not-covers.gains ≡ c.attributes.gains ++ pair ∷ [] = w.gains-is
          ∙ w.in_ok-push.ensures.pushed in
          let passes : not (is_covering (cell_at state attribute)) ≡ true =
          elim (cases_Bool (is_covering (cell_at state attribute))) [
            | inl covered ↦ absurd (let told = c.covers.ensures.1 covered in let clash = w.if-not-covers.true in cc)
            | inr unset ↦ ap not unset
          ] in
          let here : IsGain kit state attribute w.in_ok-gain.gain = w.in_ok-gain.ensures in
          record {
            attributes = ap (map (λ (gain : ℕ × ℕ). gain.0)) pushed
                ∙ map-append (λ (gain : ℕ × ℕ). gain.0) c.attributes.gains (pair ∷ [])
                ∙ ap (λ some. some ++ attribute ∷ []) before.attributes
                ∙ sym (filter-range-passes test attribute passes);
            each = λ k d below. rw pushed (each-push (λ (n : ℕ) (one : ℕ × ℕ). IsGain kit state one.0 one.1)
                c.attributes.gains pair d
                (λ n h. before.each n d h) here k (omega
                (arith, below, ap length pushed, length-append c.attributes.gains (pair ∷ []))));
          }
      | else-not-covers w ↦
          let fails : not (is_covering (cell_at state attribute)) ≡ false =
          ap not (c.covers.ensures.0 w.if-not-covers.false) in
          record {
            attributes = ap (map (λ (gain : ℕ × ℕ). gain.0)) w.gains-is ∙ before.attributes
                ∙ sym (filter-range-fails test attribute fails);
            each = rw w.gains-is before.each;
          }
    ]
