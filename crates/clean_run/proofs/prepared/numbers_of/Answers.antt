use Rattle.std.proofs.Common.{◌≡◌, ◌++◌, ◌∷◌, [], true, false, rules, sym, ap, ◌∙◌}
use Rattle.std.proofs.lemmas.List.{append-nil}
use Rattle.std.specs.Prelude.{slice_index_or}
use Rattle.clean_run.proofs.Places.{places-next}
use Rattle.clean_run.proofs.prepared.numbers_of.Goals.{then-flags-from+in_ok-push, else-flags-from}
use Rattle.clean_run.proofs.prepared.numbers_of.Goals as goal

pub places-preserved : goal.places-preserved
places-preserved c =
    let flags = c.args.flags.now in
    let place = c.places.place in
    elim c.if-flags-from.branch [
      | then-flags-from+in_ok-push w ↦ let here : slice_index_or flags place false ≡ true = search rules in
          w.numbers-is ∙ w.in_ok-push.ensures.pushed ∙ ap (λ before. before ++ place ∷ []) c.places.invariant
          ∙ sym (places-next flags place true here)
      | else-flags-from w ↦ let here : slice_index_or flags place false ≡ false = search rules in
          w.numbers-is ∙ c.places.invariant ∙ sym (append-nil _) ∙ sym (places-next flags place false here)
    ]
