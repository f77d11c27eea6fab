use Rattle.std.proofs.Common.{◌∙◌, ℕ, ◌+◌, ◌<◌, [], ◌∷◌, ◌++◌, List, All, ap, subst, sym}
use Rattle.std.proofs.lemmas.List.{map_push}
use Rattle.std.proofs.lemmas.List.Elements.{All-tail}
use Rattle.machine_views.proofs.looks.derive.numbered.Goals as goal

pub rows-preserved : goal.rows-preserved
rows-preserved c =
    let row : ℕ × List (List ℕ) = (c.in-Some.row, c.in-Some.texts) in
    let counted : ℕ × List (List ℕ) → ℕ × List (List ℕ) = λ one. (one.0 + 1, one.1) in
    let few = subst (λ rows. All (λ one. one.0 < 20000) rows) c.in-Some.ensures.steps.0 c.rows.invariant.few in
    record {
      numbered = c.in_ok-push.ensures.pushed ∙ ap (λ rows. rows ++ counted row ∷ []) c.rows.invariant.numbered
          ∙ sym (map_push counted c.rows.yielded row);
      few = All-tail (λ one. one.0 < 20000) row c.next.new.self.rest.items few;
    }
