use Rattle.std.proofs.Common.{◌≡◌, ℕ, List, Bor, ◌++◌, ◌∷◌, ◌∙◌, [], get_or, length, take, ap, sym, refl, add-one}
use Rattle.std.proofs.lemmas.List.{append_assoc, take_at}
use Rattle.desk_base.specs.Texts.{bytes_of}
use Rattle.desk_base.proofs.Slices.{take-texts}
use Rattle.desk_base.proofs.grid.push_texts.Goals as goal

pub returns-in_err-push-clause-begins : goal.returns-in_err-push-clause-begins
returns-in_err-push-clause-begins c =
    ap (take (length c.args.cells.now)) (c.in_err-push.ensures.unchanged ∙ c.texts.invariant)
    ∙ take_at c.args.cells.now (take c.texts.text-index (bytes_of c.args.texts.now)) (length c.args.cells.now) refl

pub texts-preserved : goal.texts-preserved
texts-preserved c =
    let texts = c.args.texts.now in
    let place = c.texts.text-index in
    let none : Bor (List ℕ) = record { ref_ptr = (0, 0); now = [] } in
    let text : Bor (List ℕ) = get_or texts place none in
    let grown : c.push.new.self ≡ c.texts.cells ++ text.now ∷ [] = c.in_ok-push.ensures.pushed in
    rw (add-one place) (grown ∙ ap (λ (cells : List (List ℕ)). cells ++ text.now ∷ []) c.texts.invariant
    ∙ append_assoc c.args.cells.now (take place (bytes_of texts)) (text.now ∷ [])
    ∙ ap (λ more. c.args.cells.now ++ more) (sym (take-texts texts place none c.texts-test.true)))
