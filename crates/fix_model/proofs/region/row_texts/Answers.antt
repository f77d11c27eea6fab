use Rattle.std.proofs.Common.{◌∙◌, ◌+◌, ℕ, [], ◌∷◌, ◌++◌, ap, sym, length, length-append}
use Rattle.std.specs.Prelude.{unwrap_or}
use Rattle.fix_model.specs.Regions.{row_texts, text_for}
use Rattle.fix_model.proofs.Ranges.{map-range-suc}
use Rattle.fix_model.proofs.region.row_texts.Goals as goal

pub attributes-preserved : goal.attributes-preserved
attributes-preserved c =
    let attributes = c.args.attributes.now in
    let texts = c.args.texts.now in
    let place = c.attributes.attribute in
    let text = c.in_ok-copy_for.field-0 in
    let pushed = c.in_ok-push.ensures.pushed in
    record {
      texts = pushed
          ∙ ap (λ typed. typed ++ text ∷ []) c.attributes.invariant.texts
          ∙ ap (λ one. row_texts place attributes texts ++ one ∷ []) c.in_ok-copy_for.ensures
          ∙ sym (map-range-suc (λ (attribute : ℕ). unwrap_or (text_for attributes texts attribute) []) place);
      whole = ap length pushed ∙ length-append c.attributes.typed (text ∷ [])
          ∙ ap (λ n. n + 1) c.attributes.invariant.whole;
    }
