use Rattle.std.proofs.Common.{◌++◌, ◌∷◌, [], ◌∙◌, ℕ, List, ap, sym, take, add-one}
use Rattle.std.proofs.lemmas.Str.{is_utf8-from_IsUtf8}
use Rattle.desk_base.proofs.Utf8.{is_utf8-other}
use Rattle.desk_base.specs.Texts.{bytes_of}
use Rattle.desk_base.proofs.Slices.{take-texts}
use Rattle.master_rows.proofs.Records.{list_all-other, list_all-next}
use Rattle.sheet_clean.proofs.fields.texts_of.Goals as goal

pub returns-in-Err-clause-utf8 : goal.returns-in-Err-clause-utf8
returns-in-Err-clause-utf8 c =
    sym (list_all-other c.args.fields.now c.fields.field-index _ c.fields-test.true
    (is_utf8-other _ c.in-Err.ensures.cases.0))

pub fields-preserved : goal.fields-preserved
fields-preserved c = record {
  taken = rw (c.in_ok-push-in-Ok.ensures.pushed, c.in_ok-new-in-Ok.ensures, add-one c.fields.field-index)
      (ap (λ (front : List (List ℕ)). front ++ c.in-Ok.text.now ∷ []) c.fields.invariant.taken
      ∙ ap (λ (text : List ℕ). take c.fields.field-index (bytes_of c.args.fields.now) ++ text ∷ [])
      c.in-Ok.ensures.cases.0
      ∙ sym (take-texts c.args.fields.now c.fields.field-index _ c.fields-test.true));
  utf8 = list_all-next c.args.fields.now c.fields.field-index _ c.fields-test.true c.fields.invariant.utf8
      (is_utf8-from_IsUtf8 _ c.in-Ok.ensures.cases.1);
}
