use Rattle.std.proofs.Common.{◌∙◌, sym}
use Rattle.master_rows.proofs.Records.{list_all-next, list_all-other}
use Rattle.sheet_clean.proofs.fields.are_texts.Goals as goal

pub returns-then-not-is_utf8 : goal.returns-then-not-is_utf8
returns-then-not-is_utf8 c = sym (list_all-other c.args.fields.now c.fields.field-index _ c.fields-test.true
    (sym c.is_utf8.ensures ∙ c.if-not-is_utf8.true))

pub fields-preserved : goal.fields-preserved
fields-preserved c = list_all-next c.args.fields.now c.fields.field-index _ c.fields-test.true c.fields.invariant
    (sym c.is_utf8.ensures ∙ c.if-not-is_utf8.false)
