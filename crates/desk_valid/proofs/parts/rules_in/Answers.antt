use Rattle.std.proofs.Common.{◌≡◌, ◌∙◌, Some, None, sym, ap}
use Rattle.std.specs.Prelude.{option_and_then}
use Rattle.std.proofs.lemmas.Bool.{ltb-true}
use Rattle.rule_text.specs.Reading.{read_rules}
use Rattle.desk_words.specs.Tables.{published_of, rows_of}
use Rattle.desk_valid.specs.Readings.{read, schema_at, schema_in}
use Rattle.desk_valid.proofs.First.{slice_get-read}
use Rattle.desk_valid.proofs.Readings.{IsSchema-at, rules_in-read}
use Rattle.desk_valid.proofs.parts.rules_in.Goals as goal

pub rulebook_in-requires : goal.rulebook_in-requires
rulebook_in-requires c =
    let at : schema_at (published_of (rows_of c.args.tables.now)) c.args.row.now.schema ≡ Some c.in-Some-2.schema =
    ap (option_and_then schema_in) (slice_get-read c.as_slice.ensures (ltb-true _ _ (sym c.in-Some.ensures.lookup.0))
    c.in-Some.ensures.lookup.1)
    ∙ sym c.in_ok-schema.ensures ∙ c.in-Some-2.is in
    IsSchema-at (published_of (rows_of c.args.tables.now)) c.args.row.now.schema c.in-Some-2.schema at

pub returns-in_default-3 : goal.returns-in_default-3
returns-in_default-3 c =
    let at : schema_at (published_of (rows_of c.args.tables.now)) c.args.row.now.schema ≡ Some c.in-Some-2.schema =
    ap (option_and_then schema_in) (slice_get-read c.as_slice.ensures (ltb-true _ _ (sym c.in-Some.ensures.lookup.0))
    c.in-Some.ensures.lookup.1)
    ∙ sym c.in_ok-schema.ensures ∙ c.in-Some-2.is in
    let told : None ≡ read (read_rules c.args.row.now.body c.in-Some-2.schema) = sym c.in_default-3.is
    ∙ c.in_ok-rulebook.ensures in
    rules_in-read (published_of (rows_of c.args.tables.now)) c.args.row.now c.in-Some-2.schema None at told

pub returns : goal.returns
returns c =
    let at : schema_at (published_of (rows_of c.args.tables.now)) c.args.row.now.schema ≡ Some c.in-Some-2.schema =
    ap (option_and_then schema_in) (slice_get-read c.as_slice.ensures (ltb-true _ _ (sym c.in-Some.ensures.lookup.0))
    c.in-Some.ensures.lookup.1)
    ∙ sym c.in_ok-schema.ensures ∙ c.in-Some-2.is in
    let told : Some c.in-Some-3.rulebook ≡ read (read_rules c.args.row.now.body c.in-Some-2.schema) = sym
    c.in-Some-3.is ∙ c.in_ok-rulebook.ensures in
    rules_in-read (published_of (rows_of c.args.tables.now)) c.args.row.now c.in-Some-2.schema
    (Some c.in-Some-3.rulebook) at told
