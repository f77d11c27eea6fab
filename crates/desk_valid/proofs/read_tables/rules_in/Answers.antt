use Rattle.std.proofs.Common.{◌≡◌, ◌∙◌, sym, Some, None}
use Rattle.rule_text.specs.Reading.{read_rules}
use Rattle.desk_words.specs.Tables.{published_of, rows_of}
use Rattle.desk_valid.specs.Readings.{read}
use Rattle.desk_valid.proofs.Readings.{IsSchema-at, rules_in-read, schema_at-found}
use Rattle.desk_valid.proofs.read_tables.rules_in.Goals as goal

pub rulebook_in-requires : goal.rulebook_in-requires
rulebook_in-requires c =
    IsSchema-at (published_of (rows_of c.args.tables.now)) c.args.row.now.schema c.in-Some.schema.now
    (schema_at-found (published_of (rows_of c.args.tables.now)) c.args.schemas.now c.args.row.now.schema
    c.in-Some.schema.now c.requires c.in-Some.ensures)

pub returns-in_default-2 : goal.returns-in_default-2
returns-in_default-2 c =
    let told : None ≡ read (read_rules c.args.row.now.body c.in-Some.schema.now) = sym c.in_default-2.is
    ∙ c.in_ok-rulebook.ensures in
    rules_in-read (published_of (rows_of c.args.tables.now)) c.args.row.now c.in-Some.schema.now None
    (schema_at-found (published_of (rows_of c.args.tables.now)) c.args.schemas.now c.args.row.now.schema
    c.in-Some.schema.now c.requires c.in-Some.ensures) told

pub returns : goal.returns
returns c =
    let told : Some c.in-Some-2.rulebook ≡ read (read_rules c.args.row.now.body c.in-Some.schema.now) = sym
    c.in-Some-2.is ∙ c.in_ok-rulebook.ensures in
    rw c.in_ok-copy.ensures.copied
    (rules_in-read (published_of (rows_of c.args.tables.now)) c.args.row.now c.in-Some.schema.now
    (Some c.in-Some-2.rulebook)
    (schema_at-found (published_of (rows_of c.args.tables.now)) c.args.schemas.now c.args.row.now.schema
    c.in-Some.schema.now c.requires c.in-Some.ensures) told)
