use Rattle.std.proofs.Common.{◌∙◌, sym}
use Rattle.desk_words.specs.Tables.{published_of, rows_of}
use Rattle.desk_valid.proofs.Kits.{rules-read}
use Rattle.desk_valid.proofs.Named.{rules_at-sound}
use Rattle.desk_valid.proofs.published.rules_of.Goals as goal

pub unreachable-requires : goal.unreachable-requires
unreachable-requires c =
    let known = rules-read (rows_of c.args.tables.now) c.requires.valid c.args.place c.requires.place in
    c.in_default.not-Some known.0 (c.in_ok-rules.ensures ∙ known.1)

pub returns-clause-rules : goal.returns-clause-rules
returns-clause-rules c = sym c.in_ok-rules.ensures ∙ c.in-Some.is

pub returns-clause-schema : goal.returns-clause-schema
returns-clause-schema c =
    (rules_at-sound (published_of (rows_of c.args.tables.now)) c.args.place c.in-Some.rules
    (sym c.in_ok-rules.ensures ∙ c.in-Some.is)).0

pub returns-clause-rulebook : goal.returns-clause-rulebook
returns-clause-rulebook c =
    (rules_at-sound (published_of (rows_of c.args.tables.now)) c.args.place c.in-Some.rules
    (sym c.in_ok-rules.ensures ∙ c.in-Some.is)).1
