use Rattle.std.proofs.Common.{rules, tests, ◌∙◌, sym, string_bytes}
use Rattle.std.proofs.lemmas.Iterator.Consumers.{YieldsList-from_rest}
use Rattle.std.proofs.lemmas.Iterator.Search.{all_from_yields_List}
use Rattle.std.specs.BTreeMap.{keys}
use Rattle.schema_core.specs.Reading.{is_known_key}
use Rattle.schema_core.proofs.Keys.{keys_known-view}
use Rattle.schema_core.proofs.reading.has_known_keys.Goals as goal

pub returns : goal.returns
returns c =
    all_from_yields_List (λ key. is_known_key (string_bytes key)) _ _ _ c.all.ensures.ran
    (YieldsList-from_rest (keys c.args.table.now) c.keys.ensures.rest) (λ x b q k. search (rules, tests))
    ∙ sym (keys_known-view c.args.table.now.entries)
