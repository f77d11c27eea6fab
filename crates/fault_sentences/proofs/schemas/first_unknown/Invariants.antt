use Rattle.std.proofs.Common.{◌≡◌, map, string_bytes}
use Rattle.std.specs.Prelude.{find, not, unwrap_or, []}
use Rattle.toml.specs.View.{table_view}
use Rattle.schema_core.specs.Reading.{is_known_key}
use Rattle.fault_sentences.specs.Schemas.{first_unknown}
use Rattle.fault_sentences.proofs.schemas.first_unknown.Given as goal

abbrev pub invariant-keys : goal.invariant-keys
invariant-keys l = first_unknown (table_view l.document)
    ≡ unwrap_or (find (λ key. not (is_known_key key)) (map string_bytes l.key-iterator)) []
