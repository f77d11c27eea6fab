-- What a schema is.
use Rattle.std.specs.Prelude.{◌≤◌, ◌≢◌, length, All, AllPairs, IsTrue}
use Rattle.desk_base.specs.declared.limits.TheConstants.{MAX_ATTRIBUTES}
use Rattle.desk_base.specs.Words.{is_name, is_word}
use Rattle.schema_core.specs.declared.schema.Schema.{Schema}

-- the name is a name, and there are 1 to 48 attributes, distinct words
pub record IsSchema (schema : Schema) : Type 0 where
  pub named : IsTrue (is_name schema.name)
  pub some : 1 ≤ length schema.attributes
  pub fits : length schema.attributes ≤ MAX_ATTRIBUTES
  pub words : All (λ attribute. IsTrue (is_word attribute)) schema.attributes
  pub distinct : AllPairs (λ earlier later. earlier ≢ later) schema.attributes
