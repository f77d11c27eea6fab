-- The schema `big`, and the TOML that it is sent as.
use Rattle.std.specs.Prelude.{ℕ, ◌/◌, ◌%◌, List, ◌++◌, map, codes, decimal}
use Rattle.std.specs.List.{range_with_len}
use Rattle.schema_core.specs.declared.schema.Schema.{Schema}
use Rattle.rule_text.specs.Printing.{listed}
use Rattle.desk_base.specs.Texts.{line}

-- the attribute with a number: `a` and two digits
abbrev pub attribute : ℕ → List ℕ
attribute number = codes "a" ++ decimal (number / 10) ++ decimal (number % 10)

-- the schema `big`, with the attributes a01 to a48
unfoldable pub big : Schema
big = record { name = codes "big"; attributes = map attribute (range_with_len 1 48) }

-- a text between quotes
abbrev pub quoted : List ℕ → List ℕ
quoted text = codes "\"" ++ text ++ codes "\""

-- a schema in two lines: its name, and its attributes
unfoldable pub schema_text : Schema → List ℕ
schema_text schema =
    line (codes "name = " ++ quoted schema.name)
    ++ line (codes "attributes = [" ++ listed (map quoted schema.attributes) ++ codes "]")
