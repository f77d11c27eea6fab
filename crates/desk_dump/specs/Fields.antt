-- What a dump has of each row after its places: its fields, in order, in JSON (docs/formats.md, Dumps).
use Rattle.std.specs.Prelude.{ℕ, Bool, List, [], ◌∷◌, map, if◌then◌else◌}
use Rattle.std.specs.Str.{is_utf8}
use Rattle.serde_json.specs.Data.{Data, boolean, string}
use Rattle.json_parts.specs.Shapes.{list_of, whole}
use Rattle.desk_words.specs.declared.rows.batch.BatchRow.{BatchRow}
use Rattle.desk_words.specs.declared.rows.clerk.ClerkRow.{ClerkRow}
use Rattle.desk_words.specs.declared.rows.edition.EditionRow.{EditionRow}
use Rattle.desk_words.specs.declared.rows.record.RecordRow.{RecordRow}
use Rattle.desk_words.specs.declared.rows.region.RegionRow.{RegionRow}
use Rattle.desk_words.specs.declared.rows.rulebook.RulebookRow.{RulebookRow}
use Rattle.desk_words.specs.declared.rows.session.SessionRow.{SessionRow}
use Rattle.desk_words.specs.declared.rows.text.TextRow.{TextRow}
use Rattle.desk_words.specs.Words.{act_word, stage_word}

-- numbers
abbrev pub numbers_shown : List ℕ → Data
numbers_shown numbers = list_of (map whole numbers)

-- texts
abbrev pub texts_shown : List (List ℕ) → Data
texts_shown texts = list_of (map string texts)

-- flags
abbrev pub flags_shown : List Bool → Data
flags_shown flags = list_of (map boolean flags)

-- what was published: a string where it is UTF-8, else its bytes as numbers
abbrev pub body_shown : List ℕ → Data
body_shown body = if is_utf8 body then string body else numbers_shown body

-- a caller
abbrev pub clerk_fields : ClerkRow → List Data
clerk_fields row =
    string row.name ∷ whole row.last ∷ numbers_shown row.digest.bytes ∷ string (act_word row.act) ∷ whole row.target ∷ []

-- a schema or a master
abbrev pub text_fields : TextRow → List Data
text_fields row = string row.name ∷ whole row.version ∷ body_shown row.body ∷ []

-- a rulebook
abbrev pub rulebook_fields : RulebookRow → List Data
rulebook_fields row = string row.name ∷ whole row.version ∷ whole row.schema ∷ body_shown row.body ∷ []

-- an edition
abbrev pub edition_fields : EditionRow → List Data
edition_fields row =
    string row.name ∷ whole row.version ∷ whole row.rulebook ∷ numbers_shown row.masters ∷ numbers_shown row.folded ∷ []

-- a region
abbrev pub region_fields : RegionRow → List Data
region_fields row =
    whole row.edition ∷ numbers_shown row.region.attrs ∷ list_of (map texts_shown row.region.rows) ∷ []

-- a session
abbrev pub session_fields : SessionRow → List Data
session_fields row = whole row.edition ∷ texts_shown row.typed ∷ flags_shown row.confirmed
    ∷ string (stage_word row.stage) ∷ whole row.batch ∷ []

-- a record
abbrev pub record_fields : RecordRow → List Data
record_fields row = whole row.session ∷ texts_shown row.texts ∷ boolean row.certain ∷ []

-- a batch
abbrev pub batch_fields : BatchRow → List Data
batch_fields row = whole row.edition ∷ whole row.first ∷ whole row.count ∷ []
