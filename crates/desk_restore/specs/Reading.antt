-- The changes that the lines of a dump tell: the row of each line is put.
use Rattle.std.specs.Prelude.{◌==◌, ℕ, List, [], ◌∷◌, ◌++◌, Option, Some, None, codes, if◌then◌else◌, option_map}
use Rattle.std.specs.List.{slice_split}
use Rattle.std.specs.Str.{bytes_eq}
use Rattle.serde_json.specs.Data.{Data}
use Rattle.serde_json.specs.Find.{as_bool, as_str}
use Rattle.json_parts.specs.Parts.{◌>>=◌, items_in, json_of, list_in, text_in, texts_in}
use Rattle.desk_words.specs.declared.change.Change.{Change}
use Rattle.desk_words.specs.declared.change.Change.TheVariants as change
use Rattle.desk_words.specs.declared.rows.text.TextRow.{TextRow}
use Rattle.desk_restore.specs.Parts.{act_in, body_in, digest_in, long_in, number_in, short_in, stage_in}

-- a caller at a place
abbrev pub clerk_in : List Data → Option Change
clerk_in (place ∷ name ∷ last ∷ digest ∷ deed ∷ target ∷ []) = do
  at ← number_in place
  text ← text_in name
  number ← long_in last
  sent ← digest_in digest
  did ← act_in deed
  goal ← number_in target
  Some (change.Clerk at (record { name = text; last = number; digest = sent; act = did; target = goal }))
clerk_in values = None

-- a schema or a master
abbrev pub text_row_in : List Data → Option TextRow
text_row_in (place ∷ name ∷ version ∷ body ∷ []) = do
  text ← text_in name
  number ← number_in version
  bytes ← body_in body
  Some (record { name = text; version = number; body = bytes })
text_row_in values = None

-- a rulebook
abbrev pub rulebook_in : List Data → Option Change
rulebook_in (place ∷ name ∷ version ∷ schema ∷ body ∷ []) = do
  text ← text_in name
  number ← number_in version
  over ← number_in schema
  bytes ← body_in body
  Some (change.Rulebook (record { name = text; version = number; schema = over; body = bytes }))
rulebook_in values = None

-- an edition
abbrev pub edition_in : List Data → Option Change
edition_in (place ∷ name ∷ version ∷ rulebook ∷ masters ∷ folded ∷ []) = do
  text ← text_in name
  number ← number_in version
  over ← number_in rulebook
  sheets ← list_in number_in masters
  attributes ← list_in short_in folded
  Some (change.Edition (record {
    name = text;
    version = number;
    rulebook = over;
    masters = sheets;
    folded = attributes;
  }))
edition_in values = None

-- a region
abbrev pub region_in : List Data → Option Change
region_in (place ∷ edition ∷ attributes ∷ rows ∷ []) = do
  over ← number_in edition
  attrs ← list_in short_in attributes
  texts ← list_in texts_in rows
  Some (change.Region (record { edition = over; region = record { attrs = attrs; rows = texts } }))
region_in values = None

-- a session of a clerk at a place
abbrev pub session_in : List Data → Option Change
session_in (clerk ∷ place ∷ edition ∷ typed ∷ confirmed ∷ stage ∷ batch ∷ []) = do
  caller ← number_in clerk
  at ← number_in place
  over ← number_in edition
  texts ← texts_in typed
  flags ← list_in as_bool confirmed
  reached ← stage_in stage
  of_batch ← number_in batch
  Some (change.Session caller at (record {
    edition = over;
    typed = texts;
    confirmed = flags;
    stage = reached;
    batch = of_batch;
  }))
session_in values = None

-- a record of a clerk
abbrev pub record_in : List Data → Option Change
record_in (clerk ∷ place ∷ session ∷ texts ∷ certain ∷ []) = do
  caller ← number_in clerk
  of_session ← number_in session
  values ← texts_in texts
  is_certain ← as_bool certain
  Some (change.Record caller (record { session = of_session; texts = values; certain = is_certain }))
record_in values = None

-- a batch of a clerk
abbrev pub batch_in : List Data → Option Change
batch_in (clerk ∷ place ∷ edition ∷ first ∷ count ∷ []) = do
  caller ← number_in clerk
  over ← number_in edition
  from ← number_in first
  all ← number_in count
  Some (change.Batch caller (record { edition = over; first = from; count = all }))
batch_in values = None

-- what a line of this kind tells: a row, or nothing where it is the first or the last line
abbrev pub told_of : List ℕ → List Data → Option (Option Change)
told_of kind values =
    if bytes_eq kind (codes "fixdesk") then Some None
    else if bytes_eq kind (codes "clerk") then option_map Some (clerk_in values)
    else if bytes_eq kind (codes "schema") then option_map (λ row. Some (change.Schema row)) (text_row_in values)
    else if bytes_eq kind (codes "master") then option_map (λ row. Some (change.Master row)) (text_row_in values)
    else if bytes_eq kind (codes "rulebook") then option_map Some (rulebook_in values)
    else if bytes_eq kind (codes "edition") then option_map Some (edition_in values)
    else if bytes_eq kind (codes "region") then option_map Some (region_in values)
    else if bytes_eq kind (codes "session") then option_map Some (session_in values)
    else if bytes_eq kind (codes "record") then option_map Some (record_in values)
    else if bytes_eq kind (codes "batch") then option_map Some (batch_in values)
    else if bytes_eq kind (codes "end") then Some None
    else None

-- what a line tells, of the values of its array
abbrev pub told_in : List Data → Option (Option Change)
told_in [] = None
told_in (kind ∷ values) = do
  word ← as_str kind
  told_of word values

-- what a line tells
abbrev pub told_by : List ℕ → Option (Option Change)
told_by line = do
  value ← json_of line
  values ← items_in value
  told_in values

-- the changes that are told: one, or none
abbrev pub told_changes : Option Change → List Change
told_changes None = []
told_changes (Some one) = one ∷ []

-- the changes of a line; what stands between line feeds with nothing between them has none
abbrev pub line_changes : List ℕ → Option (List Change)
line_changes [] = Some []
line_changes (byte ∷ bytes) = option_map told_changes (told_by (byte ∷ bytes))

-- the changes of all lines
abbrev pub changes_in : List (List ℕ) → Option (List Change)
changes_in [] = Some []
changes_in (line ∷ lines) = do
  one ← line_changes line
  others ← changes_in lines
  Some (one ++ others)

-- the parts of a text between its line feeds
abbrev pub lines_in : List ℕ → List (List ℕ)
lines_in text = slice_split (λ byte. byte == 10) text
