-- The requests that the generator makes, in their order (docs/formats.md, *The generator*).
use Rattle.std.specs.Prelude.{ℕ, ◌*◌, ◌-◌, ◌%◌, List, [], ◌∷◌, ◌++◌, map, codes, decimal}
use Rattle.std.specs.List.{range_with_len}
use Rattle.serde_json.specs.Data.{Data, string}
use Rattle.serde_json.specs.Written.{compact_text}
use Rattle.json_parts.specs.Shapes.{list_of, object_of, whole}
use Rattle.master_rows.specs.Sheet.{sheet_of}
use Rattle.rule_text.specs.Printing.{printed}
use Rattle.desk_made.specs.declared.master.TheConstants.{ROWS}
use Rattle.desk_made.specs.Draws.{draw}
use Rattle.desk_made.specs.Requests.{Request, post}
use Rattle.desk_made.specs.Schema.{big, schema_text}
use Rattle.desk_made.specs.Master.{key, master}
use Rattle.desk_made.specs.Rulebook.{rulebook}
use Rattle.desk_made.specs.Sessions.{kind_of, session_text}

-- the clerk `amy`
unfoldable pub add_clerk : Request
add_clerk = post (codes "/steward/1/clerks") (compact_text (object_of ((codes "name", string (codes "amy")) ∷ [])))

-- the schema `big`
unfoldable pub add_schema : Request
add_schema = post (codes "/steward/2/schemas") (schema_text big)

-- the master `m`
unfoldable pub add_master : Request
add_master = post (codes "/steward/3/masters/m") (sheet_of master)

-- the rulebook `b`, over the first version of `big`
unfoldable pub add_rulebook : Request
add_rulebook = post (codes "/steward/4/rulebooks/b/big/1") (printed rulebook big)

-- a name with its first version
abbrev pub first_version : List ℕ → Data
first_version name = list_of (string name ∷ whole 1 ∷ [])

-- the edition `e`, of the first versions of `m` and `b`
unfoldable pub add_edition : Request
add_edition = post (codes "/steward/5/editions/e") (compact_text (object_of (
    (codes "masters", list_of (first_version (codes "m") ∷ []))
    ∷ (codes "rulebook", first_version (codes "b"))
    ∷ [])))

-- the session with a number is opened by two draws: the first says of what kind it is, the second by which key
unfoldable pub enter : ℕ → ℕ → ℕ → Request
enter number first second =
    post (codes "/do/amy/" ++ decimal number ++ codes "/open/e") (session_text (kind_of first) (key (second % ROWS)))

-- the session with a number, counted from 1: each is opened by the next two of the draws from a start
abbrev pub enter_at : ℕ → ℕ → Request
enter_at start number = enter number (draw start (2 * number - 1)) (draw start (2 * number))

-- the requests: what the sessions stand on, and then so many sessions
abbrev pub made_requests : ℕ → ℕ → List Request
made_requests count start =
    add_clerk ∷ add_schema ∷ add_master ∷ add_rulebook ∷ add_edition ∷ map (enter_at start) (range_with_len 1 count)
