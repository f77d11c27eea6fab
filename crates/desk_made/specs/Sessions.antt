-- What the sessions give that are opened.
use Rattle.std.specs.Prelude.{ℕ, ◌%◌, ◌==◌, if◌then◌else◌, List, [], ◌∷◌, map, codes}
use Rattle.serde_json.specs.Data.{Data, string}
use Rattle.serde_json.specs.Written.{compact_text}
use Rattle.json_parts.specs.Shapes.{list_of, object_of}
use Rattle.desk_made.specs.declared.kind.Kind.{Kind}
use Rattle.desk_made.specs.declared.kind.Kind.TheVariants.{Certain, Partial, Conflict, Empty}

-- the kind of a draw
abbrev pub kind_of : ℕ → Kind
kind_of drawn =
    if drawn % 4 == 0 then Certain
    else if drawn % 4 == 1 then Partial
    else if drawn % 4 == 2 then Conflict
    else Empty

-- what a session of a kind gives, by a key: attributes in their order, each with its text
abbrev pub given : Kind → List ℕ → List (List ℕ × List ℕ)
given Certain key = (codes "a01", key) ∷ (codes "a48", codes "off") ∷ []
given Partial key = (codes "a24", key) ∷ []
given Conflict key = (codes "a01", key) ∷ (codes "a48", codes "on") ∷ []
given Empty key = []

-- attributes with their texts
abbrev pub cells_shown : List (List ℕ × List ℕ) → Data
cells_shown cells = object_of (map (λ cell. (cell.0, string cell.1)) cells)

-- attributes without their texts
abbrev pub names_shown : List (List ℕ × List ℕ) → Data
names_shown cells = list_of (map (λ cell. string cell.0) cells)

-- a session that gives these, and confirms each of them
abbrev pub session_shown : List (List ℕ × List ℕ) → Data
session_shown cells = object_of ((codes "cells", cells_shown cells) ∷ (codes "confirmed", names_shown cells) ∷ [])

-- the body that opens a session of a kind, by a key
unfoldable pub session_text : Kind → List ℕ → List ℕ
session_text kind key = compact_text (session_shown (given kind key))
