-- How it is printed what a proposal that fits would be made to, with the notes on it (docs/api.md, Replies).
use Rattle.std.specs.Prelude.{ℕ, List, [], ◌∷◌, ◌++◌, map, codes}
use Rattle.serde_json.specs.Data.{Data, string}
use Rattle.desk_words.specs.declared.fits.Fits.{Fits}
use Rattle.desk_words.specs.declared.fits.Fits.TheVariants.{Schema, Master, Rulebook, Edition}
use Rattle.desk_words.specs.declared.refusal.Kind.{Kind}
use Rattle.desk_words.specs.declared.refusal.Kind.TheVariants as kinds
use Rattle.json_parts.specs.Shapes.{list_of, object_of, whole}
use Rattle.desk_json.specs.Words.{kind_word}

-- the key `fits`, with the word for what would be published
abbrev pub fits : Kind → List ℕ × Data
fits kind = (codes "fits", string (kind_word kind))

-- the key `notes`, where there are any
abbrev pub noted : List (List ℕ) → List (List ℕ × Data)
noted [] = []
noted (first ∷ others) = (codes "notes", list_of (map string (first ∷ others))) ∷ []

-- a version of a schema, with its attributes
abbrev pub schema_fits : List ℕ → ℕ → List (List ℕ) → List (List ℕ) → Data
schema_fits name version attributes notes = object_of (
    (codes "attributes", list_of (map string attributes))
    ∷ fits kinds.Schema
    ∷ (codes "name", string name)
    ∷ noted notes
    ++ (codes "version", whole version)
    ∷ [])

-- a version of a master, with its columns, and how many rows it has
abbrev pub master_fits : List ℕ → ℕ → List (List ℕ) → ℕ → List (List ℕ) → Data
master_fits name version columns rows notes = object_of (
    (codes "columns", list_of (map string columns))
    ∷ fits kinds.Master
    ∷ (codes "name", string name)
    ∷ noted notes
    ++ (codes "rows", whole rows)
    ∷ (codes "version", whole version)
    ∷ [])

-- a version of a rulebook, with the names of its rules
abbrev pub rulebook_fits : List ℕ → ℕ → List (List ℕ) → List (List ℕ) → Data
rulebook_fits name version rules notes = object_of (
    fits kinds.Rulebook
    ∷ (codes "name", string name)
    ∷ noted notes
    ++ (codes "rules", list_of (map string rules))
    ∷ (codes "version", whole version)
    ∷ [])

-- a version of an edition, with how many entries its index would have
abbrev pub edition_fits : List ℕ → ℕ → ℕ → List (List ℕ) → Data
edition_fits name version entries notes = object_of (
    (codes "entries", whole entries)
    ∷ fits kinds.Edition
    ∷ (codes "name", string name)
    ∷ noted notes
    ++ (codes "version", whole version)
    ∷ [])

-- what a proposal would be made to, with the notes on it
abbrev pub fits_shown : Fits → List (List ℕ) → Data
fits_shown (Schema name version attributes) = schema_fits name version attributes
fits_shown (Master name version columns rows) = master_fits name version columns rows
fits_shown (Rulebook name version rules) = rulebook_fits name version rules
fits_shown (Edition name version entries) = edition_fits name version entries
