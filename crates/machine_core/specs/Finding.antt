-- How rows are found: what was published by its name and version, a session by its number.
use Rattle.std.specs.Prelude.{ℕ, ◌+◌, ◌-◌, ◌==◌, ◌&&◌, List, count_by, position, slice_get, Option, None, if◌then◌else◌}
use Rattle.std.specs.Str.{bytes_eq}
use Rattle.desk_words.specs.declared.rows.edition.EditionRow.{EditionRow}
use Rattle.desk_words.specs.declared.rows.rulebook.RulebookRow.{RulebookRow}
use Rattle.desk_words.specs.declared.rows.session.SessionRow.{SessionRow}
use Rattle.desk_words.specs.declared.rows.text.TextRow.{TextRow}

-- the place of the row with this name and version
abbrev pub place_of : {T : Type 0} → (T → List ℕ) → (T → ℕ) → List T → List ℕ → ℕ → Option ℕ
place_of name_of version_of rows name version =
    position (λ row. bytes_eq (name_of row) name && (version_of row == version)) rows

-- how many versions of the name there are
abbrev pub version_count : {T : Type 0} → (T → List ℕ) → List T → List ℕ → ℕ
version_count name_of rows name = count_by (λ row. bytes_eq (name_of row) name) rows

-- the place of the newest version of the name
abbrev pub newest_of : {T : Type 0} → (T → List ℕ) → (T → ℕ) → List T → List ℕ → Option ℕ
newest_of name_of version_of rows name = place_of name_of version_of rows name (version_count name_of rows name)

-- the version that the next row of the name has
abbrev pub next_version : {T : Type 0} → (T → List ℕ) → List T → List ℕ → ℕ
next_version name_of rows name = version_count name_of rows name + 1

-- the place of this version of a schema or of a master
abbrev pub text_named : List TextRow → List ℕ → ℕ → Option ℕ
text_named rows name version = place_of (λ row. row.name) (λ row. row.version) rows name version

-- the place of this version of a rulebook
abbrev pub rulebook_named : List RulebookRow → List ℕ → ℕ → Option ℕ
rulebook_named rulebooks name version = place_of (λ row. row.name) (λ row. row.version) rulebooks name version

-- the place of this version of an edition
abbrev pub edition_named : List EditionRow → List ℕ → ℕ → Option ℕ
edition_named editions name version = place_of (λ row. row.name) (λ row. row.version) editions name version

-- the place of the newest version of an edition's name
abbrev pub newest_edition : List EditionRow → List ℕ → Option ℕ
newest_edition editions name = newest_of (λ row. row.name) (λ row. row.version) editions name

-- the place of the newest version of a master's name
abbrev pub newest_master : List TextRow → List ℕ → Option ℕ
newest_master masters name = newest_of (λ row. row.name) (λ row. row.version) masters name

-- the item with this number, counted from 1
abbrev pub numbered : {T : Type 0} → List T → ℕ → Option T
numbered items number = if number == 0 then None else slice_get items (number - 1)

-- the session with this number
abbrev pub session_at : List SessionRow → ℕ → Option SessionRow
session_at sessions number = numbered sessions number
