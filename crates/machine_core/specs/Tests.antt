-- Tests that several commands make, each named by what it finds.
use Rattle.std.specs.Prelude.{ℕ, nat_le, ◌==◌, not, List, length, position}
use Rattle.std.specs.List.{list_any}
use Rattle.std.specs.Str.{bytes_eq}
use Rattle.desk_base.specs.declared.limits.TheConstants.{MAX_TEXT}
use Rattle.desk_base.specs.Words.{is_name}
use Rattle.desk_valid.specs.Tallies.{is_active}
use Rattle.desk_words.specs.declared.refusal.Kind.TheVariants as kind
use Rattle.desk_words.specs.declared.refusal.Refusal.TheVariants.{BadName, Closed, NoSuch, Twice, UnknownAttr}
use Rattle.desk_words.specs.declared.refusal.Refusal.TheVariants.{ValueLong}
use Rattle.desk_words.specs.declared.rows.session.SessionRow.{SessionRow}
use Rattle.machine_core.specs.Checked.{Checked, done, ◌>>=◌, ◌>>◌, some_or, unless}
use Rattle.machine_core.specs.Finding.{session_at}

-- the text is a name
abbrev pub proper_name : List ℕ → Checked (Unit {0})
proper_name text = unless (is_name text) (BadName text)

-- the place of the attribute with this word
abbrev pub attribute_of : List (List ℕ) → List ℕ → Checked ℕ
attribute_of attributes word = some_or (position (bytes_eq word) attributes) (UnknownAttr word)

-- a text that is typed for an attribute, with the attribute's place
abbrev pub typed_cell : List (List ℕ) → List ℕ × List ℕ → Checked (ℕ × List ℕ)
typed_cell attributes cell = do
  place ← attribute_of attributes cell.0
  unless (nat_le (length cell.1) MAX_TEXT) (ValueLong cell.0)
  done (place, cell.1)

-- the place of an attribute that is none of those before it
abbrev pub another_attribute : List (List ℕ) → List ℕ → List ℕ → Checked ℕ
another_attribute attributes before word = do
  place ← attribute_of attributes word
  unless (not (list_any (λ earlier. earlier == place) before)) (Twice word)
  done place

-- the session with this number
abbrev pub session_of : List SessionRow → ℕ → Checked SessionRow
session_of sessions number = some_or (session_at sessions number) (NoSuch kind.Session)

-- the session is active
abbrev pub active : SessionRow → Checked (Unit {0})
active session = unless (is_active session.stage) (Closed session.stage)

-- the active session with this number
abbrev pub active_session : List SessionRow → ℕ → Checked SessionRow
active_session sessions number = do
  session ← session_of sessions number
  active session
  done session
