-- What stands first on the shelf once a request was weighed.
use Rattle.std.specs.Prelude.{◌≡◌, ℕ, ◌<◌, List, length, ⊤}
use Rattle.desk_words.specs.declared.command.Command.{Command}
use Rattle.desk_words.specs.declared.reply.Reply.{Reply}
use Rattle.desk_words.specs.declared.rows.session.SessionRow.{SessionRow}
use Rattle.desk_words.specs.declared.view.View.{View}
use Rattle.desk_words.specs.Tables.{Rows, published_of}
use Rattle.master_index.specs.declared.shelf.Shelved.{Shelved}
use Rattle.machine_core.specs.Causes.{Names}
use Rattle.machine_core.specs.Content.{Content, advises, content_of, shows}
use Rattle.machine_core.specs.Shelves.{IsFirst}
use Rattle.machine_core.specs.Views.{edition_at}

-- the edition that a view names stands first
pub record ShowsFirst (rows : Rows) (view : View) (held : List (ℕ × Shelved)) : Type 0 where
  pub edition : ℕ
  pub within : edition < length rows.editions
  pub name : view.edition ≡ (edition_at (published_of rows) edition).name
  pub version : view.version ≡ (edition_at (published_of rows) edition).version
  pub first : IsFirst edition held

-- the edition of the session that a command names stands first
pub record NamesFirst (rows : Rows) (command : Command) (held : List (ℕ × Shelved)) : Type 0 where
  pub session : SessionRow
  pub names : Names rows command session
  pub first : IsFirst session.edition held

-- what stands first, by the content of the reply: the edition of a session that is shown or advised on
abbrev pub IsBookedFor : Rows → Command → Content → List (ℕ × Shelved) → Type 0
IsBookedFor rows command (shows view) held = ShowsFirst rows view held
IsBookedFor rows command advises held = NamesFirst rows command held
IsBookedFor rows command content held = ⊤

-- what stands first, by what is replied
abbrev pub IsBooked : Rows → Command → Reply → List (ℕ × Shelved) → Type 0
IsBooked rows command answer held = IsBookedFor rows command (content_of answer) held
