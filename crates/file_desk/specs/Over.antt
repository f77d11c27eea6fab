-- What the programs leave over the files at a path.
use Rattle.std.specs.Prelude.{ℕ, List, Option, None}
use Rattle.desk_links.specs.Doors.{Door, LinkSeen}
use Rattle.desk_words.specs.Tables.{Rows}
use Rattle.keeper_core.specs.Keeping.{Uses}
use Rattle.sqlite_wal.specs.Recovery.{Image}
use Rattle.keeper_sqlite.specs.Files.{StandFor}
use Rattle.http_desk.specs.declared.front.Page.{Page}
use Rattle.fixdesk_run.specs.Run.{Leaves}
use Rattle.fixdesk_run.specs.Serve.{LeavesServed}
use Rattle.fixdesk_run.specs.World.{World}
use Rattle.web_run.specs.Serving.{LeavesPages}
use Rattle.restore_run.specs.declared.ended.RestoreEnd.{RestoreEnd}
use Rattle.restore_run.specs.Restoring.{LeavesRestored}

-- a link over files that were not opened yet: their keeper tells nothing, and was not called
abbrev pub unopened : LinkSeen → World
unopened link = record { link = link; told = None; uses = record { calls = 0; faults = 0 } }

-- a link over files in the end, by what their keeper tells then
abbrev pub opened : Option Rows → Uses → LinkSeen → World
opened told uses link = record { link = link; told = told; uses = uses }

-- what `run` leaves with these words, over files that held this and were not opened before, by what their keeper tells
-- in the end; and what it answers
abbrev pub RunsOver : Image → List (List ℕ) → LinkSeen → LinkSeen → Option Rows → Uses → ℕ → Type 0
RunsOver image words old new told uses code =
    Leaves (StandFor image) words (unopened old) (opened told uses new) code

-- what `serve` leaves with these words of an output and a door, over such files, and answers
abbrev pub ServesOver : Image → List (List ℕ) → LinkSeen → Door → LinkSeen → Door → Option Rows → Uses → ℕ → Type 0
ServesOver image words old before new after told uses code =
    LeavesServed (StandFor image) words (record { world = unopened old; door = before })
    (record { world = opened told uses new; door = after }) code

-- what `serve_pages` leaves with these pages and these words of an output and a door, over such files, and answers
abbrev pub PagesOver : Image → List Page → List (List ℕ) → LinkSeen → Door → LinkSeen → Door → Option Rows → Uses → ℕ
    → Type 0
PagesOver image pages words old before new after told uses code =
    LeavesPages (StandFor image) pages words (record { world = unopened old; door = before })
    (record { world = opened told uses new; door = after }) code

-- what `restore_desk` leaves with these words over such files, and answers
abbrev pub RestoresOver : Image → List (List ℕ) → LinkSeen → LinkSeen → Option Rows → Uses → RestoreEnd → Type 0
RestoresOver image words old new told uses end =
    LeavesRestored (StandFor image) words (unopened old) (opened told uses new) end
