use Rattle.std.proofs.Common.{◌≡◌, ◌+◌, map, take}
use Rattle.desk_words.specs.Tables.{published_of, rows_of}
use Rattle.machine_core.specs.Look.Sessions.{session_line}
use Rattle.machine_views.proofs.Numbered.{numbered}
use Rattle.machine_views.proofs.looks.sessions.session_lines.Given as goal

-- the sessions so far have their lines
abbrev pub invariant-sessions : goal.invariant-sessions
invariant-sessions l =
    l.lines ≡ map (session_line (published_of (rows_of l.tables))) (take l.place (numbered (l.before + 1) l.sessions))
