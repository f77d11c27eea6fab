use Rattle.std.proofs.Common.{◌≡◌, ◌*◌, ◌++◌, map}
use Rattle.std.specs.List.{range_with_len}
use Rattle.desk_made.specs.Draws.{number_after}
use Rattle.desk_made.specs.Made.{enter_at}
use Rattle.desk_made.specs.Requests.{stream_of}
use Rattle.desk_made.proofs.sessions.push_sessions.Given as goal

abbrev pub invariant-sessions : goal.invariant-sessions
invariant-sessions l = record {
  draws : l.draws ≡ number_after l.start (2 * l.place);
  written : l.bytes.items
      ≡ l.initial.bytes.items ++ stream_of (map (enter_at l.start) (range_with_len 1 l.place));
}
