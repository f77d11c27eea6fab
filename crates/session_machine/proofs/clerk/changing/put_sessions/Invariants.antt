use Rattle.std.proofs.Common.{◌≡◌, ◌++◌, map}
use Rattle.desk_words.specs.declared.change.Change.TheVariants as change
use Rattle.session_machine.proofs.clerk.changing.put_sessions.Given as goal

-- each session so far is put
abbrev pub invariant-sessions : goal.invariant-sessions
invariant-sessions l =
    l.changes ≡ l.initial.changes ++ map (λ put. change.Session l.clerk put.0 put.1) l.yielded
