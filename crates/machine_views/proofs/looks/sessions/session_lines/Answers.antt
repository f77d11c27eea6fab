use Rattle.std.proofs.Common.{◌∙◌, ◌+◌, ◌++◌, [], ◌∷◌, ap, arith, map, sym}
use Rattle.std.proofs.lemmas.List.{take_all}
use Rattle.desk_words.specs.Tables.{published_of, rows_of}
use Rattle.machine_core.specs.Look.Sessions.{session_line}
use Rattle.machine_views.proofs.Numbered.{numbered, numbered-length, numbered-more}
use Rattle.machine_views.proofs.looks.sessions.session_lines.Goals as goal

pub sessions-preserved : goal.sessions-preserved
sessions-preserved c =
    let line = session_line (published_of (rows_of c.args.tables.now)) in
    c.in_ok-push.ensures.pushed ∙ (λ i. c.sessions.invariant i ++ c.in_ok-session_line.ensures i ∷ [])
    ∙ sym (numbered-more (c.args.before + 1) c.args.sessions.now c.sessions.place (c.args.before + c.sessions.place + 1)
    c.index-sessions-place.result (omega (arith, c.sessions-test.true)) c.index-sessions-place.is (omega arith) line)

pub returns : goal.returns
returns c =
    let line = session_line (published_of (rows_of c.args.tables.now)) in
    let items = numbered (c.args.before + 1) c.args.sessions.now in
    c.sessions.invariant ∙ ap (map line) (take_all c.sessions.place items
    (omega (arith, c.sessions-test.false, numbered-length (c.args.before + 1) c.args.sessions.now)))
