use Rattle.desk_words.specs.Tables.{published_of, rows_of}
use Rattle.clean_laws.proofs.CleanRows.{ShowsRow-session}
use Rattle.clean_laws.proofs.sessions.a_clean_row_shows_what_a_session_shows.Goals as goal

pub returns : goal.returns
returns c = λ bound header row view binds set has decided gives.
    ShowsRow-session (published_of (rows_of c.args.tables.now)) c.args.number c.args.session.now c.args.setting.now
    bound header row view c.requires binds set has decided gives
