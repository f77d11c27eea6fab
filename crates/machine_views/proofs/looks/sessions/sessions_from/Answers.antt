use Rattle.std.proofs.Common.{◌≡◌, ◌∙◌, ℕ, ◌+◌, ◌-◌, ◌<◌, List, Option, Some, None, ap, arith, drop, get_or, length}
use Rattle.std.proofs.Common.{map, min, subst, sym, take}
use Rattle.std.specs.Prelude.{All, if◌then◌else◌, nat_lt, zip}
use Rattle.std.specs.List.{range_with_len}
use Rattle.std.proofs.lemmas.List.{drop_min, length-drop, take_all, take_min}
use Rattle.std.proofs.lemmas.List.Elements.{All-drop, All-take}
use Rattle.std.proofs.lemmas.Option.{slice_get-get_or}
use Rattle.desk_words.specs.declared.report.SessionLine.{SessionLine}
use Rattle.desk_words.specs.declared.report.TheConstants.{MAX_LISTED}
use Rattle.desk_words.specs.declared.rows.session.SessionRow.{SessionRow}
use Rattle.desk_words.specs.Tables.{Published, published_of, rows_of}
use Rattle.machine_core.specs.Look.Sessions.{page_after, session_line}
use Rattle.machine_views.proofs.Keeping.{own-rows, session-stands}
use Rattle.machine_views.proofs.looks.sessions.sessions_from.Goals as goal

module _ (published : Published) (sessions : List SessionRow) (before cut : ℕ)
    (is_cut : cut ≡ min before (length sessions)) where
  -- the sessions from a place on
  abbrev later : List SessionRow
  later = take (length sessions - cut) (drop cut sessions)

  -- are those after so many
  later-drop : later ≡ drop before sessions
  later-drop = take_all (length sessions - cut) (drop cut sessions) (omega (arith, length-drop cut sessions))
      ∙ ap (λ count. drop count sessions) is_cut ∙ drop_min before sessions

  -- so a page of them is the page after so many
  page-is : (count : ℕ) → count ≡ min MAX_LISTED (length later) → (lines : List SessionLine)
      → lines ≡ map (session_line published)
      (zip (range_with_len (before + 1) (length (take count later))) (take count later))
      → (next : Option ℕ) → next ≡ (if nat_lt MAX_LISTED (length later) then Some (before + MAX_LISTED + 1) else None)
      → record { lines = lines; next = next } ≡ page_after published sessions before
  page-is count counted lines listed next told =
      let shown : take count later ≡ take MAX_LISTED (drop before sessions) =
      ap (λ most. take most later) counted ∙ take_min MAX_LISTED later ∙ ap (take MAX_LISTED) later-drop in
      let lines_are = listed ∙ ap (λ (page : List SessionRow).
      map (session_line published) (zip (range_with_len (before + 1) (length page)) page)) shown in
      let next_is = told ∙ ap (λ (rest : List SessionRow).
      if nat_lt MAX_LISTED (length rest) then Some (before + MAX_LISTED + 1) else None) later-drop in
      (λ i. record { lines = lines_are i; next = next_is i })

pub session_lines-requires-clause-stand : goal.session_lines-requires-clause-stand
session_lines-requires-clause-stand c =
    let rows = rows_of c.args.tables.now in
    let own = c.args.own.now in
    let sessions = c.sessions-sessions.result.now in
    let Stands : SessionRow → Type 0 = λ session. session.edition < length c.args.tables.now.editions.items in
    let all : All Stands own.sessions = λ place past within. (session-stands (published_of rows) own
    (own-rows rows own c.requires.valid c.requires.own) place (get_or own.sessions place past)
    (slice_get-get_or own.sessions place past within)).edition in
    All-take Stands c.min-2.result (take (length sessions - c.min.result) (drop c.min.result sessions))
    (All-take Stands (length sessions - c.min.result) (drop c.min.result sessions)
    (All-drop Stands c.min.result sessions (subst (All Stands) (sym c.sessions-sessions.ensures) all)))

pub returns : goal.returns
returns c =
    let published = published_of (rows_of c.args.tables.now) in
    let own = c.sessions-sessions.ensures in
    page-is published c.sessions-sessions.result.now c.saturating_sub-before.result c.min.result c.min.ensures
    c.min-2.result c.min-2.ensures c.in_ok-lines.lines c.in_ok-lines.ensures c.number_after.result
    c.number_after.ensures
    ∙ ap (λ (sessions : List SessionRow). page_after published sessions c.saturating_sub-before.result) own
    ∙ ap (page_after published c.args.own.now.sessions) c.saturating_sub-before.ensures
