use Rattle.std.proofs.Common.{◌∙◌, Bool, rules, tests}
use Rattle.std.proofs.lemmas.Iterator.{YieldsList-from_slice}
use Rattle.std.proofs.lemmas.Iterator.Consumers.{YieldsList-from_filter, count_from_yields_List}
use Rattle.std.proofs.lemmas.List.Sums.{length-filter}
use Rattle.desk_words.specs.declared.rows.session.SessionRow.{SessionRow}
use Rattle.desk_valid.specs.Tallies.{is_active}
use Rattle.desk_totals.proofs.totals.active_count.Goals as goal

-- what is counted are the sessions that the filter leaves
pub returns : goal.returns
returns c =
    let active : SessionRow → Bool = λ session. is_active session.stage in
    count_from_yields_List c.filter.result _ c.count.ensures.ran (YieldsList-from_filter _ active
    (YieldsList-from_slice c.args.sessions.now (cc)) c.filter.ensures.closure
    (λ session result callee called. search (rules, tests))) ∙ length-filter active c.args.sessions.now
