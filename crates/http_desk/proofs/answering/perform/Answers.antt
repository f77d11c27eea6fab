use Rattle.std.proofs.Common.{◌≡◌, Ok, subst, sym}
use Rattle.keeper_core.specs.Keeping.{uses}
use Rattle.desk_words.specs.Tables.{Rows}
use Rattle.http_desk.specs.Answered.{IsAnswered, IsAsked, text_bytes}
use Rattle.http_desk.proofs.Asked.{weighed_asked}
use Rattle.http_desk.proofs.Sheets.{weighed_derived, weighed_records}
use Rattle.http_desk.proofs.answering.perform.Goals as goal

-- records that are replied have a text for each attribute
pub reply_text-requires-clause-records : goal.reply_text-requires-clause-records
reply_text-requires-clause-records g c =
    weighed_records (g.M.Machine.rows c.args.machine.now) c.args.command.now c.weigh-weighed.result
    c.weigh-weighed.ensures.weighed c.weigh-weighed.ensures.settleable

-- and so have derived rows
pub reply_text-requires-clause-derived : goal.reply_text-requires-clause-derived
reply_text-requires-clause-derived g c =
    weighed_derived (g.M.Machine.rows c.args.machine.now) c.args.command.now c.weigh-weighed.result
    c.weigh-weighed.ensures.weighed c.weigh-weighed.ensures.settleable

-- what the machine weighed was asked of it
pub returns-in-Ok-clause-answered : goal.returns-in-Ok-clause-answered
returns-in-Ok-clause-answered g c =
    let before = g.M.Machine.rows c.args.machine.now in
    let command = c.args.command.now in
    let weighed = c.weigh-weighed.result in
    let asked : IsAsked before (Ok command) weighed.reply weighed.changes =
    weighed_asked before command weighed c.weigh-weighed.ensures.weighed c.in-Ok.ensures.weighed in
    let same : g.M.Machine.rows c.weigh-weighed.new.self ≡ before = c.weigh-weighed.ensures.rows in
    subst (λ (rows : Rows). IsAnswered (g.K.Keeper.is_steady c.args.keeper.now) rows (Ok command) c.args.closing
    c.args.asks_head (g.M.Machine.rows c.settle.new.machine) (text_bytes c.settle.result)
    (uses g.K.Keeper.calls g.K.Keeper.faults c.args.keeper.now)
    (uses g.K.Keeper.calls g.K.Keeper.faults c.settle.new.keeper)) same
    (c.settle.ensures.answered (Ok command)
    (subst (λ (rows : Rows). IsAsked rows (Ok command) weighed.reply weighed.changes) (sym same) asked)
    c.in-Ok.ensures.text)
