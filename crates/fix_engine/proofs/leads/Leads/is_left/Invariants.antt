use Rattle.std.proofs.Common.{◌<◌, ℕ}
use Rattle.fix_model.specs.Rules.{rule_at}
use Rattle.fix_engine.specs.Departures.{LeavesBy}
use Rattle.fix_engine.specs.Flags.{HasFlags}
use Rattle.fix_engine.proofs.leads.Leads.is_left.Given as goal

abbrev pub invariant-rules : goal.invariant-rules
invariant-rules g l =
    let kit = g.B.Book.kit l.book in
    (place : ℕ) → place < l.rule → ¬ (LeavesBy kit l.self.leads.items l.attribute place
    × HasFlags l.flags (rule_at kit place))
