use Rattle.std.proofs.Common.{◌≡◌, ◌<◌, ℕ, get_or}
use Rattle.std.specs.Prelude.{None}
use Rattle.fix_engine.specs.declared.leads.Lead.TheVariants.{Nothing}
use Rattle.fix_engine.specs.Leads.{leaving_row}
use Rattle.fix_engine.proofs.leads.Leads.dissent.Given as goal

abbrev pub invariant-rules : goal.invariant-rules
invariant-rules l = (place : ℕ) → place < l.rule → leaving_row (get_or l.self.leads.items place Nothing) ≡ None
