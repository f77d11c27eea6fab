use Rattle.std.proofs.Common.{◌≡◌, ◌<◌, ◌∙◌, Bool, true, false, not, length, get_or, length-set, refl, arith}
use Rattle.fix_model.specs.Rules.{rule_at}
use Rattle.fix_model.specs.Valid.{IsValidRule}
use Rattle.fix_model.proofs.Counts.{length-filter-set}
use Rattle.fix_engine.specs.Departures.{IsNextRule}
use Rattle.fix_engine.specs.declared.leads.Lead.TheVariants.{Nothing}
use Rattle.fix_engine.proofs.Reach.{IsClosed-none, IsReach-set, Supports-keeping}
use Rattle.fix_engine.proofs.leads.Leads.find_reach.Given.{Over}
use Rattle.fix_engine.proofs.leads.Leads.find_reach.Goals as goal
use Rattle.fix_engine.proofs.leads.Leads.find_reach.Goals.{In-Some}

-- the rule that was found goes on
IsNextRule-found : (g : Over) (c : In-Some g) → IsNextRule (g.B.Book.kit c.args.book.now) c.args.self.now.leads.items
    c.rules.reach.items c.args.left_out c.in-Some.rule
IsNextRule-found g c = rw c.deref.ensures.value at c.in-Some.ensures.1

-- one flag more is set
pub rules-smaller : goal.rules-smaller
rules-smaller g c =
    let kit = g.B.Book.kit c.args.book.now in
    let flags = c.rules.reach.items in
    let rule = c.in-Some.rule in
    let next = IsNextRule-found g (goal.at.rules-smaller g c).In-Some in
    let valid : IsValidRule kit (rule_at kit rule) = c.requires.valid.rules rule _ c.in-Some.ensures.0 in
    let within : (rule_at kit rule).head < length flags = rw c.rules.invariant.whole valid.head in
    let clear : not (get_or flags (rule_at kit rule).head false) ≡ true =
    unflagged (get_or flags (rule_at kit rule).head false) next.goes_on.unflagged in
    rw (c.from.ensures, c.head_of-head.ensures)
    (omega (arith, length-filter-set not flags (rule_at kit rule).head true false within clear refl))
  where
    unflagged : (flag : Bool) → ¬ (flag ≡ true) → not flag ≡ true
    unflagged true none = absurd (none refl)
    unflagged false none = refl

-- and the head is covered after one step more
pub rules-preserved : goal.rules-preserved
rules-preserved g c =
    let kit = g.B.Book.kit c.args.book.now in
    let flags = c.rules.reach.items in
    let rule = c.in-Some.rule in
    let next = IsNextRule-found g (goal.at.rules-preserved g c).In-Some in
    rw (c.from.ensures, c.head_of-head.ensures) (record {
      whole = length-set flags (rule_at kit rule).head true ∙ c.rules.invariant.whole;
      room = c.rules.invariant.room;
      reached = λ end led.
          let supports = Supports-keeping kit c.requires.valid end rule
          (get_or c.args.self.now.leads.items rule Nothing) (led.leads_there.each rule c.in-Some.ensures.0)
          next.keeps in
          IsReach-set kit c.requires.valid end c.args.self.now.leads.items c.args.state.now c.requires.fits led
          c.args.left_out flags (c.rules.invariant.reached end led) rule c.in-Some.ensures.0 supports
          next.goes_on.apart next.goes_on.unflagged next.goes_on.flagged;
    })

-- where no rule goes on, nothing more is reached
pub returns-clause-reach : goal.returns-clause-reach
returns-clause-reach g c = λ end led. (
  c.rules.invariant.reached end led,
  IsClosed-none (g.B.Book.kit c.args.book.now) c.requires.valid end c.args.self.now.leads.items c.args.left_out
      c.rules.reach.items led.leads_there (rw c.deref.ensures.value at c.in_default.ensures),
)
