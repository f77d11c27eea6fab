use Rattle.std.proofs.Common.{◌≡◌, get_or, refl}
use Rattle.fix_model.specs.declared.state.State.{State}
use Rattle.fix_engine.specs.declared.leads.Lead.{Lead}
use Rattle.fix_engine.specs.declared.leads.Lead.TheVariants.{Nothing, Keeps, Leaves}
use Rattle.fix_engine.specs.Departures.{IsLedTo}
use Rattle.fix_engine.proofs.Turns.{IsPassed-keeping, IsPassed-nothing, IsReady, IsReady-read, turn-keeps, turn-leaves}
use Rattle.fix_engine.proofs.Turns.{turn-other}
use Rattle.fix_engine.proofs.leads.Leads.turn_of.Given.{Over}
use Rattle.fix_engine.proofs.leads.Leads.turn_of.Goals as goal
use Rattle.fix_engine.proofs.leads.Leads.turn_of.Goals.{After-lead}

-- the rule is open, and this is what it does at the end
IsReady-at : (g : Over) (c : After-lead g) (end : State) (lead : Lead)
    → IsLedTo (g.B.Book.kit c.args.book.now) c.args.state.now end c.args.self.now.leads.items
    → lead ≡ get_or c.args.self.now.leads.items c.args.rule Nothing
    → IsReady (g.B.Book.kit c.args.book.now) end c.args.state.now c.args.rule c.index-rules-from.result lead
IsReady-at g c end lead led is =
    IsReady-read (g.B.Book.kit c.args.book.now) end c.args.state.now c.args.self.now.leads.items c.args.rule
    c.from.result c.rules.result.now c.index-rules-from.result c.covers.result c.enabled.result lead led
    c.rules.ensures.rules c.from.ensures c.requires.rule_within c.index-rules-from.is c.covers.ensures
    c.if-covers.false c.enabled.ensures c.if-not-enabled.false is

pub returns-in-Nothing : goal.returns-in-Nothing
returns-in-Nothing g c end led departures =
    let ready = IsReady-at g (goal.at.returns-in-Nothing g c).After-lead end Nothing led c.in-Nothing.ensures in
    IsPassed-nothing (g.B.Book.kit c.args.book.now) c.rules.ensures.valid end c.args.self.now.leads.items
    c.args.state.now c.requires.fits led c.args.rule ready.led

pub returns-in-Leaves : goal.returns-in-Leaves
returns-in-Leaves g c end led departures =
    let hit = c.in-Leaves.hit in
    let ready = IsReady-at g (goal.at.returns-in-Leaves g c).After-lead end (Leaves hit) led c.in-Leaves.ensures in
    let (is_turn, least) = turn-leaves (g.B.Book.kit c.args.book.now) c.rules.ensures.valid end
    c.args.self.now.leads.items c.args.state.now c.requires.fits led c.args.rule hit ready.opened ready.led in
    rw c.departing.ensures (is_turn, refl, least)

pub returns-then-has_other : goal.returns-then-has_other
returns-then-has_other g c end led departures =
    let hit = c.in-Keeps.hit in
    let ready = IsReady-at g (goal.at.returns-then-has_other g c).After-lead end (Keeps hit) led c.in-Keeps.ensures in
    let (other, flagged, apart) = rw ready.read at c.if-has_other.ensures in
    let (is_turn, least) = turn-keeps (g.B.Book.kit c.args.book.now) c.rules.ensures.valid end
    c.args.self.now.leads.items c.args.state.now c.requires.fits led c.args.departures.now departures c.args.rule hit
    ready.led other ready.opened flagged apart in
    rw c.keeping.ensures (is_turn, refl, least)

pub returns-in-Some : goal.returns-in-Some
returns-in-Some g c end led departures =
    let hit = c.in-Keeps.hit in
    let ready = IsReady-at g (goal.at.returns-in-Some g c).After-lead end (Keeps hit) led c.in-Keeps.ensures in
    let (is_turn, least) = turn-other (g.B.Book.kit c.args.book.now) c.rules.ensures.valid end
    c.args.self.now.leads.items c.args.state.now c.requires.fits led c.args.departures.now departures c.args.rule hit
    ready.led (rw ready.read at c.if-has_other.ensures) c.in-Some.row ready.opened
    (rw c.in-Some.is at ready.led.0.found.other) in
    rw c.departing-in-Some.ensures (is_turn, refl, least)

pub returns-in-None : goal.returns-in-None
returns-in-None g c end led departures =
    let hit = c.in-Keeps.hit in
    let ready = IsReady-at g (goal.at.returns-in-None g c).After-lead end (Keeps hit) led c.in-Keeps.ensures in
    IsPassed-keeping (g.B.Book.kit c.args.book.now) c.rules.ensures.valid end c.args.self.now.leads.items
    c.args.state.now c.requires.fits led c.args.departures.now departures c.args.rule hit ready.led
    (rw ready.read at c.if-has_other.ensures) (rw c.in-None.is at ready.led.0.found.other)
