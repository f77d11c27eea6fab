use Rattle.std.proofs.Common.{◌≤◌, ◌+◌, ◌∙◌, ℕ, ap, arith}
use Rattle.fix_model.specs.Application.{covered_left_sides}
use Rattle.fix_model.specs.Run.{end_of}
use Rattle.fix_engine.specs.declared.search.Search.{Search}
use Rattle.fix_engine.specs.Flags.{IsFlagged}
use Rattle.fix_engine.specs.Searches.{IsSurveyed, KeepsRoom}
use Rattle.fix_engine.proofs.Known.{pending_count-covered}
use Rattle.fix_engine.proofs.Rooms.{KeepsRoom-each}
use Rattle.fix_engine.proofs.Verdicts.{AreDepartures-begun, IsFinal-begun, IsFix-begun, SomeRunDiffers-begun}
use Rattle.fix_engine.proofs.search.Search.survey.Given.{Over}
use Rattle.fix_engine.proofs.search.Search.survey.Goals as goal
use Rattle.fix_engine.proofs.search.Search.survey.Goals.{After-find_departures}

pub find-requires-clause-knows : goal.find-requires-clause-knows
find-requires-clause-knows g c = record { fits = c.begin.ensures.begun.fits; known = c.begin.ensures.known }

pub find-requires-clause-ended : goal.find-requires-clause-ended
find-requires-clause-ended g c =
    let begun = c.begin.ensures.begun in
    rw (begun.ends) begun.first.holds.1

pub covers_all-certain-requires : goal.covers_all-certain-requires
covers_all-certain-requires g c = c.begin.ensures.begun.fits

pub restore-requires : goal.restore-requires
restore-requires g c = c.begin.ensures.begun.even

pub find_departures-requires-clause-valid : goal.find_departures-requires-clause-valid
find_departures-requires-clause-valid g c = c.begin.ensures.begun.valid

pub find_departures-requires-clause-fits : goal.find_departures-requires-clause-fits
find_departures-requires-clause-fits g c = rw (c.restore.ensures ∙ c.begin.ensures.begun.saved) c.requires.fits

pub dissent-dissent-requires : goal.dissent-dissent-requires
dissent-dissent-requires g c = rw c.find.ensures.leads.whole c.begin.ensures.begun.valid.few_rules

-- the lists as the search leaves them
abbrev searched : (g : Over) → After-find_departures g → Search
searched g c = record {
  runs = c.begin.new.self;
  looks = c.find.new.looks;
  leads = c.find.new.self;
  reach = c.find_departures.new.reach;
  departures = c.find_departures.new.departures;
}

-- what was found in them is what is there to be found
IsSurveyed-found : (g : Over) (c : After-find_departures g)
    → IsSurveyed (g.B.Book.kit c.args.book.now) c.args.state.now (searched g c)
IsSurveyed-found g c =
    let begun = c.begin.ensures.begun in
    record {
      end = c.begin.new.state;
      begun = begun;
      leads = c.find.ensures.leads;
      departures = AreDepartures-begun (g.B.Book.kit c.args.book.now) c.args.state.now c.begin.new.state
          c.begin.new.self c.find.new.self.leads.items begun c.requires.fits c.find.ensures.leads c.restore.new.state
          c.find_departures.new.departures.items (c.restore.ensures ∙ begun.saved)
          c.find_departures.ensures.departures;
    }

-- only rules with a covered left side were looked up
looks-found : (g : Over) (c : After-find_departures g) → c.find.new.counts.looks ≤ c.args.counts.now.looks
    + covered_left_sides (g.B.Book.kit c.args.book.now)
    (end_of (g.B.Book.kit c.args.book.now) c.args.state.now c.begin.new.self.first.items)
looks-found g c = omega (
  arith,
  c.begin.ensures.looks,
  c.find.ensures.looks.looks,
  pending_count-covered (g.B.Book.kit c.args.book.now) c.begin.new.state c.find.new.looks.remembered.items
      c.find.ensures.looks.known,
  ap (covered_left_sides (g.B.Book.kit c.args.book.now)) c.begin.ensures.begun.ends,
)

-- the lists have the room that they had
KeepsRoom-found : (g : Over) (c : After-find_departures g) → KeepsRoom c.args.self.now (searched g c)
KeepsRoom-found g c = KeepsRoom-each _ _ c.begin.ensures.room c.find_departures.ensures.reach_stays
    c.find_departures.ensures.departures_stay (omega (arith, c.begin.ensures.looks_stay, c.find.ensures.looks.room))
    c.find.ensures.room

-- a run can depart: it goes on to one that ends elsewhere
pub returns-then-has_flag : goal.returns-then-has_flag
unfolding IsSurveyed-found
returns-then-has_flag g c =
    let found = (goal.at.returns-then-has_flag g c).After-find_departures in
    let surveyed = IsSurveyed-found g found in
    let some : (attribute : ℕ) × IsFlagged c.find_departures.new.departures.items attribute =
    rw c.deref.ensures.value at c.if-has_flag.ensures in
    record {
      surveyed = surveyed;
      judgement = (
        surveyed.begun.first,
        SomeRunDiffers-begun (g.B.Book.kit c.args.book.now) c.args.state.now c.begin.new.state c.begin.new.self
            c.find.new.self.leads.items surveyed.begun c.requires.fits surveyed.leads
            c.find_departures.new.departures.items surveyed.departures some,
      );
      state = c.restore.ensures ∙ surveyed.begun.saved;
      looks = looks-found g found;
      room = KeepsRoom-found g found;
    }

-- none can: the fix is unique
pub returns : goal.returns
unfolding IsSurveyed-found
returns g c =
    let kit = g.B.Book.kit c.args.book.now in
    let found = (goal.at.returns g c).After-find_departures in
    let surveyed = IsSurveyed-found g found in
    let leads = c.find.new.self.leads.items in
    let flags = c.find_departures.new.departures.items in
    let none : (attribute : ℕ) → ¬ IsFlagged flags attribute = rw c.deref.ensures.value at c.if-has_flag.ensures in
    let final = IsFinal-begun kit c.args.state.now c.begin.new.state c.begin.new.self leads surveyed.begun
    c.requires.fits surveyed.leads in
    record {
      surveyed = surveyed;
      judgement = IsFix-begun kit c.args.state.now c.begin.new.state c.begin.new.self leads surveyed.begun
          c.requires.fits surveyed.leads c.covers_all-certain.result c.dissent-dissent.result flags
          surveyed.departures none c.covers_all-certain.ensures
          (c.dissent-dissent.ensures kit c.begin.new.state final surveyed.leads);
      state = c.restore.ensures ∙ c.begin.ensures.begun.saved;
      looks = looks-found g found;
      room = KeepsRoom-found g found;
    }
