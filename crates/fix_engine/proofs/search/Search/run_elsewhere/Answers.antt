use Rattle.std.proofs.Common.{◌≡◌, ◌∙◌, ap, length, refl, sym, arith}
use Rattle.fix_model.specs.declared.state.State.{State}
use Rattle.fix_model.proofs.Counts.{uncovered_count-le}
use Rattle.fix_model.proofs.Runs.{typed-end_of}
use Rattle.fix_engine.proofs.FirstRuns.{typed-completed}
use Rattle.fix_engine.proofs.Verdicts.{IsConflict-begun, IsLeftFrom-begun}
use Rattle.fix_engine.proofs.search.Search.run_elsewhere.Goals as goal

pub depart-requires-clause-valid : goal.depart-requires-clause-valid
depart-requires-clause-valid g c = c.requires.surveyed.begun.valid

-- a run can depart from the end, from the state as it was
pub depart-requires-clause-left : goal.depart-requires-clause-left
depart-requires-clause-left g c =
    let told = c.requires.surveyed in (
      told.end,
      IsLeftFrom-begun (g.B.Book.kit c.args.book.now) c.args.state.now told.end c.args.self.now.runs
          c.args.self.now.leads.leads.items told.begun c.requires.fits told.leads c.args.self.now.departures.items
          c.deref_mut.result.now told.departures c.deref_mut.ensures.value c.requires.differs,
    )

pub depart-requires-clause-room : goal.depart-requires-clause-room
depart-requires-clause-room g c =
    let kit = g.B.Book.kit c.args.book.now in
    let few = uncovered_count-le kit c.args.state.now c.requires.fits in
    omega (arith, ap length c.requires.surveyed.begun.second, c.requires.room.runs.second, few)

-- and the run that is made from there is the second run
pub returns-clause-conflict : goal.returns-clause-conflict
returns-clause-conflict g c =
    let kit = g.B.Book.kit c.args.book.now in
    let told = c.requires.surveyed in
    let left = IsLeftFrom-begun kit c.args.state.now told.end c.args.self.now.runs c.args.self.now.leads.leads.items
    told.begun c.requires.fits told.leads c.args.self.now.departures.items
    c.deref_mut.result.now told.departures c.deref_mut.ensures.value c.requires.differs in
    IsConflict-begun kit c.args.state.now told.end c.args.self.now.runs c.args.self.now.leads.leads.items
    told.begun c.requires.fits told.leads c.depart.new.state c.complete.new.state
    c.args.self.now.runs.second.items c.depart.new.run.items c.complete.new.run.items told.begun.second
    (c.depart.ensures.departed told.end left) c.complete.ensures.completed

pub returns-clause-state : goal.returns-clause-state
returns-clause-state g c =
    let begun = c.requires.surveyed.begun in
    let typed : c.complete.new.state.typed ≡ c.args.state.now.typed =
    typed-completed (g.B.Book.kit c.args.book.now) c.depart.new.state c.complete.new.state c.depart.new.run.items
    c.complete.new.run.items c.complete.ensures.completed
    ∙ c.depart.ensures.typed in
    let same : c.complete.new.state.typed ≡ c.requires.surveyed.end.typed = typed
    ∙ sym (ap (λ (s : State). s.typed) begun.ends
    ∙ typed-end_of (g.B.Book.kit c.args.book.now) c.args.state.now c.args.self.now.runs.first.items) in
    c.restore.ensures ∙ rw same refl ∙ begun.saved
