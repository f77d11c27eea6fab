use Rattle.std.proofs.Common.{◌∙◌, ◌++◌, ap, length, arith}
use Rattle.fix_model.proofs.Counts.{uncovered_count-le}
use Rattle.fix_engine.proofs.FirstRuns.{IsBegun-completed}
use Rattle.fix_engine.proofs.runs.Runs.begin.Goals as goal

pub complete-requires-clause-room : goal.complete-requires-clause-room
complete-requires-clause-room g c =
    let few = uncovered_count-le (g.B.Book.kit c.args.book.now) c.args.state.now c.requires.fits in
    omega (arith, ap length c.clear.ensures.items, c.clear.ensures.capacity, c.requires.room.first, few)

pub returns-clause-begun : goal.returns-clause-begun
returns-clause-begun g c =
    IsBegun-completed (g.B.Book.kit c.args.book.now) c.args.state.now c.complete.new.state _ c.clear.new.self.items
    c.complete.ensures.valid c.requires.fits c.complete.ensures.completed c.clear.ensures.items c.clear-2.ensures.items
    (rw c.unwrap.ensures at c.extend_from_slice.ensures.items
    ∙ ap (λ cells. cells ++ c.as_slice.result.now) c.clear-3.ensures.items
    ∙ c.as_slice.ensures)
