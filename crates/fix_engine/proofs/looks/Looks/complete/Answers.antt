use Rattle.std.proofs.Common.{◌≡◌, [], ◌∷◌, ◌++◌, length, ap, arith, length-append}
use Rattle.fix_model.specs.declared.state.Step.{Step}
use Rattle.fix_model.proofs.Counts.{uncovered_count-step}
use Rattle.fix_model.proofs.States.{Fits-after}
use Rattle.fix_engine.proofs.FirstRuns.{IsBeginning-start, IsBeginning-step, IsCompleted-final}
use Rattle.fix_engine.proofs.Known.{AreKnown-after, AreKnown-forgotten, pending_count-forgotten}
use Rattle.fix_engine.proofs.Woken.{IsIdle-woken}
use Rattle.fix_engine.proofs.looks.Looks.complete.Goals as goal

pub steps-init : goal.steps-init
steps-init g c =
    let kit = g.B.Book.kit c.args.book.now in
    record {
      beginning = IsBeginning-start kit c.args.state.now c.args.run.now.items;
      fits = c.requires.fits;
      known = AreKnown-forgotten kit c.args.state.now c.forget.new.self.remembered.items c.rules.result.now
          c.forget.ensures.forgotten c.rules.ensures.rules;
      looks = omega (
        arith,
        pending_count-forgotten c.forget.new.self.remembered.items c.rules.result.now kit c.forget.ensures.forgotten
            c.rules.ensures.rules,
      );
      looks_stay = c.forget.ensures.room;
      places = c.requires.room;
      room = omega arith;
      idle = λ place within. absurd (omega (arith, within));
    }

pub unwrap-requires : goal.unwrap-requires
unwrap-requires g c =
    let kit = g.B.Book.kit c.args.book.now in
    let before = c.steps.invariant in
    let count = uncovered_count-step kit c.steps.state c.in-Some.step c.rules.ensures.valid before.fits
    c.in-Some.ensures.step.holds in
    c.push.ensures.succeeds (omega (arith, count, before.places))

pub steps-smaller : goal.steps-smaller
steps-smaller g c =
    let kit = g.B.Book.kit c.args.book.now in
    let before = c.steps.invariant in
    let count = uncovered_count-step kit c.steps.state c.in-Some.step c.rules.ensures.valid before.fits
    c.in-Some.ensures.step.holds in
    rw c.make.ensures (omega (arith, count))

pub steps-preserved : goal.steps-preserved
steps-preserved g c =
    let kit = g.B.Book.kit c.args.book.now in
    let state = c.steps.state in
    let step : Step = c.in-Some.step in
    let least = c.in-Some.ensures.step in
    let before = c.steps.invariant in
    let count = uncovered_count-step kit state step c.rules.ensures.valid before.fits least.holds in
    let pushed : c.push.new.self.items ≡ c.steps.run.items ++ step ∷ [] = rw c.unwrap.ensures at c.push.ensures.items in
    record {
      beginning = IsBeginning-step kit c.args.state.now state c.make.new.state c.args.run.now.items c.steps.run.items
          c.push.new.self.items step before.beginning least c.make.ensures pushed;
      fits = rw c.make.ensures (Fits-after kit state step before.fits least.holds);
      known = rw c.make.ensures (AreKnown-after kit state step c.next_step.new.self.remembered.items least.holds
          c.in-Some.ensures.looks.known);
      looks = omega (arith, before.looks, c.in-Some.ensures.looks.looks);
      looks_stay = omega (arith, before.looks_stay, c.in-Some.ensures.looks.room);
      places = rw c.make.ensures
          (omega (
            arith,
            count,
            before.places,
            c.push.ensures.capacity,
            ap length pushed,
            length-append
                c.steps.run.items (step ∷ []),
          ));
      room = omega (arith, before.room, c.push.ensures.capacity);
      idle = rw c.make.ensures (IsIdle-woken kit c.rules.ensures.valid state step c.woken-from.result before.fits least
          c.woken-from.ensures.up_to c.woken-from.ensures.apart);
    }

pub returns-clause-completed : goal.returns-clause-completed
returns-clause-completed g c =
    IsCompleted-final (g.B.Book.kit c.args.book.now) c.args.state.now c.steps.state c.args.run.now.items
    c.steps.run.items
    c.steps.invariant.beginning c.in_default.ensures.step
