use Rattle.std.proofs.Common.{◌≤◌, ◌∙◌, arith, length}
use Rattle.fix_model.specs.Run.{end_of}
use Rattle.fix_model.proofs.LeftSides.{few_left_sides}
use Rattle.fix_engine.proofs.Rooms.{HasRoom-fewer, KeepsSize-runs}
use Rattle.fix_engine.proofs.deciding.decide.Goals as goal

pub invariant_of-work : goal.invariant_of-work
invariant_of-work g c = c.survey-verdict.ensures.room _ _ c.work.invariant

pub run_elsewhere-requires-clause-room : goal.run_elsewhere-requires-clause-room
run_elsewhere-requires-clause-room g c =
    let kit = g.B.Book.kit c.args.book.now in
    let narrow : kit.width ≤ c.work.inside.attributes = rw (← c.work.view_is) at c.requires.room.attributes in
    let few : length kit.rules ≤ c.work.inside.rule_count = rw (← c.work.view_is) at c.requires.room.rules in
    HasRoom-fewer c.work.inside.attributes c.work.inside.rule_count _ _ _
    (c.survey-verdict.ensures.room _ _ c.work.invariant) narrow few

pub run_elsewhere-requires-clause-surveyed : goal.run_elsewhere-requires-clause-surveyed
run_elsewhere-requires-clause-surveyed g c = rw c.survey-verdict.ensures.state c.survey-verdict.ensures.surveyed

pub run_elsewhere-requires-clause-differs : goal.run_elsewhere-requires-clause-differs
run_elsewhere-requires-clause-differs g c = rw c.survey-verdict.ensures.state c.in-Conflict.ensures.judgement.1

pub invariant_of-work-in-Conflict : goal.invariant_of-work-in-Conflict
invariant_of-work-in-Conflict g c =
    c.run_elsewhere.ensures.room _ _ (c.survey-verdict.ensures.room _ _ c.work.invariant)

-- at a fix there is the first run alone
pub returns-in-Fix : goal.returns-in-Fix
returns-in-Fix g c =
    let kit = g.B.Book.kit c.args.book.now in
    let told = c.survey-verdict.ensures in
    let few = few_left_sides kit (end_of kit c.args.state.now c.survey-verdict.new.self.runs.first.items) in
    record {
      answer = rw c.in-Fix.is (c.in-Fix.ensures.judgement, told.surveyed.begun.second);
      state = told.state;
      looks = omega (arith, told.looks, few);
      size = KeepsSize-runs _ _ _ _ c.work.view_is;
    }

-- at a conflict the second run is made from the same state
pub returns-in-Conflict : goal.returns-in-Conflict
returns-in-Conflict g c =
    let kit = g.B.Book.kit c.args.book.now in
    let told = c.survey-verdict.ensures in
    let few = few_left_sides kit (end_of kit c.args.state.now c.survey-verdict.new.self.runs.first.items) in
    record {
      answer = rw told.state at c.run_elsewhere.ensures.conflict;
      state = c.run_elsewhere.ensures.state ∙ told.state;
      looks = omega (arith, told.looks, c.run_elsewhere.ensures.looks, few);
      size = KeepsSize-runs _ _ _ _ c.work.view_is;
    }
