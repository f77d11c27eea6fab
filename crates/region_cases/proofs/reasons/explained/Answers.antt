use Rattle.fix_explain.proofs.Shortest.{IsStepOf-run}
use Rattle.region_cases.proofs.reasons.explained.Goals as goal

-- the steps of a reason are a run, so they are steps of the kit
pub uses-requires-clause-steps : goal.uses-requires-clause-steps
uses-requires-clause-steps c = rw c.as_slice-2.ensures
    (IsStepOf-run c.args.given.now.book c.args.given.now.state c.in_ok-steps.steps c.in_ok-steps.ensures.fixes.run)
