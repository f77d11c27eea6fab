use Rattle.std.proofs.Common.{◌≡◌, ◌≤◌, ap, arith, length, rules}
use Rattle.std.proofs.lemmas.List.Sums.{count_by-le-length}
use Rattle.fixdesk_run.specs.Serve.{served_line}
use Rattle.fixdesk_run.specs.Visits.{is_early}
use Rattle.fixdesk_run.proofs.serving.CountingService.serve_plan.Goals as goal

-- an output that takes the line does not fail as it is written
pub returns-clause-complete : goal.returns-clause-complete
returns-clause-complete g c offers takes =
    let early = c.in-Ok-serve_links.early in
    let passed = c.in-Ok-serve_links.ensures.passed in
    let few : early ≤ c.args.plan.count =
    omega (arith, count_by-le-length (λ visit. is_early visit.end) passed.visits, passed.early_is, passed.all) in
    let same : c.as_slice.result.now ≡ served_line c.args.plan.count early = search rules in
    let taken = c.in-Err-write_all.ensures.takes (length (served_line c.args.plan.count early)) (takes early few)
    (omega (arith, ap length same)) in
    let done = taken.0 in
    absurd (cc)
