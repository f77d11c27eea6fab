use Rattle.std.proofs.Common.{◌≡◌, ◌∙◌, map, refl, sym, inr, arith, string_bytes, None, Some}
use Rattle.fixdesk_run.specs.Site.{Site, site}
use Rattle.fixdesk_run.proofs.Beginnings.{Leaves-served, Leaves-shut, one_of_three}
use Rattle.fixdesk_run.proofs.Openings.{shut_code}
use Rattle.fixdesk_run.proofs.service.run_service.Goals as goal

-- no machine began
pub returns-in-Err : goal.returns-in-Err
returns-in-Err g c =
    let some : g.S.Service.planned c.args.service.now (map string_bytes c.args.words.now) ≡ Some c.in-Some.plan =
    sym c.plan.ensures ∙ c.in-Some.is in
    let at = site g.W.Sink g.K.Keeper g.L.Listener in
    let old : Site = at c.args.out.now c.args.keeper.now c.args.door.now in
    let new : Site = at c.begin_machine.new.out c.begin_machine.new.keeper c.args.door.now in
    record {
      leaves = rw (some, c.code-in-Err.ensures) (Leaves-shut old new c.in-Err.status (c.in-Err.ensures.shut None 0) refl
          (record {
            world = record { read_faults = omega arith; write_faults = c.begin_machine.ensures.write_faults };
            door = omega arith;
          }));
      idle = c.requires;
      complete = rw some (λ steady takes. rw c.code-in-Err.ensures
          (inr (shut_code c.in-Err.status (c.in-Err.ensures.complete steady.0 takes.1))));
    }

-- links were served
pub returns : goal.returns
returns g c =
    let some : g.S.Service.planned c.args.service.now (map string_bytes c.args.words.now) ≡ Some c.in-Some.plan =
    sym c.plan.ensures ∙ c.in-Some.is in
    let old : Site = site g.W.Sink g.K.Keeper g.L.Listener c.args.out.now c.args.keeper.now c.args.door.now in
    let later = rw c.in-Ok.ensures.silent at c.serve_plan-end.ensures.later in
    record {
      leaves = rw (some, c.code-2.ensures) (Leaves-served c.serve_plan-end.result c.in-Ok.ensures.begun
          (rw c.in-Ok.ensures.silent at (c.serve_plan-end.ensures.ends old.world.told old.world.uses))
          c.serve_plan-end.ensures.no_more
          (record {
            world = record { read_faults = later.world.read_faults; write_faults = later.world.write_faults };
            door = later.door;
          }));
      idle = c.serve_plan-end.ensures.idle;
      complete = rw some (λ steady takes. rw c.code-2.ensures
          (one_of_three _ (c.serve_plan-end.ensures.complete steady.1 (rw c.in-Ok.ensures.silent takes.0))));
    }
