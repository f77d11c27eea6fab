use Rattle.std.proofs.Common.{◌≡◌, map, drop}
use Rattle.serde_json.specs.View.{items_of}
use Rattle.json_parts.specs.Writing.{with_items, with_value}
use Rattle.case_json.specs.Answer.{run_shown, step_shown}
use Rattle.case_json.proofs.answer.show_run.Given as goal

abbrev pub invariant-steps : goal.invariant-steps
invariant-steps l = with_items l.out (items_of (map step_shown (drop l.step-index l.run)))
    ≡ with_value l.fn.out (run_shown l.run)
