use Rattle.std.proofs.Common.{inr, arith}
use Rattle.fixdesk_run.proofs.Openings.{shut_code}
use Rattle.fixdesk_run.proofs.report.report.Goals as goal

-- no machine began
pub returns-in-Err : goal.returns-in-Err
returns-in-Err g c = record {
  ended = inr (c.in-Err.ensures.shut (g.S.Source.left c.args.link.now.source)
      (g.S.Source.read_faults c.args.link.now.source));
  later = record { read_faults = omega arith; write_faults = c.begin_machine.ensures.write_faults };
  complete = λ keeps takes. inr (shut_code c.in-Err.status (c.in-Err.ensures.complete keeps
      (λ text due. takes text (inr due))));
}
