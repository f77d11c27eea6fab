use Rattle.std.proofs.Common.{map, string_bytes}
use Rattle.fixdesk_run.proofs.Limits.{IsLimited-task_of}
use Rattle.fixdesk_run.proofs.top.run.Goals as goal

pub perform-requires : goal.perform-requires
perform-requires g c = rw c.task_of.ensures (IsLimited-task_of (map string_bytes c.args.words.now))
