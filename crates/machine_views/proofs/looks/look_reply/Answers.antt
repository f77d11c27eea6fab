use Rattle.std.proofs.Common.{rules}
use Rattle.machine_views.proofs.looks.look_reply.Goals as goal

pub returns-in-Preview-clause-answers : goal.returns-in-Preview-clause-answers
returns-in-Preview-clause-answers c = rw c.in-Preview.is (search rules)

pub returns-in-Records-clause-answers : goal.returns-in-Records-clause-answers
returns-in-Records-clause-answers c = rw c.in-Records.is (search rules)

pub returns-in-Carry-clause-answers : goal.returns-in-Carry-clause-answers
returns-in-Carry-clause-answers c = rw c.in-Carry.is (search rules)
