use Rattle.std.proofs.Common.{subst}
use Rattle.desk_words.specs.Tables.{Rows}
use Rattle.machine_core.specs.Outcomes.{Answers}
use Rattle.session_machine.specs.Made.{made_by}
use Rattle.session_machine.proofs.MakingTold.{Answers-made}
use Rattle.session_machine.proofs.steward.making.made_by.Goals as goal

pub returns-in-AddClerk-clause-answers : goal.returns-in-AddClerk-clause-answers
returns-in-AddClerk-clause-answers c =
    Answers-made c.add_clerk.result c.tables-tables.ensures.tables c.in-AddClerk.is c.add_clerk.ensures

pub returns-in-Publish-clause-answers : goal.returns-in-Publish-clause-answers
returns-in-Publish-clause-answers c =
    Answers-made c.publish.result c.tables-tables.ensures.tables c.in-Publish.is c.publish.ensures

pub returns-in-AddRegion-clause-answers : goal.returns-in-AddRegion-clause-answers
returns-in-AddRegion-clause-answers c =
    subst (λ (rows : Rows). Answers c.add_region.result (made_by rows c.args.work.now)) c.tables-tables.ensures.tables
    c.add_region.ensures.answers
