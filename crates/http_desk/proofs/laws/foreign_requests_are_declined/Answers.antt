use Rattle.http_desk.specs.declared.declined.Declined.TheVariants.{Refused}
use Rattle.http_desk.specs.declared.refusal.Refused.TheVariants.{Origin}
use Rattle.http_desk.specs.Answered.{asks_head}
use Rattle.http_desk.specs.Fronts.{command_over}
use Rattle.http_desk.proofs.Fronts.{declined-answer, declined-foreign, foreign-declined}
use Rattle.http_desk.proofs.laws.foreign_requests_are_declined.Goals as goal

pub returns-clause-exactly : goal.returns-clause-exactly
returns-clause-exactly c = λ front request guards.
    (declined-foreign front c.args.port guards request, foreign-declined front c.args.port guards request)

pub returns-clause-answered : goal.returns-clause-answered
returns-clause-answered c = λ front request before after closing outcome text guards foreign answers.
    declined-answer before after (command_over front request) (Refused Origin) closing (asks_head request) outcome text
    (foreign-declined front c.args.port guards request foreign) answers
