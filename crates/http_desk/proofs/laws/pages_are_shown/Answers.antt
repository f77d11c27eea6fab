use Rattle.http_desk.specs.declared.declined.Declined.TheVariants.{Shown}
use Rattle.http_desk.specs.Answered.{asks_head}
use Rattle.http_desk.specs.Fronts.{command_over}
use Rattle.http_desk.proofs.Fronts.{declined-answer, page-shown}
use Rattle.http_desk.proofs.laws.pages_are_shown.Goals as goal

pub returns : goal.returns
returns c = λ front request page before after closing outcome text own found answers.
    declined-answer before after (command_over front request) (Shown page) closing (asks_head request) outcome text
    (page-shown front request page own found) answers
