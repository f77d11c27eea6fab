use Rattle.http_desk.proofs.Fronts.{nothing-stops}
use Rattle.http_desk.proofs.laws.all_else_is_as_without_a_front.Goals as goal

pub returns-clause-others : goal.returns-clause-others
returns-clause-others c = λ front request none. nothing-stops front request none
