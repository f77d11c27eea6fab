use Rattle.http_desk.proofs.Ends.{faultless}
use Rattle.http_desk.proofs.serving.serve_link.Goals as goal

-- over devices that do not fail no fault comes
pub returns-clause-complete : goal.returns-clause-complete
returns-clause-complete g c = faultless c.serve.ensures.0
