use Rattle.http_cut.proofs.Cuts.{IsCut_unique}
use Rattle.http_cut.proofs.laws.a_stream_has_one_cut.Goals as goal

pub returns : goal.returns
returns c = λ requests others rest left end last x y. IsCut_unique _ requests others rest left end last x y
