use Rattle.http_cut.proofs.Cuts.{BeginsRequest-append, IsBadRest-append}
use Rattle.http_cut.proofs.laws.the_front_stays.Goals as goal

pub returns : goal.returns
returns c = record {
  request = λ head body rest x. BeginsRequest-append _ _ head body rest x;
  bad = λ kind x. IsBadRest-append _ _ kind x;
}
