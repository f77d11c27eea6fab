use Rattle.http_cut.proofs.Heads.{HasHead-append, HasHead_same}
use Rattle.http_cut.proofs.laws.a_head_stays.Goals as goal

pub returns : goal.returns
returns c = record {
  stays = λ head x. HasHead-append _ _ head x;
  same = λ head other x y. HasHead_same _ _ head other x y;
}
