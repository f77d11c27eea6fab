use Rattle.http_cut.proofs.Heads.{IsBadHead-append, bad_is_not_awaited}
use Rattle.http_cut.proofs.laws.a_bad_head_stays.Goals as goal

pub returns : goal.returns
returns c = record {
  stays = IsBadHead-append _ _ c.requires;
  not_awaited = λ may. bad_is_not_awaited _ c.requires may;
}
