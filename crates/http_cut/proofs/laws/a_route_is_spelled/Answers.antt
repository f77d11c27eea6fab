use Rattle.std.proofs.Common.{ℕ, ◌<◌, get_or, arith}
use Rattle.http_cut.proofs.Finding.{match_is_spelled, spelled_is_match}
use Rattle.http_cut.proofs.Table.{IsText-bytes}
use Rattle.http_cut.proofs.laws.a_route_is_spelled.Goals as goal

pub returns : goal.returns
returns c =
    let target = c.args.target.now in
    let bytes : (i : ℕ) → get_or target i 0 < 256 = λ i. let fits = c.type_inv.target i in omega arith in
    let text = IsText-bytes target bytes in
    record {
      found = λ found e. match_is_spelled target found text e;
      only = λ route spelled. spelled_is_match target route text spelled;
    }
