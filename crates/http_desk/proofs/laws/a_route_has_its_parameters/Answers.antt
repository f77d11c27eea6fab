use Rattle.std.proofs.Common.{ℕ, ◌<◌, get_or, arith}
use Rattle.http_cut.proofs.Table.{IsText-bytes}
use Rattle.http_desk.proofs.Named.{route_made}
use Rattle.http_desk.proofs.laws.a_route_has_its_parameters.Goals as goal

pub returns : goal.returns
returns c = λ found e.
    let target = c.args.target.now in
    let bytes : (i : ℕ) → get_or target i 0 < 256 = λ i. let fits = c.type_inv.target i in omega arith in
    route_made target found (IsText-bytes target bytes) e
