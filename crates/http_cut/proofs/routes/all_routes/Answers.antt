use Rattle.std.proofs.Common.{refl}
use Rattle.http_cut.specs.Routes.{route_rows}
use Rattle.http_cut.proofs.routes.all_routes.Goals as goal

pub returns : goal.returns
unfolding route_rows
returns c = rw (c.in_ok-add_all.ensures, c.new-router.ensures) refl
