use Rattle.std.proofs.Common.{ℕ, ◌<◌, List, get_or, sym, ap, subst, ◌∙◌, arith}
use Rattle.matchit.specs.Params.{walk, AllText}
use Rattle.matchit.specs.Seek.{first}
use Rattle.http_cut.specs.Routes.{Rows}
use Rattle.http_cut.proofs.Table.{AllText-route}
use Rattle.http_cut.proofs.routes.Routes.look_up.Goals as goal

pub invariant_of-result : goal.invariant_of-result
invariant_of-result c =
    let target = c.args.target.now in
    let params = c.in-Ok.found.params in
    let bytes : (i : ℕ) → get_or target i 0 < 256 = λ i. let fits = c.type_inv.target i in omega arith in
    let found = sym (ap (λ (rows : Rows). first rows target) c.self.invariant) ∙ c.in-Ok.ensures.found in
    let texts = AllText-route target _ c.utf8.target bytes found in
    subst (λ (path : List ℕ). AllText (walk params.pattern.now params.text.now path params.names.now 0 0))
    (sym c.in-Ok.ensures.path) texts
