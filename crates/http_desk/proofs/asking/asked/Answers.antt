use Rattle.std.proofs.Common.{◌≡◌, ℕ, List, Some, true, sym, ap, ◌∙◌}
use Rattle.std.specs.Str.{bytes_eq}
use Rattle.http_cut.specs.declared.route.Method.{Method}
use Rattle.http_cut.specs.Routes.{Match, method_of, route_of}
use Rattle.http_desk.specs.Refusals.{method_name, wants_length}
use Rattle.http_desk.proofs.Lengths.{says_no_length, asked_no_length}
use Rattle.http_desk.proofs.asking.asked.Goals as goal

pub returns-then-not-request : goal.returns-then-not-request
returns-then-not-request c =
    λ head shows.
    let found : Match = c.in-Some.found in
    let target : c.of.result.now ≡ head.target = c.of.ensures ∙ shows.target in
    let route : route_of head.target ≡ Some found = ap route_of (sym target) ∙ sym c.find.ensures ∙ c.in-Some.is in
    let method : c.method-method.result ≡ method_of found.0 = c.method-method.ensures ∙ ap method_of c.route.ensures in
    let named : bytes_eq head.method (method_name (method_of found.0)) ≡ true =
    ap (λ (m : List ℕ). bytes_eq m (method_name (method_of found.0))) (sym (c.of-2.ensures ∙ shows.method))
    ∙ ap (λ (m : Method). bytes_eq c.of-2.result.now (method_name m)) (sym method) ∙ sym c.is_method.ensures
    ∙ c.if-not-is_method.false in
    let wants : wants_length (method_of found.0) ≡ true = ap wants_length (sym method) ∙ sym c.wants_length.ensures
    ∙ c.if-wants_length.true in
    asked_no_length head found route named wants
    (says_no_length head c.args.request.now.has_length c.if-not-request.true shows.has_length)
