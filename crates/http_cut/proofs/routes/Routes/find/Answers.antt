use Rattle.std.proofs.Common.{ℕ, List, refl, ap, ◌∙◌}
use Rattle.std.proofs.lemmas.Str.{is_utf8-from_IsUtf8}
use Rattle.desk_base.proofs.Utf8.{is_utf8-other}
use Rattle.http_cut.specs.Routes.{match_of, with_good_numbers}
use Rattle.http_cut.proofs.routes.Routes.find.Goals as goal

pub returns-in-Ok : goal.returns-in-Ok
returns-in-Ok c =
    let text = c.in-Ok.ensures.cases in
    rw (is_utf8-from_IsUtf8 c.args.target.now text.1)
    (c.find_text.ensures ∙ ap (λ (t : List ℕ). with_good_numbers (match_of t)) text.0)

pub returns-in-Err : goal.returns-in-Err
returns-in-Err c = rw (is_utf8-other c.args.target.now c.in-Err.ensures.cases.0) refl
