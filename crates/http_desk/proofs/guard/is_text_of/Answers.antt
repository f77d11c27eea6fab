use Rattle.std.proofs.Common.{◌≡◌, ◌∙◌, List, ℕ, ◌++◌, Some, None, ap, sym}
use Rattle.std.specs.Cmp.{unsigned_Decides}
use Rattle.std.specs.Str.{bytes_eq}
use Rattle.std.proofs.lemmas.Slice.Eq.{strip_prefix_is}
use Rattle.desk_base.proofs.Utf8.{bytes_eq-apart}
use Rattle.http_desk.proofs.Guarding.{bytes_eq-rest}
use Rattle.http_desk.proofs.guard.is_text_of.Goals as goal

-- the name stands in front, and then the digits or not
pub returns-in-Some : goal.returns-in-Some
returns-in-Some c =
    let text = c.args.text.now in
    let name = c.args.name.now in
    let begins : text ≡ name ++ c.in-Some.rest.now =
    strip_prefix_is unsigned_Decides text name (Some c.in-Some.rest) c.in-Some.ensures.cases in
    c.eq.ensures ∙ bytes_eq-rest name c.in-Some.rest.now c.args.digits.now
    ∙ ap (λ (whole : List ℕ). bytes_eq whole (name ++ c.args.digits.now)) (sym begins)

-- it does not
pub returns-in-None : goal.returns-in-None
returns-in-None c =
    let text = c.args.text.now in
    let name = c.args.name.now in
    let apart = strip_prefix_is unsigned_Decides text name None c.in-None.ensures.cases in
    sym (bytes_eq-apart text (name ++ c.args.digits.now) (apart c.args.digits.now))
