use Rattle.std.proofs.Common.{◌≡◌, ◌∙◌, None, Some, sym, subst}
use Rattle.std.specs.List.{position, remove}
use Rattle.desk_cases.specs.Judging.{TakesNamed, is_named}
use Rattle.desk_cases.proofs.Contents.{TakesNamed-none, TakesNamed-some}
use Rattle.desk_cases.proofs.judging.take_named.Goals as goal

pub returns-in_err-place : goal.returns-in_err-place
returns-in_err-place c =
    let name = c.args.name.now in
    let asked : c.place_of.result ≡ position (is_named name) c.as_slice.result.now = c.place_of.ensures in
    let none : position (is_named name) c.args.parts.now.items ≡ None =
    subst (λ items. position (is_named name) items ≡ None) c.as_slice.ensures.value (sym asked ∙ c.in_err-place.was) in
    rw c.from_residual.ensures (TakesNamed-none name c.args.parts.now.items none)

pub returns : goal.returns
returns c =
    let name = c.args.name.now in
    let parts = c.args.parts.now.items in
    let place = c.in_ok-place.place in
    let asked : c.place_of.result ≡ position (is_named name) c.as_slice.result.now = c.place_of.ensures in
    let found : position (is_named name) parts ≡ Some place =
    subst (λ items. position (is_named name) items ≡ Some place) c.as_slice.ensures.value
    (sym asked ∙ c.in_ok-place.was) in
    rw c.remove.ensures.items (subst (λ part. TakesNamed name parts (remove parts place) (Some part))
    (sym c.remove.ensures.value) (TakesNamed-some name parts place c.remove.result found))
