use Rattle.std.proofs.Common.{◌≡◌, ◌∙◌, OnOk, subst}
use Rattle.std.specs.Prelude.{IsUtf8}
use Rattle.json_parts.specs.Writing.{with_value}
use Rattle.desk_dump.proofs.Bodies.{body_shown-numbers, body_shown-string}
use Rattle.desk_dump.proofs.rows.write_body.Goals as goal

pub returns-in-Ok : goal.returns-in-Ok
returns-in-Ok c =
    let body = c.args.body.now in
    let shown = body_shown-string body c.in-Ok.text.now (c.in-Ok.ensures.cases.0 ∙ c.as_slice.ensures)
    (subst IsUtf8 c.as_slice.ensures c.in-Ok.ensures.cases.1) in
    subst (λ value. OnOk c.string.result (c.string.new.self ≡ with_value c.args.out.now value)) shown c.string.ensures

pub returns-in-Err : goal.returns-in-Err
returns-in-Err c =
    let body = c.args.body.now in
    let shown = body_shown-numbers body (subst (λ bytes. IsUtf8 bytes → ⊥) c.as_slice.ensures c.in-Err.ensures.cases.0) in
    subst (λ value. OnOk c.show.result (c.show.new.out ≡ with_value c.args.out.now value)) shown c.show.ensures
