use Rattle.std.proofs.Common.{◌∙◌, sym}
use Rattle.http_desk.proofs.Numbered.{positive-bounds}
use Rattle.http_desk.proofs.parameters.digits_at.Goals as goal

-- so many digits write a number below that power of ten
pub returns-in-Some-positive-clause-few : goal.returns-in-Some-positive-clause-few
returns-in-Some-positive-clause-few c =
    (positive-bounds c.args.most c.as_bytes.result.now c.in-Some-positive.number
    (sym c.positive.ensures ∙ c.in-Some-positive.is)).1
