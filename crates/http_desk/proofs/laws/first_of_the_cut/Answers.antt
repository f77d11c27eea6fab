use Rattle.http_desk.proofs.Cutting.{Begins-first}
use Rattle.http_desk.proofs.laws.first_of_the_cut.Goals as goal

pub returns : goal.returns
returns c requests all rest last end begins cut =
    let first = Begins-first c.args.bytes.now requests all rest last end begins cut.begins cut.ends in
    (first.0, first.1)
