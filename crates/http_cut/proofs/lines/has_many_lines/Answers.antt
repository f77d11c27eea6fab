use Rattle.http_cut.proofs.Opening.{many_following}
use Rattle.http_cut.proofs.lines.has_many_lines.Goals as goal

pub returns : goal.returns
returns c =
    let following = many_following c.args.bytes.now c.without_empty_lines.result.now c.without_empty_lines.ensures in
    (λ yes. following.0 (c.goes_on.ensures.0 yes), λ many. c.goes_on.ensures.1 (following.1 many))
