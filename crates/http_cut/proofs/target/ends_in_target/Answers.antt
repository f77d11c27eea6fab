use Rattle.http_cut.proofs.Ends.{EndsInTarget-following}
use Rattle.http_cut.proofs.target.ends_in_target.Goals as goal

pub returns : goal.returns
returns c =
    let following = EndsInTarget-following c.args.bytes.now c.without_empty_lines.result.now
    c.without_empty_lines.ensures in (
      λ yes. following.0 (c.ends_after_method.ensures.0 yes),
      λ inside. c.ends_after_method.ensures.1 (following.1 inside),
    )
