use Rattle.std.specs.Fmt.{digits}
use Rattle.serde_json.proofs.OnLiterals.{serde_json_on_literals}
use Rattle.desk_made.specs.Made.{add_edition}
use Rattle.desk_made.proofs.steward.push_edition.Goals as goal

pub returns : goal.returns
unfolding add_edition digits serde_json_on_literals
returns c = c.push_post.ensures
