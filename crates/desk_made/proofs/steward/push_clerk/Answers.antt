use Rattle.serde_json.proofs.OnLiterals.{serde_json_on_literals}
use Rattle.desk_made.specs.Made.{add_clerk}
use Rattle.desk_made.proofs.steward.push_clerk.Goals as goal

pub returns : goal.returns
unfolding add_clerk serde_json_on_literals
returns c = c.push_post.ensures
