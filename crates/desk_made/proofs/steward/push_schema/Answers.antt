use Rattle.desk_made.specs.Made.{add_schema}
use Rattle.desk_made.proofs.steward.push_schema.Goals as goal

pub returns : goal.returns
unfolding add_schema
returns c = rw (c.as_slice.ensures.value, c.in_ok-text.ensures, c.in_ok-big.ensures.schema) at c.push_post.ensures
