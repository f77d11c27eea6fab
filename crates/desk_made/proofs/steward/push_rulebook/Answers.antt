use Rattle.desk_made.specs.Made.{add_rulebook}
use Rattle.desk_made.proofs.steward.push_rulebook.Goals as goal

pub returns : goal.returns
unfolding add_rulebook
returns c =
    rw (c.as_slice.ensures, c.in_ok-text.ensures.text, c.in_ok-rulebook.ensures.rulebook, c.in_ok-big.ensures.schema)
    at c.push_post.ensures
