use Rattle.desk_made.specs.Made.{enter}
use Rattle.desk_made.proofs.sessions.push_session.Goals as goal

pub returns : goal.returns
unfolding enter
returns c =
    rw (
      c.as_str-2.ensures.value,
      c.in_ok-target.ensures.ok,
      c.as_slice.ensures.value,
      c.in_ok-body.ensures,
      c.as_str.ensures.text,
      c.in_ok-key.ensures,
      c.kind_of.ensures,
    ) at c.push_post.ensures
