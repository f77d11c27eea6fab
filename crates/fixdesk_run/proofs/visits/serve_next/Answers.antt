use Rattle.std.proofs.Common.{◌∙◌, refl}
use Rattle.desk_links.specs.Doors.{link_seen}
use Rattle.fixdesk_run.specs.Standing.{standing}
use Rattle.fixdesk_run.proofs.visits.serve_next.Goals as goal

-- the link was served and logged
pub returns-clause-passed : goal.returns-clause-passed
returns-clause-passed g c =
    let seen = link_seen g.L.Source.Source g.L.Sink.Sink in
    let (streams, line) = c.serve_link-end.ensures.logged in (
      record {
        visit = record {
          opened = seen c.in_ok-link.link;
          closed = seen c.serve_link-end.new.link;
          end = c.serve_link-end.result;
          answers = streams.answers;
          after = standing g.M.Machine g.K.Keeper c.serve_link-end.new.machine c.serve_link-end.new.keeper;
        };
        end_is = refl;
        after_is = refl;
        is = record { fresh = c.in_ok-link.ensures.fresh; streams = streams; answers = refl };
        port = c.close.ensures.port ∙ c.accept.ensures.port;
        accepted = c.close.ensures.accepted ∙ c.in_ok-link.ensures.counted;
        live = c.close.ensures.live;
        waiting = rw c.close.ensures.waiting c.in_ok-link.ensures.link;
        closed = rw c.accept.ensures.closed at c.close.ensures.closed;
      },
      line,
    )

-- and the keeper tells no more than before
pub returns-clause-no_more : goal.returns-clause-no_more
returns-clause-no_more g c = c.serve_link-end.ensures.logged.0.later.told
