use Rattle.std.proofs.Common.{arith, ◌≡◌, ◌∙◌, ◌+◌, ◌*◌, ap, sym}
use Rattle.std.proofs.lemmas.List.{flat_map_more}
use Rattle.std.proofs.lemmas.List.FromFn.{map-range_with_len_more}
use Rattle.desk_made.specs.Draws.{next, number_after}
use Rattle.desk_made.specs.Made.{enter, enter_at}
use Rattle.desk_made.specs.Requests.{request_bytes}
use Rattle.desk_made.proofs.Drawing.{enter_at-more, number_after-more}
use Rattle.desk_made.proofs.sessions.push_sessions.Goals as goal

pub sessions-preserved : goal.sessions-preserved
sessions-preserved c =
    let start = c.args.start in
    let place = c.sessions.place in
    let first : c.draw-first.new.self ≡ next (number_after start (2 * place)) =
    c.draw-first.ensures.next ∙ ap next c.sessions.invariant.draws in
    let second : c.draw-second.new.self ≡ next (next (number_after start (2 * place))) =
    c.draw-second.ensures.next ∙ ap next first in
    let opened : enter (place + 1) c.draw-first.result c.draw-second.result ≡ enter_at start (place + 1) =
    rw (c.draw-first.ensures.drawn, first, c.draw-second.ensures.drawn, second) (sym (enter_at-more start place)) in
    let more = map-range_with_len_more (enter_at start) 1 place (place + 1) (omega arith) in
    record {
      draws = second ∙ sym (number_after-more start place);
      written = rw (more, ← flat_map_more request_bytes, ← c.sessions.invariant.written, ← opened)
          c.in_ok-push_session.ensures;
    }
