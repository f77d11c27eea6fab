use Rattle.std.proofs.Common.{◌-◌, ◌<◌, ◌≤◌, [], length}
use Rattle.http_cut.specs.declared.intake.TheConstants.{PIECE}
use Rattle.http_desk.specs.Logs.{last_line}
use Rattle.http_desk.specs.Scenes.{scene}
use Rattle.http_desk.specs.Streams.{IfShown}
use Rattle.http_desk.proofs.Underway.{Serving}
use Rattle.http_desk.proofs.serving.serve.Given as goal

abbrev pub invariant-requests : goal.invariant-requests
invariant-requests g l =
    let at = scene g.S.Source g.W.Sink g.M.Machine g.K.Keeper in
    record {
      serving : Serving l.front g.S.Source.reads l.fn.link.source l.link.source l.intake
          (g.K.Keeper.is_steady l.fn.keeper) (g.W.Sink.takes l.fn.link.sink) (g.W.Sink.takes l.link.sink) l.limit
          (at l.fn.link l.fn.machine l.fn.keeper) (at l.link l.machine l.keeper) l.answered l.intake;
      logged : IfShown (g.L.Log.line l.log) (last_line [] serving.answers);
      reads : g.S.Source.is_steady l.fn.link.source → g.S.Source.is_steady l.link.source;
      keeps : g.K.Keeper.is_steady l.fn.keeper → g.K.Keeper.is_steady l.keeper;
      within : l.answered ≤ l.limit;
      few : length l.intake < PIECE;
    }

abbrev pub decreases-requests : goal.decreases-requests
decreases-requests g l = l.limit - l.answered
