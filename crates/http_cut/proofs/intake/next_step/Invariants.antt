use Rattle.std.proofs.Common.{◌≤◌, ◌<◌, ◌+◌, ◌-◌, ℕ, List, length}
use Rattle.desk_base.specs.declared.limits.TheConstants.{MAX_HEAD, MAX_LONG_BODY}
use Rattle.httparse.specs.Grammar.{RequestHead}
use Rattle.http_cut.specs.declared.intake.TheConstants.{PIECE}
use Rattle.http_cut.specs.declared.step.BadRest.{BadRest}
use Rattle.http_cut.specs.Cut.{BeginsRequest, IsBadRest}
use Rattle.http_cut.specs.Looks.{IsStep}
use Rattle.http_cut.specs.Taking.{Reading, ReadsOn, Takes}
use Rattle.http_cut.proofs.intake.next_step.Given as goal

abbrev pub invariant-reads : goal.invariant-reads
invariant-reads g l = record {
  takes : Takes (g.S.Source.left l.fn.source) (g.S.Source.left l.source) l.fn.window l.window;
  in_turn : (given : List (Reading _)) × ReadsOn g.S.Source.reads l.fn.source l.fn.window given l.source l.window;
  step : IsStep l.window l.step;
  few : (head : RequestHead) (body rest : List ℕ) → BeginsRequest l.window head body rest → length rest < PIECE;
  bad : (kind : BadRest) → IsBadRest l.window kind → length l.window < MAX_HEAD + PIECE;
  later : g.S.Source.read_faults l.fn.source ≤ g.S.Source.read_faults l.source;
  steady : g.S.Source.is_steady l.fn.source → g.S.Source.is_steady l.source;
}

abbrev pub decreases-reads : goal.decreases-reads
decreases-reads g l = MAX_HEAD + MAX_LONG_BODY - length l.window
