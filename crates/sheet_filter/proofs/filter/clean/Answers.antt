use Rattle.std.proofs.Common.{ap, refl, rules}
use Rattle.std.specs.Prelude.{Err}
use Rattle.sheet_blocks.specs.declared.fault.BlocksFault.{BlocksFault}
use Rattle.sheet_filter.specs.Ends.{world_seen}
use Rattle.sheet_filter.specs.Outputs.{TakeRest}
use Rattle.sheet_filter.proofs.Texts.{Later-none, TakeRest-none}
use Rattle.sheet_filter.proofs.Underway.{IsAtHand, block-faultless, block-read, block-stopped, block-written}
use Rattle.sheet_filter.proofs.Underway.{ends-before, ends-done, ends-never, ends-unfilled, ends-unopened, sheet-opened}
use Rattle.sheet_filter.proofs.filter.clean.Given.{Over}
use Rattle.sheet_filter.proofs.filter.clean.Goals as goal
use Rattle.sheet_filter.proofs.filter.clean.Goals.{After-take}

-- the block of a turn is at hand
at-hand : (g : Over) (c : After-take g)
    → let seen = world_seen g.S.Source.left g.S.Source.read_faults g.W.Sink.written g.W.Sink.write_faults
    g.C.Sink.written g.C.Sink.write_faults in
    IsAtHand (g.B.Book.kit c.args.book.now) c.args.setting.now
    (TakeRest g.W.Sink.takes g.C.Sink.takes c.args.outputs.now c.turns.outputs) c.turns.cleaning c.turns.blocks
    c.block.result.now (seen c.args.source.now c.args.outputs.now) (seen c.turns.source c.turns.outputs)
    (seen c.turns.source c.take.new.outputs)
at-hand g c = record {
  underway = c.turns.invariant.underway;
  cut = c.block.ensures.cut;
  fed = c.block.ensures.block;
  left = refl;
  read_faults = refl;
  later = c.take.ensures.later;
}

-- there was no memory to begin
pub returns-in-Err-clause-ended : goal.returns-in-Err-clause-ended
returns-in-Err-clause-ended g c =
    let seen = world_seen g.S.Source.left g.S.Source.read_faults g.W.Sink.written g.W.Sink.write_faults g.C.Sink.written
    g.C.Sink.write_faults in
    ends-before (g.B.Book.kit c.args.book.now) c.args.setting.now (seen c.args.source.now c.args.outputs.now)

-- the sheet could not be opened
pub returns-in-Err-open-clause-ended : goal.returns-in-Err-open-clause-ended
returns-in-Err-open-clause-ended g c =
    let seen = world_seen g.S.Source.left g.S.Source.read_faults g.W.Sink.written g.W.Sink.write_faults g.C.Sink.written
    g.C.Sink.write_faults in
    let opening = c.in-Err-open.ensures in
    rw c.unread.ensures (ends-unopened (g.B.Book.kit c.args.book.now) c.args.setting.now c.in-Ok.cleaning
    (seen c.args.source.now c.args.outputs.now) (seen c.open.new.source c.args.outputs.now) c.in-Ok.ensures.none
    c.requires.delimiter refl c.in-Err-open.fault
    (λ is. (opening.part (ap (λ (f : BlocksFault). Err f) is), opening.cause (ap (λ (f : BlocksFault). Err f) is)))
    (λ is. opening.lost (ap (λ (f : BlocksFault). Err f) is)))

-- nothing was taken yet
pub turns-init : goal.turns-init
turns-init g c =
    let seen = world_seen g.S.Source.left g.S.Source.read_faults g.W.Sink.written g.W.Sink.write_faults g.C.Sink.written
    g.C.Sink.write_faults in
    let setting = c.args.setting.now in
    let kit = g.B.Book.kit c.args.book.now in
    let old = seen c.args.source.now c.args.outputs.now in
    record {
      ready = record {
        by = record { set = c.requires; valid = c.in-Ok.ensures.valid };
        room = c.in-Ok.ensures.room;
        laid = rw c.in-Ok.ensures.none tt;
      };
      underway = sheet-opened kit setting c.in-Ok.cleaning
          (TakeRest g.W.Sink.takes g.C.Sink.takes c.args.outputs.now c.args.outputs.now) c.in-Ok-open.blocks old
          (seen c.open.new.source c.args.outputs.now) c.in-Ok.ensures.none c.in-Ok.ensures.no_rows
          c.in-Ok-open.ensures.opened refl (TakeRest-none g.W.Sink.takes g.C.Sink.takes c.args.outputs.now)
          (record { read_faults = c.open.ensures.later; sinks = Later-none old.sinks });
      steady = λ is. (c.open.ensures.steady is).1;
    }

-- the block was not taken
pub returns-in-Err-take-clause-ended : goal.returns-in-Err-take-clause-ended
returns-in-Err-take-clause-ended g c =
    rw c.stopped.ensures (block-stopped (at-hand g (goal.at.returns-in-Err-take-clause-ended g c).After-take) _ _
    c.in-Err-take.ensures.stopped)

-- where the sinks have room, no write failed
pub returns-in-Err-take-clause-complete : goal.returns-in-Err-take-clause-complete
returns-in-Err-take-clause-complete g c steady room =
    rw c.stopped.ensures (block-faultless (at-hand g (goal.at.returns-in-Err-take-clause-complete g c).After-take) _ _
    c.in-Err-take.ensures.stopped room)

-- the last block was taken
pub returns-then-is_whole-clause-ended : goal.returns-then-is_whole-clause-ended
returns-then-is_whole-clause-ended g c =
    let at = at-hand g (goal.at.returns-then-is_whole-clause-ended g c).After-take in
    rw c.done.ensures (ends-done (block-written at _ _ c.in_default.ensures.taken) (search rules))

-- no more could be read
pub returns-in-Err-fill-clause-ended : goal.returns-in-Err-fill-clause-ended
returns-in-Err-fill-clause-ended g c =
    let seen = world_seen g.S.Source.left g.S.Source.read_faults g.W.Sink.written g.W.Sink.write_faults g.C.Sink.written
    g.C.Sink.write_faults in
    let filling = c.in-Err-fill.ensures in
    let at = at-hand g (goal.at.returns-in-Err-fill-clause-ended g c).After-take in
    rw c.unread-in-Err-fill.ensures (ends-unfilled (block-written at _ _ c.in_default.ensures.taken)
    (seen c.fill.new.source c.take.new.outputs) (search rules) refl c.in-Err-fill.fault
    (λ is. (filling.kept (ap (λ (f : BlocksFault). Err f) is), filling.cause (ap (λ (f : BlocksFault). Err f) is)))
    (λ is. filling.lost (ap (λ (f : BlocksFault). Err f) is)))

-- more was read
pub turns-preserved : goal.turns-preserved
turns-preserved g c =
    let seen = world_seen g.S.Source.left g.S.Source.read_faults g.W.Sink.written g.W.Sink.write_faults g.C.Sink.written
    g.C.Sink.write_faults in
    let at = at-hand g (goal.at.turns-preserved g c).After-take in
    record {
      ready = c.take.ensures.ready;
      underway = block-read (block-written at _ _ c.in_default.ensures.taken) c.in-Ok-fill.blocks
          (seen c.fill.new.source c.take.new.outputs) (search rules)
          (rw c.take-in-turns.ensures at c.in-Ok-fill.ensures.grown) refl c.fill.ensures.later;
      steady = λ is. (c.fill.ensures.steady (c.turns.invariant.steady is)).1;
    }

-- there are not so many blocks
pub returns-clause-ended : goal.returns-clause-ended
returns-clause-ended g c = ends-never c.turns.invariant.underway
