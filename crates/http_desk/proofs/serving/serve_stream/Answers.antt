use Rattle.http_desk.specs.declared.serving.Ended.TheVariants.{NoMemory}
use Rattle.http_desk.specs.Scenes.{Scene, scene}
use Rattle.http_desk.specs.Turns.{Serves}
use Rattle.http_desk.proofs.Ends.{ends_at_once, faultless}
use Rattle.http_desk.proofs.serving.serve_stream.Goals as goal

-- there was no memory for the intake
pub returns-in-Err : goal.returns-in-Err
returns-in-Err g c =
    let source = c.args.link.now.source in
    let old : Scene = scene g.S.Source g.W.Sink g.M.Machine g.K.Keeper c.args.link.now c.args.machine.now
    c.args.keeper.now in
    let served : Serves g.S.Source.reads c.args.front.now source source (g.S.Source.is_steady source)
    (g.W.Sink.takes c.args.link.now.sink) (g.K.Keeper.is_steady c.args.keeper.now) c.args.limit old old NoMemory =
    (ends_at_once c.requires.limit c.requires.told).0 in
    record { streams = served.streams; prompt = (served.streams, served.prompt); complete = faultless served }
