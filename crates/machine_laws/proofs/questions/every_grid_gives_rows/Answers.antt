use Rattle.machine_laws.proofs.Deriving.{some-rows}
use Rattle.machine_laws.proofs.questions.every_grid_gives_rows.Goals as goal

pub returns : goal.returns
returns c = some-rows c.args.kit.now c.args.grid.now c.args.attributes.now c.args.columns.now c.requires
