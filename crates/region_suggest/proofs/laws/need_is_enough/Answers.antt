use Rattle.region_suggest.proofs.Needs.{need-enough}
use Rattle.region_suggest.proofs.laws.need_is_enough.Goals as goal

pub returns : goal.returns
returns c = need-enough c.args.kit.now c.args.state.now c.args.need.now c.requires.need
