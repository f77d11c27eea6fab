use Rattle.region_suggest.proofs.Needs.{need-least}
use Rattle.region_suggest.proofs.laws.nothing_needed_can_be_left_out.Goals as goal

pub returns : goal.returns
returns c = need-least c.args.kit.now c.args.state.now c.args.need.now c.requires.need c.args.attribute
    c.requires.needed
