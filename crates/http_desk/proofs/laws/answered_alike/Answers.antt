use Rattle.http_desk.proofs.Alike.{alike}
use Rattle.http_desk.proofs.laws.answered_alike.Goals as goal

pub returns : goal.returns
returns c front old new early late end other one two own its same tables due too =
    alike front c.args.limit old new early late end other one two own its same tables due too
