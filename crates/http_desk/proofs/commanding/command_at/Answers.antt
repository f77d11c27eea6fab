use Rattle.desk_json.specs.Commands.{command_in}
use Rattle.http_desk.proofs.Checked.{Finds-bad_body}
use Rattle.http_desk.proofs.Numbered.{numbered_or}
use Rattle.http_desk.proofs.commanding.command_at.Goals as goal

-- what was read is what the route asks for
pub returns-clause-command : goal.returns-clause-command
returns-clause-command c =
    let route = c.in_ok-route.route in
    rw (c.or_bad_body.ensures, c.in_ok-route.ensures) (Finds-bad_body route c.command_of-read.result
    (command_in route c.args.digest c.args.body.now) c.command_of-read.ensures.command c.command_of-read.ensures.fault)

-- the number stands in the target
pub returns-clause-numbered : goal.returns-clause-numbered
returns-clause-numbered c =
    rw c.or_bad_body.ensures (numbered_or c.args.found.now c.in_ok-route.route c.args.digest c.args.body.now
    c.command_of-read.result c.in_ok-route.ensures c.command_of-read.ensures.command)
