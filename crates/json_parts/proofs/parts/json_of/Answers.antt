use Rattle.std.proofs.Common.{rules, sym}
use Rattle.json_parts.proofs.Values.{json_of-read, json_of-none}
use Rattle.json_parts.proofs.parts.json_of.Goals as goal

pub returns-in-Ok : goal.returns-in-Ok
returns-in-Ok c = sym (json_of-read c.args.bytes.now _ c.in-Ok.ensures.ok.0 c.in-Ok.ensures.ok.1)

pub returns-in-Err-2 : goal.returns-in-Err-2
returns-in-Err-2 c = sym (json_of-none c.args.bytes.now (c.in-Err.ensures.err (search rules)))
