use Rattle.std.proofs.Common.{sym}
use Rattle.std.proofs.lemmas.Str.{is_utf8-from_IsUtf8}
use Rattle.desk_base.proofs.Utf8.{is_utf8-other}
use Rattle.desk_base.proofs.places.is_utf8.Goals as goal

pub returns-in-Ok : goal.returns-in-Ok
returns-in-Ok c = sym (is_utf8-from_IsUtf8 c.args.bytes.now c.in-Ok.ensures.cases.1)

pub returns-in_default : goal.returns-in_default
returns-in_default c = sym (is_utf8-other c.args.bytes.now c.in_default.ensures.cases.0)
