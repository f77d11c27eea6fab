use Rattle.std.proofs.Common.{rules}
use Rattle.json_parts.proofs.Written.{print-with_value}
use Rattle.json_parts.proofs.writing.JsonText.into_bytes.Goals as goal

pub returns : goal.returns
returns c value written = let whole = print-with_value value in search rules
