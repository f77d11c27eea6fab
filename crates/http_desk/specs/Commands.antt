-- The command that a whole request is, or the first test before the machine that it fails, in the order of the lines
-- (docs/api.md).
use Rattle.std.specs.Prelude.{ℕ, List, ◌∷◌, ◌++◌}
use Rattle.sha2.specs.Sha256.{sha256}
use Rattle.http_cut.specs.Cut.{WholeRequest}
use Rattle.http_cut.specs.Routes.{Match}
use Rattle.desk_words.specs.declared.command.Command.{Command}
use Rattle.desk_words.specs.declared.rows.clerk.Digest.{Digest}
use Rattle.desk_json.specs.Checked.{◌>>=◌}
use Rattle.desk_json.specs.Commands.{command_in}
use Rattle.http_desk.specs.Checked.{Checked, or_bad_body, or_refused}
use Rattle.http_desk.specs.Parameters.{route_in}
use Rattle.http_desk.specs.Refusals.{asked}

-- the digest of a request: the SHA-256 of its target, a zero byte and its body
abbrev pub digest_of : List ℕ → List ℕ → Digest
digest_of target body = record { bytes = sha256 (target ++ 0 ∷ body) }

-- the command of a target that matched a pattern
abbrev pub command_at : Match → Digest → List ℕ → Checked Command
command_at found digest body = do
  route ← route_in found.0 found.1
  or_bad_body route (command_in route digest body)

-- the command of a request
abbrev pub command_for : WholeRequest → Checked Command
command_for (head, body) = do
  found ← or_refused (asked (head, body))
  command_at found (digest_of head.target body) body
