-- Bodies that propose an edition.
use Rattle.std.proofs.Common.{◌≡◌, ℕ, List, Ok, Err}
use Rattle.std.specs.Prelude.{◌↔◌}
use Rattle.desk_words.specs.declared.proposal.Proposal.{Proposal}
use Rattle.desk_words.specs.declared.rows.clerk.Digest.{Digest}
use Rattle.desk_json.specs.declared.fault.JsonFault.{JsonFault}
use Rattle.desk_json.specs.declared.route.Route.TheVariants.{AddEdition, CheckEdition}
use Rattle.desk_json.specs.Bodies.AddEdition.{proposed_edition}
use Rattle.desk_json.specs.Checked.{Checked}
use Rattle.desk_json.specs.Commands.{command_by, command_in, to_check, to_publish}

-- what was read is published or checked, or neither for the same fault
read-alike : (read : Checked Proposal) (number : ℕ) (digest other : Digest) (fault : JsonFault)
    → (command_by digest (to_publish number read) ≡ Err fault) ↔ (command_by other (to_check read) ≡ Err fault)
read-alike (Ok proposal) number digest other fault = ((λ e. absurd cc), λ e. absurd cc)
read-alike (Err why) number digest other fault = ((λ e. cc), λ e. cc)

-- so is a body
pub alike : (name : List ℕ) (number : ℕ) (digest other : Digest) (body : List ℕ) (fault : JsonFault)
    → (command_in (AddEdition number name) digest body ≡ Err fault)
    ↔ (command_in (CheckEdition name) other body ≡ Err fault)
alike name number digest other body fault = read-alike (proposed_edition name body) number digest other fault
