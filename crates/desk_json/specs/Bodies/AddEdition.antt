-- AddEdition, and CheckEdition, which has the same body: `{"folded":[string],"masters":[[string,number]],
-- "rulebook":[string,number]}`. `folded` may be left out.
use Rattle.std.specs.Prelude.{ℕ, List, [], ◌∷◌, codes, Ok}
use Rattle.desk_words.specs.declared.proposal.Proposal.{Proposal}
use Rattle.desk_words.specs.declared.proposal.Proposal.TheVariants.{Edition}
use Rattle.desk_json.specs.Body.{object_in, at_key, at_key_or}
use Rattle.desk_json.specs.Checked.{Checked, ◌>>=◌}
use Rattle.desk_json.specs.Forms.{strings_in, version_in}
use Rattle.json_parts.specs.Parts.{list_in}

-- the keys that the body may have, in byte order
abbrev pub keys : List (List ℕ)
keys = codes "folded" ∷ codes "masters" ∷ codes "rulebook" ∷ []

-- the version of the edition that is proposed; no attribute is folded where `folded` is left out
abbrev pub proposed_edition : List ℕ → List ℕ → Checked Proposal
proposed_edition name body = do
  fields ← object_in keys body
  masters ← at_key (codes "masters") (list_in version_in) fields
  rulebook ← at_key (codes "rulebook") version_in fields
  folded ← at_key_or (codes "folded") strings_in [] fields
  Ok (Edition name rulebook masters folded)
