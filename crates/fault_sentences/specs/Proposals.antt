-- The sentences on the JSON body that proposes an edition.
use Rattle.std.specs.Prelude.{ℕ, if◌then◌else◌, List, [], ◌++◌, codes}
use Rattle.std.specs.Str.{bytes_eq}
use Rattle.fault_sentences.specs.Shown.{shown}

-- how an edition is proposed
abbrev pub proposal_form : List ℕ
proposal_form = codes "; propose an edition as {\"masters\":[[\"post\",1]],\"rulebook\":[\"postal\",1]}"

-- what stands at a key of the body
unfoldable pub key_form : List ℕ → List ℕ
key_form key =
    if bytes_eq key (codes "masters")
    then codes "; masters is a list of names, each with a version from 1 on, as [[\"post\",1]]"
    else if bytes_eq key (codes "rulebook")
    then codes "; rulebook is a name with a version from 1 on, as [\"postal\",1]"
    else if bytes_eq key (codes "folded")
    then codes "; folded is a list of attributes, as [\"city\"]"
    else []

-- a body that is no JSON
unfoldable pub no_json_sentence : List ℕ
no_json_sentence = codes "the body is no JSON" ++ proposal_form

-- a body that is another value than an object
unfoldable pub no_object_sentence : List ℕ
no_object_sentence = codes "the body is no object" ++ proposal_form

-- a key that is not there
unfoldable pub no_key_sentence : List ℕ → List ℕ
no_key_sentence key = codes "the key " ++ shown key ++ codes " is missing" ++ key_form key

-- a key whose value has another form than is wanted
unfoldable pub key_form_sentence : List ℕ → List ℕ
key_form_sentence key = codes "the value of " ++ shown key ++ codes " is of another form" ++ key_form key

-- a key that the body may not have
unfoldable pub other_key_sentence : List ℕ → List ℕ
other_key_sentence key =
    codes "the key " ++ shown key
    ++ codes " is none of an edition, which has masters, rulebook and folded alone; rename it, or take it out"
