-- The sentences on the body that proposes an edition are printable ASCII.
use Rattle.std.proofs.Common.{ℕ, List, refl}
use Rattle.std.proofs.lemmas.List.Folds.{list_all-append}
use Rattle.fault_sentences.specs.Printable.{IsPrintable}
use Rattle.fault_sentences.specs.Proposals.{key_form, key_form_sentence, no_json_sentence, no_key_sentence}
use Rattle.fault_sentences.specs.Proposals.{no_object_sentence, other_key_sentence}
use Rattle.fault_sentences.proofs.Printable.{if-same, list_all-if, shown-printable}

-- what stands at a key
key_form-printable : (key : List ℕ) → IsPrintable (key_form key)
unfolding key_form
key_form-printable key = simp (list_all-if, if-same)

-- the sentence on a body that is no JSON
pub no_json_sentence-printable : IsPrintable no_json_sentence
unfolding no_json_sentence
no_json_sentence-printable = refl

-- on one that is no object
pub no_object_sentence-printable : IsPrintable no_object_sentence
unfolding no_object_sentence
no_object_sentence-printable = refl

-- on a key that is missing
pub no_key_sentence-printable : (key : List ℕ) → IsPrintable (no_key_sentence key)
unfolding no_key_sentence
no_key_sentence-printable key = simp (list_all-append, shown-printable, key_form-printable)

-- on a value of another form
pub key_form_sentence-printable : (key : List ℕ) → IsPrintable (key_form_sentence key)
unfolding key_form_sentence
key_form_sentence-printable key = simp (list_all-append, shown-printable, key_form-printable)

-- on a key that the body may not have
pub other_key_sentence-printable : (key : List ℕ) → IsPrintable (other_key_sentence key)
unfolding other_key_sentence
other_key_sentence-printable key = simp (list_all-append, shown-printable)
