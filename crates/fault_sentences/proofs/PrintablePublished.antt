-- The sentences on what is published are printable ASCII.
use Rattle.std.proofs.Common.{ℕ, List, refl}
use Rattle.std.proofs.lemmas.List.Folds.{list_all-append}
use Rattle.schema_core.specs.declared.schema.Schema.{Schema as SchemaOf}
use Rattle.fault_sentences.specs.declared.published.Published.{Published}
use Rattle.fault_sentences.specs.declared.published.Published.TheVariants.{Schema, Master, Rulebook, Edition}
use Rattle.fault_sentences.specs.Printable.{IsPrintable}
use Rattle.fault_sentences.specs.Published.{absent_sentence, bad_name_sentence, cells_sentence, folded_sentence}
use Rattle.fault_sentences.specs.Published.{full_sentence, masters_sentence, twice_sentence}
use Rattle.fault_sentences.specs.Published.{versions, word_of, words_of}
use Rattle.fault_sentences.proofs.Printable.{decimal-printable, if-same, list_all-if, shown-printable}
use Rattle.fault_sentences.proofs.PrintableRules.{schema_told-printable}

-- the words for what is published
words-printable : (what : Published) → IsPrintable (word_of what) × IsPrintable (words_of what)
words-printable Schema = (refl, refl)
words-printable Master = (refl, refl)
words-printable Rulebook = (refl, refl)
words-printable Edition = (refl, refl)

-- the sentence on a text that is no name
pub bad_name_sentence-printable : (text : List ℕ) → IsPrintable (bad_name_sentence text)
unfolding bad_name_sentence
bad_name_sentence-printable text = simp (list_all-append, shown-printable)

-- on what is not there
pub absent_sentence-printable : (what : Published) (name : List ℕ) (version newest : ℕ)
    → IsPrintable (absent_sentence what name version newest)
unfolding absent_sentence versions
absent_sentence-printable what name version newest =
    simp (list_all-if, if-same, list_all-append, (words-printable what).0, shown-printable, decimal-printable)

-- on a folded attribute
pub folded_sentence-printable : (attribute : List ℕ) (schema : SchemaOf)
    → IsPrintable (folded_sentence attribute schema)
unfolding folded_sentence
folded_sentence-printable attribute schema = simp (list_all-append, shown-printable, schema_told-printable)

-- on what stands twice in a list whose own name is printable
pub twice_sentence-printable : (list name : List ℕ) → IsPrintable list → IsPrintable (twice_sentence list name)
unfolding twice_sentence
twice_sentence-printable list name is = simp (list_all-append, is, shown-printable)

-- on too many masters
pub masters_sentence-printable : (count : ℕ) → IsPrintable (masters_sentence count)
unfolding masters_sentence
masters_sentence-printable count = simp (list_all-append, decimal-printable)

-- on a full desk
pub full_sentence-printable : (what : Published) (most : ℕ) → IsPrintable (full_sentence what most)
unfolding full_sentence
full_sentence-printable what most = simp (list_all-append, decimal-printable, (words-printable what).1)

-- on too many cells
pub cells_sentence-printable : IsPrintable cells_sentence
unfolding cells_sentence
cells_sentence-printable = refl
