-- The sentences on what is not there, stands twice or is too much where something is published.
use Rattle.std.specs.Prelude.{ℕ, ◌==◌, if◌then◌else◌, List, ◌++◌, codes, decimal}
use Rattle.schema_core.specs.declared.schema.Schema.{Schema as SchemaOf}
use Rattle.fault_sentences.specs.declared.published.Published.{Published}
use Rattle.fault_sentences.specs.declared.published.Published.TheVariants.{Schema, Master, Rulebook, Edition}
use Rattle.fault_sentences.specs.Shown.{shown}
use Rattle.fault_sentences.specs.Rules.{schema_told}

-- the form of names
abbrev pub name_form : List ℕ
name_form = codes " is no name; take a small letter, and then small letters, digits or _, at most 32 bytes"

-- a text that is no name
unfoldable pub bad_name_sentence : List ℕ → List ℕ
bad_name_sentence text = shown text ++ name_form

-- the word for what is published, and a blank
abbrev pub word_of : Published → List ℕ
word_of Schema = codes "schema "
word_of Master = codes "master "
word_of Rulebook = codes "rulebook "
word_of Edition = codes "edition "

-- a version that is not there, and the newest one
unfoldable pub versions : ℕ → ℕ → List ℕ
versions version newest = codes " has no version " ++ decimal version ++ codes "; its newest is " ++ decimal newest

-- what has a name: no version of it is there, or not this one
unfoldable pub absent_sentence : Published → List ℕ → ℕ → ℕ → List ℕ
absent_sentence what name version newest =
    if newest == 0 then codes "there is no " ++ word_of what ++ shown name
    ++ codes "; publish it first, or name another"
    else codes "the " ++ word_of what ++ shown name ++ versions version newest

-- a folded attribute that the schema has not
unfoldable pub folded_sentence : List ℕ → SchemaOf → List ℕ
folded_sentence attribute schema =
    codes "folded names " ++ shown attribute ++ codes ", which is no attribute of the schema " ++ schema_told schema

-- a name that stands twice in a list that has this name itself
unfoldable pub twice_sentence : List ℕ → List ℕ → List ℕ
twice_sentence list name = list ++ codes " names " ++ shown name ++ codes " twice; name it once"

-- more masters than an edition may have
unfoldable pub masters_sentence : ℕ → List ℕ
masters_sentence count = codes "the edition has " ++ decimal count ++ codes " masters, and may have 8; leave some out"

-- the word for several of them
abbrev pub words_of : Published → List ℕ
words_of Schema = codes " schemas"
words_of Master = codes " masters"
words_of Rulebook = codes " rulebooks"
words_of Edition = codes " editions"

-- as many of these as a desk keeps, over all names and versions
unfoldable pub full_sentence : Published → ℕ → List ℕ
full_sentence what most =
    codes "the desk has " ++ decimal most ++ words_of what ++ codes " already, and keeps no more; begin another desk"

-- more cells of masters than a desk keeps
unfoldable pub cells_sentence : List ℕ
cells_sentence =
    codes
    "the masters of the desk may have 4000000 cells, and with this sheet they have more; leave out rows or columns"
