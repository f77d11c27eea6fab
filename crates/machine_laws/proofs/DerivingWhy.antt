-- Why a derivation is refused.
use Rattle.std.proofs.Common.{◌≡◌, ◌≢◌, ◌∙◌, ℕ, Bool, false, List, [], get_or, map, Some, inl, inr, refl, sym, ap, zero}
use Rattle.std.proofs.Common.{suc, ◌∷◌, arith}
use Rattle.std.specs.Prelude.{◌==◌, All, Contains, Ok, find}
use Rattle.std.specs.Str.{bytes_eq}
use Rattle.std.proofs.lemmas.List.Elements.{All-weaker}
use Rattle.std.proofs.lemmas.Slice.Eq.{bytes_eq-Decides}
use Rattle.std.proofs.lemmas.Bool.Decides.{nat_tests}
use Rattle.desk_words.specs.declared.command.Command.{Command}
use Rattle.desk_words.specs.declared.refusal.Kind.TheVariants as kind
use Rattle.desk_words.specs.declared.refusal.Refusal.{Refusal}
use Rattle.desk_words.specs.declared.refusal.Refusal.TheVariants.{NoColumn, NoSuch, Twice, UnknownAttr}
use Rattle.desk_words.specs.declared.rows.edition.EditionRow.{EditionRow}
use Rattle.desk_words.specs.Tables.{Published, Rows, published_of}
use Rattle.master_rows.specs.declared.master.Master.{Master}
use Rattle.machine_core.specs.Causes.{AreWords, AsksMaster, Cause, IsAbout, StandsTwice}
use Rattle.machine_core.specs.Checked.{Checked, IsFound, told, derives}
use Rattle.machine_core.specs.declared.derivation.Derivation.{Derivation}
use Rattle.machine_core.specs.Deriving.{another_pair, derivation_of, derived_rows, master_of, places_of}
use Rattle.machine_core.specs.Named.{attributes_in, columns_in, master_in, version_in}
use Rattle.machine_core.specs.Steward.AddEdition.{master_name}
use Rattle.machine_core.specs.Views.{edition_at}
use Rattle.machine_core.proofs.Walks.{Met}
use Rattle.machine_core.proofs.Tested.{IsRefusedAt}
use Rattle.machine_laws.proofs.Lists.{find-None}
use Rattle.machine_laws.proofs.Why.{edition-words, version-why}
use Rattle.machine_laws.proofs.Refusals.{HasCauses, causes-asked, causes-bind, causes-certainly, causes-done}
use Rattle.machine_laws.proofs.Refusals.{causes-following, causes-some_or, causes-unless, not-both}
use Rattle.machine_laws.proofs.Twice.{another, another-word, placed-twice, any-taken, named-there, none-equal}

-- an image is the image of an item
image-of : {A B : Type 0} (image : A → B) (items : List A) (found : B) → Contains (map image items) found
    → (item : A) × Contains items item × (image item ≡ found)
image-of image [] found there = absurd (omega (arith, there.1))
image-of image (item ∷ items) found (zero, within, is) = (item, (0, omega arith, refl), is)
image-of image (item ∷ items) found (suc place, within, is) =
    let (one, (index, inside, there), same) = image-of image items found (place, omega (arith, within), is) in
    (one, (suc index, omega (arith, inside), there), same)

-- the places of a pair are those of its words
pub pair-words : (words names : List (List ℕ)) (before : List (ℕ × ℕ)) (pair : List ℕ × List ℕ) (found : ℕ × ℕ)
    → Met (another_pair words names before pair) (Ok found)
    → (pair.0 ≡ get_or words found.0 []) × (pair.1 ≡ get_or names found.1 [])
pair-words words names before pair found (attribute, is_attribute, (column, is_column, is)) = (
  another-word words (map (λ one. one.0) before) pair.0 (UnknownAttr pair.0) attribute is_attribute
      ∙ ap (λ (one : ℕ × ℕ). get_or words one.0 []) (sym is),
  another-word names (map (λ one. one.1) before) pair.1 (NoColumn pair.1) column is_column
      ∙ ap (λ (one : ℕ × ℕ). get_or names one.1 []) (sym is),
)

module _ (rows : Rows) (command : Command) (pairs : List (List ℕ × List ℕ)) (words columns : List (List ℕ)) where
  -- a word of a pair that is none of those, or that stands twice
  half-why : {refusal : Refusal} (find : List (ℕ × ℕ) → List ℕ × List ℕ → Checked (ℕ × ℕ))
      (come : IsRefusedAt find [] pairs refusal) (name : List ℕ × List ℕ → List ℕ) (names : List (List ℕ))
      → names ≡ map name pairs → (place : ℕ × ℕ → ℕ) (among : List (List ℕ)) (missing : Refusal)
      → ((before : List (ℕ × ℕ)) (other : List ℕ × List ℕ) (one : ℕ × ℕ) → Met (find before other) (Ok one)
      → name other ≡ get_or among (place one) [])
      → (All (λ one. one ≢ name come.item) among → Cause rows command missing)
      → (StandsTwice names (name come.item) → Cause rows command (Twice (name come.item)))
      → HasCauses (Cause rows command) (another among (map place come.sofar) (name come.item) missing)
  half-why find come name names are place among missing placed unknown twice =
      causes-bind (causes-some_or (λ none. unknown (none-equal (name come.item) among none))) (λ at there.
      causes-bind (causes-unless (λ some.
      let (taken, listed, holds) = any-taken (λ earlier. earlier == at) (map place come.sofar) some in
      let (one, among_them, same) = image-of place come.sofar taken listed in
      let last : taken ≡ at = grind (arith, nat_tests, holds) in
      twice (placed-twice find pairs come name names are among place placed at there one among_them (same ∙ last))))
      (λ _ _. causes-done))

  -- an attribute or a column of a pair is not there, or stands twice
  pairs-why : AreWords rows command words → attributes_in command ≡ map (λ pair. pair.0) pairs
      → columns_in command ≡ map (λ pair. pair.1) pairs
      → ((word : List ℕ) → Contains (columns_in command) word → All (λ one. one ≢ word) columns
      → Cause rows command (NoColumn word)) → HasCauses (Cause rows command) (places_of words columns pairs)
  pairs-why are attributes_are columns_are missing =
      let find : List (ℕ × ℕ) → List ℕ × List ℕ → Checked (ℕ × ℕ) = another_pair words columns in
      causes-bind (causes-following (λ refusal come.
      let attribute_in : List ℕ × List ℕ → List ℕ = λ pair. pair.0 in
      let column_in : List ℕ × List ℕ → List ℕ = λ pair. pair.1 in
      causes-bind (half-why find come attribute_in (attributes_in command) attributes_are (λ one. one.0) words
      (UnknownAttr come.item.0) (λ before other one gave. (pair-words words columns before other one gave).0)
      (λ unknown. (words, are, named-there find pairs come attribute_in (attributes_in command) attributes_are, unknown))
      (λ twice. inl twice)) (λ _ _.
      causes-bind (half-why find come column_in (columns_in command) columns_are (λ one. one.1) columns
      (NoColumn come.item.1) (λ before other one gave. (pair-words words columns before other one gave).1)
      (missing come.item.1 (named-there find pairs come column_in (columns_in command) columns_are))
      (λ twice. inr (inr twice))) (λ _ _. causes-done)))) (λ _ _. causes-done)

-- the edition has no master of the name
master_of-why : (P : Refusal → Type 0) (published : Published) (edition : EditionRow) (name : List ℕ)
    → (All (λ place. master_name published.masters place ≢ name) edition.masters → P (NoSuch kind.Master))
    → HasCauses P (master_of published edition name)
master_of-why P published edition name missing =
    let is_named : ℕ → Bool = λ place. bytes_eq (master_name published.masters place) name in
    causes-bind (causes-some_or (λ none. missing
    (All-weaker (λ place. is_named place ≡ false) (λ place. master_name published.masters place ≢ name)
    (λ place fails same. not-both ((bytes_eq-Decides (master_name published.masters place) name).1 same) fails)
    edition.masters (find-None is_named edition.masters none)))) (λ place found.
    causes-bind causes-certainly (λ sheet ok. causes-done))

-- a master that is given is done
master_of-done : (published : Published) (edition : EditionRow) (name : List ℕ) (sheet : Master)
    → Met (master_of published edition name) (Ok sheet) → IsFound (master_of published edition name) sheet
master_of-done published edition name sheet (place, there, (found, reads, is)) =
    rw (there, reads) (ap (λ one. told (Ok one)) (sym is))

-- what is asked of a derivation is refused
pub derivation-why : (rows : Rows) (command : Command) (edition : List ℕ) (version : ℕ) (master : List ℕ)
    (pairs : List (List ℕ × List ℕ)) → version_in command ≡ Some (edition, version) → master_in command ≡ Some master
    → attributes_in command ≡ map (λ pair. pair.0) pairs → columns_in command ≡ map (λ pair. pair.1) pairs
    → HasCauses (Cause rows command) (derivation_of (published_of rows) edition version master pairs)
derivation-why rows command edition version master pairs version_is master_is attributes_are columns_are =
    let published : Published = published_of rows in
    causes-bind (version-why rows command edition version version_is) (λ at found.
    causes-bind causes-certainly (λ bound binds.
    let about : IsAbout rows command at = inr (inl ((edition, version), version_is, found)) in
    let row : EditionRow = edition_at published at in
    let asks : AsksMaster rows command row master =
    record { place = at; about = about; is = refl; names = master_is } in
    causes-bind (master_of-why (Cause rows command) published row master (λ none. inr (row, master, asks, none)))
    (λ sheet sheet_is. causes-bind (pairs-why rows command pairs bound.names.attributes sheet.columns
    (edition-words rows command at bound about binds) attributes_are columns_are (λ word listed missing. (
      row,
      master,
      sheet,
      asks,
      master_of-done published row master sheet sheet_is,
      listed,
      missing,
    ))) (λ places ok. causes-done))))

-- the rows of a derivation are never refused
pub derived_rows-why : (P : Refusal → Type 0) (published : Published) (derivation : Derivation)
    → HasCauses P (derived_rows published derivation)
derived_rows-why P published derivation = causes-bind causes-certainly (λ bound binds.
    causes-asked (derives bound.kit derivation.grid derivation.attributes derivation.columns))
