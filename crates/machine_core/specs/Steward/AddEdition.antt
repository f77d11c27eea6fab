-- AddEdition: the next version of an edition's name, of a rulebook and masters that bind.
use Rattle.std.specs.Prelude.{◌≡◌, ◌<◌, ◌≤◌, All, Some, ℕ, ◌+◌, nat_le, not, List, [], filter, length, slice_index_or}
use Rattle.std.specs.List.{list_any, range_with_len}
use Rattle.std.specs.Str.{bytes_eq}
use Rattle.desk_base.specs.declared.limits.TheConstants.{MAX_ENTRIES, MAX_MASTERS}
use Rattle.desk_words.specs.declared.limit.Which.TheVariants as which
use Rattle.desk_words.specs.declared.refusal.Kind.TheVariants as kind
use Rattle.desk_words.specs.declared.refusal.Reader.TheVariants as reader
use Rattle.desk_words.specs.declared.refusal.Refusal.TheVariants.{BadText, NoSuch, Twice}
use Rattle.desk_words.specs.declared.rows.edition.EditionRow.{EditionRow}
use Rattle.desk_words.specs.declared.rows.text.TextRow.{TextRow}
use Rattle.desk_words.specs.Tables.{Published}
use Rattle.desk_valid.specs.declared.parts.Parts.{Parts}
use Rattle.desk_valid.specs.declared.reading.Rules.{Rules}
use Rattle.desk_valid.specs.Bindings.{binding, parts_of}
use Rattle.desk_valid.specs.Readings.{rules_at}
use Rattle.desk_valid.specs.Rows.Edition.{AreNamedApart}
use Rattle.fix_model.specs.Entries.{entries}
use Rattle.rule_text.specs.Binding.{AreFolded}
use Rattle.desk_base.specs.Places.{is_listed}
use Rattle.machine_core.specs.Checked.{Checked, ◌>>=◌, ◌>>◌, done, each_following, value_or, some_or, unless, certainly}
use Rattle.machine_core.specs.Faults.{bind_refusal}
use Rattle.machine_core.specs.Finding.{next_version, rulebook_named, text_named}
use Rattle.machine_core.specs.Limits.{within}
use Rattle.machine_core.specs.Tests as tests

-- the name of the master at a place
abbrev pub master_name : List TextRow → ℕ → List ℕ
master_name masters place = (slice_index_or masters place (record { name = []; version = 0; body = [] })).name

-- masters of an edition: they stand, each under another name
pub record AreOthers (published : Published) (places : List ℕ) : Type 0 where
  pub stand : All (λ place. place < length published.masters) places
  pub apart : AreNamedApart published places

-- the parts of a row of an edition: its rulebook stands, and so do its masters, at most 8 under distinct names; what is
-- folded are attributes of the schema
pub record HasParts (published : Published) (row : EditionRow) : Type 0 where
  pub rulebook : row.rulebook < length published.rulebooks
  pub masters : AreOthers published row.masters
  pub few : length row.masters ≤ MAX_MASTERS
  pub folded : (rules : Rules) → rules_at published row.rulebook ≡ Some rules → AreFolded rules.schema row.folded

-- the place of a version of a master whose name none before it has
abbrev pub another_master : List TextRow → List ℕ → List ℕ × ℕ → Checked ℕ
another_master masters before master = do
  place ← some_or (text_named masters master.0 master.1) (NoSuch kind.Master)
  unless (not (list_any (λ earlier. bytes_eq (master_name masters earlier) master.0) before)) (Twice master.0)
  done place

-- the parts bind, with these attributes folded, to a kit whose index is not too wide
abbrev pub narrow : Parts → List ℕ → Checked (Unit {0})
narrow parts folded = do
  kit ← value_or (binding parts folded) bind_refusal
  unless (nat_le (entries kit) MAX_ENTRIES) (BadText reader.Index 1 (entries kit) 0)

-- the parts of the edition bind, to a kit whose index is not too wide
abbrev pub bindable : Published → EditionRow → Checked (Unit {0})
bindable published row = do
  parts ← certainly (parts_of published row)
  narrow parts row.folded

-- the row of an edition whose parts bind
abbrev pub bound_row : Published → EditionRow → Checked EditionRow
bound_row published row = do
  bindable published row
  done row

-- those of so many attributes that are among these, in their order
abbrev pub in_order : List ℕ → ℕ → List ℕ
in_order attributes width = filter (is_listed attributes) (range_with_len 0 width)

-- the next version of an edition's name
abbrev pub next_edition : List EditionRow → List ℕ → ℕ → List ℕ → List ℕ → EditionRow
next_edition editions name rulebook masters folded = record {
  name = name;
  version = next_version (λ row. row.name) editions name;
  rulebook = rulebook;
  masters = masters;
  folded = folded;
}

-- the tests, in their order, and the row of the new edition
abbrev pub edition_row : Published → List ℕ → List ℕ × ℕ → List (List ℕ × ℕ) → List (List ℕ) → Checked EditionRow
edition_row published name rulebook masters folded = do
  tests.proper_name name
  book ← some_or (rulebook_named published.rulebooks rulebook.0 rulebook.1) (NoSuch kind.Rulebook)
  rules ← certainly (rules_at published book)
  attributes ← each_following [] (tests.another_attribute rules.schema.attributes) folded
  within which.EditionMasters (length masters)
  places ← each_following [] (another_master published.masters) masters
  within which.Editions (length published.editions + 1)
  let row = next_edition published.editions name book places (in_order attributes (length rules.schema.attributes))
  bound_row published row
