-- The words of an edition's attributes are those of its schema.
use Rattle.std.proofs.Common.{◌≡◌, ◌≢◌, ◌∙◌, ℕ, List, map, Option, Some, refl, sym, ap, subst}
use Rattle.std.specs.Prelude.{AllPairs, option_and_then, option_map, slice_get}
use Rattle.std.proofs.lemmas.Option.{option_and_then_some, same_Some}
use Rattle.rule_text.specs.Reading.{read_rules}
use Rattle.schema_core.specs.declared.schema.Schema.{Schema}
use Rattle.desk_words.specs.declared.rows.edition.EditionRow.{EditionRow}
use Rattle.desk_words.specs.declared.rows.rulebook.RulebookRow.{RulebookRow}
use Rattle.desk_words.specs.Tables.{Published, Rows, published_of}
use Rattle.desk_valid.specs.declared.bound.Bound.{Bound}
use Rattle.desk_valid.specs.declared.parts.Parts.{Parts}
use Rattle.desk_valid.specs.declared.reading.Rules.{Rules}
use Rattle.desk_valid.specs.Bindings.{bound_at, bound_in, names_of, parts_of}
use Rattle.desk_valid.specs.Readings.{all_of, master_at, read, rules_at, rules_in, rules_over, schema_at}
use Rattle.desk_valid.specs.Valid.{AreValid}
use Rattle.desk_valid.proofs.Kits.{bound_at-read, bound_of-kit, edition-read}
use Rattle.desk_valid.proofs.Named.{option_map-Some}
use Rattle.machine_core.specs.Words.{words_at}

-- words are those of what the edition binds to
pub words-bound : (published : Published) (edition : ℕ) (words : List (List ℕ))
    → words_at published edition ≡ Some words
    → (bound : Bound) × (bound_at published edition ≡ Some bound) × (bound.names.attributes ≡ words)
words-bound published edition words is =
    option_map-Some (λ bound. bound.names.attributes) (bound_at published edition) words is

-- the rules of an edition's parts are those that its row names
pub parts-rules : (published : Published) (row : EditionRow) (parts : Parts) → parts_of published row ≡ Some parts
    → rules_at published row.rulebook ≡ Some parts.rules
parts-rules published row parts is =
    let whole : Rules → Option Parts = λ rules. option_map (λ masters. record { rules = rules; masters = masters })
    (all_of (map (master_at published) row.masters)) in
    option_and_then_some whole (rules_at published row.rulebook) parts is (λ rules found rest.
    let with_masters : List _ → Parts = λ masters. record { rules = rules; masters = masters } in
    let made = option_map-Some with_masters (all_of (map (master_at published) row.masters)) parts rest in
    found ∙ ap (λ (one : Parts). Some one.rules) made.2)

-- and they are over the schema that their row names
rules-schema : (published : Published) (place : ℕ) (row : RulebookRow) (schema : Schema) (rules : Rules)
    → slice_get published.rulebooks place ≡ Some row → schema_at published row.schema ≡ Some schema
    → rules_at published place ≡ Some rules → rules.schema ≡ schema
rules-schema published place row schema rules stands reads is =
    let over : rules_over row.body schema ≡ Some rules =
    sym (ap (option_and_then (rules_in published)) stands ∙ ap (option_and_then (rules_over row.body)) reads) ∙ is in
    let made = option_map-Some (λ rulebook. let one : Rules = record { schema = schema; rulebook = rulebook } in one)
    (read (read_rules row.body schema)) rules over in
    sym (ap (λ (one : Rules). one.schema) made.2)

module _ (rows : Rows) (edition : ℕ) (row : EditionRow) (valid : AreValid rows)
    (stands : slice_get rows.editions edition ≡ Some row) where
  -- what an edition of valid tables binds to
  pub edition-bound : (bound : Bound) × (bound_at (published_of rows) edition ≡ Some bound)
      × (parts : Parts) × (parts_of (published_of rows) row ≡ Some parts) × (bound.names ≡ names_of parts)
  edition-bound =
      let known = edition-read rows edition row valid stands in
      let whole : Bound = record { kit = known.binds.kit; names = names_of known.parts } in (
        whole,
        bound_at-read rows edition row known.parts stands known.reads
            ∙ bound_of-kit known.parts row.folded known.binds.kit known.binds.binds,
        known.parts,
        known.reads,
        refl,
      )

  -- its words are those of the schema of its rulebook
  pub schema-words : (book : RulebookRow) (schema : Schema) → slice_get rows.rulebooks row.rulebook ≡ Some book
      → schema_at (published_of rows) book.schema ≡ Some schema
      → words_at (published_of rows) edition ≡ Some schema.attributes
  schema-words book schema there reads =
      let known = edition-bound in
      let same : known.2.rules.schema ≡ schema = rules-schema (published_of rows) row.rulebook book schema
      known.2.rules there reads (parts-rules (published_of rows) row known.2 known.3) in
      ap (option_map (λ (bound : Bound). bound.names.attributes)) known.1
      ∙ ap (λ names. Some names.attributes) known.4 ∙ ap (λ (one : Schema). Some one.attributes) same

-- no word stands twice among those of an edition
pub words-apart : (rows : Rows) (edition : ℕ) (bound : Bound) → AreValid rows
    → bound_at (published_of rows) edition ≡ Some bound → AllPairs (λ one other. one ≢ other) bound.names.attributes
words-apart rows edition bound valid is =
    option_and_then_some (bound_in (published_of rows)) (slice_get rows.editions edition) bound is (λ row stands made.
    let known = edition-read rows edition row valid stands in
    let whole : Bound = record { kit = known.binds.kit; names = names_of known.parts } in
    let binds : bound_at (published_of rows) edition ≡ Some whole =
    bound_at-read rows edition row known.parts stands known.reads
    ∙ bound_of-kit known.parts row.folded known.binds.kit known.binds.binds in
    subst (λ (one : Bound). AllPairs (λ first other. first ≢ other) one.names.attributes)
    (same_Some whole bound (sym binds ∙ is)) known.bindable.schema.distinct)
