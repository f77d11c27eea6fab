-- Each check comes to a result over valid tables: once its row is made, what the row reads as is there.
use Rattle.std.proofs.Common.{◌≡◌, ◌∙◌, ℕ, List, Some, ap}
use Rattle.std.specs.Prelude.{Ok}
use Rattle.desk_words.specs.declared.proposal.Proposal.{Proposal}
use Rattle.desk_words.specs.declared.proposal.Proposal.TheVariants.{Schema, Master, Rulebook, Edition}
use Rattle.desk_words.specs.declared.rows.edition.EditionRow.{EditionRow}
use Rattle.desk_words.specs.declared.rows.rulebook.RulebookRow.{RulebookRow}
use Rattle.desk_words.specs.Tables.{Published, Rows, published_of}
use Rattle.desk_valid.specs.declared.parts.Parts.{Parts}
use Rattle.desk_valid.specs.Bindings.{binding, parts_of}
use Rattle.desk_valid.specs.Readings.{schema_at}
use Rattle.desk_valid.specs.Valid.{AreValid}
use Rattle.fix_model.specs.declared.kit.Kit.{Kit}
use Rattle.rule_text.specs.Reading.{read_rules}
use Rattle.rule_text.specs.declared.rulebook.Rulebook.{Rulebook as RulebookOf}
use Rattle.schema_core.specs.declared.schema.Schema.{Schema as SchemaOf}
use Rattle.machine_core.specs.Checked.{run}
use Rattle.machine_core.specs.DeskLook.Check.{fits_of, tried}
use Rattle.machine_core.specs.Steward.AddEdition.{edition_row}
use Rattle.machine_core.specs.Steward.AddRulebook.{rulebook_row}
use Rattle.machine_core.proofs.Trying.{tried-gives}
use Rattle.machine_core.proofs.Walks.{Met}
use Rattle.machine_laws.proofs.MadeOutcomes.{outcome-edition_row, outcome-rulebook_row}
use Rattle.machine_laws.proofs.Outcomes.{HasOutcome, outcome-bind, outcome-certainly, outcome-done, plain_tests}

-- what the row of a new rulebook reads as: over this schema, these rules
pub record Reads (rows : Published) (row : RulebookRow) : Type 0 where
  pub schema : SchemaOf
  pub rulebook : RulebookOf
  pub stands : schema_at rows row.schema ≡ Some schema
  pub reads : read_rules row.body schema ≡ Ok rulebook

pub rulebook-reads : (rows : Published) (name schema : List ℕ) (version : ℕ) (body : List ℕ) (row : RulebookRow)
    → Met (rulebook_row rows name schema version body) (Ok row) → Reads rows row
rulebook-reads rows name schema version body row
    (_, proper, (place, stood, (over, stands, (rulebook, reads, (_, few, row_is))))) = record {
      schema = over;
      rulebook = rulebook;
      stands = ap (λ (one : RulebookRow). schema_at rows one.schema) row_is ∙ stands;
      reads = ap (λ (one : RulebookRow). read_rules one.body over) row_is ∙ reads;
    }

-- what that of a new edition binds to
pub record Binds (rows : Published) (row : EditionRow) : Type 0 where
  pub parts : Parts
  pub kit : Kit
  pub are : parts_of rows row ≡ Some parts
  pub binds : binding parts row.folded ≡ Ok kit

pub edition-binds : (rows : Published) (name : List ℕ) (rulebook : List ℕ × ℕ) (masters : List (List ℕ × ℕ))
    (folded : List (List ℕ)) (row : EditionRow) → Met (edition_row rows name rulebook masters folded) (Ok row)
    → Binds rows row
edition-binds rows name rulebook masters folded row
    (_, named, (book, stands, (rules, found, (attributes, folds_are, rest)))) =
    let (_, few_masters, (places, are_places, (_, few, (_, (parts, are, (kit, binds, narrow)), is_row)))) = rest in
    record {
      parts = parts;
      kit = kit;
      are = ap (parts_of rows) is_row ∙ are;
      binds = ap (λ (one : EditionRow). binding parts one.folded) is_row ∙ binds;
    }

module _ (rows : Rows) (valid : AreValid rows) where
  -- each proposal comes to a result
  pub outcome-fits : (proposal : Proposal) → HasOutcome (fits_of (published_of rows) proposal)
  outcome-fits (Schema body) = search plain_tests depth 9
  outcome-fits (Master name body) = search plain_tests depth 12
  outcome-fits (Rulebook name schema version body) =
      outcome-bind (outcome-rulebook_row rows valid name schema version body) (λ row makes.
      let has = rulebook-reads (published_of rows) name schema version body row makes in
      outcome-bind (outcome-certainly has.schema has.stands)
      (λ over ok. search plain_tests))
  outcome-fits (Edition name rulebook masters folded) =
      outcome-bind (outcome-edition_row rows valid name rulebook masters folded) (λ row makes.
      let has = edition-binds (published_of rows) name rulebook masters folded row makes in
      outcome-bind (outcome-bind (outcome-certainly has.parts has.are)
      (λ parts ok. search plain_tests)) (λ count ok. outcome-done))

  -- and so does its check
  pub outcome-tried : (proposal : Proposal) → HasOutcome (tried (published_of rows) proposal)
  outcome-tried proposal =
      let has = outcome-fits proposal in
      record {
        outcome = Ok has.outcome;
        gives = tried-gives (run (fits_of (published_of rows) proposal)) has.outcome has.gives;
      }
