-- What the steward publishes comes to a result over valid tables, and is told.
use Rattle.std.proofs.Common.{◌≡◌, ◌∙◌, ℕ, ◌+◌, ◌<◌, List, [], ◌∷◌, length, map, Option, Some, None, refl, sym, ap}
use Rattle.std.proofs.Common.{subst, arith}
use Rattle.std.specs.Prelude.{All, Ok, option_and_then, option_map, slice_get, zip}
use Rattle.std.specs.Str.{bytes_eq}
use Rattle.std.proofs.lemmas.List.Elements.{All-cons, All-nil}
use Rattle.master_rows.specs.declared.master.Master.{Master}
use Rattle.fix_model.specs.declared.region.Region.{Region}
use Rattle.fix_model.specs.Regions.{row_state}
use Rattle.fix_engine.proofs.Lists.{All-Contains}
use Rattle.fix_engine.proofs.Rows.{Fits-row}
use Rattle.desk_words.specs.declared.rows.act.Act.{Act}
use Rattle.desk_words.specs.declared.rows.act.Act.TheVariants as act
use Rattle.desk_words.specs.declared.rows.edition.EditionRow.{EditionRow}
use Rattle.desk_words.specs.declared.rows.region.RegionRow.{RegionRow}
use Rattle.desk_words.specs.declared.steward_work.StewardWork.{StewardWork}
use Rattle.desk_words.specs.declared.proposal.Proposal.TheVariants as proposal
use Rattle.desk_words.specs.declared.steward_work.StewardWork.TheVariants.{AddClerk, Publish, AddRegion, AddDerived}
use Rattle.desk_words.specs.Tables.{Rows, published_of}
use Rattle.desk_valid.specs.declared.bound.Bound.{Bound}
use Rattle.desk_valid.specs.declared.parts.Parts.{Parts}
use Rattle.desk_valid.specs.declared.reading.Rules.{Rules}
use Rattle.desk_valid.specs.Bindings.{bound_at, parts_of}
use Rattle.desk_valid.specs.Readings.{all_of, master_at, schema_at, schema_in}
use Rattle.desk_valid.specs.Valid.{AreValid}
use Rattle.desk_valid.proofs.Kits.{masters-read, rules-read}
use Rattle.machine_core.specs.Checked.{certainly, each_following, Checked, ◌>>=◌}
use Rattle.machine_core.specs.DeskLook.Region.{row_answers}
use Rattle.machine_core.specs.declared.derivation.Derivation.{Derivation}
use Rattle.machine_core.specs.Deriving.{derivation_of, derived_rows, derived_sheet, master_of}
use Rattle.machine_core.specs.Kept.{kept_made, region_made}
use Rattle.machine_core.specs.Machine.{making_of}
use Rattle.machine_core.specs.Steward.AddEdition.{AreOthers, another_master, bindable, in_order, master_name}
use Rattle.machine_core.specs.Steward.AddEdition.{edition_row, next_edition}
use Rattle.machine_core.specs.Steward.AddRegion.{full_rows}
use Rattle.machine_core.specs.Steward.AddRulebook.{rulebook_row}
use Rattle.machine_core.specs.Views.{edition_at}
use Rattle.machine_core.proofs.Deriving.{derivation-derivable}
use Rattle.machine_core.proofs.Masters.{another-master}
use Rattle.machine_core.proofs.Tested.{each_following-all}
use Rattle.machine_core.proofs.Widths.{edition-stands, named-kit}
use Rattle.machine_core.proofs.Walks.{Gives-Met, Met}
use Rattle.machine_laws.proofs.Callers.{IsDone}
use Rattle.machine_laws.proofs.DeedOutcomes.{outcome-version}
use Rattle.machine_laws.proofs.Lists.{find-Some, slice_get-read, slice_get-there}
use Rattle.machine_laws.proofs.Makings.{place_of-within}
use Rattle.machine_laws.proofs.Outcomes.{HasOutcome, outcome-all, outcome-answer, outcome-following, outcome-bind}
use Rattle.machine_laws.proofs.Outcomes.{outcome-certainly, outcome-done, outcome-rows, outcome-some_or, outcome-unless}
use Rattle.machine_laws.proofs.Outcomes.{plain_tests}
use Rattle.machine_laws.proofs.OwnOutcomes.{outcome-bound}

-- the rows of a region are tested
outcome-full_rows : (words : List (List ℕ)) (number : ℕ) (rows : List (List (List ℕ)))
    → HasOutcome (full_rows words number rows)
outcome-full_rows words number [] = outcome-done
outcome-full_rows words number (first ∷ others) = outcome-bind
    (outcome-bind outcome-unless (λ _ _. outcome-all (zip words first) (λ cell. search plain_tests))) (λ texts ok.
    outcome-bind (outcome-full_rows words (number + 1) others) (λ more all_ok. outcome-done))

module _ (rows : Rows) (valid : AreValid rows) where
  -- the schema at a place reads
  schema-there : (place : ℕ) → place < length rows.schemas
      → HasOutcome (certainly (schema_at (published_of rows) place))
  schema-there place within =
      let row = slice_get-there rows.schemas place within in
      let good = valid.schemas place row.0 row.1 in
      outcome-certainly good.schema (ap (option_and_then schema_in) row.1 ∙ good.reads)

  -- and so does the master at a place
  pub master-there : (place : ℕ) → place < length rows.masters
      → HasOutcome (certainly (master_at (published_of rows) place))
  master-there place within =
      let Within : ℕ → Type 0 = λ one. one < length rows.masters in
      let one = masters-read rows valid (place ∷ []) (All-cons Within place [] within (All-nil Within)) in
      first-there (master_at (published_of rows) place) one.0 one.1
    where
      first-there : (found : Option (List ℕ × Master)) (all : List (List ℕ × Master)) → all_of (found ∷ []) ≡ Some all
          → HasOutcome (certainly found)
      first-there None all is = absurd (cc)
      first-there (Some master) all is = outcome-certainly master refl

  -- the parts of an edition read
  parts-there : (row : EditionRow) → row.rulebook < length rows.rulebooks
      → All (λ place. place < length rows.masters) row.masters
      → HasOutcome (certainly (parts_of (published_of rows) row))
  parts-there row rulebook masters =
      let rules = rules-read rows valid row.rulebook rulebook in
      let named = masters-read rows valid row.masters masters in
      let over : Rules → List (List ℕ × Master) → Parts = λ one many. record { rules = one; masters = many } in
      outcome-certainly (over rules.0 named.0)
      (ap (option_and_then (λ one. option_map (over one)
      (all_of (map (master_at (published_of rows)) row.masters)))) rules.1 ∙ ap (option_map (over rules.0)) named.1)

  -- and whether they bind is tested
  outcome-bindable : (row : EditionRow) → row.rulebook < length rows.rulebooks
      → All (λ place. place < length rows.masters) row.masters → HasOutcome (bindable (published_of rows) row)
  outcome-bindable row rulebook masters =
      outcome-bind (parts-there row rulebook masters) (λ parts ok. search plain_tests)

  -- masters that were found stand
  masters-stand : (masters : List (List ℕ × ℕ)) (places : List ℕ)
      → Met (each_following [] (another_master rows.masters) masters) (Ok places)
      → All (λ place. place < length rows.masters) places
  masters-stand masters places met =
      let others : AreOthers (published_of rows) places =
      each_following-all (AreOthers (published_of rows)) (another_master rows.masters) masters [] places
      (λ before master place are found. another-master (published_of rows) before master place are found)
      (record {
        stand = All-nil (λ place. place < length rows.masters);
        apart = λ i j past before last. absurd (omega arith);
      }) (Gives-Met (each_following [] (another_master rows.masters) masters) (Ok places) met) in
      others.stand

  -- the rows of a region of an edition
  pub outcome-rows_of : (place : ℕ) (bound : Bound) (region : Region) → bound_at (published_of rows) place ≡ Some bound
      → HasOutcome (row_answers bound.kit region)
  outcome-rows_of place bound region binds = outcome-all region.rows (λ texts. outcome-answer bound.kit
      (row_state bound.kit.width region.attrs texts) (named-kit rows place bound valid binds).valid
      (Fits-row bound.kit region.attrs texts))

  -- a region that stands
  outcome-region : (place : ℕ) (row : RegionRow) → row.edition < length rows.editions
      → HasOutcome (region_made (published_of rows) place row)
  outcome-region place row within = outcome-bind (outcome-bound rows valid row.edition within) (λ bound binds.
      outcome-bind (outcome-rows_of row.edition bound row.region binds) (λ answers ok. outcome-done))

  -- a master of an edition by its name
  outcome-master_of : (edition : ℕ) (bound : Bound) (name : List ℕ) → bound_at (published_of rows) edition ≡ Some bound
      → HasOutcome (master_of (published_of rows) (edition_at (published_of rows) edition) name)
  outcome-master_of edition bound name binds =
      let past : EditionRow = record { name = []; version = 0; rulebook = 0; masters = []; folded = [] } in
      let row : EditionRow = edition_at (published_of rows) edition in
      let there = slice_get-there rows.editions edition (edition-stands (published_of rows) edition bound binds) in
      let is : row ≡ there.0 = slice_get-read rows.editions edition there.0 past there.1 in
      let stand : All (λ place. place < length rows.masters) row.masters =
      subst (λ (one : EditionRow). All (λ place. place < length rows.masters) one.masters) (sym is)
      (valid.editions edition there.0 there.1).masters in
      outcome-bind outcome-some_or (λ place found.
      let listed = find-Some (λ one. bytes_eq (master_name rows.masters one) name) row.masters place found in
      outcome-bind (master-there place
      (All-Contains (λ one. one < length rows.masters) row.masters place stand listed.0))
      (λ sheet reads. outcome-done))

  -- what a derivation is asked of
  pub outcome-derivation : (edition : List ℕ) (version : ℕ) (master : List ℕ) (pairs : List (List ℕ × List ℕ))
      → HasOutcome (derivation_of (published_of rows) edition version master pairs)
  outcome-derivation edition version master pairs = outcome-version rows valid edition version (λ place within.
      outcome-bind (outcome-bound rows valid place within) (λ bound binds.
      outcome-bind (outcome-master_of place bound master binds) (λ sheet ok.
      outcome-bind (outcome-bind (outcome-following [] pairs (λ before pair. search plain_tests depth 9))
      (λ places all_ok. outcome-done)) (λ places all_ok. outcome-done))))

  -- and its rows
  outcome-derived : (derivation : Derivation) (edition : derivation.edition < length rows.editions)
      → HasOutcome (derived_rows (published_of rows) derivation)
  outcome-derived derivation edition = outcome-bind (outcome-bound rows valid derivation.edition edition)
      (λ bound binds. outcome-rows bound.kit derivation.grid derivation.attributes derivation.columns
      (named-kit rows derivation.edition bound valid binds).valid)

  -- a derivation that is found stands on an edition
  derivation-within : (edition : List ℕ) (version : ℕ) (master : List ℕ) (pairs : List (List ℕ × List ℕ))
      (derivation : Derivation) → Met (derivation_of (published_of rows) edition version master pairs) (Ok derivation)
      → derivation.edition < length rows.editions
  derivation-within edition version master pairs derivation met =
      (derivation-derivable rows edition version master pairs derivation valid
      (Gives-Met (derivation_of (published_of rows) edition version master pairs) (Ok derivation) met)).edition

  -- the sheet of them
  pub outcome-sheet : (edition : List ℕ) (version : ℕ) (master : List ℕ) (pairs : List (List ℕ × List ℕ))
      → HasOutcome (derived_sheet (published_of rows) edition version master pairs)
  outcome-sheet edition version master pairs = outcome-bind (outcome-derivation edition version master pairs)
      (λ derivation met. outcome-bind (outcome-derived derivation
      (derivation-within edition version master pairs derivation met)) (λ all ok. outcome-done))

  -- a row that stands is told
  outcome-told : {T A : Type 0} {next : T → Checked A} (table : List T) (place : ℕ) → place < length table
      → ((row : T) → HasOutcome (next row)) → HasOutcome (certainly (slice_get table place) >>= next)
  outcome-told table place within has =
      let row = slice_get-there table place within in
      outcome-bind (outcome-certainly row.0 row.1) (λ one _. has one)

  -- what was published is told
  pub outcome-made : (what : Act) (target : ℕ) → IsDone rows 0 what target → HasOutcome (kept_made rows what target)
  outcome-made act.Clerk target is = outcome-told rows.clerks target is.stands.1 (λ row. outcome-done)
  outcome-made act.Schema target is = outcome-told rows.schemas target is.stands (λ row. outcome-done)
  outcome-made act.Master target is = outcome-told rows.masters target is.stands (λ row. outcome-done)
  outcome-made act.Rulebook target is = outcome-told rows.rulebooks target is.stands (λ row. outcome-done)
  outcome-made act.Edition target is = outcome-told rows.editions target is.stands (λ row. outcome-done)
  outcome-made act.Region target is =
      let row = slice_get-there rows.regions target is.stands in
      outcome-bind (outcome-certainly row.0 row.1) (λ one stands.
      outcome-region target one (valid.regions target one stands).edition)
  outcome-made act.Nothing target is = absurd (is.some refl)
  outcome-made act.Opened target is = absurd (is.steward refl)
  outcome-made act.Changed target is = absurd (is.steward refl)
  outcome-made act.Committed target is = absurd (is.steward refl)
  outcome-made act.Batched target is = absurd (is.steward refl)

  -- the row of a rulebook
  pub outcome-rulebook_row : (name schema : List ℕ) (version : ℕ) (body : List ℕ)
      → HasOutcome (rulebook_row (published_of rows) name schema version body)
  outcome-rulebook_row name schema version body = outcome-bind outcome-unless (λ _ _.
      outcome-bind outcome-some_or (λ place found. outcome-bind (schema-there place
      (place_of-within (λ row. row.name) (λ row. row.version) rows.schemas schema version place found)) (λ over reads.
      search plain_tests)))

  -- that of an edition
  pub outcome-edition_row : (name : List ℕ) (rulebook : List ℕ × ℕ) (masters : List (List ℕ × ℕ))
      (folded : List (List ℕ)) → HasOutcome (edition_row (published_of rows) name rulebook masters folded)
  outcome-edition_row name rulebook masters folded = outcome-bind outcome-unless (λ _ _.
      outcome-bind outcome-some_or (λ book found.
      let stands = place_of-within (λ row. row.name) (λ row. row.version) rows.rulebooks rulebook.0 rulebook.1 book
      found in
      let rules = rules-read rows valid book stands in
      outcome-bind (outcome-certainly rules.0 rules.1) (λ over reads.
      outcome-bind (outcome-following [] folded (λ before word. search plain_tests)) (λ attributes ok.
      outcome-bind outcome-unless (λ _ _.
      outcome-bind (outcome-following [] masters (λ before master. search plain_tests)) (λ places all_ok.
      outcome-bind outcome-unless (λ _ _. outcome-bind (outcome-bindable (next_edition rows.editions name book places
      (in_order attributes (length over.schema.attributes))) stands (masters-stand masters places all_ok))
      (λ _ _. outcome-done))))))))

  -- each command of the steward
  pub outcome-making : (work : StewardWork) → HasOutcome (making_of rows work)
  outcome-making (AddClerk name) = search plain_tests depth 9
  outcome-making (Publish (proposal.Schema body)) = search plain_tests depth 9
  outcome-making (Publish (proposal.Master name body)) = search plain_tests depth 9
  outcome-making (Publish (proposal.Rulebook name schema version body)) =
      outcome-bind (outcome-rulebook_row name schema version body) (λ row ok. outcome-done)
  outcome-making (Publish (proposal.Edition name rulebook masters folded)) =
      outcome-bind (outcome-edition_row name rulebook masters folded) (λ row ok. outcome-done)
  outcome-making (AddRegion edition version attributes texts) = outcome-bind
      (outcome-version rows valid edition version (λ place within.
      outcome-bind (outcome-bound rows valid place within) (λ bound binds.
      outcome-bind (outcome-following [] attributes (λ before word. search plain_tests)) (λ places ok.
      search (plain_tests, outcome-full_rows))))) (λ row ok. outcome-done)
  outcome-making (AddDerived edition version master pairs from) = outcome-bind (outcome-bind
      (outcome-derivation edition version master pairs) (λ derivation met. outcome-bind outcome-unless (λ _ _.
      outcome-bind (outcome-derived derivation (derivation-within edition version master pairs derivation met))
      (λ all ok. outcome-done)))) (λ row ok. outcome-done)
