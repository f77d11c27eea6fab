-- Why a request of the steward is refused.
use Rattle.std.proofs.Common.{◌≡◌, ◌⊎◌, ◌∙◌, ℕ, ◌+◌, ◌-◌, ◌<◌, Bool, false, List, [], ◌∷◌, ◌++◌, length, map, Some, inl}
use Rattle.std.proofs.Common.{inr, refl, sym, ap, subst, arith}
use Rattle.std.specs.Prelude.{◌==◌, Contains, IsSomeAnd, Ok, Err, option_and_then, option_map, slice_get, zip}
use Rattle.std.specs.Str.{bytes_eq}
use Rattle.std.proofs.lemmas.Bool.Decides.{nat_tests}
use Rattle.std.proofs.lemmas.List.{append-nil, append_assoc, length-append, map-id}
use Rattle.std.proofs.lemmas.Slice.Eq.{bytes_eq-Decides}
use Rattle.fix_model.specs.declared.kit.Kit.{Kit}
use Rattle.fix_model.specs.Entries.{entries}
use Rattle.rule_text.specs.declared.binding.BindFault.{BindFault}
use Rattle.desk_words.specs.declared.command.Command.{Command}
use Rattle.desk_words.specs.declared.command.Command.TheVariants.{Steward}
use Rattle.desk_words.specs.declared.command.Ticket.{Ticket}
use Rattle.desk_words.specs.declared.limit.Which.TheVariants as which
use Rattle.desk_words.specs.declared.refusal.Reader.TheVariants as reader
use Rattle.desk_words.specs.declared.refusal.Refusal.{Refusal}
use Rattle.desk_words.specs.declared.refusal.Refusal.TheVariants.{BadText, UnknownAttr}
use Rattle.desk_words.specs.declared.rows.clerk.ClerkRow.{ClerkRow}
use Rattle.desk_words.specs.declared.rows.edition.EditionRow.{EditionRow}
use Rattle.desk_words.specs.declared.steward_work.StewardWork.{StewardWork}
use Rattle.desk_words.specs.declared.proposal.Proposal.TheVariants.{Schema, Master, Rulebook, Edition}
use Rattle.desk_words.specs.declared.steward_work.StewardWork.TheVariants.{AddClerk, Publish, AddRegion, AddDerived}
use Rattle.desk_words.specs.Tables.{Published, Rows, published_of}
use Rattle.desk_valid.specs.Bindings.{binding}
use Rattle.desk_valid.specs.Readings.{all_of}
use Rattle.desk_valid.specs.declared.parts.Parts.{Parts}
use Rattle.machine_core.specs.Causes.{AreWords, Cause, IsAbout, RefusesBody}
use Rattle.machine_core.specs.Checked.{each_following, Checked}
use Rattle.machine_core.specs.Faults.{bind_refusal}
use Rattle.machine_core.specs.Deriving.{derivation_of}
use Rattle.machine_core.specs.Finding.{rulebook_named, text_named}
use Rattle.machine_core.specs.Machine.{making_of}
use Rattle.machine_core.specs.Steward.AddClerk.{clerk_row}
use Rattle.machine_core.specs.Steward.AddDerived.{derived_region}
use Rattle.machine_core.specs.Steward.AddEdition.{another_master, bindable, edition_row, in_order, master_name}
use Rattle.machine_core.specs.Steward.AddEdition.{next_edition}
use Rattle.machine_core.specs.Steward.AddMaster.{master_row}
use Rattle.machine_core.specs.Steward.AddRegion.{full_rows, region_row}
use Rattle.machine_core.specs.Steward.AddRulebook.{rulebook_row}
use Rattle.machine_core.specs.Steward.AddSchema.{schema_row}
use Rattle.machine_core.specs.Tests.{another_attribute, proper_name}
use Rattle.machine_core.specs.Named.{attributes_in, new_name_in}
use Rattle.machine_core.proofs.Masters.{master-named}
use Rattle.machine_core.proofs.Walks.{Met, Gives-Met}
use Rattle.machine_laws.proofs.Derived.{IsAskedOf-found}
use Rattle.machine_laws.proofs.DerivingWhy.{derivation-why, derived_rows-why}
use Rattle.machine_laws.proofs.Why.{edition-words, limit-why, sheet-why, version-why, word-why}
use Rattle.machine_laws.proofs.Refusals.{HasCauses, causes-bind, causes-certainly, causes-done, causes-each}
use Rattle.machine_laws.proofs.Refusals.{causes-following, causes-some_or, causes-unless, causes-value_or, not-both}
use Rattle.machine_laws.proofs.Twice.{Contains-between, another-word, any-taken, free-why, named-there, named-twice}
use Rattle.machine_laws.proofs.Wrong.{bind-why, rules-why, schema-why}

-- the places of masters that are found
masters-places : (published : Published) (masters : List (List ℕ × ℕ)) (before found : List ℕ)
    → Met (each_following before (another_master published.masters) masters) (Ok found)
    → (places : List ℕ) × (found ≡ before ++ places)
    × (all_of (map (λ master. text_named published.masters master.0 master.1) masters) ≡ Some places)
masters-places published [] before found is = ([], is ∙ sym (append-nil before), refl)
masters-places published (master ∷ masters) before found (here, (at, there, (passed, free, is)), left) =
    let first : text_named published.masters master.0 master.1 ≡ Some here = there ∙ ap Some (sym is) in
    let (places, same, all) = masters-places published masters (before ++ here ∷ []) found left in (
      here ∷ places,
      same ∙ append_assoc before (here ∷ []) places,
      ap (option_and_then (λ value. option_map (λ values. value ∷ values)
          (all_of (map (λ one. text_named published.masters
          one.0 one.1) masters)))) first ∙ ap (option_map (λ values. here ∷ values)) all,
    )

-- what stands after others
slice_get-following : {A : Type 0} (before : List A) (item : A) (rest : List A)
    → slice_get (before ++ item ∷ rest) (length before) ≡ Some item
slice_get-following [] item rest = refl
slice_get-following (first ∷ before) item rest = slice_get-following before item rest

module _ (rows : Rows) (ticket : Ticket) where
  -- the causes of a write of the steward
  abbrev CausesOf : StewardWork → Refusal → Type 0
  CausesOf work = Cause rows (Steward ticket work)

  -- a name that is none
  name-why : (command : Command) (name : List ℕ) → new_name_in command ≡ Some name
      → HasCauses (Cause rows command) (proper_name name)
  name-why command name names = causes-unless (λ fails. (names, λ holds. not-both holds fails))

  -- attributes of which one is unknown, or stands twice
  attributes-why : (command : Command) (words : List (List ℕ)) → AreWords rows command words
      → HasCauses (Cause rows command) (each_following [] (another_attribute words) (attributes_in command))
  attributes-why command words are =
      let names : List (List ℕ) = attributes_in command in
      let find : List ℕ → List ℕ → Checked ℕ = another_attribute words in
      let word_of : List ℕ → List ℕ = λ word. word in
      causes-following (λ refusal come. causes-bind (word-why rows command words come.item are
      (named-there find names come word_of names (sym (map-id names)))) (λ at there.
      causes-bind (free-why find names come word_of names (sym (map-id names)) words (λ one. one)
      (λ before word one gave. another-word words before word (UnknownAttr word) one gave) at there
      (Cause rows command) (λ twice. inl twice)) (λ _ _. causes-done)))

  add_clerk-why : (name : List ℕ) → HasCauses (CausesOf (AddClerk name)) (clerk_row rows.clerks name)
  add_clerk-why name =
      let command : Command = Steward ticket (AddClerk name) in
      causes-bind (name-why command name refl) (λ _ _. causes-bind (causes-unless (λ some.
      let (one, listed, holds) = any-taken (λ (clerk : ClerkRow). bytes_eq clerk.name name) rows.clerks some in
      (ticket, one, refl, listed, (bytes_eq-Decides one.name name).0 holds))) (λ _ _.
      causes-bind (limit-why rows command which.Clerks _ (ticket, name, refl, refl)) (λ _ _. causes-done)))

  add_schema-why : (body : List ℕ) → HasCauses (CausesOf (Publish (Schema body))) (schema_row rows.schemas body)
  add_schema-why body =
      let command : Command = Steward ticket (Publish (Schema body)) in
      causes-bind (causes-value_or (λ fault wrong.
      schema-why rows command body fault wrong (λ refusal same. (fault, wrong, same)))) (λ schema reads.
      causes-bind (limit-why rows command which.Schemas _ (ticket, body, refl, refl)) (λ _ _. causes-done))

  add_master-why : (name body : List ℕ)
      → HasCauses (CausesOf (Publish (Master name body))) (master_row rows.masters name body)
  add_master-why name body =
      let command : Command = Steward ticket (Publish (Master name body)) in
      causes-bind (name-why command name refl) (λ _ _. causes-bind (causes-value_or (λ fault wrong.
      sheet-why rows command body fault wrong (λ refusal same. (fault, wrong, same)))) (λ master reads.
      causes-bind (limit-why rows command which.Masters _ (ticket, name, body, refl, refl)) (λ _ _.
      causes-bind (limit-why rows command which.MasterCells _ (ticket, name, body, master, refl, reads, refl))
      (λ _ _. causes-done))))

  add_rulebook-why : (name schema : List ℕ) (version : ℕ) (body : List ℕ)
      → HasCauses (CausesOf (Publish (Rulebook name schema version body)))
      (rulebook_row (published_of rows) name schema version body)
  add_rulebook-why name schema version body =
      let command : Command = Steward ticket (Publish (Rulebook name schema version body)) in
      causes-bind (name-why command name refl) (λ _ _.
      causes-bind (causes-some_or (λ none. ((schema, version), refl, none))) (λ at found.
      causes-bind causes-certainly (λ over is. causes-bind (causes-value_or (λ fault wrong.
      rules-why rows command body over fault wrong (λ refusal same. (at, over, fault, found, is, wrong, same))))
      (λ rulebook reads.
      causes-bind (limit-why rows command which.Rulebooks _ (ticket, name, schema, version, body, refl, refl))
      (λ _ _. causes-done)))))

  module _ (name : List ℕ) (rulebook : List ℕ × ℕ) (masters : List (List ℕ × ℕ)) (folded : List (List ℕ)) where
    abbrev adding : Command
    adding = Steward ticket (Publish (Edition name rulebook masters folded))

    -- masters of which one is not there, or stands twice
    masters-why : HasCauses (Cause rows adding) (each_following [] (another_master rows.masters) masters)
    masters-why =
        let find : List ℕ → List ℕ × ℕ → Checked ℕ = another_master rows.masters in
        causes-following (λ refusal come.
        causes-bind (causes-some_or (λ none. inl (come.item, Contains-between masters come.earlier come.later come.item come.same, none))) (λ at found.
        causes-bind (causes-unless (λ some.
        let name_of : List ℕ × ℕ → List ℕ = λ master. master.0 in
        let taken : ℕ → Bool = λ earlier. bytes_eq (master_name rows.masters earlier) come.item.0 in
        let (one, listed, holds) = any-taken taken come.sofar some in
        inr (inl (named-twice find masters come name_of (map name_of masters) refl one listed
        (λ before other (place, stands, (passed, free, is)).
        sym (ap (master_name rows.masters) is ∙ (master-named (published_of rows) other.0 other.1 place stands).1)
        ∙ (bytes_eq-Decides (master_name rows.masters one) come.item.0).0 holds))))) (λ _ _. causes-done)))

    -- parts that bind to no kit, or to one whose index is too wide, are refused so
    abbrev BindsWrong : List ℕ → Parts → Refusal → Type 0
    BindsWrong places parts refusal =
        ((fault : BindFault) × (binding parts places ≡ Err fault) × (refusal ≡ bind_refusal fault))
        ⊎ ((kit : Kit) × (binding parts places ≡ Ok kit) × (2000000 < entries kit)
        × (refusal ≡ BadText reader.Index 1 (entries kit) 0))

    -- what an edition names binds so
    bindable-why : (row : EditionRow) → rulebook_named rows.rulebooks rulebook.0 rulebook.1 ≡ Some row.rulebook
        → all_of (map (λ master. text_named rows.masters master.0 master.1) masters) ≡ Some row.masters
        → HasCauses (Cause rows adding) (bindable (published_of rows) row)
    bindable-why row names_it places = causes-bind causes-certainly (λ parts are.
        let refuses : (refusal : Refusal) → BindsWrong row.folded parts refusal → RefusesBody rows adding refusal =
        λ refusal wrong. (
          row,
          names_it,
          places,
          subst (λ found. IsSomeAnd found (λ one. BindsWrong row.folded one refusal)) (sym are) wrong,
        ) in
        causes-bind (causes-value_or (λ fault wrong.
        bind-why rows adding parts.rules.rulebook parts.rules.schema parts.masters row.folded fault wrong
        (λ refusal same. refuses refusal (inl (fault, wrong, same))))) (λ kit binds. causes-unless (λ wide.
        refuses (BadText reader.Index 1 (entries kit) 0) (inr (kit, binds, grind (arith, nat_tests, wide), refl)))))

    add_edition-why : HasCauses (Cause rows adding) (edition_row (published_of rows) name rulebook masters folded)
    add_edition-why = causes-bind (name-why adding name refl) (λ _ _.
        causes-bind (causes-some_or (λ none. (rulebook, refl, none))) (λ book names_it.
        causes-bind causes-certainly (λ rules read.
        causes-bind (attributes-why adding rules.schema.attributes (inr (record {
          version = rulebook;
          names = refl;
          place = book;
          stands = names_it;
          are = ap (option_map (λ one. one.schema.attributes)) read;
        }))) (λ attributes _.
        causes-bind (limit-why rows adding which.EditionMasters _ refl) (λ _ _.
        causes-bind masters-why (λ places given.
        let (found, are_found, all_found) = masters-places (published_of rows) masters [] places given in
        causes-bind (limit-why rows adding which.Editions _ (ticket, name, rulebook, masters, folded, refl, refl))
        (λ _ _. causes-bind (bindable-why (next_edition rows.editions name book places
        (in_order attributes (length rules.schema.attributes))) names_it (all_found ∙ ap Some (sym are_found)))
        (λ _ _. causes-done))))))))

  module _ (edition : List ℕ) (version : ℕ) (attributes : List (List ℕ)) (texts : List (List (List ℕ))) where
    abbrev adding_region : Command
    adding_region = Steward ticket (AddRegion edition version attributes texts)

    -- the rows of a region, of which one is too narrow or has a text that is too long
    rows-why : (before left : List (List (List ℕ))) (number : ℕ) → texts ≡ before ++ left
        → number ≡ length before + 1 → HasCauses (Cause rows adding_region) (full_rows attributes number left)
    rows-why before [] number is counted = causes-done
    rows-why before (first ∷ others) number is counted =
        let here : slice_get texts (number - 1) ≡ Some first =
        ap (λ list. slice_get list (number - 1)) is
        ∙ ap (slice_get (before ++ first ∷ others)) (omega (arith, counted))
        ∙ slice_get-following before first others in
        let listed : Contains texts first = Contains-between texts before others first is in
        causes-bind (causes-bind (causes-unless (λ fails.
        (first, omega (arith, counted), here, λ same. apart same fails))) (λ _ _.
        causes-each (zip attributes first) (λ cell there. causes-bind (causes-unless (λ fails.
        (cell.1, (first, listed, there), grind (arith, nat_tests, fails)))) (λ _ _. causes-done)))) (λ _ _.
        causes-bind (rows-why (before ++ first ∷ []) others (number + 1)
        (is ∙ sym (append_assoc before (first ∷ []) others))
        (omega (arith, counted, length-append before (first ∷ [])))) (λ _ _. causes-done))
      where
        apart : length first ≡ length attributes → (length first == length attributes) ≡ false → ⊥
        apart same fails = grind (arith, nat_tests, same, fails)

    add_region-why : HasCauses (Cause rows adding_region) (region_row (published_of rows) edition version attributes texts)
    add_region-why = causes-bind (version-why rows adding_region edition version refl) (λ at found.
        causes-bind causes-certainly (λ bound binds.
        let about : IsAbout rows adding_region at = inr (inl ((edition, version), refl, found)) in
        causes-bind (attributes-why adding_region bound.names.attributes
        (edition-words rows adding_region at bound about binds)) (λ _ _.
        causes-bind (limit-why rows adding_region which.RegionRows _
        (ticket, edition, version, attributes, texts, refl, refl)) (λ _ _.
        causes-bind (rows-why [] texts 1 refl refl) (λ _ _.
        causes-bind (limit-why rows adding_region which.Regions _ (at, about, refl)) (λ _ _. causes-done))))))

  add_derived-why : (edition : List ℕ) (version : ℕ) (master : List ℕ) (pairs : List (List ℕ × List ℕ)) (from : ℕ)
      → HasCauses (CausesOf (AddDerived edition version master pairs from))
      (derived_region (published_of rows) edition version master pairs from)
  add_derived-why edition version master pairs from =
      let command : Command = Steward ticket (AddDerived edition version master pairs from) in
      let published : Published = published_of rows in
      causes-bind (derivation-why rows command edition version master pairs refl refl refl refl) (λ derivation found.
      let there = (IsAskedOf-found published edition version master pairs derivation
      (Gives-Met (derivation_of published edition version master pairs) (Ok derivation) found)).named in
      causes-bind (limit-why rows command which.Regions _
      (derivation.edition, inr (inl ((edition, version), refl, there)), refl)) (λ _ _.
      causes-bind (derived_rows-why (Cause rows command) published derivation) (λ _ _. causes-done)))

  -- each command of the steward
  pub making-why : (work : StewardWork) → HasCauses (CausesOf work) (making_of rows work)
  making-why (AddClerk name) = causes-bind (add_clerk-why name) (λ _ _. causes-done)
  making-why (Publish (Schema body)) = causes-bind (add_schema-why body) (λ _ _. causes-done)
  making-why (Publish (Master name body)) = causes-bind (add_master-why name body) (λ _ _. causes-done)
  making-why (Publish (Rulebook name schema version body)) =
      causes-bind (add_rulebook-why name schema version body) (λ _ _. causes-done)
  making-why (Publish (Edition name rulebook masters folded)) =
      causes-bind (add_edition-why name rulebook masters folded) (λ _ _. causes-done)
  making-why (AddRegion edition version attributes texts) =
      causes-bind (add_region-why edition version attributes texts) (λ _ _. causes-done)
  making-why (AddDerived edition version master pairs from) =
      causes-bind (add_derived-why edition version master pairs from) (λ _ _. causes-done)
