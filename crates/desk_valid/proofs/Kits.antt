-- In valid tables what an edition names reads, and binds.
use Rattle.std.proofs.Common.{◌≡◌, ℕ, ◌<◌, ◌≤◌, true, List, [], ◌∷◌, length, map, Option, Some, None, sym}
use Rattle.std.proofs.Common.{subst, ap, ◌∙◌, refl}
use Rattle.std.specs.Prelude.{All, IfSome, IsSome, IsSomeAnd, is_some, option_map, option_and_then, slice_get, Ok}
use Rattle.std.specs.Prelude.{Result}
use Rattle.std.proofs.lemmas.List.{length-map}
use Rattle.std.proofs.lemmas.List.Elements.{All-head, All-tail}
use Rattle.std.proofs.lemmas.Option.{same_Some}
use Rattle.desk_base.proofs.Lists.{slice_get-there}
use Rattle.fix_model.specs.declared.kit.Kit.{Kit}
use Rattle.fix_model.specs.Entries.{entries}
use Rattle.rule_text.specs.declared.binding.BindFault.{BindFault}
use Rattle.rule_text.proofs.BindingKits.{IsValid-kit_of}
use Rattle.master_rows.specs.declared.master.Master.{Master}
use Rattle.desk_words.specs.declared.rows.edition.EditionRow.{EditionRow}
use Rattle.desk_words.specs.Tables.{Rows, published_of}
use Rattle.desk_valid.specs.declared.bound.Bound.{Bound}
use Rattle.desk_valid.specs.declared.parts.Parts.{Parts}
use Rattle.desk_valid.specs.declared.reading.Rules.{Rules}
use Rattle.desk_valid.specs.Bindings.{AreBindable, IsNamedKit, binding, bound_at, bound_in, bound_of, names_of}
use Rattle.desk_valid.specs.Bindings.{parts_of}
use Rattle.desk_valid.specs.Readings.{all_of, master_at, master_in, read, rules_at, rules_in, rules_over, schema_at}
use Rattle.desk_valid.specs.Readings.{schema_in}
use Rattle.desk_valid.specs.Rows.Edition.{IsBinding, IsEditionRow}
use Rattle.desk_valid.specs.Rows.Master.{IsMasterRow}
use Rattle.desk_valid.specs.Rows.Rulebook.{IsRulebookRow}
use Rattle.desk_valid.specs.Rows.Schema.{IsSchemaRow}
use Rattle.desk_valid.specs.Valid.{AreValid}
use Rattle.desk_valid.proofs.Named.{AreMasters-whole, rules_at-sound}
use Rattle.desk_valid.proofs.Unrowed.{bound-parts}

-- what is there is a value
pub value-from : {A : Type 0} (found : Option A) → is_some found ≡ true → (value : A) × (found ≡ Some value)
value-from None there = absurd (cc)
value-from (Some value) there = (value, refl)

module _ (rows : Rows) (valid : AreValid rows) where
  -- a rulebook reads
  pub rules-read : (place : ℕ) → place < length rows.rulebooks
      → (rules : Rules) × (rules_at (published_of rows) place ≡ Some rules)
  rules-read place within =
      let here = slice_get-there rows.rulebooks place within in
      let good : IsRulebookRow (published_of rows) place here.0 = valid.rulebooks place here.0 here.1 in
      let there = slice_get-there rows.schemas here.0.schema good.schema in
      let named : IsSchemaRow (published_of rows) here.0.schema there.0 = valid.schemas here.0.schema there.0 there.1 in
      let schema : schema_at (published_of rows) here.0.schema ≡ Some named.schema = ap (option_and_then schema_in)
      there.1 ∙ named.reads in
      let Reads : Option _ → Type 0 = λ found. IfSome found (λ one. IsSome (rules_over here.0.body one)) in
      let rules = value-from (rules_over here.0.body named.schema) (subst Reads schema good.reads) in (
        rules.0,
        ap (option_and_then (rules_in (published_of rows))) here.1 ∙ ap
            (option_and_then (rules_over here.0.body)) schema ∙ rules.1,
      )

  -- and so do masters
  pub masters-read : (places : List ℕ) → All (λ place. place < length rows.masters) places
      → (masters : List (List ℕ × Master)) × (all_of (map (master_at (published_of rows)) places) ≡ Some masters)
  masters-read [] within = ([], refl)
  masters-read (place ∷ rest) within =
      let Within : ℕ → Type 0 = λ one. one < length rows.masters in
      let here = slice_get-there rows.masters place (All-head Within place rest within) in
      let good : IsMasterRow (published_of rows) place here.0 = valid.masters place here.0 here.1 in
      let first = value-from (master_in here.0) good.reads in
      let others = masters-read rest (All-tail Within place rest within) in
      let one : master_at (published_of rows) place ≡ Some first.0 = ap (option_and_then master_in) here.1 ∙ first.1 in
      let rest_of : Option (List ℕ × Master)
      → Option (List (List ℕ × Master)) = λ found. option_and_then
      (λ value. option_map (λ values. value ∷ values) (all_of (map (master_at (published_of rows)) rest)))
      found in
      (first.0 ∷ others.0, ap rest_of one ∙ ap (option_map (λ values. first.0 ∷ values)) others.1)

-- an edition whose parts read and bind
pub record IsReadEdition (rows : Rows) (row : EditionRow) : Type 0 where
  pub parts : Parts
  pub reads : parts_of (published_of rows) row ≡ Some parts
  pub binds : IsBinding parts row.folded
  pub bindable : AreBindable parts row.folded

-- an edition of valid tables reads and binds
pub edition-read : (rows : Rows) (place : ℕ) (row : EditionRow) → AreValid rows
    → slice_get rows.editions place ≡ Some row → IsReadEdition rows row
edition-read rows place row valid stands =
    let good : IsEditionRow (published_of rows) place row = valid.editions place row stands in
    let rules = rules-read rows valid row.rulebook good.rulebook in
    let masters = masters-read rows valid row.masters good.masters in
    let whole : Parts = record { rules = rules.0; masters = masters.0 } in
    let reads : parts_of (published_of rows) row ≡ Some whole =
    ap (option_and_then (λ found. option_map (λ named. let made : Parts = record { rules = found; masters = named } in
    made) (all_of (map (master_at (published_of rows)) row.masters)))) rules.1
    ∙ ap (option_map (λ named. let made : Parts = record { rules = rules.0; masters = named } in made)) masters.1 in
    let Binds : Option Parts → Type 0 = λ found. IfSome found (λ parts. IsBinding parts row.folded) in
    let binds : IsBinding whole row.folded = subst Binds reads good.binds in
    let sound = rules_at-sound (published_of rows) row.rulebook rules.0 rules.1 in
    record {
      parts = whole;
      reads = reads;
      binds = binds;
      bindable = record {
        schema = sound.0;
        rulebook = sound.1;
        masters = AreMasters-whole (published_of rows) row.masters masters.0 masters.1 good.few_masters
            good.named_apart;
        fold = record { ascending = good.folded; within = binds.folded_within };
      };
    }

-- the kit of the edition at a place
pub bound_at-read : (rows : Rows) (place : ℕ) (row : EditionRow) (parts : Parts)
    → slice_get rows.editions place ≡ Some row → parts_of (published_of rows) row ≡ Some parts
    → bound_at (published_of rows) place ≡ bound_of parts row.folded
bound_at-read rows place row parts stands reads =
    ap (option_and_then (bound_in (published_of rows))) stands
    ∙ ap (option_and_then (λ found. bound_of found row.folded)) reads

-- parts that bind have a kit with its names
pub bound_of-kit : (parts : Parts) (folded : List ℕ) (kit : Kit) → binding parts folded ≡ Ok kit
    → bound_of parts folded ≡ Some (record { kit = kit; names = names_of parts })
bound_of-kit parts folded kit is =
    ap (λ (found : Result Kit BindFault). option_map (λ one. let made : Bound = record
    { kit = one; names = names_of parts } in made) (read found)) is

-- and it has all names
IsNamedKit-bound : (parts : Parts) (folded : List ℕ) (kit : Kit) → AreBindable parts folded
    → binding parts folded ≡ Ok kit → IsNamedKit (record { kit = kit; names = names_of parts })
IsNamedKit-bound parts folded kit are is =
    let known = bound-parts parts.rules.rulebook parts.rules.schema parts.masters folded kit is in
    let Named : Kit → Type 0 = λ one. IsNamedKit (record { kit = one; names = names_of parts }) in
    subst Named known.1 (record {
      valid = IsValid-kit_of parts.rules.rulebook parts.rules.schema parts.masters folded are.masters are.schema
          are.rulebook known.0;
      attributes = refl;
      rules = simp length-map;
      masters = simp length-map;
    })

-- an edition of valid tables has a kit with its names
pub edition-kit : (rows : Rows) (place : ℕ) → AreValid rows → place < length rows.editions
    → IsSomeAnd (bound_at (published_of rows) place) IsNamedKit
edition-kit rows place valid within =
    let here = slice_get-there rows.editions place within in
    let known = edition-read rows place here.0 valid here.1 in
    let Named : Option Bound → Type 0 = λ found. IsSomeAnd found IsNamedKit in
    subst Named (sym (bound_at-read rows place here.0 known.parts here.1 known.reads ∙ bound_of-kit known.parts
    here.0.folded known.binds.kit known.binds.binds))
    (IsNamedKit-bound known.parts here.0.folded known.binds.kit known.bindable known.binds.binds)

-- what is known of the parts of an edition
pub known-parts : (rows : Rows) (place : ℕ) (row : EditionRow) (parts : Parts) → AreValid rows
    → slice_get rows.editions place ≡ Some row → parts_of (published_of rows) row ≡ Some parts
    → AreBindable parts row.folded × IsSome (bound_of parts row.folded) ×
    (bound_at (published_of rows) place ≡ bound_of parts row.folded)
known-parts rows place row parts valid stands reads =
    let known = edition-read rows place row valid stands in
    let same : known.parts ≡ parts = same_Some known.parts parts (sym known.reads ∙ reads) in
    let Bindable : Parts → Type 0 = λ one. AreBindable one row.folded in
    let Bound-to : Parts → Type 0 = λ one. IsSome (bound_of one row.folded) in
    let made : IsSome (bound_of known.parts row.folded) = ap is_some
    (bound_of-kit known.parts row.folded known.binds.kit known.binds.binds) in
    (subst Bindable same known.bindable, subst Bound-to same made, bound_at-read rows place row parts stands reads)

-- the index over what it binds to is not too wide
pub bound-narrow : (rows : Rows) (place : ℕ) (row : EditionRow) (parts : Parts) (made : Bound) → AreValid rows
    → slice_get rows.editions place ≡ Some row → parts_of (published_of rows) row ≡ Some parts
    → bound_of parts row.folded ≡ Some made → entries made.kit ≤ 2000000
bound-narrow rows place row parts made valid stands reads is =
    let known = edition-read rows place row valid stands in
    let same : known.parts ≡ parts = same_Some known.parts parts (sym known.reads ∙ reads) in
    let Made : Parts → Type 0 = λ one. bound_of one row.folded ≡ Some made in
    let bound = bound_of-kit known.parts row.folded known.binds.kit known.binds.binds in
    let whole : Bound = record { kit = known.binds.kit; names = names_of known.parts } in
    let one = same_Some whole made (sym bound ∙ subst Made (sym same) is) in
    subst (λ (bound : Bound). entries bound.kit ≤ 2000000) one known.binds.narrow
