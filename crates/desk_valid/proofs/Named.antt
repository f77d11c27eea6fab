-- What an edition names, with its masters whole and without their rows.
use Rattle.std.proofs.Common.{◌≡◌, ◌≢◌, ℕ, Bool, zero, suc, ◌+◌, ◌<◌, ◌≤◌, List, [], ◌∷◌, ◌++◌, length, get_or, map}
use Rattle.std.proofs.Common.{take, Option, Some, None, sym, subst, ap, ◌∙◌, refl, arith}
use Rattle.std.specs.Prelude.{All, AllPairs, IfSome, IsTrue, ◌↔◌, option_map, option_and_then, slice_get}
use Rattle.std.proofs.lemmas.List.{length-map, map-append, get_or-map, take_more}
use Rattle.std.proofs.lemmas.List.Elements.{All-map, All-nil}
use Rattle.std.proofs.lemmas.Option.{option_and_then_some, same_Some}
use Rattle.schema_core.specs.Schemas.{IsSchema}
use Rattle.desk_base.specs.declared.limits.TheConstants.{MAX_SHEET_ROWS}
use Rattle.master_rows.specs.declared.master.Master.{Master}
use Rattle.master_rows.specs.Master.{IsMaster, IsMasterWithin, IsRow}
use Rattle.master_rows.specs.Sheet.{read_sheet}
use Rattle.master_rows.proofs.Masters.{IsMaster-read_sheet}
use Rattle.rule_text.specs.Binding.{AreMasters}
use Rattle.rule_text.specs.Reading.{read_rules}
use Rattle.rule_text.specs.Rulebooks.{IsRulebook}
use Rattle.rule_text.proofs.Sound.{IsRulebook-from_text}
pub use Rattle.desk_base.proofs.Options.{option_map-Some}
use Rattle.desk_words.specs.declared.rows.edition.EditionRow.{EditionRow}
use Rattle.desk_words.specs.declared.rows.text.TextRow.{TextRow}
use Rattle.desk_words.specs.Tables.{Published}
use Rattle.desk_valid.specs.declared.bare.Bare.{Bare}
use Rattle.desk_valid.specs.declared.reading.Header.{Header}
use Rattle.desk_valid.specs.declared.parts.Parts.{Parts}
use Rattle.desk_valid.specs.declared.reading.Rules.{Rules}
use Rattle.desk_valid.specs.Bare.{BindNarrowly, bare_at, bare_of, bare_pair, count_of, with_master}
use Rattle.desk_valid.specs.Bindings.{parts_of}
use Rattle.desk_valid.specs.NamedParts.{name_at}
use Rattle.desk_valid.specs.Readings.{all_of, master_at, master_in, read, rules_at, rules_in, rules_over, schema_at}
use Rattle.desk_valid.specs.ReadTables.{bare_master, header_at, header_in, header_of}
use Rattle.desk_valid.specs.Rows.Edition.{AreNamedApart, IsBinding}
use Rattle.desk_valid.proofs.Readings.{IsSchema-at, Ok-from_read}
use Rattle.desk_valid.proofs.Unrowed.{narrow-bare, narrow-whole}

-- one value more
pub all_of-push : {A : Type 0} (found : List (Option A)) (values : List A) (value : A) → all_of found ≡ Some values
    → all_of (found ++ Some value ∷ []) ≡ Some (values ++ value ∷ [])
all_of-push [] values value is =
    let none : [] ≡ values = cc in
    subst (λ (some : List _). Some (value ∷ []) ≡ Some (some ++ value ∷ [])) none refl
all_of-push (None ∷ rest) values value is = absurd (cc)
all_of-push (Some first ∷ rest) values value is =
    let (others, others_are, made) = option_map-Some (λ others. first ∷ others) (all_of rest) values is in
    rw (all_of-push rest others value others_are) (ap (λ some. Some (some ++ value ∷ [])) made)

-- where one has no value, not all have
pub all_of-none : {A : Type 0} (found : List (Option A)) (place : ℕ) → place < length found
    → get_or found place None ≡ None → all_of found ≡ None
all_of-none [] place within none = absurd (omega arith)
all_of-none (first ∷ rest) zero within none = rw none refl
all_of-none (None ∷ rest) (suc place) within none = refl
all_of-none (Some first ∷ rest) (suc place) within none = rw (all_of-none rest place (omega arith) none) refl

-- all values stand where they were found
pub all_of-length : {A : Type 0} (found : List (Option A)) (values : List A) → all_of found ≡ Some values
    → length found ≡ length values
all_of-length [] values is = let none : [] ≡ values = cc in ap length none
all_of-length (None ∷ rest) values is = absurd (cc)
all_of-length (Some first ∷ rest) values is =
    let (others, others_are, made) = option_map-Some (λ others. first ∷ others) (all_of rest) values is in
    ap suc (all_of-length rest others others_are) ∙ ap length made

-- each value stands where it was found
pub all_of-get_or : {A : Type 0} (found : List (Option A)) (values : List A) (place : ℕ) (d : A)
    → all_of found ≡ Some values → place < length values
    → get_or found place None ≡ Some (get_or values place d)
all_of-get_or [] values place d is within = let none : [] ≡ values = cc in absurd (omega (arith, ap length none))
all_of-get_or (None ∷ rest) values place d is within = absurd (cc)
all_of-get_or (Some first ∷ rest) values place d is within =
    let (others, others_are, made) = option_map-Some (λ others. first ∷ others) (all_of rest) values is in
    let Found : List _ → Type 0 = λ some. (place : ℕ) → place < length some
    → get_or (Some first ∷ rest) place None ≡ Some (get_or some place d) in
    subst Found made (λ n below. elim n as (λ k. k < length (first ∷ others) → get_or (Some first ∷ rest) k None ≡
    Some (get_or (first ∷ others) k d)) [
      | zero ↦ λ _. refl
      | suc k ↦ λ less. all_of-get_or rest others k d others_are (omega arith)
    ] below) place within

-- the master of a row that has a header
pub master_in-header : (row : TextRow) (header : Header) → header_in row ≡ Some header
    → (master : Master) × (master_in row ≡ Some (row.name, master)) × (header_of master ≡ header)
master_in-header row header is =
    let (master, reads, made) = option_map-Some header_of (read (read_sheet row.body)) header is in
    (master, ap (λ (found : Option Master). option_map (λ one. (row.name, one)) found) reads, made)

-- one master more
pub bare_at-push : (rows : Published) (places : List ℕ) (bare : Bare) (place : ℕ) (row : TextRow) (header : Header)
    → bare_at rows places ≡ Some bare
    → slice_get rows.masters place ≡ Some row → header_at rows place ≡ Some header
    → bare_at rows (places ++ place ∷ []) ≡ Some (with_master bare row.name header)
bare_at-push rows places bare place row header so_far stands is =
    let (masters, masters_are, bare_is) = option_map-Some bare_of (all_of (map (master_at rows) places)) bare so_far in
    let (master, reads, headed) = master_in-header row header (sym (ap (option_and_then header_in) stands) ∙ is) in
    let named : List ℕ × Master = (row.name, master) in
    let there : master_at rows place ≡ Some named = ap (option_and_then master_in) stands ∙ reads in
    let joined : map (master_at rows) (places ++ place ∷ []) ≡ map (master_at rows) places ++ Some named ∷ [] =
    map-append (master_at rows) places (place ∷ []) ∙ ap (λ one. map (master_at rows) places ++ one ∷ []) there in
    let all : all_of (map (master_at rows) (places ++ place ∷ [])) ≡ Some (masters ++ named ∷ []) =
    ap all_of joined ∙ all_of-push (map (master_at rows) places) masters named masters_are in
    let made : bare_of (masters ++ named ∷ []) ≡ with_master (bare_of masters) row.name (header_of master) =
    rw (map-append bare_pair masters (named ∷ []), map-append count_of masters (named ∷ [])) refl in
    ap (option_map bare_of) all ∙ ap Some (made ∙ ap (λ (one : Bare). with_master one row.name (header_of master))
    bare_is ∙ ap (λ (one : Header). with_master bare row.name one) headed)

-- a master that does not read
pub masters_at-none : (rows : Published) (places : List ℕ) (index : ℕ) → index < length places
    → master_at rows (get_or places index 0) ≡ None → all_of (map (master_at rows) places) ≡ None
masters_at-none rows places index within none =
    all_of-none (map (master_at rows) places) index (rw length-map within)
    (get_or-map (master_at rows) places index 0 None within ∙ none)

-- so there are no masters without rows either
pub bare_at-none : (rows : Published) (places : List ℕ) (index : ℕ) → index < length places
    → master_at rows (get_or places index 0) ≡ None → bare_at rows places ≡ None
bare_at-none rows places index within none = ap (option_map bare_of) (masters_at-none rows places index within none)

-- one that does
pub masters_at-more : (rows : Published) (places : List ℕ) (index : ℕ) (masters : List (List ℕ × Master))
    (master : List ℕ × Master) → index < length places
    → all_of (map (master_at rows) (take index places)) ≡ Some masters
    → master_at rows (get_or places index 0) ≡ Some master
    → all_of (map (master_at rows) (take (index + 1) places)) ≡ Some (masters ++ master ∷ [])
masters_at-more rows places index masters master within so_far is =
    let joined : map (master_at rows) (take (index + 1) places) ≡ map (master_at rows) (take index places) ++ Some
    master ∷ [] =
    ap (map (master_at rows)) (take_more places index 0 within)
    ∙ map-append (master_at rows) (take index places) (get_or places index 0 ∷ [])
    ∙ ap (λ one. map (master_at rows) (take index places) ++ one ∷ []) is in
    ap all_of joined ∙ all_of-push (map (master_at rows) (take index places)) masters master so_far

-- the rules at a place are rules of a schema
pub rules_at-sound : (rows : Published) (place : ℕ) (rules : Rules) → rules_at rows place ≡ Some rules
    → IsSchema rules.schema × IsRulebook rules.schema rules.rulebook
rules_at-sound rows place rules is =
    option_and_then_some (rules_in rows) (slice_get rows.rulebooks place) rules is (λ row stands reads.
    option_and_then_some (rules_over row.body) (schema_at rows row.schema) rules reads (λ schema found over.
    let (rulebook, reading, rules_are) = option_map-Some
    (λ rulebook. let made : Rules = record { schema = schema; rulebook = rulebook } in made)
    (read (read_rules row.body schema)) rules over in
    let Sound : Rules → Type 0 = λ one. IsSchema one.schema × IsRulebook one.schema one.rulebook in
    subst Sound rules_are (
      IsSchema-at rows row.schema schema found,
      IsRulebook-from_text row.body schema rulebook (Ok-from_read (read_rules row.body schema) rulebook reading),
    )))

-- two masters have the same name
pub same-names : (rows : Published) (one other : ℕ) (first second : TextRow) (test : Bool)
    → slice_get rows.masters one ≡ Some first
    → slice_get rows.masters other ≡ Some second → (IsTrue test ↔ (first.name ≡ second.name))
    → (IsTrue test ↔ (name_at rows one ≡ name_at rows other))
same-names rows one other first second test here there decides =
    let name : Option TextRow → Option (List ℕ) = λ found. option_map (λ master. master.name) found in
    let left : name_at rows one ≡ Some first.name = ap name here in
    let right : name_at rows other ≡ Some second.name = ap name there in (
      λ yes. left ∙ ap Some (decides.0 yes) ∙ sym right,
      λ same. decides.1
          (same_Some first.name second.name (sym left ∙ same ∙ right)),
    )

-- what a place has is a master, under its name
master_at-sound : (rows : Published) (place : ℕ) (master : List ℕ × Master) → master_at rows place ≡ Some master
    → IsMaster master.1 × (name_at rows place ≡ Some master.0)
master_at-sound rows place master is =
    option_and_then_some master_in (slice_get rows.masters place) master is (λ row stands reads.
    let named : Master → List ℕ × Master = λ one. (row.name, one) in
    let (found, reading, named_is) = option_map-Some named (read (read_sheet row.body)) master reads in
    let Sound : List ℕ × Master → Type 0 = λ one. IsMaster one.1 × (name_at rows place ≡ Some one.0) in
    let name : Option TextRow → Option (List ℕ) = λ found. option_map (λ one. one.name) found in
    subst Sound named_is (
      IsMaster-read_sheet _ row.body found (Ok-from_read (read_sheet row.body) found reading),
      ap
          name stands,
    ))

-- a master of the desk is one of those that bind
IsMasterWithin-desk : (master : Master) → IsMaster master → IsMasterWithin MAX_SHEET_ROWS master
IsMasterWithin-desk master is = record {
  headed = is.headed;
  narrow = is.narrow;
  columns = is.columns;
  distinct = is.distinct;
  width = is.width;
  few = omega (arith, is.few);
  rows = is.rows;
}

-- without its rows it is one too
IsMasterWithin-bare : (master : Master) → IsMaster master → IsMasterWithin MAX_SHEET_ROWS (bare_master master)
IsMasterWithin-bare master is = record {
  headed = is.headed;
  narrow = is.narrow;
  columns = is.columns;
  distinct = is.distinct;
  width = is.width;
  few = omega arith;
  rows = All-nil (IsRow (length master.columns));
}

module _ (rows : Published) (places : List ℕ) (masters : List (List ℕ × Master))
    (is : all_of (map (master_at rows) places) ≡ Some masters) where
  -- as many as are named
  as_many : length masters ≡ length places
  as_many = sym (all_of-length (map (master_at rows) places) masters is) ∙ (rw length-map refl)

  -- each where it is named
  found : (place : ℕ) (d : List ℕ × Master) → place < length masters
      → master_at rows (get_or places place 0) ≡ Some (get_or masters place d)
  found place d within =
      sym (get_or-map (master_at rows) places place 0 None (omega (arith, as_many)))
      ∙ all_of-get_or (map (master_at rows) places) masters place d is within

  apart : AreNamedApart rows places → AllPairs (λ one other. one.0 ≢ other.0) masters
  apart named i j d before within same =
      let left = (master_at-sound rows (get_or places i 0) (get_or masters i d) (found i d (omega arith))).1 in
      let right = (master_at-sound rows (get_or places j 0) (get_or masters j d) (found j d within)).1 in
      named i j 0 before (omega (arith, as_many)) (left ∙ ap Some same ∙ sym right)

  -- they bind
  pub AreMasters-whole : length places ≤ 8 → AreNamedApart rows places → AreMasters masters
  AreMasters-whole few named = record {
    few = omega (arith, as_many);
    each = λ place d within. IsMasterWithin-desk _ (master_at-sound rows (get_or places place 0)
        (get_or masters place d) (found place d within)).0;
    named_apart = apart named;
  }

  -- and so they do without their rows
  pub AreMasters-bare : length places ≤ 8 → AreNamedApart rows places → AreMasters (map bare_pair masters)
  AreMasters-bare few named = record {
    few = rw length-map (omega (arith, as_many));
    each = All-map (λ master. IsMasterWithin MAX_SHEET_ROWS master.1) bare_pair masters
        (λ place d within. IsMasterWithin-bare _ (master_at-sound rows (get_or places place 0) (get_or masters place d)
        (found place d within)).0);
    named_apart = λ i j d before within same.
        let inside : j < length masters = rw length-map at within in
        let left = get_or-map bare_pair masters i d d (omega arith) in
        let right = get_or-map bare_pair masters j d d inside in
        apart named i j d before inside (sym (ap (λ (one : List ℕ × Master). one.0) left) ∙ same ∙ ap
        (λ (one : List ℕ × Master). one.0) right);
  }

-- an edition whose parts are read binds as its rules do over the masters without their rows
module _ (rows : Published) (row : EditionRow) (rules : Rules) (bare : Bare)
    (rules_are : rules_at rows row.rulebook ≡ Some rules) (bare_is : bare_at rows row.masters ≡ Some bare) where
  pub masters_bind : length row.masters ≤ 8 → AreNamedApart rows row.masters → AreMasters bare.masters
  masters_bind few named =
      let (masters, masters_are, made) = option_map-Some bare_of (all_of (map (master_at rows) row.masters)) bare
      bare_is in
      subst (λ (one : Bare). AreMasters one.masters) made (AreMasters-bare rows row.masters masters masters_are few
      named)

  pub binds_as : (test : Bool) → All (λ attribute. attribute < length rules.schema.attributes) row.folded
      → (IsTrue test ↔ BindNarrowly rules bare row.folded)
      → (IsTrue test ↔ IfSome (parts_of rows row) (λ parts. IsBinding parts row.folded))
  binds_as test within decides =
      let (masters, masters_are, bare_made) = option_map-Some bare_of (all_of (map (master_at rows) row.masters)) bare
      bare_is in
      let whole : Parts = record { rules = rules; masters = masters } in
      let there : parts_of rows row ≡ Some whole =
      ap (option_and_then (λ found. option_map (λ named. let made : Parts = record { rules = found; masters = named }
      in made) (all_of (map (master_at rows) row.masters)))) rules_are
      ∙ ap (option_map (λ named. let made : Parts = record { rules = rules; masters = named } in made)) masters_are in
      let Binds : Option Parts → Type 0 = λ found. IfSome found (λ one. IsBinding one row.folded) in
      let Narrow : Bare → Type 0 = λ one. BindNarrowly rules one row.folded in (
        λ yes.
            let narrow : BindNarrowly rules (bare_of masters) row.folded
            = subst Narrow (sym bare_made) (decides.0 yes) in
            let (kit, binds, few) = narrow-whole rules.rulebook rules.schema masters row.folded narrow.kit narrow.binds
            narrow.narrow in
            let binding : IsBinding whole row.folded = record {
              folded_within = within;
              kit = kit;
              binds = binds;
              narrow = few;
            } in
            subst Binds (sym there) binding,
        λ binds.
            let binding : IsBinding whole row.folded = subst Binds there binds in
            let (kit, bare_binds, few) = narrow-bare rules.rulebook rules.schema masters row.folded binding.kit
            binding.binds
            binding.narrow in
            let narrow : BindNarrowly rules (bare_of masters) row.folded = record
            { kit = kit; binds = bare_binds; narrow = few } in
            decides.1 (subst Narrow bare_made narrow),
      )
