-- What is derived: distinct attributes and columns, and a text in each row for each.
use Rattle.std.proofs.Common.{◌≡◌, ◌∙◌, ℕ, ◌+◌, ◌<◌, List, [], ◌∷◌, ◌++◌, length, get_or, map, Some, refl}
use Rattle.std.proofs.Common.{sym, ap, subst, append_assoc, arith}
use Rattle.std.specs.Prelude.{All, Err, IfSome, IsErrAnd, Ok, Result, slice_get}
use Rattle.std.specs.Str.{bytes_eq}
use Rattle.std.proofs.lemmas.List.{append-nil, get_or_default, length-map, map_push}
use Rattle.std.proofs.lemmas.List.Elements.{All-map}
use Rattle.std.proofs.lemmas.List.Quantifiers.{position-Some}
use Rattle.std.proofs.lemmas.Option.{option_and_then_some}
use Rattle.std.proofs.lemmas.Simd.{map-map}
use Rattle.std.proofs.lemmas.Slice.Eq.{bytes_eq-Decides}
use Rattle.desk_base.specs.Grid.{cell_text}
use Rattle.desk_words.specs.declared.refusal.Kind.TheVariants as kind
use Rattle.desk_words.specs.declared.refusal.Refusal.TheVariants.{NoColumn, NoSuch, UnknownAttr}
use Rattle.desk_words.specs.declared.reply.DerivedSheet.{DerivedSheet}
use Rattle.desk_words.specs.declared.rows.edition.EditionRow.{EditionRow}
use Rattle.desk_words.specs.Tables.{Published, Rows, published_of}
use Rattle.desk_valid.specs.declared.bound.Bound.{Bound}
use Rattle.desk_valid.specs.Bindings.{bound_at}
use Rattle.desk_valid.specs.Readings.{master_at, master_in, read}
use Rattle.desk_valid.specs.Valid.{AreValid}
use Rattle.desk_valid.proofs.Named.{option_map-Some}
use Rattle.desk_valid.proofs.Readings.{Ok-from_read}
use Rattle.master_rows.specs.declared.master.Master.{Master}
use Rattle.master_rows.specs.Master.{IsMaster}
use Rattle.master_rows.specs.Sheet.{read_sheet}
use Rattle.master_rows.proofs.Masters.{IsMaster-read_sheet}
use Rattle.region_derive.specs.Derived.{ArePairs, IsDerived, texts_in}
use Rattle.machine_core.specs.Checked.{each_following, some_or}
use Rattle.machine_core.specs.Checked.{IsFound, run}
use Rattle.machine_core.specs.Checked.{Gives}
use Rattle.machine_core.specs.declared.derivation.Derivation.{Derivation}
use Rattle.machine_core.specs.Deriving.{IsDerivable, another_master_column, another_pair, derivation_of, derived_rows}
use Rattle.machine_core.specs.Deriving.{derived_sheet, master_of, places_of}
use Rattle.machine_core.specs.Finding.{edition_named}
use Rattle.machine_core.specs.Outcomes.{Finds}
use Rattle.machine_core.specs.declared.stop.Stop.{Stop}
use Rattle.machine_core.specs.Tests.{another_attribute}
use Rattle.machine_core.specs.Views.{edition_at, name_at}
use Rattle.machine_core.specs.Words.{words_at}
use Rattle.machine_core.proofs.Chains.{done-value}
use Rattle.machine_core.proofs.Stopping.{EndsWith-stopped}
use Rattle.machine_core.proofs.Walks.{Gives-Met, Met-Gives}
use Rattle.machine_core.proofs.Distinct.{AreDistinct, another-place, no-places}
use Rattle.machine_core.proofs.EditionWords.{words-bound}
use Rattle.machine_core.proofs.Tested.{each_following-all, each_following-length}
use Rattle.machine_core.proofs.Widths.{edition-stands, kit-width}

-- the word at the place that is found for it is that word
word-found : (words : List (List ℕ)) (before word : List ℕ) (place : ℕ)
    → Gives (another_attribute words before word) (Ok place) → name_at words place ≡ word
word-found words before word place gives =
    let (found, there, (passed, free, same)) = Met-Gives (another_attribute words before word) (Ok place) gives in
    ap (name_at words) same ∙ sym ((bytes_eq-Decides word (get_or words found [])).0
    (position-Some (bytes_eq word) words found [] there).1)

-- the places of pairs: no attribute stands twice, and no column; each attribute is under its word
pub record ArePlaces (words names : List (List ℕ)) (pairs : List (List ℕ × List ℕ)) (places : List ℕ × List ℕ)
    : Type 0 where
  pub attributes : AreDistinct (length words) places.0
  pub columns : AreDistinct (length names) places.1
  pub many : length places.0 ≡ length pairs
  pub as_many : length places.1 ≡ length pairs
  pub named : map (name_at words) places.0 ≡ map (λ pair. pair.0) pairs

module _ (words names : List (List ℕ)) where
  -- the attributes and the columns of pairs
  abbrev apart : List (ℕ × ℕ) → List ℕ × List ℕ
  apart places = (map (λ place. place.0) places, map (λ place. place.1) places)

  -- pairs so far, of distinct attributes and distinct columns
  record ArePairsSoFar (places : List (ℕ × ℕ)) : Type 0 where
    attributes : AreDistinct (length words) (map (λ place. place.0) places)
    columns : AreDistinct (length names) (map (λ place. place.1) places)

  -- one pair more
  another-pair : (before : List (ℕ × ℕ)) (pair : List ℕ × List ℕ) (place : ℕ × ℕ) → ArePairsSoFar before
      → Gives (another_pair words names before pair) (Ok place) → ArePairsSoFar (before ++ place ∷ [])
  another-pair before pair place are gives =
      let first : (ℕ × ℕ) → ℕ = λ one. one.0 in
      let second : (ℕ × ℕ) → ℕ = λ one. one.1 in
      let (attribute, is_attribute, (column, is_column, same)) =
      Met-Gives (another_pair words names before pair) (Ok place) gives in
      let attribute_given = Gives-Met (another_attribute words (map first before) pair.0) (Ok attribute) is_attribute in
      let column_given = Gives-Met (another_master_column names (map second before) pair.1) (Ok column) is_column in
      subst (λ one. ArePairsSoFar (before ++ one ∷ [])) (sym same) (record {
        attributes = subst (AreDistinct (length words)) (sym (map_push first before (attribute, column)))
            (another-place words (map first before) pair.0 (UnknownAttr pair.0) attribute are.attributes
            attribute_given);
        columns = subst (AreDistinct (length names)) (sym (map_push second before (attribute, column)))
            (another-place names (map second before) pair.1 (NoColumn pair.1) column are.columns column_given);
      })

  -- the attributes of pairs are found by their words
  attributes-named : (pairs : List (List ℕ × List ℕ)) (before found : List (ℕ × ℕ))
      → Gives (each_following before (another_pair words names) pairs) (Ok found)
      → map (λ place. name_at words place.0) found
      ≡ map (λ place. name_at words place.0) before ++ map (λ pair. pair.0) pairs
  attributes-named [] before found gives =
      ap (map (λ (place : ℕ × ℕ). name_at words place.0)) (done-value before found gives)
      ∙ sym (append-nil (map (λ (place : ℕ × ℕ). name_at words place.0) before))
  attributes-named (pair ∷ others) before found gives =
      let first : (ℕ × ℕ) → ℕ = λ one. one.0 in
      let word : (ℕ × ℕ) → List ℕ = λ place. name_at words place.0 in
      let rest : List (List ℕ) = map (λ (one : List ℕ × List ℕ). one.0) others in
      let (here, is_here, is_rest) =
      Met-Gives (each_following before (another_pair words names) (pair ∷ others)) (Ok found) gives in
      let (attribute, is_attribute, (column, is_column, same)) = is_here in
      let named : word here ≡ pair.0 = ap word same ∙ word-found words (map first before) pair.0 attribute
      (Gives-Met (another_attribute words (map first before) pair.0) (Ok attribute) is_attribute) in
      attributes-named others (before ++ here ∷ []) found
      (Gives-Met (each_following (before ++ here ∷ []) (another_pair words names) others) (Ok found) is_rest)
      ∙ ap (λ list. list ++ rest) (map_push word before here)
      ∙ append_assoc (map word before) (word here ∷ []) rest
      ∙ ap (λ one. map word before ++ one ∷ rest) named

  pub places-found : (pairs : List (List ℕ × List ℕ)) (found : List ℕ × List ℕ)
      → Gives (places_of words names pairs) (Ok found) → ArePlaces words names pairs found
  places-found pairs found gives =
      let (places, are_places, same) = Met-Gives (places_of words names pairs) (Ok found) gives in
      let given = Gives-Met (each_following [] (another_pair words names) pairs) (Ok places) are_places in
      let start : ArePairsSoFar [] = record
      { attributes = no-places (length words); columns = no-places (length names) } in
      let are : ArePairsSoFar places = each_following-all ArePairsSoFar (another_pair words names) pairs [] places
      (λ sofar pair place are one. another-pair sofar pair place are one) start given in
      let count : length places ≡ length pairs =
      omega (arith, each_following-length (another_pair words names) pairs [] places given) in
      let first : (ℕ × ℕ) → ℕ = λ place. place.0 in
      let second : (ℕ × ℕ) → ℕ = λ place. place.1 in
      subst (ArePlaces words names pairs) (sym same) (record {
        attributes = are.attributes;
        columns = are.columns;
        many = length-map places first ∙ count;
        as_many = length-map places second ∙ count;
        named = map-map (name_at words) first places ∙ attributes-named pairs [] places given;
      })

-- what a derivation was made of
pub record IsMadeOf (published : Published) (pairs : List (List ℕ × List ℕ)) (derivation : Derivation) : Type 0 where
  pub bound : Bound
  pub binds : bound_at published derivation.edition ≡ Some bound
  pub sheet : Master
  pub is_master : IsMaster sheet
  pub grid : derivation.grid ≡ sheet.grid
  pub places : ArePlaces bound.names.attributes sheet.columns pairs (derivation.attributes, derivation.columns)

-- what stands at a place of the masters is one
master-at : (published : Published) (place : ℕ) (found : List ℕ × Master) → master_at published place ≡ Some found
    → IsMaster found.1
master-at published place found is =
    option_and_then_some master_in (slice_get published.masters place) found is (λ row stands reads.
    let named : Master → List ℕ × Master = λ one. (row.name, one) in
    let made = option_map-Some named (read (read_sheet row.body)) found reads in
    subst (λ (one : List ℕ × Master). IsMaster one.1) made.2 (IsMaster-read_sheet _ row.body made.0
    (Ok-from_read (read_sheet row.body) made.0 made.1)))

-- the master that is found is one
master-found : (published : Published) (edition : EditionRow) (name : List ℕ) (sheet : Master)
    → Gives (master_of published edition name) (Ok sheet) → IsMaster sheet
master-found published edition name sheet gives =
    let (place, there, (found, is, same)) = Met-Gives (master_of published edition name) (Ok sheet) gives in
    subst IsMaster (sym same) (master-at published place found is)

pub derivation-made : (published : Published) (name : List ℕ) (version : ℕ) (master : List ℕ)
    (pairs : List (List ℕ × List ℕ)) (derivation : Derivation)
    → Gives (derivation_of published name version master pairs) (Ok derivation) → IsMadeOf published pairs derivation
derivation-made published name version master pairs derivation gives =
    let (edition, named, (bound, binds, (sheet, is_sheet, (places, are_places, same)))) =
    Met-Gives (derivation_of published name version master pairs) (Ok derivation) gives in
    subst (IsMadeOf published pairs) (sym same) (record {
      bound = bound;
      binds = binds;
      sheet = sheet;
      is_master = master-found published (edition_at published edition) master sheet
          (Gives-Met (master_of published (edition_at published edition) master) (Ok sheet) is_sheet);
      grid = refl;
      places = places-found bound.names.attributes sheet.columns pairs places
          (Gives-Met (places_of bound.names.attributes sheet.columns pairs) (Ok places) are_places);
    })

-- so it is found by its parts
pub derivation-found : (published : Published) (name : List ℕ) (version : ℕ) (master : List ℕ)
    (pairs : List (List ℕ × List ℕ)) (edition : ℕ) (words : List (List ℕ)) (sheet : Master) (places : List ℕ × List ℕ)
    → IsFound (some_or (edition_named published.editions name version) (NoSuch kind.Edition)) edition
    → words_at published edition ≡ Some words
    → IsFound (master_of published (edition_at published edition) master) sheet
    → IsFound (places_of words sheet.columns pairs) places
    → IsFound (derivation_of published name version master pairs)
    (record { edition = edition; grid = sheet.grid; attributes = places.0; columns = places.1 })
derivation-found published name version master pairs edition words sheet places named are read found =
    let bound = words-bound published edition words are in
    let found_so : IsFound (places_of bound.0.names.attributes sheet.columns pairs) places =
    ap (λ list. run (places_of list sheet.columns pairs)) bound.2 ∙ found in
    rw (named, bound.1, read, found_so) refl

-- and where its pairs are not found it stops there
pub derivation-stopped : (published : Published) (name : List ℕ) (version : ℕ) (master : List ℕ)
    (pairs : List (List ℕ × List ℕ)) (edition : ℕ) (words : List (List ℕ)) (sheet : Master) (stop : Stop)
    (result : Result Derivation Stop)
    → IsFound (some_or (edition_named published.editions name version) (NoSuch kind.Edition)) edition
    → words_at published edition ≡ Some words
    → IsFound (master_of published (edition_at published edition) master) sheet → IsErrAnd result (λ one. one ≡ stop)
    → Finds {A = List ℕ × List ℕ} (Err stop) (places_of words sheet.columns pairs)
    → Finds result (derivation_of published name version master pairs)
derivation-stopped published name version master pairs edition words sheet stop result named are read stops finds =
    let (bound, binds, same) = words-bound published edition words are in
    let Stops : List (List ℕ) → Type 0 = λ list.
    Finds {A = List ℕ × List ℕ} (Err stop) (places_of list sheet.columns pairs) in
    rw (named, binds, read) (EndsWith-stopped (run (places_of bound.names.attributes sheet.columns pairs)) _ stop result
    stops (subst Stops (sym same) finds))

-- in valid tables a derivation can be asked
pub derivation-derivable : (rows : Rows) (name : List ℕ) (version : ℕ) (master : List ℕ)
    (pairs : List (List ℕ × List ℕ)) (derivation : Derivation) → AreValid rows
    → Gives (derivation_of (published_of rows) name version master pairs) (Ok derivation)
    → IsDerivable (published_of rows) derivation
derivation-derivable rows name version master pairs derivation valid gives =
    let is = derivation-made (published_of rows) name version master pairs derivation gives in
    let Below : ℕ → Type 0 = λ most. All (λ place. place < most) derivation.attributes in
    let Within : ℕ → Type 0 = λ most. All (λ place. place < most) derivation.columns in
    let wide : length is.bound.names.attributes ≡ is.bound.kit.width =
    kit-width rows derivation.edition is.bound valid is.binds in
    let narrow : length is.sheet.columns ≡ derivation.grid.columns =
    sym (ap (λ grid. grid.columns) is.grid ∙ is.is_master.width) in
    let pairs_are : ArePairs is.bound.kit derivation.grid derivation.attributes derivation.columns = record {
      of_kit = record {
        attributes_within = subst Below wide is.places.attributes.below;
        distinct = is.places.attributes.apart;
      };
      columns_within = subst Within narrow is.places.columns.below;
      distinct = is.places.columns.apart;
      same = is.places.as_many ∙ sym is.places.many;
    } in
    record {
      edition = edition-stands (published_of rows) derivation.edition is.bound is.binds;
      pairs = subst (λ found. IfSome found (λ bound.
          ArePairs bound.kit derivation.grid derivation.attributes derivation.columns)) (sym is.binds) pairs_are;
    }

-- a row that is given: over a kit it is derived, and has its texts
record IsGivenRow (published : Published) (derivation : Derivation) (row : ℕ × List (List ℕ)) : Type 0 where
  bound : Bound
  derived : IsDerived bound.kit derivation.grid derivation.attributes derivation.columns row.0
  texts : row.1 ≡ texts_in derivation.grid derivation.columns row.0

derived-row : (published : Published) (derivation : Derivation) (rows : List (ℕ × List (List ℕ)))
    → Gives (derived_rows published derivation) (Ok rows) → (place : ℕ) (past : ℕ × List (List ℕ)) → place < length rows
    → IsGivenRow published derivation (get_or rows place past)
derived-row published derivation rows gives place past inside =
    let (bound, binds, are) = Met-Gives (derived_rows published derivation) (Ok rows) gives in
    let row : ℕ × List (List ℕ) = get_or rows place past in
    let there = (are.each row.0 row.1).0 (place, inside, get_or_default rows place row past inside) in
    record { bound = bound; derived = there.0; texts = there.1 }

-- each derived row has a text for each column
pub derived_rows-full : (published : Published) (derivation : Derivation) (rows : List (ℕ × List (List ℕ)))
    → Gives (derived_rows published derivation) (Ok rows)
    → All (λ row. length row.1 ≡ length derivation.columns) rows
derived_rows-full published derivation rows gives place past inside =
    ap length (derived-row published derivation rows gives place past inside).texts
    ∙ length-map derivation.columns (cell_text derivation.grid (get_or rows place past).0)

-- and is one of the rows of the grid
pub derived_rows-within : (published : Published) (derivation : Derivation) (rows : List (ℕ × List (List ℕ)))
    → Gives (derived_rows published derivation) (Ok rows) → All (λ row. row.0 < length derivation.grid.rows) rows
derived_rows-within published derivation rows gives place past inside =
    (derived-row published derivation rows gives place past inside).derived.within

-- a derived sheet has a text in each row for each attribute
pub derived_sheet-full : (published : Published) (edition : List ℕ) (version : ℕ) (master : List ℕ)
    (pairs : List (List ℕ × List ℕ)) (sheet : DerivedSheet)
    → Gives (derived_sheet published edition version master pairs) (Ok sheet)
    → All (λ row. length row.1 ≡ length sheet.attributes) sheet.rows
derived_sheet-full published edition version master pairs sheet gives =
    let numbered : ℕ × List (List ℕ) → ℕ × List (List ℕ) = λ row. (row.0 + 1, row.1) in
    let word : List ℕ × List ℕ → List ℕ = λ pair. pair.0 in
    let (derivation, derives, (rows, are, same)) =
    Met-Gives (derived_sheet published edition version master pairs) (Ok sheet) gives in
    let is = derivation-made published edition version master pairs derivation
    (Gives-Met (derivation_of published edition version master pairs) (Ok derivation) derives) in
    let full = derived_rows-full published derivation rows (Gives-Met (derived_rows published derivation) (Ok rows) are)
    in
    let wide : length derivation.columns ≡ length (map word pairs) =
    is.places.as_many ∙ sym (length-map pairs word) in
    subst (λ (one : DerivedSheet). All (λ row. length row.1 ≡ length one.attributes) one.rows) (sym same)
    (All-map (λ row. length row.1 ≡ length (map word pairs)) numbered rows
    (λ place past inside. full place past inside ∙ wide))
