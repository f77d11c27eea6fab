-- What is shown of what was published, one item after another.
use Rattle.std.proofs.Common.{◌≡◌, ◌∙◌, ℕ, ◌+◌, ◌-◌, ◌<◌, List, [], ◌∷◌, ◌++◌, Option, Some, length, get_or}
use Rattle.std.proofs.Common.{map, take, inl, inr, refl, sym, ap, subst, arith}
use Rattle.std.specs.Prelude.{◌==◌, All, Ok, slice_get, slice_index_or, zip}
use Rattle.std.proofs.lemmas.Bool.{cases_Bool, ne_eqb}
use Rattle.std.proofs.lemmas.Option.{same_Some, slice_get-get_or, slice_get_cases}
use Rattle.std.proofs.lemmas.List.{map-append, take_more}
use Rattle.std.proofs.lemmas.Slice.Zip.{get_or-zip, length-zip}
use Rattle.desk_base.specs.Grid.{GridRows, cell_text}
use Rattle.desk_words.specs.declared.published.RegionSheet.{RegionSheet}
use Rattle.desk_words.specs.declared.refusal.Kind.TheVariants as kind
use Rattle.desk_words.specs.declared.refusal.Refusal.TheVariants.{NoSuch}
use Rattle.desk_words.specs.Tables.{Published, Rows, published_of}
use Rattle.desk_valid.specs.declared.bound.Bound.{Bound}
use Rattle.desk_valid.specs.Bindings.{bound_at}
use Rattle.desk_valid.specs.Readings.{all_of, master_at}
use Rattle.desk_valid.specs.Valid.{AreValid}
use Rattle.desk_valid.proofs.Named.{all_of-push}
use Rattle.fix_model.specs.declared.kit.Kit.{Kit}
use Rattle.fix_model.specs.declared.region.Region.{Region}
use Rattle.fix_model.specs.declared.region.RowVerdict.{RowVerdict}
use Rattle.fix_model.specs.Regions.{IsRegionOf, row_state}
use Rattle.master_rows.specs.declared.master.Master.{Master}
use Rattle.machine_core.specs.Checked.{Answer, answer_for, done, Gives, IsFound, some_or}
use Rattle.machine_core.specs.DeskLook.Region.{region_shown, region_with, row_answers, row_verdict}
use Rattle.machine_core.specs.DeskLook.Row.{row_shown}
use Rattle.machine_core.specs.Finding.{edition_named, numbered, text_named}
use Rattle.machine_core.specs.Look.Suggest.{regions_of}
use Rattle.machine_core.proofs.Chains.{Gives-bind}
use Rattle.machine_core.proofs.Widths.{kit-width}
use Rattle.machine_views.specs.Counts.{AreVerdictsOn}
use Rattle.machine_views.proofs.Advising.{regions-good}
use Rattle.machine_views.proofs.Counted.{each-push}

-- the next of the rows at some places
pub standing-more : {T : Type 0} (rows : List T) (places : List ℕ) (count past : ℕ) (row : T) (found : List T)
    → count < length places → slice_get rows (get_or places count past) ≡ Some row
    → all_of (map (slice_get rows) (take count places)) ≡ Some found
    → all_of (map (slice_get rows) (take (count + 1) places)) ≡ Some (found ++ row ∷ [])
standing-more {T} rows places count past row found within stands are =
    let place = get_or places count past in
    let longer : take (count + 1) places ≡ take count places ++ place ∷ [] = take_more places count past within in
    let before = map (slice_get rows) (take count places) in
    ap (λ one. all_of (map (slice_get rows) one)) longer
    ∙ ap all_of (map-append (slice_get rows) (take count places) (place ∷ []))
    ∙ ap (λ (one : Option T). all_of (before ++ one ∷ [])) stands ∙ all_of-push before found row are

-- the next of a row's cells, with its column
pub cells-more : (columns : List (List ℕ)) (grid : GridRows) (row place : ℕ) (column : List ℕ)
    → place < length columns → place < length (slice_index_or grid.rows row [])
    → column ≡ get_or columns place column
    → take place (zip columns (slice_index_or grid.rows row [])) ++ (column, cell_text grid row place) ∷ []
    ≡ take (place + 1) (zip columns (slice_index_or grid.rows row []))
cells-more columns grid row place column within within_too is =
    let cells = slice_index_or grid.rows row [] in
    let inside : place < length (zip columns cells) = omega (arith, length-zip columns cells, within, within_too) in
    let past : List ℕ × List ℕ = (column, []) in
    let read : get_or (zip columns cells) place past ≡ (column, cell_text grid row place) =
    get_or-zip columns cells place past within within_too ∙ (λ i. (sym is i, get_or cells place [])) in
    sym (take_more (zip columns cells) place past inside ∙ ap (λ one. take place (zip columns cells) ++ one ∷ []) read)

-- the verdict on the next row of a region
pub AreVerdictsOn-next : (kit : Kit) (attributes : List ℕ) (rows : List (List (List ℕ))) (place : ℕ)
    (texts : List (List ℕ)) (answer : Answer) (verdicts : List RowVerdict) → place < length rows
    → texts ≡ get_or rows place texts → AreVerdictsOn kit attributes (take place rows) verdicts
    → Gives (answer_for kit (row_state kit.width attributes texts)) (Ok answer)
    → AreVerdictsOn kit attributes (take (place + 1) rows) (verdicts ++ row_verdict answer.verdict ∷ [])
AreVerdictsOn-next kit attributes rows place texts answer verdicts within is are gives =
    let find = λ (one : List (List ℕ)). answer_for kit (row_state kit.width attributes one) in
    let longer : take (place + 1) rows ≡ take place rows ++ texts ∷ [] =
    take_more rows place texts within ∙ ap (λ one. take place rows ++ one ∷ []) (sym is) in
    let named : Answer → RowVerdict = λ one. row_verdict one.verdict in
    rw (longer) (record {
      all = are.all ++ answer ∷ [];
      given = each-push find (take place rows) are.all texts answer are.given gives;
      named = ap (λ some. some ++ named answer ∷ []) are.named ∙ sym (map-append named are.all (answer ∷ []));
    })

-- ---- what stands under a number

-- the item of a number that is not too great
pub numbered-there : {T : Type 0} (items : List T) (number : ℕ) (past : T) → ¬ (number ≡ 0)
    → number - 1 < length items → numbered items number ≡ Some (get_or items (number - 1) past)
numbered-there items number past some within =
    rw (ne_eqb number 0 some) (slice_get-get_or items (number - 1) past within)

-- what holds of all items holds of that of a number
All-numbered : {T : Type 0} (P : T → Type 0) (items : List T) (number : ℕ) (item : T) → All P items
    → numbered items number ≡ Some item → P item
All-numbered P items number item all is = elim (cases_Bool (number == 0)) [
  | inl none ↦ absurd (let nothing = rw none at is in cc)
  | inr some ↦
      let there : slice_get items (number - 1) ≡ Some item = rw some at is in
      elim (slice_get_cases items (number - 1)).1 [
        | inl (one, within, found, read) ↦
            let same : one ≡ item = same_Some one item (sym found ∙ there) in
            subst P (read ∙ same) (all (number - 1) one within)
        | inr (past, none) ↦ absurd (let nothing = sym none ∙ there in cc)
      ]
]

module _ (rows : Rows) (valid : AreValid rows) (place : ℕ) (bound : Bound)
    (binds : bound_at (published_of rows) place ≡ Some bound) (number : ℕ) (region : Region)
    (there : numbered (regions_of rows.regions place) number ≡ Some region) where
  -- the region of a number is one of its edition's kit
  pub region-good : IsRegionOf bound.kit region
  region-good = All-numbered (IsRegionOf bound.kit) (regions_of rows.regions place) number region
      (regions-good rows valid place bound binds) there

  -- and its attributes have names
  pub region-named : All (λ attribute. attribute < length bound.names.attributes) region.attrs
  region-named =
      let Within : ℕ → Type 0 = λ width. All (λ attribute. attribute < width) region.attrs in
      subst Within (sym (kit-width rows place bound valid binds)) region-good.attributes.attributes_within

-- ---- what is found

-- a row of a master
pub row-found : (published : Published) (name : List ℕ) (version number place : ℕ) (master : List ℕ × Master)
    (cells : List (List ℕ)) (shown : List (List ℕ × List ℕ))
    → IsFound (some_or (text_named published.masters name version) (NoSuch kind.Master)) place
    → master_at published place ≡ Some master → numbered master.1.grid.rows number ≡ Some cells
    → shown ≡ zip master.1.columns cells
    → IsFound (row_shown published name version number)
    (record { master = master.0; version = version; row = number; cells = shown })
row-found published name version number place master cells shown found reads there is =
    rw (found, reads, there, is) refl

-- a region
pub region-found : (published : Published) (name : List ℕ) (version number place : ℕ) (region : Region) (bound : Bound)
    (sheet : RegionSheet)
    → IsFound (some_or (edition_named published.editions name version) (NoSuch kind.Edition)) place
    → numbered (regions_of published.regions place) number ≡ Some region → bound_at published place ≡ Some bound
    → AreVerdictsOn bound.kit region.attrs region.rows sheet.verdicts
    → sheet ≡ region_with published place version number bound region sheet.verdicts
    → Gives (region_shown published name version number) (Ok sheet)
region-found published name version number place region bound sheet found there binds are is =
    let with_verdicts = region_with published place version number bound region in
    let told : List Answer → RegionSheet = λ answers. with_verdicts (map (λ answer. row_verdict answer.verdict) answers)
    in
    let whole : sheet ≡ told are.all = is ∙ ap with_verdicts are.named in
    rw (found, there, binds) (Gives-bind (row_answers bound.kit region) (λ answers. done (told answers)) are.all
    (Ok sheet)
    are.given (ap Ok whole))
