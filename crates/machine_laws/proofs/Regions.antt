-- A new region is good where it is put.
use Rattle.std.proofs.Common.{◌≡◌, ◌∙◌, ℕ, ◌+◌, ◌<◌, ◌≤◌, ◌*◌, Bool, true, cond, List, [], ◌∷◌, length, get_or, map}
use Rattle.std.proofs.Common.{take, suc, refl, sym, ap, subst, arith}
use Rattle.std.specs.Prelude.{◌==◌, All, IfSome, Ok, count_by, zip}
use Rattle.std.specs.List.{range_with_len}
use Rattle.std.proofs.lemmas.Bool.Decides.{nat_tests}
use Rattle.std.proofs.lemmas.List.{length-append, length-map, take_at, take-take}
use Rattle.std.proofs.lemmas.List.Elements.{All-cons, All-nil, All-weaker}
use Rattle.std.proofs.lemmas.List.FromFn.{get_or-map-range_with_len, length-range_with_len}
use Rattle.std.proofs.lemmas.List.Sums.{count_by_more_yes, sum_by-take-le}
use Rattle.std.proofs.lemmas.Slice.Zip.{length-zip}
use Rattle.desk_words.specs.declared.change.Change.TheVariants as change
use Rattle.desk_words.specs.declared.limit.Which.TheVariants as which
use Rattle.desk_words.specs.declared.refusal.Refusal.TheVariants.{UnknownAttr}
use Rattle.desk_words.specs.declared.rows.region.RegionRow.{RegionRow}
use Rattle.desk_words.specs.declared.steward_work.StewardWork.TheVariants.{AddRegion}
use Rattle.desk_words.specs.Tables.{Published, Rows, published_of}
use Rattle.desk_valid.specs.Rows.Region.{IsRegionRow}
use Rattle.desk_valid.specs.Valid.{AreValid}
use Rattle.desk_valid.proofs.Few.{editions-few}
use Rattle.machine_core.specs.Checked.{each, each_following, Gives}
use Rattle.machine_core.specs.Limits.{within}
use Rattle.machine_core.specs.Machine.{making_of}
use Rattle.machine_core.specs.declared.making.Making.{Making}
use Rattle.machine_core.specs.Steward.AddRegion.{full_rows, region_count, short_text}
use Rattle.machine_core.specs.Tests.{another_attribute}
use Rattle.machine_core.proofs.Distinct.{AreDistinct, another-place, no-places}
use Rattle.machine_core.proofs.Tested.{each-length, each_following-all, each_following-length}
use Rattle.machine_core.proofs.Widths.{edition-stands, width-bound}
use Rattle.machine_core.proofs.Walks.{Met, Met-Gives, Gives-Met}
use Rattle.machine_core.proofs.Commands.{few-stand}
use Rattle.machine_laws.proofs.Lists.{slice_get-read, slice_get-there}
use Rattle.machine_laws.proofs.Makings.{IsGoodNew, IsSoundMaking, IsSoundMaking-published, region_making}
use Rattle.machine_laws.proofs.Sessions.{distinct-below}

-- each row has a text for each attribute, and there are as many as were given
full_rows-ok : (attributes : List (List ℕ)) (number : ℕ) (rows found : List (List (List ℕ)))
    → Met (full_rows attributes number rows) (Ok found)
    → (length found ≡ length rows) × All (λ texts. length texts ≡ length attributes) found
full_rows-ok attributes number [] found none = (
  ap length none,
  subst (All (λ texts. length texts ≡ length attributes)) (sym none)
      (All-nil (λ texts. length texts ≡ length attributes)),
)
full_rows-ok attributes number (first ∷ others) found (texts, (_, wide, short), (more, are_more, is)) =
    let Wide : List (List ℕ) → Type 0 = λ texts. length texts ≡ length attributes in
    let as_wide : length first ≡ length attributes = grind (arith, nat_tests, wide) in
    let first_wide : Wide texts = omega (
      arith,
      each-length short_text (zip attributes first) texts
          (Gives-Met (each short_text (zip attributes first)) (Ok texts) short),
      length-zip attributes first,
      as_wide,
    ) in
    let rest = full_rows-ok attributes (number + 1) others more are_more in (
      ap length is ∙ ap suc rest.0,
      subst (All Wide) (sym is) (All-cons Wide texts more first_wide rest.1),
    )

module _ (rows : Rows) (valid : AreValid rows) where
  -- a number for each region: eight for each edition
  abbrev no_region : RegionRow
  no_region = record { edition = 0; region = record { attrs = []; rows = [] } }

  abbrev edition_in : ℕ → ℕ
  edition_in place = (get_or rows.regions place no_region).edition

  abbrev earlier_count : ℕ → ℕ
  earlier_count place = region_count (take place rows.regions) (edition_in place)

  region-good : (place : ℕ) → place < length rows.regions → (edition_in place < length rows.editions)
      × (earlier_count place ≤ 7)
  region-good place within =
      let row = slice_get-there rows.regions place within in
      let good : IsRegionRow (published_of rows) place row.0 = valid.regions place row.0 row.1 in
      let is : get_or rows.regions place no_region ≡ row.0 =
      slice_get-read rows.regions place row.0 no_region row.1 in (
        omega (arith, good.edition, ap (λ (one : RegionRow). one.edition) is),
        omega (
          arith,
          subst (λ (one : RegionRow). region_count (take place rows.regions) one.edition < 8) (sym is)
              good.few,
        ),
      )

  -- of two regions of an edition the later one has more before it
  count-rises : (one other : ℕ) → one < other → other < length rows.regions → edition_in one ≡ edition_in other
      → earlier_count one + 1 ≤ earlier_count other
  count-rises one other before within same =
      let on : RegionRow → Bool = λ row. row.edition == edition_in other in
      let here : on (get_or rows.regions one no_region) ≡ true = grind (arith, nat_tests, same) in
      let more : count_by on (take (one + 1) rows.regions) ≡ count_by on (take one rows.regions) + 1 =
      count_by_more_yes on rows.regions one no_region (omega arith) here in
      let part : take (one + 1) (take other rows.regions) ≡ take (one + 1) rows.regions =
      take-take (one + 1) other rows.regions (omega arith) in
      let least : count_by on (take (one + 1) (take other rows.regions)) ≤ count_by on (take other rows.regions) =
      sum_by-take-le (λ row. cond (on row) 1 0) (take other rows.regions) (one + 1) in
      let same_count : earlier_count one ≡ count_by on (take one rows.regions) =
      ap (region_count (take one rows.regions)) same in
      let parts : count_by on (take (one + 1) (take other rows.regions)) ≡ count_by on (take (one + 1) rows.regions) =
      ap (count_by on) part in
      omega (arith, more, least, same_count, parts)

  -- so there are no more than eight times as many regions as editions
  pub regions-few : length rows.regions ≤ 512
  regions-few =
      let number : ℕ → ℕ = λ place. edition_in place * 8 + earlier_count place in
      let places : List ℕ = range_with_len 0 (length rows.regions) in
      let long : length (map number places) ≡ length rows.regions =
      length-map places number ∙ length-range_with_len 0 (length rows.regions) in
      omega (
        arith,
        sym long,
        distinct-below (map number places) 512
            (λ i j past before last same.
            let within : j < length rows.regions = omega (arith, last, long) in
            let one : get_or (map number places) i past ≡ number i = get_or-map-range_with_len number 0
            (length rows.regions) i i
            past (omega arith) (omega arith) in
            let other : get_or (map number places) j past ≡ number j = get_or-map-range_with_len number 0
            (length rows.regions) j j
            past within (omega arith) in
            apart i j before within (sym one ∙ same ∙ other))
            (λ index past inside.
            let within : index < length rows.regions = omega (arith, inside, long) in
            let is : get_or (map number places) index past ≡ number index = get_or-map-range_with_len number 0
            (length rows.regions) index index past within (omega arith) in
            let good = region-good index within in
            omega (arith, is, good.0, good.1, editions-few rows valid)),
      )
    where
      apart : (i j : ℕ) → i < j → j < length rows.regions
          → edition_in i * 8 + earlier_count i ≡ edition_in j * 8 + earlier_count j → ⊥
      apart i j before within same =
          let first = region-good i (omega arith) in
          let second = region-good j within in
          let editions : edition_in i ≡ edition_in j = omega (arith, same, first.1, second.1) in
          omega (arith, same, editions, count-rises i j before within editions)

  -- a new region
  pub IsSoundMaking-region : (row : RegionRow) → IsGoodNew rows (change.Region row)
      → IsSoundMaking rows (region_making (published_of rows) row)
  IsSoundMaking-region row good = IsSoundMaking-published rows valid (region_making (published_of rows) row)
      (omega arith, omega (arith, regions-few)) refl good (λ same. cc) tt
      (omega (arith, length-append rows.regions (row ∷ [])))

  pub IsSoundMaking-add_region : (edition : List ℕ) (version : ℕ) (attributes : List (List ℕ))
      (texts : List (List (List ℕ))) (making : Making)
      → Gives (making_of rows (AddRegion edition version attributes texts)) (Ok making) → IsSoundMaking rows making
  IsSoundMaking-add_region name version attributes texts making gives =
      let published : Published = published_of rows in
      let (row, (edition, named, (bound, binds, (places, are_places, (_, few_rows, rest)))), is) =
      Met-Gives (making_of rows (AddRegion name version attributes texts)) (Ok making) gives in
      let (full, are_full, (_, few, is_row)) = rest in
      let words : List (List ℕ) = bound.names.attributes in
      let made : RegionRow = record { edition = edition; region = record { attrs = places; rows = full } } in
      let given = Gives-Met (each_following [] (another_attribute words) attributes) (Ok places) are_places in
      let distinct : AreDistinct (length words) places = each_following-all (AreDistinct (length words))
      (another_attribute words) attributes [] places (λ before word place are found. another-place words before word
      (UnknownAttr word) place are found) (no-places (length words)) given in
      let as_many : length attributes ≡ length places =
      omega (arith, each_following-length (another_attribute words) attributes [] places given) in
      let whole = full_rows-ok attributes 1 texts full are_full in
      let few_it = few-stand which.Regions (region_count rows.regions edition + 1) few in
      subst (IsSoundMaking rows) (sym (is ∙ ap (region_making published) is_row)) (IsSoundMaking-region made (record {
        edition = edition-stands published edition bound binds;
        few = subst (λ before. region_count before edition < 8)
            (sym (take_at rows.regions (made ∷ []) (length rows.regions) refl)) (omega (arith, few_it));
        distinct = distinct.apart;
        within = subst (λ found. IfSome found (λ width. All (λ attribute. attribute < width) places))
            (sym (width-bound published edition bound binds)) distinct.below;
        few_rows = omega (arith, whole.0, few-stand which.RegionRows (length texts) few_rows);
        whole = All-weaker (λ one. length one ≡ length attributes) (λ one. length one ≡ length places)
            (λ one same. same ∙ as_many) full whole.1;
      }))
