-- A region of derived rows is good where it is put.
use Rattle.std.proofs.Common.{◌≡◌, ◌∙◌, ℕ, ◌+◌, ◌-◌, ◌<◌, ◌≤◌, List, [], ◌∷◌, length, drop, take, refl, sym, subst}
use Rattle.std.proofs.Common.{arith}
use Rattle.std.specs.Prelude.{All, IfSome, Ok}
use Rattle.std.proofs.lemmas.List.{length-map, length-take, take_at}
use Rattle.std.proofs.lemmas.List.Elements.{All-drop, All-map, All-take, All-weaker}
use Rattle.desk_words.specs.declared.limit.Which.TheVariants as which
use Rattle.desk_words.specs.declared.rows.region.RegionRow.{RegionRow}
use Rattle.desk_words.specs.declared.steward_work.StewardWork.TheVariants.{AddDerived}
use Rattle.desk_words.specs.Tables.{Published, Rows, published_of}
use Rattle.desk_valid.specs.Valid.{AreValid}
use Rattle.machine_core.specs.Checked.{Gives}
use Rattle.machine_core.specs.declared.derivation.Derivation.{Derivation}
use Rattle.machine_core.specs.Deriving.{derivation_of, derived_rows}
use Rattle.machine_core.specs.Machine.{making_of}
use Rattle.machine_core.specs.declared.making.Making.{Making}
use Rattle.machine_core.specs.Steward.AddDerived.{derived_region, region_from}
use Rattle.machine_core.specs.Steward.AddRegion.{region_count}
use Rattle.machine_core.proofs.Deriving.{derivation-made, derived_rows-full}
use Rattle.machine_core.proofs.Widths.{edition-stands, width-bound}
use Rattle.machine_core.proofs.Walks.{Met-Gives, Gives-Met}
use Rattle.machine_core.proofs.Commands.{few-stand}
use Rattle.machine_laws.proofs.Makings.{IsSoundMaking, region_making}
use Rattle.machine_laws.proofs.Regions.{IsSoundMaking-region}

-- what the tests of an AddDerived found, and the region after them
pub record IsRegionOfDerived (published : Published) (name : List ℕ) (version : ℕ) (master : List ℕ)
    (pairs : List (List ℕ × List ℕ)) (from : ℕ) (row : RegionRow) : Type 0 where
  pub derivation : Derivation
  pub found : Gives (derivation_of published name version master pairs) (Ok derivation)
  pub few : region_count published.regions derivation.edition + 1 ≤ 8
  pub rows : List (ℕ × List (List ℕ))
  pub gives : Gives (derived_rows published derivation) (Ok rows)
  pub is : row ≡ region_from derivation from rows

pub derived_region-found : (published : Published) (name : List ℕ) (version : ℕ) (master : List ℕ)
    (pairs : List (List ℕ × List ℕ)) (from : ℕ) (row : RegionRow)
    → Gives (derived_region published name version master pairs from) (Ok row)
    → IsRegionOfDerived published name version master pairs from row
derived_region-found published name version master pairs from row gives =
    let (derivation, found, (_, few, (rows, are, is))) =
    Met-Gives (derived_region published name version master pairs from) (Ok row) gives in
    record {
      derivation = derivation;
      found = Gives-Met (derivation_of published name version master pairs) (Ok derivation) found;
      few = few-stand which.Regions (region_count published.regions derivation.edition + 1) few;
      rows = rows;
      gives = Gives-Met (derived_rows published derivation) (Ok rows) are;
      is = is;
    }

module _ (rows : Rows) (valid : AreValid rows) where
  IsSoundMaking-derived : (name : List ℕ) (version : ℕ) (master : List ℕ) (pairs : List (List ℕ × List ℕ)) (from : ℕ)
      (row : RegionRow) → IsRegionOfDerived (published_of rows) name version master pairs from row
      → IsSoundMaking rows (region_making (published_of rows) row)
  IsSoundMaking-derived name version master pairs from row is =
      let published : Published = published_of rows in
      let derivation : Derivation = is.derivation in
      let made : RegionRow = region_from derivation from is.rows in
      let of_it = derivation-made published name version master pairs derivation is.found in
      let full = derived_rows-full published derivation is.rows is.gives in
      let as_many : length derivation.columns ≡ length derivation.attributes =
      of_it.places.as_many ∙ sym of_it.places.many in
      let part : List (ℕ × List (List ℕ)) = take 200 (drop (from - 1) is.rows) in
      let Full : ℕ × List (List ℕ) → Type 0 = λ one. length one.1 ≡ length derivation.columns in
      let texts_of : ℕ × List (List ℕ) → List (List ℕ) = λ one. one.1 in
      subst (λ one. IsSoundMaking rows (region_making published one)) (sym is.is)
      (IsSoundMaking-region rows valid made (record {
        edition = edition-stands published derivation.edition of_it.bound of_it.binds;
        few = subst (λ before. region_count before derivation.edition < 8)
            (sym (take_at rows.regions (made ∷ []) (length rows.regions) refl)) (omega (arith, is.few));
        distinct = of_it.places.attributes.apart;
        within = subst (λ found. IfSome found (λ width. All (λ attribute. attribute < width) derivation.attributes))
            (sym (width-bound published derivation.edition of_it.bound of_it.binds)) of_it.places.attributes.below;
        few_rows = omega (arith, length-map part texts_of, length-take 200 (drop (from - 1) is.rows));
        whole = All-map (λ texts. length texts ≡ length derivation.attributes) texts_of part
            (All-take (λ one. length one.1 ≡ length derivation.attributes) 200 (drop (from - 1) is.rows)
            (All-drop (λ one. length one.1 ≡ length derivation.attributes) (from - 1) is.rows
            (All-weaker Full (λ one. length one.1 ≡ length derivation.attributes) (λ one same. same ∙ as_many) is.rows
            full)));
      }))

  pub IsSoundMaking-add_derived : (name : List ℕ) (version : ℕ) (master : List ℕ) (pairs : List (List ℕ × List ℕ))
      (from : ℕ) (making : Making) → Gives (making_of rows (AddDerived name version master pairs from)) (Ok making)
      → IsSoundMaking rows making
  IsSoundMaking-add_derived name version master pairs from making gives =
      let (row, derives, is) =
      Met-Gives (making_of rows (AddDerived name version master pairs from)) (Ok making) gives in
      subst (IsSoundMaking rows) (sym is)
      (IsSoundMaking-derived name version master pairs from row
      (derived_region-found (published_of rows) name version master pairs from row
      (Gives-Met (derived_region (published_of rows) name version master pairs from) (Ok row) derives)))
