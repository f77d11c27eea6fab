-- Regions: attributes that are confirmed together, and where it leads to confirm them to the texts of a row.
use Rattle.std.specs.Prelude.{◌≡◌, ◌≢◌, ◌==◌, ℕ, ◌<◌, true, false, List, [], length, map, position, All, AllPairs}
use Rattle.std.specs.Prelude.{Contains, Option, slice_index_or, unwrap_or}
use Rattle.std.specs.List.{range_with_len}
use Rattle.std.specs.Option.{option_map}
use Rattle.desk_base.specs.Places.{flags_of}
use Rattle.fix_model.specs.declared.kit.Kit.{Kit}
use Rattle.fix_model.specs.declared.region.Region.{Region}
use Rattle.fix_model.specs.declared.region.RowVerdict.{RowVerdict}
use Rattle.fix_model.specs.declared.region.RowVerdict.TheVariants.{Certain, Partial, Conflict}
use Rattle.fix_model.specs.declared.state.Cell.TheVariants.{Uncovered, Confirmed}
use Rattle.fix_model.specs.declared.state.State.{State}
use Rattle.fix_model.specs.Fix.{HasConflict, HasFix}
use Rattle.fix_model.specs.States.{cell_at, confirmed_cell, value_at}

-- the attributes are of the kit, and none stands twice
pub record AreAttributesOf (kit : Kit) (attributes : List ℕ) : Type 0 where
  pub attributes_within : All (λ attribute. attribute < kit.width) attributes
  pub distinct : AllPairs (λ attribute later. attribute ≢ later) attributes

-- the region's attributes are of the kit, none stands twice, and each row has a text for each
pub record IsRegionOf (kit : Kit) (region : Region) : Type 0 where
  pub attributes : AreAttributesOf kit region.attrs
  pub rows : All (λ texts. length texts ≡ length region.attrs) region.rows

-- the text for an attribute: it stands at the attribute's place, if the attribute is there
abbrev pub text_for : List ℕ → List (List ℕ) → ℕ → Option (List ℕ)
text_for attributes texts attribute =
    option_map (λ place. slice_index_or texts place []) (position (λ one. one == attribute) attributes)

-- the text for each attribute, a blank where there is none
abbrev pub row_texts : ℕ → List ℕ → List (List ℕ) → List (List ℕ)
row_texts width attributes texts =
    map (λ attribute. unwrap_or (text_for attributes texts attribute) []) (range_with_len 0 width)

-- the state of a row: its texts are confirmed on exactly these attributes, and elsewhere are blanks, uncovered
abbrev pub row_state : ℕ → List ℕ → List (List ℕ) → State
row_state width attributes texts = record {
  typed = row_texts width attributes texts;
  cells = map confirmed_cell (flags_of width attributes);
}

-- the verdict of a state: a unique fix that covers every attribute, a unique fix that does not, or a conflict
abbrev pub IsVerdict : Kit → State → RowVerdict → Type 0
IsVerdict kit state Certain = HasFix kit state true
IsVerdict kit state Partial = HasFix kit state false
IsVerdict kit state Conflict = HasConflict kit state

-- the verdict of a row: that of its state
abbrev pub IsRowVerdict : Kit → List ℕ → List (List ℕ) → RowVerdict → Type 0
IsRowVerdict kit attributes texts verdict = IsVerdict kit (row_state kit.width attributes texts) verdict

-- the state has exactly these attributes confirmed, to these texts: the others are uncovered, whatever is typed there
pub record ConfirmsExactly (kit : Kit) (attributes : List ℕ) (texts : List (List ℕ)) (state : State) : Type 0 where
  pub confirmed : All (λ attribute. cell_at state attribute ≡ Confirmed) attributes
  pub others : (attribute : ℕ) → ¬ Contains attributes attribute → cell_at state attribute ≡ Uncovered
  pub texts_there : map (value_at kit state) attributes ≡ texts
