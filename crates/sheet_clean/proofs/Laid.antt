-- What a layout has for an attribute and for a column.
use Rattle.std.proofs.Common.{◌≡◌, ◌<◌, ◌≤◌, arith, ◌∙◌, ℕ, List, [], get_or, length, map, ap}
use Rattle.std.specs.Prelude.{IfSome, Option, Some, None}
use Rattle.std.specs.Str.{bytes_eq}
use Rattle.std.proofs.lemmas.List.Quantifiers.{position-Some}
use Rattle.std.proofs.Math.ListN.{get_or-map}
use Rattle.std.proofs.lemmas.List.{get_or_default, length-map}
use Rattle.desk_base.specs.Places.{place_of}
use Rattle.sheet_clean.specs.declared.layout.Layout.{Layout}
use Rattle.sheet_clean.specs.declared.setting.Setting.{Setting}
use Rattle.sheet_clean.specs.Header.{attribute_of, column_of}
use Rattle.sheet_clean.specs.Layouts.{IsLayout}

-- a list of what a function makes of items has at a place what it makes of the item there, whatever is past the last
pub get_or-mapped : {A B : Type 0} (f : A → B) (items : List A) (place : ℕ) (past : B) (d : A) → place < length items
    → get_or (map f items) place past ≡ f (get_or items place d)
get_or-mapped f items place past d within =
    let inside : place < length (map f items) = rw length-map within in
    get_or_default (map f items) place past (f d) inside ∙ get_or-map f items place d

-- the column of an attribute
pub column-laid : (setting : Setting) (layout : Layout) (attribute : ℕ) (past : Option ℕ) → IsLayout setting layout
    → attribute < length setting.names.attributes
    → get_or layout.columns.items attribute past ≡ column_of setting layout.header attribute
column-laid setting layout attribute past laid within =
    ap (λ l. get_or l attribute past) laid.columns
    ∙ get_or-mapped (place_of layout.header) setting.names.attributes attribute past [] within

-- the attribute of a column
pub attribute-laid : (setting : Setting) (layout : Layout) (column : ℕ) (past : Option ℕ) → IsLayout setting layout
    → column < length layout.header
    → get_or layout.attributes.items column past ≡ attribute_of setting (get_or layout.header column [])
attribute-laid setting layout column past laid within =
    ap (λ l. get_or l column past) laid.attributes
    ∙ get_or-mapped (attribute_of setting) layout.header column past [] within

-- an attribute that a text is has a number below theirs
pub attribute-bound : (setting : Setting) (column : List ℕ) (found : Option ℕ) → attribute_of setting column ≡ found
    → length setting.names.attributes ≤ 48 → IfSome found (λ attribute. attribute < 48)
attribute-bound setting column None is narrow = tt
attribute-bound setting column (Some attribute) is narrow =
    omega (arith, (position-Some (bytes_eq column) setting.names.attributes attribute [] is).0, narrow)
