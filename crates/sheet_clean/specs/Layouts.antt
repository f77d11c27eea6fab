-- Which column is whose, as it is found once under a header.
use Rattle.std.specs.Prelude.{◌≡◌, map}
use Rattle.desk_base.specs.Places.{place_of}
use Rattle.sheet_clean.specs.declared.layout.Layout.{Layout}
use Rattle.sheet_clean.specs.declared.setting.Setting.{Setting}
use Rattle.sheet_clean.specs.Header.{attribute_of}

-- for each attribute its column, and for each column its attribute
pub record IsLayout (setting : Setting) (layout : Layout) : Type 0 where
  pub columns : layout.columns.items ≡ map (place_of layout.header) setting.names.attributes
  pub attributes : layout.attributes.items ≡ map (attribute_of setting) layout.header
