-- What a sheet is cleaned by, besides rules and masters.
use Rattle.std.specs.Prelude.{◌≡◌, ℕ, Bool, false, List, [], length, slice_index_or}
use Rattle.csv.specs.Writing.{default_writer}
use Rattle.csv.specs.declared.writer.WriterBuilder.{WriterBuilder}
use Rattle.fix_model.specs.declared.kit.Kit.{Kit}
use Rattle.sheet_blocks.specs.Sheets.{IsDelimiter}
use Rattle.sheet_clean.specs.declared.setting.Setting.{Setting}

-- the setting names each attribute, rule and master of the kit, says of each attribute whether it is known, and has a
-- delimiter
pub record IsSettingOf (kit : Kit) (setting : Setting) : Type 0 where
  pub attributes : length setting.names.attributes ≡ kit.width
  pub rules : length setting.names.rules ≡ length kit.rules
  pub masters : length setting.names.masters ≡ length kit.masters
  pub known : length setting.known ≡ kit.width
  pub delimiter : IsDelimiter setting.delimiter

-- the name of an attribute
abbrev pub attribute_name : Setting → ℕ → List ℕ
attribute_name setting attribute = slice_index_or setting.names.attributes attribute []

-- the attribute is known to be right, where it is not blank
abbrev pub is_known : Setting → ℕ → Bool
is_known setting attribute = slice_index_or setting.known attribute false

-- how sheets are written: as csv writes by default, with this delimiter, and with LF at the end of each line
abbrev pub writer_of : Setting → WriterBuilder
writer_of setting = record default_writer { delimiter = setting.delimiter }
