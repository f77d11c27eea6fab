-- What words come to over the files that they name: a setting, and a book over the masters.
use Rattle.std.specs.Prelude.{ℕ, Bool, false, nat_le, List, length, filter, slice_index_or, Result, Ok, Err}
use Rattle.std.specs.Prelude.{if◌then◌else◌}
use Rattle.std.specs.List.{range_with_len}
use Rattle.desk_base.specs.declared.limits.TheConstants.{MAX_ENTRIES}
use Rattle.fix_model.specs.Entries.{entries}
use Rattle.fix_model.specs.declared.kit.Kit.{Kit}
use Rattle.fix_model.specs.declared.names.Names.{Names}
use Rattle.rule_text.specs.Binding.{bound}
use Rattle.rule_text.specs.Names.{names_in}
use Rattle.rule_text.specs.declared.binding.BindFault.{BindFault}
use Rattle.sheet_clean.specs.Setting.{IsSettingOf}
use Rattle.sheet_clean.specs.declared.setting.Setting.{Setting}
use Rattle.clean_run.specs.Files.{Folder}
use Rattle.clean_run.specs.Parts.{◌>>=◌, accepted, parts_in}
use Rattle.clean_run.specs.declared.ended.Status.{Status}
use Rattle.clean_run.specs.declared.ended.Status.TheVariants.{Refused}
use Rattle.clean_run.specs.declared.parts.Parts.{Parts}
use Rattle.clean_run.specs.declared.prepared.Prepared.{Prepared}
use Rattle.clean_run.specs.declared.words.Words.{Words}

-- the places of the flags that are set, in ascending order
abbrev pub places : List Bool → List ℕ
places flags = filter (λ place. slice_index_or flags place false) (range_with_len 0 (length flags))

-- what the rules bind to over the masters, with the attributes of `--folded` folded
abbrev pub bound_parts : Parts → Result Kit BindFault
bound_parts parts = bound parts.sources.rules parts.schema parts.sources.masters (places parts.chosen.folded)

-- the kit, where its index is not too large
abbrev pub indexed : Kit → Result Kit Status
indexed kit = if nat_le (entries kit) MAX_ENTRIES then Ok kit else Err Refused

-- the kit of the rules over the masters, where its index is not too large
abbrev pub book_in : Parts → Result Kit Status
book_in parts = do
  kit ← accepted (bound_parts parts)
  indexed kit

-- the names of attributes, rules and masters, each in their order
abbrev pub names_of : Parts → Names
names_of parts = names_in parts.schema parts.sources.rules parts.sources.masters

-- what a sheet is cleaned by besides the kit
abbrev pub setting_of : Words → Parts → Setting
setting_of words parts = record {
  names = names_of parts;
  known = parts.chosen.known;
  delimiter = words.delimiter;
  verdict = words.verdict;
}

-- what the parts come to
abbrev pub assembled : Words → Parts → Result Prepared Status
assembled words parts = do
  book ← book_in parts
  Ok (record { setting = setting_of words parts; book = book })

-- what words come to over the files of a folder, or the status that tells the first test that fails
abbrev pub prepared : Words → Folder → Result Prepared Status
prepared words folder = do
  parts ← parts_in words folder
  assembled words parts

-- the setting is one of the book's kit
abbrev pub IsPrepared : Prepared → Type 0
IsPrepared prepared = IsSettingOf prepared.book prepared.setting
