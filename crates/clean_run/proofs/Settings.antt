-- The kit that rules bind to, and a setting of it.
use Rattle.std.proofs.Common.{◌≡◌, ◌<◌, ◌≤◌, Bool, true, false, refl, sym, ap, ◌∙◌, arith}
use Rattle.std.proofs.lemmas.Bool.Decides.{nat_tests}
use Rattle.std.proofs.lemmas.List.{length-map}
use Rattle.std.specs.Prelude.{Option, Some, None, Result, Ok, Err, nat_le, if◌then◌else◌}
use Rattle.std.specs.Option.{option_map_or}
use Rattle.desk_base.specs.declared.limits.TheConstants.{MAX_ENTRIES}
use Rattle.fix_model.specs.Entries.{entries}
use Rattle.fix_model.specs.declared.kit.Kit.{Kit}
use Rattle.rule_text.specs.declared.binding.BindFault.{BindFault}
use Rattle.rule_text.specs.Binding.{bound, first_fault, kit_of, rule_of}
use Rattle.sheet_blocks.specs.Sheets.{IsDelimiter}
use Rattle.sheet_clean.specs.declared.setting.Setting.{Setting}
use Rattle.sheet_clean.specs.Setting.{IsSettingOf}
use Rattle.clean_run.specs.Parts.{◌>>=◌, AreParts, accepted}
use Rattle.clean_run.specs.Prepared.{book_in, bound_parts, indexed, names_of, places}
use Rattle.clean_run.specs.declared.ended.Status.{Status}
use Rattle.clean_run.specs.declared.ended.Status.TheVariants.{Refused}
use Rattle.clean_run.specs.declared.parts.Parts.{Parts}

unless : (fault : Option BindFault) (made kit : Kit) → accepted (option_map_or Err fault (Ok made)) ≡ Ok kit
    → kit ≡ made
unless None made kit is = cc
unless (Some fault) made kit is = absurd cc

-- what binds is the kit
bound-kit : (parts : Parts) (kit : Kit) → accepted (bound_parts parts) ≡ Ok kit
    → kit ≡ kit_of parts.sources.rules parts.schema parts.sources.masters (places parts.chosen.folded)
unfolding bound
bound-kit parts kit is =
    unless (first_fault parts.sources.masters 1 parts.sources.rules.lines)
    (kit_of parts.sources.rules parts.schema parts.sources.masters (places parts.chosen.folded)) kit is

-- names of what was bound, a flag for each attribute and a delimiter are a setting of the kit
pub IsSettingOf-bound : (parts : Parts) (kit : Kit) (setting : Setting) → AreParts parts
    → accepted (bound_parts parts) ≡ Ok kit → setting.names ≡ names_of parts → setting.known ≡ parts.chosen.known
    → IsDelimiter setting.delimiter → IsSettingOf kit setting
IsSettingOf-bound parts kit setting are binds names known delimits =
    rw (bound-kit parts kit binds) (record {
      attributes = rw names refl;
      rules = rw names (length-map parts.sources.rules.lines (λ line. line.name)
          ∙ sym (length-map parts.sources.rules.lines (rule_of parts.sources.masters)));
      masters = rw names (length-map parts.sources.masters (λ master. master.0)
          ∙ sym (length-map parts.sources.masters (λ master. master.1.grid)));
      known = rw known are.chosen.known;
      delimiter = delimits;
    })

within : (fits : Bool) (kit book : Kit) → (if fits then Ok kit else Err Refused) ≡ Ok book → book ≡ kit
within true kit book is = cc
within false kit book is = absurd cc

-- a kit whose index is not too large is the one that is indexed
pub indexed-same : (kit book : Kit) → indexed kit ≡ Ok book → book ≡ kit
indexed-same kit book is = within (nat_le (entries kit) MAX_ENTRIES) kit book is

-- what is indexed was bound
indexed-bound : (bound : Result Kit Status) (book : Kit) → (bound >>= indexed) ≡ Ok book → bound ≡ Ok book
indexed-bound (Ok kit) book is = ap Ok (sym (indexed-same kit book is))
indexed-bound (Err status) book is = absurd cc

pub bound-book : (parts : Parts) (book : Kit) → book_in parts ≡ Ok book → accepted (bound_parts parts) ≡ Ok book
bound-book parts book is = indexed-bound (accepted (bound_parts parts)) book is

-- a kit with few entries is indexed as it is
pub indexed-small : (kit book : Kit) → entries kit ≤ MAX_ENTRIES → book ≡ kit → indexed kit ≡ Ok book
indexed-small kit book small same =
    let fits : nat_le (entries kit) MAX_ENTRIES ≡ true = grind (arith, nat_tests) in
    ap (λ test. if test then Ok kit else Err Refused) fits ∙ ap Ok (sym same)

-- one with too many is refused
pub indexed-wide : (kit : Kit) → MAX_ENTRIES < entries kit → indexed kit ≡ Err Refused
indexed-wide kit wide =
    let fails : nat_le (entries kit) MAX_ENTRIES ≡ false = grind (arith, nat_tests) in
    ap (λ test. if test then Ok kit else Err Refused) fails
