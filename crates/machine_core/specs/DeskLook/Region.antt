-- Region: a region of a version of an edition, with what the rules make of each of its rows.
use Rattle.std.specs.Prelude.{ℕ, List, map, if◌then◌else◌}
use Rattle.desk_words.specs.declared.published.RegionSheet.{RegionSheet}
use Rattle.desk_words.specs.declared.refusal.Kind.TheVariants as kind
use Rattle.desk_words.specs.declared.refusal.Refusal.TheVariants.{NoSuch}
use Rattle.desk_words.specs.Tables.{Published}
use Rattle.desk_valid.specs.declared.bound.Bound.{Bound}
use Rattle.desk_valid.specs.Bindings.{bound_at}
use Rattle.fix_engine.specs.declared.verdict.Verdict.{Verdict}
use Rattle.fix_engine.specs.declared.verdict.Verdict.TheVariants.{Fix, Conflict}
use Rattle.fix_model.specs.declared.kit.Kit.{Kit}
use Rattle.fix_model.specs.declared.region.Region.{Region}
use Rattle.fix_model.specs.declared.region.RowVerdict.{RowVerdict}
use Rattle.fix_model.specs.declared.region.RowVerdict.TheVariants as row
use Rattle.fix_model.specs.Regions.{row_state}
use Rattle.machine_core.specs.Checked.{Answer, Checked, ◌>>=◌, answer_for, certainly, done, each, some_or}
use Rattle.machine_core.specs.Finding.{edition_named, numbered}
use Rattle.machine_core.specs.Look.Suggest.{regions_of}
use Rattle.machine_core.specs.Views.{edition_at, name_at}

-- the verdict on a row
abbrev pub row_verdict : Verdict → RowVerdict
row_verdict (Fix certain dissent) = if certain then row.Certain else row.Partial
row_verdict Conflict = row.Conflict

-- what the rules make of each row of a region
abbrev pub row_answers : Kit → Region → Checked (List Answer)
row_answers kit region = each (λ texts. answer_for kit (row_state kit.width region.attrs texts)) region.rows

-- the region of this number of a version of the edition at a place, with these verdicts on its rows
abbrev pub region_with : Published → ℕ → ℕ → ℕ → Bound → Region → List RowVerdict → RegionSheet
region_with published edition version number bound region verdicts = record {
  edition = (edition_at published edition).name;
  version = version;
  region = number;
  attributes = map (name_at bound.names.attributes) region.attrs;
  rows = region.rows;
  verdicts = verdicts;
}

-- the region of this number, counted from 1, of this version of an edition
abbrev pub region_shown : Published → List ℕ → ℕ → ℕ → Checked RegionSheet
region_shown published name version number = do
  edition ← some_or (edition_named published.editions name version) (NoSuch kind.Edition)
  region ← some_or (numbered (regions_of published.regions edition) number) (NoSuch kind.Region)
  bound ← certainly (bound_at published edition)
  answers ← row_answers bound.kit region
  done (region_with published edition version number bound region (map (λ answer. row_verdict answer.verdict) answers))
