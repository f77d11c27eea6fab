-- Suggest: the region rows that fit a session, and what may be confirmed next.
use Rattle.std.specs.Prelude.{ℕ, ◌==◌, List, filter, map}
use Rattle.desk_words.specs.declared.reply.Suggested.{Suggested}
use Rattle.desk_words.specs.declared.rows.region.RegionRow.{RegionRow}
use Rattle.desk_words.specs.Tables.{Published}
use Rattle.desk_valid.specs.declared.bound.Bound.{Bound}
use Rattle.fix_model.specs.declared.region.Region.{Region}
use Rattle.region_suggest.specs.declared.suggestion.Suggestion.{Suggestion}
use Rattle.machine_core.specs.Answers.{bound_for, state_of}
use Rattle.machine_core.specs.Checked.{Checked, ◌>>=◌, advice_for, done}
use Rattle.machine_core.specs.Own.{Own}
use Rattle.machine_core.specs.Tests.{active_session}
use Rattle.machine_core.specs.Views.{name_at}

-- the regions of an edition, in their order
abbrev pub regions_of : List RegionRow → ℕ → List Region
regions_of regions edition = map (λ row. row.region) (filter (λ row. row.edition == edition) regions)

-- attributes by their names
abbrev pub named_suggestion : Bound → Suggestion → Suggested
named_suggestion bound suggestion = record {
  regions = suggestion.regions;
  need = map (name_at bound.names.attributes) suggestion.need;
  gains = map (λ gain. (name_at bound.names.attributes gain.0, gain.1)) suggestion.gains;
}

-- the active session of this number, and what is suggested for it by the regions of its edition
abbrev pub suggestion_of : Published → Own → ℕ → Checked Suggested
suggestion_of published own number = do
  session ← active_session own.sessions number
  bound ← bound_for published session
  suggestion ← advice_for bound.kit (state_of session) (regions_of published.regions session.edition)
  done (named_suggestion bound suggestion)
