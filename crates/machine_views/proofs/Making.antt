-- What the steward made, by the rows that it is about.
use Rattle.std.proofs.Common.{◌≡◌, ℕ, ◌+◌, List, take, Some, Ok, Err, ap, subst, sym}
use Rattle.std.specs.Prelude.{IfOk, Result, slice_get}
use Rattle.desk_words.specs.declared.made.Made.{Made}
use Rattle.desk_words.specs.declared.made.Made.TheVariants as made
use Rattle.desk_words.specs.declared.rows.act.Act.{Act}
use Rattle.desk_words.specs.declared.rows.act.Act.TheVariants as act
use Rattle.desk_words.specs.declared.rows.clerk.ClerkRow.{ClerkRow}
use Rattle.desk_words.specs.declared.rows.edition.EditionRow.{EditionRow}
use Rattle.desk_words.specs.declared.rows.region.RegionRow.{RegionRow}
use Rattle.desk_words.specs.declared.rows.rulebook.RulebookRow.{RulebookRow}
use Rattle.desk_words.specs.declared.rows.text.TextRow.{TextRow}
use Rattle.desk_words.specs.Tables.{Published, Rows, published_of}
use Rattle.desk_valid.specs.declared.bound.Bound.{Bound}
use Rattle.desk_valid.specs.Bindings.{bound_at}
use Rattle.fix_model.specs.Regions.{row_state}
use Rattle.machine_core.specs.Checked.{answer_for, done, each, Gives}
use Rattle.machine_core.specs.Kept.{kept_made, region_made}
use Rattle.machine_core.specs.Steward.AddRegion.{region_count}
use Rattle.machine_core.proofs.Chains.{Gives-bind}
use Rattle.machine_views.specs.declared.counting.Verdicts.{Verdicts}
use Rattle.machine_views.specs.Counts.{AreRowVerdicts, verdicts_of}

module _ (rows : Rows) (place : ℕ) (name : List ℕ) where
  -- a clerk by the name, and what has versions by name and version
  pub clerk-given : (row : ClerkRow) → slice_get rows.clerks place ≡ Some row → name ≡ row.name
      → Gives (kept_made rows act.Clerk place) (Ok (made.Clerk name))
  clerk-given row stands named = rw stands (ap (λ one. Ok (made.Clerk one)) named)

  pub schema-given : (row : TextRow) → slice_get rows.schemas place ≡ Some row → name ≡ row.name
      → Gives (kept_made rows act.Schema place) (Ok (made.Schema name row.version))
  schema-given row stands named = rw stands (ap (λ one. Ok (made.Schema one row.version)) named)

  pub master-given : (row : TextRow) → slice_get rows.masters place ≡ Some row → name ≡ row.name
      → Gives (kept_made rows act.Master place) (Ok (made.Master name row.version))
  master-given row stands named = rw stands (ap (λ one. Ok (made.Master one row.version)) named)

  pub rulebook-given : (row : RulebookRow) → slice_get rows.rulebooks place ≡ Some row → name ≡ row.name
      → Gives (kept_made rows act.Rulebook place) (Ok (made.Rulebook name row.version))
  rulebook-given row stands named = rw stands (ap (λ one. Ok (made.Rulebook one row.version)) named)

  pub edition-given : (row : EditionRow) → slice_get rows.editions place ≡ Some row → name ≡ row.name
      → Gives (kept_made rows act.Edition place) (Ok (made.Edition name row.version))
  edition-given row stands named = rw stands (ap (λ one. Ok (made.Edition one row.version)) named)

-- what is made where its act is this one is the reply of the act
pub kept-told : {E : Type 0} (rows : Rows) (place : ℕ) (what same : Act) (told : Made) (result : Result Made E)
    → what ≡ same → Gives (kept_made rows same place) (Ok told) → IfOk result (λ one. one ≡ told)
    → IfOk result (λ one. Gives (kept_made rows what place) (Ok one))
kept-told rows place what same told (Ok made) is gives are =
    let Told : Act → Type 0 = λ one. Gives (kept_made rows one place) (Ok made) in
    subst Told (sym is) (subst (λ one. Gives (kept_made rows same place) (Ok one)) (sym are) gives)
kept-told rows place what same told (Err fault) is gives are = tt

-- a region that stands at its place
pub region-kept : (rows : Rows) (place : ℕ) (row : RegionRow) (told : Made) → slice_get rows.regions place ≡ Some row
    → Gives (region_made (published_of rows) place row) (Ok told) → Gives (kept_made rows act.Region place) (Ok told)
region-kept rows place row told stands gives = rw stands gives

-- a region by its number, with the verdicts on its rows
pub region-given : (published : Published) (place : ℕ) (row : RegionRow) (bound : Bound) (verdicts : Verdicts)
    (count : ℕ) → bound_at published row.edition ≡ Some bound
    → AreRowVerdicts bound.kit row.region.attrs row.region.rows verdicts
    → count ≡ region_count (take place published.regions) row.edition
    → Gives (region_made published place row)
    (Ok (made.Region (count + 1) verdicts.certain verdicts.partial verdicts.conflict))
region-given published place row bound verdicts count here are counted =
    let told = λ (number : ℕ) (one : Verdicts). made.Region (number + 1) one.certain one.partial one.conflict in
    let earlier = region_count (take place published.regions) row.edition in
    let asked = each (λ texts. answer_for bound.kit (row_state bound.kit.width row.region.attrs texts))
    row.region.rows in
    rw here (Gives-bind asked (λ all. done (told earlier (verdicts_of (λ one. one.verdict) all))) are.all
    (Ok (told count verdicts)) are.given (λ i. Ok (told (counted i) (are.counted i))))
