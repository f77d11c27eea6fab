-- A clerk's own rows, as they are read from valid tables.
use Rattle.std.proofs.Common.{◌≡◌, ◌≢◌, ◌∙◌, ℕ, ◌<◌, [], length, refl, sym, ap, arith}
use Rattle.std.proofs.lemmas.Option.{slice_get-get_or}
use Rattle.desk_words.specs.declared.rows.act.Act.{Act}
use Rattle.desk_words.specs.declared.rows.act.Act.TheVariants as act
use Rattle.desk_words.specs.declared.rows.clerk.ClerkRow.{ClerkRow}
use Rattle.desk_words.specs.Tables.{Rows, new_clerk}
use Rattle.desk_valid.specs.Rows.Clerk.{HasTarget, IsClerkRow, IsClerksAct}
use Rattle.desk_valid.specs.Valid.{AreValid}
use Rattle.machine_core.specs.Own.{Own, own_of}
use Rattle.machine_core.specs.OwnRows.{HasOwnTarget}

-- own rows are those of the tables that have these rows
pub own-there : (rows tables : Rows) → tables ≡ rows → (place : ℕ) (own : Own) → own ≡ own_of rows place
    → own ≡ own_of tables place
own-there rows tables same place own is = is ∙ ap (λ (one : Rows). own_of one place) (sym same)

-- what a clerk did is about one of the clerk's own rows
HasOwnTarget-done : (rows : Rows) (place : ℕ) (what : Act) (target : ℕ) → what ≢ act.Nothing → IsClerksAct what
    → HasTarget rows place what target → HasOwnTarget (own_of rows place) what target
HasOwnTarget-done rows place act.Nothing target some does has = some refl
HasOwnTarget-done rows place act.Clerk target some does has = does
HasOwnTarget-done rows place act.Schema target some does has = does
HasOwnTarget-done rows place act.Master target some does has = does
HasOwnTarget-done rows place act.Rulebook target some does has = does
HasOwnTarget-done rows place act.Edition target some does has = does
HasOwnTarget-done rows place act.Region target some does has = does
HasOwnTarget-done rows place act.Opened target some does has = has
HasOwnTarget-done rows place act.Changed target some does has = has
HasOwnTarget-done rows place act.Committed target some does has = has
HasOwnTarget-done rows place act.Batched target some does has = has

module _ (rows : Rows) (place : ℕ) (valid : AreValid rows) (within : place < length rows.clerks) where
  -- the row of a caller of valid tables is good
  pub own-row : IsClerkRow rows place (own_of rows place).row
  own-row = valid.clerks place (own_of rows place).row (slice_get-get_or rows.clerks place (new_clerk []) within)

  -- so the last write of a clerk is about one of the clerk's own rows
  pub last-target : 0 < place → 0 < (own_of rows place).row.last
      → HasOwnTarget (own_of rows place) (own_of rows place).row.act (own_of rows place).row.target
  last-target following started =
      let row : ClerkRow = (own_of rows place).row in
      let good : IsClerkRow rows place row = own-row in
      HasOwnTarget-done rows place row.act row.target (λ none. absurd (omega (arith, good.started.1 none, started)))
      (good.clerk following) good.target
