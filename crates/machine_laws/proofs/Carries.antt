-- Carry: a session goes on over a newer version of its edition.
use Rattle.std.proofs.Common.{◌≡◌, ◌∙◌, ℕ, ◌-◌, ◌≤◌, List, length, Some, sym, ap, subst}
use Rattle.std.specs.Prelude.{Ok}
use Rattle.desk_words.specs.declared.rows.act.Act.TheVariants as act
use Rattle.desk_words.specs.declared.rows.batch.BatchRow.{BatchRow}
use Rattle.desk_words.specs.declared.rows.session.SessionRow.{SessionRow}
use Rattle.desk_words.specs.Tables.{Published}
use Rattle.desk_valid.specs.declared.bound.Bound.{Bound}
use Rattle.desk_valid.specs.Bindings.{bound_at}
use Rattle.desk_valid.specs.Rows.Session.{IsSessionRow}
use Rattle.machine_core.specs.Checked.{Gives}
use Rattle.machine_core.specs.Clerk.Carry.{carried_to, carry, carry_row}
use Rattle.machine_core.specs.Own.{Own, puts}
use Rattle.machine_core.specs.declared.deed.Deed.{Deed}
use Rattle.machine_core.proofs.Carried.{carried-stands}
use Rattle.machine_core.specs.OwnRows.{IsSoundDeed}
use Rattle.machine_laws.proofs.Changing.{IsGoodOwn, IsSoundDeed-put}
use Rattle.machine_laws.proofs.Sessions.{IsActiveAt-session}
use Rattle.machine_core.proofs.Commands.{carry_row-ok}
use Rattle.machine_core.proofs.Walks.{Gives-Met, Met-Gives}

module _ (published : Published) (own : Own) where
  -- a session that was carried is a good row
  IsSessionRow-carried : (batches : List BatchRow) (session : SessionRow) (edition : ℕ) (before following : Bound)
      → bound_at published edition ≡ Some following → session.batch ≤ length batches
      → IsSessionRow published batches (carried_to session edition before following)
  IsSessionRow-carried batches session edition before following binds batch =
      let is = carried-stands published session edition before following binds in
      record { edition = is.edition; typed = is.typed; confirmed = is.confirmed; batch = batch }

  pub IsSoundDeed-carry : IsGoodOwn published own → (number version : ℕ) (deed : Deed)
      → Gives (carry published own number version) (Ok deed) → IsSoundDeed published own deed
  IsSoundDeed-carry good number version deed gives =
      let (moved, carries, is) = Met-Gives (carry published own number version) (Ok deed) gives in
      let met = carry_row-ok published own number version moved
      (Gives-Met (carry_row published own number version) (Ok moved) carries) in
      let there = IsActiveAt-session own.sessions number met.session met.stands in
      let old_row = good.rows.sessions_valid (number - 1) met.session there.stands in
      subst (IsSoundDeed published own) (sym (is ∙ ap (λ session. puts (number - 1) session act.Changed) met.is))
      (IsSoundDeed-put published own good number met.session
      (carried_to met.session met.edition met.before met.after) there
      (IsSessionRow-carried own.batches met.session met.edition met.before met.after met.binds_after old_row.batch))
