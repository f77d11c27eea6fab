-- What a clerk's command does is what the clerk's row says of it.
use Rattle.std.proofs.Common.{◌≡◌, ℕ, ◌+◌, ◌-◌, ◌<◌, List, length, refl, sym, subst}
use Rattle.std.specs.Prelude.{Ok}
use Rattle.std.proofs.lemmas.List.{length-map}
use Rattle.desk_words.specs.declared.clerk_work.Accept.{Accept}
use Rattle.desk_words.specs.declared.clerk_work.ClerkWork.{ClerkWork}
use Rattle.desk_words.specs.declared.clerk_work.ClerkWork.TheVariants.{Enter, Confirm, Withdraw, Commit}
use Rattle.desk_words.specs.declared.clerk_work.ClerkWork.TheVariants.{Abandon, Batch, Carry}
use Rattle.desk_words.specs.declared.rows.act.Act.TheVariants as act
use Rattle.desk_words.specs.declared.rows.session.SessionRow.{SessionRow}
use Rattle.desk_words.specs.declared.rows.session.Stage.TheVariants.{Abandoned}
use Rattle.desk_words.specs.Tables.{Published, Rows, published_of}
use Rattle.desk_valid.specs.Valid.{AreValid}
use Rattle.machine_core.specs.Checked.{Gives}
use Rattle.machine_core.specs.Clerk.Abandon.{abandon}
use Rattle.machine_core.specs.Clerk.Batch.{enter_batch, row_session, batch_deed}
use Rattle.machine_core.specs.Clerk.Carry.{carry}
use Rattle.machine_core.specs.Clerk.Commit.{commit, commit_deed}
use Rattle.machine_core.specs.Clerk.Confirm.{confirm}
use Rattle.machine_core.specs.Clerk.Enter.{enter}
use Rattle.machine_core.specs.Clerk.Withdraw.{withdraw}
use Rattle.machine_core.specs.Limits.{within}
use Rattle.machine_core.specs.Machine.{deed_of}
use Rattle.machine_core.specs.Own.{Own, own_of, puts}
use Rattle.machine_core.specs.OwnRows.{IsSoundDeed}
use Rattle.machine_core.specs.declared.deed.Deed.{Deed}
use Rattle.machine_laws.proofs.Accepted.{deed-sound}
use Rattle.machine_views.specs.Doing.{DoesAsTold}
use Rattle.machine_core.proofs.Commands.{batch_sessions, enter_batch-ok}
use Rattle.machine_core.proofs.Walks.{Met-Gives}

module _ (published : Published) (own : Own) where
  -- a deed that is this one does as this one is told
  told-as : (deed made : Deed) → deed ≡ made → DoesAsTold own made made.act → DoesAsTold own deed deed.act
  told-as deed made is = subst (λ (one : Deed). DoesAsTold own one one.act) (sym is)

  told-enter : (edition : List ℕ) (cells : List (List ℕ × List ℕ)) (confirmed : List (List ℕ)) (deed : Deed)
      → Gives (enter published own edition cells confirmed) (Ok deed) → DoesAsTold own deed deed.act
  told-enter edition cells confirmed deed gives =
      let (session, entered, is) = Met-Gives (enter published own edition cells confirmed) (Ok deed) gives in
      told-as deed (puts (length own.sessions) session act.Opened) is (record { session = session; is = refl })

  told-confirm : (number : ℕ) (cells : List (List ℕ × List ℕ)) (deed : Deed)
      → Gives (confirm published own number cells) (Ok deed) → DoesAsTold own deed deed.act
  told-confirm number cells deed gives =
      let (session, confirmed, (_, bytes, is)) = Met-Gives (confirm published own number cells) (Ok deed) gives in
      told-as deed (puts (number - 1) session act.Changed) is (record { session = session; is = refl })

  told-withdraw : (number : ℕ) (names : List (List ℕ)) (deed : Deed)
      → Gives (withdraw published own number names) (Ok deed) → DoesAsTold own deed deed.act
  told-withdraw number names deed gives =
      let (session, withdrawn, is) = Met-Gives (withdraw published own number names) (Ok deed) gives in
      told-as deed (puts (number - 1) session act.Changed) is (record { session = session; is = refl })

  told-abandon : (number : ℕ) (deed : Deed) → Gives (abandon own number) (Ok deed) → DoesAsTold own deed deed.act
  told-abandon number deed gives =
      let (session, stands, is) = Met-Gives (abandon own number) (Ok deed) gives in
      let closed : SessionRow = record session { stage = Abandoned } in
      told-as deed (puts (number - 1) closed act.Changed) is (record { session = closed; is = refl })

  told-carry : (number version : ℕ) (deed : Deed) → Gives (carry published own number version) (Ok deed)
      → DoesAsTold own deed deed.act
  told-carry number version deed gives =
      let (session, carried, is) = Met-Gives (carry published own number version) (Ok deed) gives in
      told-as deed (puts (number - 1) session act.Changed) is (record { session = session; is = refl })

  told-commit : (number : ℕ) (accept : Accept) (deed : Deed) → Gives (commit published own number accept) (Ok deed)
      → DoesAsTold own deed deed.act
  told-commit number accept deed gives =
      let (both, committed, is) = Met-Gives (commit published own number accept) (Ok deed) gives in
      told-as deed (commit_deed own number both) is (record { row = both.1; is = refl; target = refl })

  told-batch : (edition body : List ℕ) (deed : Deed) → Gives (enter_batch published own edition body) (Ok deed)
      → DoesAsTold own deed deed.act
  told-batch name body deed gives =
      let met = enter_batch-ok published own name body deed gives in
      let rows : List (List (List ℕ)) = met.sheet.grid.rows in
      let sessions : List SessionRow = batch_sessions own met.edition met.bound met.columns met.sheet in
      let one_row : List (List ℕ) → SessionRow = row_session met.edition (length met.bound.names.attributes)
      (length own.batches + 1) met.columns in
      told-as deed (batch_deed own met.edition (length rows) sessions) met.is (record {
        row = record { edition = met.edition; first = length own.sessions + 1; count = length rows };
        is = refl;
        target = refl;
        sessions = sessions;
        are = refl;
        first = refl;
        count = sym (length-map rows one_row);
      })

  -- each command of a clerk does as it is told
  pub told-deed : (work : ClerkWork) (deed : Deed) → Gives (deed_of published own work) (Ok deed)
      → DoesAsTold own deed deed.act
  told-deed (Enter edition cells confirmed) deed gives = told-enter edition cells confirmed deed gives
  told-deed (Confirm number cells) deed gives = told-confirm number cells deed gives
  told-deed (Withdraw number names) deed gives = told-withdraw number names deed gives
  told-deed (Commit number accept) deed gives = told-commit number accept deed gives
  told-deed (Abandon number) deed gives = told-abandon number deed gives
  told-deed (Batch edition body) deed gives = told-batch edition body deed gives
  told-deed (Carry number version) deed gives = told-carry number version deed gives

-- what a clerk of valid tables does is sound
pub deed_of-sound : (rows : Rows) (place : ℕ) (own : Own) (work : ClerkWork) (deed : Deed) → AreValid rows
    → place < length rows.clerks → own ≡ own_of rows place → Gives (deed_of (published_of rows) own work) (Ok deed)
    → IsSoundDeed (published_of rows) own deed
deed_of-sound rows place own work deed valid within is does =
    let Does : Own → Type 0 = λ one. Gives (deed_of (published_of rows) one work) (Ok deed) in
    let Sound : Own → Type 0 = λ one. IsSoundDeed (published_of rows) one deed in
    subst Sound (sym is) (deed-sound rows place work deed valid within (subst Does is does))
