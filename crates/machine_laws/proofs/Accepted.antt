-- Accepted writes keep tables valid.
use Rattle.std.proofs.Common.{◌≡◌, ◌∙◌, ℕ, ◌<◌, ◌≤◌, List, [], length, set, take, Some, inl, inr, refl, sym, ap, subst}
use Rattle.std.proofs.Common.{arith}
use Rattle.std.specs.Prelude.{Ok, option_to_list, slice_get}
use Rattle.std.proofs.lemmas.List.{length-append, set-get_or}
use Rattle.desk_words.specs.declared.change.Change.{Change}
use Rattle.desk_words.specs.declared.change.Change.TheVariants as change
use Rattle.desk_words.specs.declared.clerk_work.ClerkWork.{ClerkWork}
use Rattle.desk_words.specs.declared.clerk_work.ClerkWork.TheVariants.{Enter, Confirm, Withdraw, Commit, Abandon, Batch}
use Rattle.desk_words.specs.declared.clerk_work.ClerkWork.TheVariants.{Carry}
use Rattle.desk_words.specs.declared.command.Command.{Command}
use Rattle.desk_words.specs.declared.command.Command.TheVariants.{Steward, Clerk, Look, Desk}
use Rattle.desk_words.specs.declared.command.Ticket.{Ticket}
use Rattle.desk_words.specs.declared.reply.Reply.{Reply}
use Rattle.desk_words.specs.declared.rows.act.Act.{Act}
use Rattle.desk_words.specs.declared.rows.act.Act.TheVariants as act
use Rattle.desk_words.specs.declared.rows.clerk.ClerkRow.{ClerkRow}
use Rattle.desk_words.specs.declared.steward_work.StewardWork.{StewardWork}
use Rattle.desk_words.specs.declared.proposal.Proposal.TheVariants.{Schema, Master, Rulebook, Edition}
use Rattle.desk_words.specs.declared.steward_work.StewardWork.TheVariants.{AddClerk, Publish, AddRegion, AddDerived}
use Rattle.desk_words.specs.Changes.{Fits, FitAll, changed, changed_all}
use Rattle.desk_words.specs.Tables.{AreTables, Rows, new_clerk, published_of}
use Rattle.desk_words.proofs.Changes.{AreTables-changed, AreTables-changed_all}
use Rattle.desk_valid.specs.Valid.{AreValid}
use Rattle.machine_core.specs.Checked.{Gives}
use Rattle.machine_core.specs.Machine.{IsStep, deed_of, machine, making_changes, making_of}
use Rattle.machine_core.specs.declared.making.Making.{Making}
use Rattle.machine_core.specs.Own.{Own, after, changes_of, own_of}
use Rattle.machine_core.specs.declared.deed.Deed.{Deed}
use Rattle.machine_core.specs.Ticket.{IsNumbered, ticketed}
use Rattle.machine_core.specs.OwnRows.{AreOwnRows, HasOwnTarget, IsSoundDeed}
use Rattle.machine_laws.proofs.Callers.{AreNoFewer, HasTarget-more, IsClerkRow-ticketed, IsDone, IsDone-clerk, names_of}
use Rattle.machine_laws.proofs.Carries.{IsSoundDeed-carry}
use Rattle.machine_laws.proofs.Changing.{IsGoodOwn, IsSoundDeed-abandon, IsSoundDeed-commit, IsSoundDeed-confirm}
use Rattle.machine_laws.proofs.Changing.{IsSoundDeed-withdraw}
use Rattle.machine_laws.proofs.Deeds.{changed-caller, changed-deed, fit-deed, length-put_all, own_after}
use Rattle.machine_laws.proofs.DerivedRegions.{IsSoundMaking-add_derived}
use Rattle.machine_laws.proofs.Editions.{IsSoundMaking-add_edition}
use Rattle.machine_laws.proofs.Entering.{IsSoundDeed-batch, IsSoundDeed-enter}
use Rattle.machine_laws.proofs.Lists.{list_at-set_same, map-set_same, slice_get-read, slice_get-there}
use Rattle.machine_laws.proofs.Makings.{IsSoundMaking, IsSoundMaking-add_clerk, IsSoundMaking-add_master}
use Rattle.machine_laws.proofs.Makings.{IsSoundMaking-add_rulebook, IsSoundMaking-add_schema}
use Rattle.machine_laws.proofs.Regions.{IsSoundMaking-add_region}
use Rattle.machine_laws.proofs.Valid.{AreNoFewer-own, AreValid-own, own-rows, with_own}
use Rattle.machine_laws.proofs.Writes.{clerk-written, desk-unchanged, look-unchanged, steward-written, step-holds}

-- a caller's own rows in valid tables are good, and no list is too long
pub good-own : (rows : Rows) (place : ℕ) → AreValid rows → place < length rows.clerks
    → IsGoodOwn (published_of rows) (own_of rows place)
good-own rows place valid within = record {
  rows = own-rows rows valid place;
  sessions = valid.tables.sessions.short place [] (omega (arith, valid.tables.sessions.each));
  records = valid.tables.records.short place [] (omega (arith, valid.tables.records.each));
  batches = valid.tables.batches.short place [] (omega (arith, valid.tables.batches.each));
}

-- each command of a clerk has a sound deed
pub deed-sound : (rows : Rows) (place : ℕ) (work : ClerkWork) (deed : Deed) → AreValid rows → place < length rows.clerks
    → Gives (deed_of (published_of rows) (own_of rows place) work) (Ok deed)
    → IsSoundDeed (published_of rows) (own_of rows place) deed
deed-sound rows place (Enter edition cells confirmed) deed valid within gives = IsSoundDeed-enter (published_of rows)
    (own_of rows place) (good-own rows place valid within) edition cells confirmed deed gives
deed-sound rows place (Confirm number cells) deed valid within gives = IsSoundDeed-confirm (published_of rows)
    (own_of rows place) (good-own rows place valid within) number cells deed gives
deed-sound rows place (Withdraw number names) deed valid within gives = IsSoundDeed-withdraw (published_of rows)
    (own_of rows place) (good-own rows place valid within) number names deed gives
deed-sound rows place (Commit number accept) deed valid within gives = IsSoundDeed-commit rows valid
    (own_of rows place) (good-own rows place valid within) number accept deed gives
deed-sound rows place (Abandon number) deed valid within gives = IsSoundDeed-abandon (published_of rows)
    (own_of rows place) (good-own rows place valid within) number deed gives
deed-sound rows place (Batch edition body) deed valid within gives = IsSoundDeed-batch (published_of rows)
    (own_of rows place) (good-own rows place valid within) edition body deed gives
deed-sound rows place (Carry number version) deed valid within gives = IsSoundDeed-carry (published_of rows)
    (own_of rows place) (good-own rows place valid within) number version deed gives

-- each command of the steward makes what is sound
pub making-sound : (rows : Rows) (work : StewardWork) (making : Making) → AreValid rows
    → Gives (making_of rows work) (Ok making) → IsSoundMaking rows making
making-sound rows (AddClerk name) making valid gives = IsSoundMaking-add_clerk rows valid name making gives
making-sound rows (Publish (Schema body)) making valid gives = IsSoundMaking-add_schema rows valid body making gives
making-sound rows (Publish (Master name body)) making valid gives =
    IsSoundMaking-add_master rows valid name body making gives
making-sound rows (Publish (Rulebook name schema version body)) making valid gives =
    IsSoundMaking-add_rulebook rows valid name schema version body making gives
making-sound rows (Publish (Edition name rulebook masters folded)) making valid gives =
    IsSoundMaking-add_edition rows valid name rulebook masters folded making gives
making-sound rows (AddRegion edition version attributes texts) making valid gives =
    IsSoundMaking-add_region rows valid edition version attributes texts making gives
making-sound rows (AddDerived edition version master pairs from) making valid gives =
    IsSoundMaking-add_derived rows valid edition version master pairs from making gives

-- what a clerk did is done in the tables with the clerk's rows
IsDone-own : (rows : Rows) (place : ℕ) (own : Own) (row : ClerkRow) (what : Act) (target : ℕ) → 0 < place
    → place < length rows.sessions → place < length rows.records → place < length rows.batches
    → HasOwnTarget own what target → IsDone (with_own rows place (record own { row = row })) place what target
IsDone-own rows place own row act.Nothing target following sessions records batches has = absurd has
IsDone-own rows place own row act.Clerk target following sessions records batches has = absurd has
IsDone-own rows place own row act.Schema target following sessions records batches has = absurd has
IsDone-own rows place own row act.Master target following sessions records batches has = absurd has
IsDone-own rows place own row act.Rulebook target following sessions records batches has = absurd has
IsDone-own rows place own row act.Edition target following sessions records batches has = absurd has
IsDone-own rows place own row act.Region target following sessions records batches has = absurd has
IsDone-own rows place own row act.Opened target following sessions records batches has =
    IsDone-clerk (with_own rows place (record own { row = row })) place act.Opened target following (λ same. cc) tt
    (subst (λ list. target < length list) (sym (list_at-set_same rows.sessions place own.sessions sessions)) has)
IsDone-own rows place own row act.Changed target following sessions records batches has =
    IsDone-clerk (with_own rows place (record own { row = row })) place act.Changed target following (λ same. cc) tt
    (subst (λ list. target < length list) (sym (list_at-set_same rows.sessions place own.sessions sessions)) has)
IsDone-own rows place own row act.Committed target following sessions records batches has =
    IsDone-clerk (with_own rows place (record own { row = row })) place act.Committed target following (λ same. cc) tt
    (subst (λ list. target < length list) (sym (list_at-set_same rows.records place own.records records)) has)
IsDone-own rows place own row act.Batched target following sessions records batches has =
    IsDone-clerk (with_own rows place (record own { row = row })) place act.Batched target following (λ same. cc) tt
    (subst (λ list. target < length list) (sym (list_at-set_same rows.batches place own.batches batches)) has)

-- what a caller did is done, and the row is that of the new request
module _ (rows : Rows) (valid : AreValid rows) (place : ℕ) (within : place < length rows.clerks) (ticket : Ticket)
    (some : 1 ≤ ticket.number) (few : ticket.number ≤ 999999999999) where
  -- the caller's row stands in the clerks
  row-stands : slice_get rows.clerks place ≡ Some (own_of rows place).row
  row-stands =
      let there = slice_get-there rows.clerks place within in
      there.1 ∙ ap Some (sym (slice_get-read rows.clerks place there.0 (new_clerk []) there.1))

  -- own rows that are sound, with the ticket, leave valid tables
  ticketed-valid : (own : Own) (what : Act) (target : ℕ) → own.row ≡ ticketed (own_of rows place).row ticket what target
      → IsDone (with_own rows place own) place what target → AreNoFewer rows (with_own rows place own)
      → AreOwnRows (published_of rows) own.sessions own.records own.batches → AreTables (with_own rows place own)
      → AreValid (with_own rows place own)
  ticketed-valid own what target is done fewer good tables =
      let old : ClerkRow = (own_of rows place).row in
      let name : own.row.name ≡ old.name = ap (λ (row : ClerkRow). row.name) is in
      let names : names_of (set rows.clerks place own.row) ≡ names_of rows.clerks =
      map-set_same (λ (row : ClerkRow). row.name) rows.clerks place own.row old row-stands name in
      let number : own.row.last ≡ ticket.number = ap (λ (row : ClerkRow). row.last) is in
      let there : IsDone (with_own rows place own) place own.row.act own.row.target =
      subst (λ (row : ClerkRow). IsDone (with_own rows place own) place row.act row.target) (sym is) done in
      AreValid-own rows valid place within own old row-stands name good fewer (IsClerkRow-ticketed rows
      (with_own rows place own) place old own.row (valid.clerks place old row-stands) (ap (take place) names) name
      (omega (arith, number, some)) (omega (arith, number, few)) there) tables

  -- a sound deed fits, and leaves valid tables
  pub AreValid-deed : (deed : Deed) → 0 < place → IsSoundDeed (published_of rows) (own_of rows place) deed
      → FitAll rows (changes_of place (own_of rows place).row ticket deed)
      × AreValid (changed_all rows (changes_of place (own_of rows place).row ticket deed))
  AreValid-deed deed following sound =
      let own : Own = own_of rows place in
      let new : Own = own_after own ticket deed in
      let changes : List Change = changes_of place own.row ticket deed in
      let fit : FitAll rows changes = fit-deed rows valid.tables place within ticket deed sound.puts_fit
      sound.records_short sound.batches_short in
      let same : changed_all rows changes ≡ with_own rows place new = changed-deed rows valid.tables place within
      ticket deed in
      let tables : AreTables (with_own rows place new) =
      subst AreTables same (AreTables-changed_all rows changes fit valid.tables) in
      let fewer : AreNoFewer rows (with_own rows place new) = AreNoFewer-own rows place new valid.tables within
      (length-put_all own.sessions deed.sessions)
      (omega (arith, length-append own.records (option_to_list deed.record_row)))
      (omega (arith, length-append own.batches (option_to_list deed.batch))) in
      let done : IsDone (with_own rows place new) place deed.act deed.target = IsDone-own rows place (after own deed)
      new.row
      deed.act deed.target following (omega (arith, valid.tables.sessions.each)) (omega
      (arith, valid.tables.records.each))
      (omega (arith, valid.tables.batches.each)) sound.target in
      (fit, subst AreValid (sym same) (ticketed-valid new deed.act deed.target refl done fewer sound.rows tables))

  -- and so does the caller's row alone
  pub AreValid-caller : (what : Act) (target : ℕ) → IsDone rows place what target
      → Fits rows (change.Clerk place (ticketed (own_of rows place).row ticket what target))
      × AreValid (changed rows (change.Clerk place (ticketed (own_of rows place).row ticket what target)))
  AreValid-caller what target done =
      let row : ClerkRow = ticketed (own_of rows place).row ticket what target in
      let new : Own = record (own_of rows place) { row = row } in
      let fits : Fits rows (change.Clerk place row) = (omega arith, omega (arith, valid.tables.clerks)) in
      let sessions = set-get_or rows.sessions place [] in
      let records = set-get_or rows.records place [] in
      let batches = set-get_or rows.batches place [] in
      let lists : with_own rows place new ≡ record rows { clerks = set rows.clerks place row } = λ i. record rows
      { clerks = set rows.clerks place row; sessions = sessions i; records = records i; batches = batches i } in
      let same : changed rows (change.Clerk place row) ≡ with_own rows place new =
      changed-caller rows place row within ∙ sym lists in
      let tables = subst AreTables same (AreTables-changed rows (change.Clerk place row) fits valid.tables) in
      let fewer : AreNoFewer rows (with_own rows place new) = AreNoFewer-own rows place new valid.tables within
      (omega arith) (omega arith) (omega arith) in
      let there : IsDone (with_own rows place new) place what target = record {
        some = done.some;
        steward = done.steward;
        clerk = done.clerk;
        stands = HasTarget-more rows (with_own rows place new) fewer place what target done.stands;
      } in (
        fits,
        subst AreValid (sym same)
            (ticketed-valid new what target refl there fewer (own-rows rows valid place) tables),
      )

-- a new write of the steward fits, and leaves valid tables
making-valid : (rows : Rows) (ticket : Ticket) (making : Making) → AreValid rows → 1 ≤ ticket.number
    → ticket.number ≤ 999999999999 → IsSoundMaking rows making
    → FitAll rows (making_changes (own_of rows 0).row ticket making)
    × AreValid (changed_all rows (making_changes (own_of rows 0).row ticket making))
making-valid rows ticket making valid some few sound =
    let next : Rows = changed rows making.change in
    let both = AreValid-caller next sound.valid 0 sound.valid.tables.steward ticket some few making.act making.target
    sound.is_done in
    let Sound : ClerkRow → Type 0 = λ row. FitAll rows (making_changes row ticket making)
    × AreValid (changed_all rows (making_changes row ticket making)) in
    subst Sound (ap (λ (own : Own). own.row) (sound.own 0 valid.tables.steward)) ((sound.fits, (both.0, tt)), both.1)

-- no changes leave the tables as they are
none-valid : (rows : Rows) (changes : List Change) → AreValid rows → changes ≡ []
    → FitAll rows changes × AreValid (changed_all rows changes)
none-valid rows changes valid none =
    subst (λ made. FitAll rows made × AreValid (changed_all rows made)) (sym none) (tt, valid)

-- what is answered fits, and leaves valid tables
made-valid : (rows : Rows) (command : Command) (made : Reply × List Change) → AreValid rows → IsNumbered command
    → Gives (machine rows command) (Ok made) → FitAll rows made.1 × AreValid (changed_all rows made.1)
made-valid rows (Steward ticket work) made valid numbered gives = elim (steward-written rows ticket work made gives) [
  | inl again ↦ none-valid rows made.1 valid again.unchanged
  | inr new ↦ subst (λ changes. FitAll rows changes × AreValid (changed_all rows changes)) (sym new.changed_so)
      (making-valid rows ticket new.making valid numbered.0 numbered.1
      (making-sound rows work new.making valid new.makes))
]
made-valid rows (Clerk name ticket work) made valid numbered gives =
    elim (clerk-written rows name ticket work made gives) [
      | inl again ↦ none-valid rows made.1 valid again.unchanged
      | inr new ↦ subst (λ changes. FitAll rows changes × AreValid (changed_all rows changes)) (sym new.changed)
          (AreValid-deed rows valid new.place new.is_place.within ticket numbered.0 numbered.1 new.deed
          new.is_place.following
          (deed-sound rows new.place work new.deed valid new.is_place.within new.does))
    ]
made-valid rows (Look name look) made valid numbered gives =
    none-valid rows made.1 valid (look-unchanged rows name look made gives)
made-valid rows (Desk look) made valid numbered gives =
    none-valid rows made.1 valid (desk-unchanged rows look made gives)

-- the changes of a step fit, and leave valid tables
pub step-valid : (rows : Rows) (command : Command) (answer : Reply) (changes : List Change) → AreValid rows
    → IsNumbered command → IsStep rows command answer changes → FitAll rows changes
    × AreValid (changed_all rows changes)
step-valid rows command answer changes valid numbered = step-holds
    (λ _ made. FitAll rows made × AreValid (changed_all rows made)) rows command
    (λ made gives. made-valid rows command made valid numbered gives) (λ refusal gives. (tt, valid)) answer changes
