-- What a look at a Carry is told holds until the clerk's next accepted write.
use Rattle.std.proofs.Common.{◌≡◌, ◌⊎◌, ◌∙◌, ℕ, ◌<◌, true, false, List, [], ◌∷◌, ◌++◌, length, Some, inl, refl, sym, ap}
use Rattle.std.proofs.Common.{subst}
use Rattle.std.specs.Prelude.{◌==◌, ◌&&◌, All, Ok}
use Rattle.std.specs.Str.{bytes_eq}
use Rattle.std.proofs.lemmas.List.Elements.{All-head, All-tail}
use Rattle.desk_words.specs.declared.change.Change.{Change}
use Rattle.desk_words.specs.declared.clerk_work.ClerkWork.TheVariants.{Carry}
use Rattle.desk_words.specs.declared.command.Command.{Command}
use Rattle.desk_words.specs.declared.command.Command.TheVariants.{Clerk, Look}
use Rattle.desk_words.specs.declared.command.Ticket.{Ticket}
use Rattle.desk_words.specs.declared.look.Look.TheVariants.{View, Carry as CarryLook}
use Rattle.desk_words.specs.declared.reply.Carried.{Carried}
use Rattle.desk_words.specs.declared.reply.Reply.{Reply}
use Rattle.desk_words.specs.declared.reply.Reply.TheVariants as reply
use Rattle.desk_words.specs.declared.rows.edition.EditionRow.{EditionRow}
use Rattle.desk_words.specs.declared.rows.session.SessionRow.{SessionRow}
use Rattle.desk_words.specs.Changes.{changed_all}
use Rattle.desk_words.specs.Tables.{Published, Rows, published_of}
use Rattle.desk_valid.specs.Valid.{AreValid}
use Rattle.machine_core.specs.Checked.{Gives, ComesTo, IsFound}
use Rattle.machine_core.specs.Clerk.Carry.{carry_row}
use Rattle.machine_core.specs.Finding.{edition_named}
use Rattle.machine_core.specs.Machine.{IsStep}
use Rattle.machine_core.specs.Own.{Own, own_of}
use Rattle.machine_core.specs.OwnRows.{AreOwnRows}
use Rattle.machine_core.specs.Tests.{active_session}
use Rattle.machine_core.specs.Views.{edition_at}
use Rattle.machine_core.proofs.Carried.{carry-newer}
use Rattle.machine_core.proofs.Widths.{edition-stands}
use Rattle.machine_laws.specs.Callers.{asks, clerk}
use Rattle.machine_laws.specs.Events.{AreAnswered, Event, is_accepted, is_write_of, tables_after}
use Rattle.machine_laws.proofs.Carried.{IsCarryingOf, IsShown, carry-look, shown-after, shown-before}
use Rattle.machine_core.proofs.Commands.{IsActiveSession, carry_row-ok}
use Rattle.machine_laws.proofs.Kept.{bound_at-more, edition_at-more, view_at-more, view_of-more}
use Rattle.machine_laws.proofs.Listed.{next-valid}
use Rattle.machine_laws.proofs.More.{AreMore}
use Rattle.machine_laws.proofs.Names.{clerk_of-begins, position-append}
use Rattle.machine_laws.proofs.Numbers.{accepted-some, not-write}
use Rattle.machine_laws.proofs.Staying.{IsLonger, step-kept, step-longer}
use Rattle.machine_laws.proofs.Unchanged.{step-unchanged}
use Rattle.machine_laws.proofs.Valid.{own-rows}
use Rattle.machine_laws.proofs.Writes.{look-unchanged}

-- an active session is found
active-done : (sessions : List SessionRow) (number : ℕ) (session : SessionRow)
    → IsActiveSession sessions number session → IsFound (active_session sessions number) session
active-done sessions number session is = rw (is.found, is.active) refl

module _ (rows : Rows) (valid : AreValid rows) (other : Published) (more : AreMore (published_of rows) other) where
  -- a version that is found is found where more is published
  edition_named-more : (name : List ℕ) (version place : ℕ) → edition_named rows.editions name version ≡ Some place
      → edition_named other.editions name version ≡ Some place
  edition_named-more name version place is =
      let is_named : EditionRow → _ = λ row. bytes_eq row.name name && (row.version == version) in
      ap (λ list. edition_named list name version) more.editions.1
      ∙ position-append is_named rows.editions more.editions.0 place is

  module _ (own : Own) (are : AreOwnRows (published_of rows) own.sessions own.records own.batches)
      (number version : ℕ) where
    -- and so a session is carried alike
    carry_row-more : (moved : SessionRow) → Gives (carry_row (published_of rows) own number version) (Ok moved)
        → Gives (carry_row other own number version) (Ok moved)
    carry_row-more moved gives =
        let is = carry_row-ok (published_of rows) own number version moved gives in
        let pinned : EditionRow = edition_at (published_of rows) is.session.edition in
        let here = edition-stands (published_of rows) is.session.edition is.before is.binds in
        let there = edition-stands (published_of rows) is.edition is.after is.binds_after in
        subst (λ one. ComesTo one (Ok moved)) (sym (carry-newer other own number version is.session pinned
        (active-done own.sessions number is.session is.stands)
        (sym (edition_at-more rows valid other more is.session.edition here)) is.edition
        (edition_named-more pinned.name version is.edition is.named) is.before is.after is.newer
        (bound_at-more rows valid other more is.session.edition here ∙ is.binds)
        (bound_at-more rows valid other more is.edition there ∙ is.binds_after))) (ap Ok is.is)

    -- what is told of it stays
    IsCarryingOf-more : (carried : Carried) → IsCarryingOf (published_of rows) own number version carried
        → IsCarryingOf other own number version carried
    IsCarryingOf-more carried is =
        let found = carry_row-ok (published_of rows) own number version is.moved is.carries in
        let within : is.moved.edition < length rows.editions =
        subst (λ (one : SessionRow). one.edition < length rows.editions) (sym found.is)
        (edition-stands (published_of rows) found.edition found.after found.binds_after) in
        record {
          moved = is.moved;
          carries = carry_row-more is.moved is.carries;
          before = subst (λ one. ComesTo one (Ok carried.before))
              (sym (view_at-more rows valid other more own are number))
              is.before;
          following = subst (λ one. ComesTo one (Ok carried.after))
              (sym (view_of-more rows valid other more number is.moved within)) is.following;
          changed = is.changed;
        }

-- a step that is no accepted write of the clerk leaves what is shown
shown-stays : (rows : Rows) → AreValid rows → (name : List ℕ) (number version : ℕ) (carried : Carried)
    → IsShown rows name number version carried → (command : Command) (answer : Reply) (changes : List Change)
    → IsStep rows command answer changes → (changes ≡ []) ⊎ (asks (clerk name) command ≡ false)
    → IsShown (changed_all rows changes) name number version carried
shown-stays rows valid name number version carried is command answer changes step not_its =
    let next : Rows = changed_all rows changes in
    let longer : IsLonger rows valid next = step-longer rows valid command answer changes step in
    let own : Own = own_of rows is.place in
    let same : own_of next is.place ≡ own =
    step-kept rows valid (clerk name) is.place command answer changes step not_its is.found in
    record {
      place = is.place;
      found = clerk_of-begins rows.clerks next.clerks name is.place longer.names is.found;
      is = subst (λ one. IsCarryingOf (published_of next) one number version carried) (sym same)
          (IsCarryingOf-more rows valid (published_of next) longer.published own (own-rows rows valid is.place) number
          version carried is.is);
    }

-- and so do such requests, one after another
shown-through : (rows : Rows) (name : List ℕ) (number version : ℕ) (carried : Carried) (between others : List Event)
    → AreValid rows → IsShown rows name number version carried
    → All (λ one. is_write_of (clerk name) one ≡ false) between → AreAnswered rows (between ++ others)
    → IsShown (tables_after rows between) name number version carried × AreAnswered (tables_after rows between) others
shown-through rows name number version carried [] others valid is none steps = (is, steps)
shown-through rows name number version carried (one ∷ between) others valid is none steps =
    let Quiet : Event → Type 0 = λ event. is_write_of (clerk name) event ≡ false in
    let not_its = not-write (clerk name) one (All-head Quiet one between none) in
    shown-through (changed_all rows one.changes) name number version carried between others
    (next-valid rows one valid steps.0 steps.1)
    (shown-stays rows valid name number version carried is one.command one.answer one.changes steps.1 not_its)
    (All-tail Quiet one between none) steps.2

module _ (rows : Rows) (valid : AreValid rows) (name : List ℕ) (number version : ℕ) (carried : Carried)
    (event one : Event) (between : List Event)
    (looks : event.command ≡ Look name (CarryLook number version)) (told : event.answer ≡ reply.Carried carried)
    (none : All (λ other. is_write_of (clerk name) other ≡ false) between)
    (steps : AreAnswered rows (event ∷ (between ++ one ∷ []))) where
  -- what the look is told holds when the later request comes
  later : IsShown (tables_after (changed_all rows event.changes) between) name number version carried
      × AreAnswered (tables_after (changed_all rows event.changes) between) (one ∷ [])
  later =
      let look : Command = Look name (CarryLook number version) in
      let step : IsStep rows look (reply.Carried carried) event.changes =
      subst (λ answer. IsStep rows look answer event.changes) told
      (subst (λ command. IsStep rows command event.answer event.changes) looks steps.1) in
      let is = carry-look rows name number version carried event.changes step in
      let unchanged : event.changes ≡ [] = step-unchanged rows look (reply.Carried carried) event.changes
      (look-unchanged rows name (CarryLook number version)) step in
      shown-through (changed_all rows event.changes) name number version carried between (one ∷ [])
      (next-valid rows event valid steps.0 steps.1)
      (shown-stays rows valid name number version carried is look (reply.Carried carried) event.changes step
      (inl unchanged)) none steps.2

  pub before-later : one.command ≡ Look name (View number) → one.answer ≡ reply.View carried.before
  before-later views =
      let there : Rows = tables_after (changed_all rows event.changes) between in
      shown-before there name number version carried one.answer one.changes later.0
      (subst (λ command. IsStep there command one.answer one.changes) views later.1.1)

  pub after-later : (ticket : Ticket) → one.command ≡ Clerk name ticket (Carry number version) → is_accepted one ≡ true
      → one.answer ≡ reply.View carried.after
  after-later ticket carries accepted =
      let there : Rows = tables_after (changed_all rows event.changes) between in
      shown-after there name ticket number version carried one.answer one.changes later.0
      (subst (λ command. IsStep there command one.answer one.changes) carries later.1.1) (accepted-some one accepted)
