-- What stands first on the shelf, by what is replied to a clerk.
use Rattle.std.proofs.Common.{◌≡◌, ◌∙◌, ℕ, ◌+◌, ◌-◌, List, [], ◌∷◌, Some, inl, inr, refl, sym, ap, subst, arith}
use Rattle.std.specs.Prelude.{All, IfSome, Ok}
use Rattle.desk_words.specs.declared.command.Command.{Command}
use Rattle.desk_words.specs.declared.command.Command.TheVariants.{Look}
use Rattle.desk_words.specs.declared.look.Look.{Look as LookOf}
use Rattle.desk_words.specs.declared.look.Look.TheVariants as look
use Rattle.desk_words.specs.declared.reply.Reply.{Reply}
use Rattle.desk_words.specs.declared.reply.Reply.TheVariants as reply
use Rattle.desk_words.specs.declared.reply.Suggested.{Suggested}
use Rattle.desk_words.specs.declared.rows.act.Act.{Act}
use Rattle.desk_words.specs.declared.rows.act.Act.TheVariants as act
use Rattle.desk_words.specs.declared.rows.session.SessionRow.{SessionRow}
use Rattle.desk_words.specs.declared.view.View.{View}
use Rattle.desk_words.specs.Tables.{Published, Rows, published_of}
use Rattle.desk_valid.specs.declared.bound.Bound.{Bound}
use Rattle.master_index.specs.declared.shelf.Shelved.{Shelved}
use Rattle.machine_core.specs.Answers.{bound_for, state_of}
use Rattle.machine_core.specs.Checked.{Answer, Checked, ◌>>=◌, answer_for, done, Gives, IsFound}
use Rattle.machine_core.specs.Content.{Content, advises, content_of, derives, plain, records, refuses, shows}
use Rattle.machine_core.specs.Clerk.Confirm.{confirm_row}
use Rattle.machine_core.specs.Finding.{session_at}
use Rattle.machine_core.specs.Kept.{batch_with, kept_reply}
use Rattle.machine_core.specs.Look.Preview.{preview}
use Rattle.machine_core.specs.Look.Suggest.{suggestion_of}
use Rattle.machine_core.specs.Look.View.{view_at}
use Rattle.machine_core.specs.Look.{look_reply}
use Rattle.machine_core.specs.Machine.{clerk_of}
use Rattle.machine_core.specs.Own.{Own, after, own_of}
use Rattle.machine_core.specs.OwnRows.{AreOwnRows, IsSoundDeed}
use Rattle.machine_core.specs.Sessions.{IsSessionOf}
use Rattle.machine_core.specs.Shelves.{IsFirst}
use Rattle.machine_core.specs.Tests.{active}
use Rattle.machine_core.specs.Views.{edition_at, view_of, view_with}
use Rattle.machine_core.specs.declared.deed.Deed.{Deed}
use Rattle.machine_core.proofs.Chains.{Gives-bind_ok, done-value}
use Rattle.machine_core.proofs.Looks.{Found, look-found}
use Rattle.machine_laws.proofs.Sessions.{session_at-found}
use Rattle.machine_views.specs.Doing.{DoesAsTold, PutsOne, StandsFirst}
use Rattle.machine_views.specs.Looking.{IsLookFirst, IsSessionFirst, IsTargetFirst}
use Rattle.machine_views.proofs.Keeping.{put-stands, session-stands, session_at-place}
use Rattle.machine_views.proofs.Previewing.{first-there}
use Rattle.session_machine.specs.Booked.{IsBooked, IsBookedFor, NamesFirst, ShowsFirst}
use Rattle.machine_core.proofs.Commands.{confirm_row-ok}
use Rattle.machine_core.proofs.Walks.{Gives-Met, Met-Gives}

-- a view that is given names the edition of its session
pub view-name : (published : Published) (number : ℕ) (session : SessionRow) (view : View)
    → Gives (view_of published number session) (Ok view)
    → (view.edition ≡ (edition_at published session.edition).name)
    × (view.version ≡ (edition_at published session.edition).version)
view-name published number session view gives =
    let last : Bound → Answer → Checked View = λ bound answer. done (view_with published number session bound answer) in
    let bound = Gives-bind_ok (bound_for published session) (λ bound. answer_for bound.kit (state_of session)
    >>= last bound) view gives in
    let answer = Gives-bind_ok (answer_for bound.0.kit (state_of session)) (last bound.0) view bound.2 in
    let is : view ≡ view_with published number session bound.0 answer.0 =
    done-value (view_with published number session bound.0 answer.0) view answer.2 in
    (ap (λ (one : View). one.edition) is, ap (λ (one : View). one.version) is)

-- where the edition of the session of a number is first, it is that of the session
there-first : (sessions : List SessionRow) (number : ℕ) (session : SessionRow) (held : List (ℕ × Shelved))
    → session_at sessions number ≡ Some session → IsSessionFirst sessions number held → IsFirst session.edition held
there-first sessions number session held stands first =
    subst (λ found. IfSome found (λ one. IsFirst one.edition held)) stands first

-- the session that a deed shows alone is its target
target-one : (published : Published) (own : Own) (deed : Deed) (held : List (ℕ × Shelved))
    → IsSoundDeed published own deed → PutsOne deed → All (λ put. IsFirst put.1.edition held) deed.sessions
    → IsSessionFirst (after own deed).sessions (deed.target + 1) held
target-one published own deed held sound puts first =
    let stands = session_at-place (after own deed).sessions deed.target
    ∙ put-stands published own deed sound puts.session puts.is in
    let First : ℕ × SessionRow → Type 0 = λ put. IsFirst put.1.edition held in
    let all : All First ((deed.target, puts.session) ∷ []) = subst (All First) puts.is first in
    first-there (after own deed).sessions (deed.target + 1) puts.session held stands
    (all 0 (deed.target, puts.session) (omega arith))

-- the session that a deed is told to show stands where its target is
pub target-first : (published : Published) (own : Own) (deed : Deed) (held : List (ℕ × Shelved))
    → IsSoundDeed published own deed → (what : Act) → DoesAsTold own deed what → StandsFirst deed what held
    → IsTargetFirst (after own deed).sessions what deed.target held
target-first published own deed held sound act.Opened told first = target-one published own deed held sound told first
target-first published own deed held sound act.Changed told first = target-one published own deed held sound told first
target-first published own deed held sound act.Nothing told first = tt
target-first published own deed held sound act.Clerk told first = tt
target-first published own deed held sound act.Schema told first = tt
target-first published own deed held sound act.Master told first = tt
target-first published own deed held sound act.Rulebook told first = tt
target-first published own deed held sound act.Edition told first = tt
target-first published own deed held sound act.Region told first = tt
target-first published own deed held sound act.Committed told first = tt
target-first published own deed held sound act.Batched told first = tt

module _ (rows : Rows) (held : List (ℕ × Shelved)) where
  -- what stewards published
  abbrev published : Published
  published = published_of rows

  -- a view that is given shows its session's edition
  pub view-shows : (number : ℕ) (session : SessionRow) (view : View) → IsSessionOf published session
      → IsFirst session.edition held → Gives (view_of published number session) (Ok view) → ShowsFirst rows view held
  view-shows number session view is first gives =
      let named = view-name published number session view gives in
      record { edition = session.edition; within = is.edition; name = named.0; version = named.1; first = first }

  module _ (own : Own) (are : AreOwnRows published own.sessions own.records own.batches) where
    -- the view of a number shows the edition of its session
    pub view_at-shows : (number : ℕ) (view : View) → IsSessionFirst own.sessions number held
        → Gives (view_at published own number) (Ok view) → ShowsFirst rows view held
    view_at-shows number view first gives =
        let (session, stands, shown) = Met-Gives (view_at published own number) (Ok view) gives in
        let there = session_at-found own.sessions number session stands in
        view-shows number session view (session-stands published own are (number - 1) session there.1)
        (there-first own.sessions number session held stands first)
        (Gives-Met (view_of published number session) (Ok view) shown)

    -- so does that of a Preview
    pub preview-shows : (number : ℕ) (cells : List (List ℕ × List ℕ)) (view : View)
        → IsSessionFirst own.sessions number held → Gives (preview published own number cells) (Ok view)
        → ShowsFirst rows view held
    preview-shows number cells view first gives =
        let (session, confirmed, shown) =
        Gives-bind_ok (confirm_row published own number cells) (view_of published number) view gives in
        let is = confirm_row-ok published own number cells session confirmed in
        let there = session_at-found own.sessions number is.old is.stands.found in
        let old = session-stands published own are (number - 1) is.old there.1 in
        let named = view-name published number session view shown in
        let edition = ap (λ (one : SessionRow). edition_at published one.edition) is.is in
        record {
          edition = is.old.edition;
          within = old.edition;
          name = named.0 ∙ ap (λ one. one.name) edition;
          version = named.1 ∙ ap (λ one. one.version) edition;
          first = there-first own.sessions number is.old held is.stands.found first;
        }

    module _ (command : Command) where
      -- a reply that is this one is booked as this one is
      booked-as : (answer told : Reply) → answer ≡ told → IsBooked rows command told held
          → IsBooked rows command answer held
      booked-as answer told is = subst (λ one. IsBooked rows command one held) (sym is)

      -- a kept reply shows what is first
      pub kept-booked : (what : Act) (place : ℕ) (answer : Reply) → IsTargetFirst own.sessions what place held
          → Gives (kept_reply published own what place) (Ok answer) → IsBooked rows command answer held
      kept-booked act.Opened place answer first gives =
          let (view, shown, is) = Met-Gives (kept_reply published own act.Opened place) (Ok answer) gives in
          booked-as answer (reply.Opened view) is (view_at-shows (place + 1) view first
          (Gives-Met (view_at published own (place + 1)) (Ok view) shown))
      kept-booked act.Changed place answer first gives =
          let (view, shown, is) = Met-Gives (kept_reply published own act.Changed place) (Ok answer) gives in
          booked-as answer (reply.View view) is (view_at-shows (place + 1) view first
          (Gives-Met (view_at published own (place + 1)) (Ok view) shown))
      kept-booked act.Committed place answer first gives =
          let (row, stands, is) = Met-Gives (kept_reply published own act.Committed place) (Ok answer) gives in
          booked-as answer (reply.Committed (place + 1) row.session row.certain) is tt
      kept-booked act.Batched place answer first gives =
          let (row, stands, (all, assessed, is)) =
          Met-Gives (kept_reply published own act.Batched place) (Ok answer) gives in
          booked-as answer (batch_with (place + 1) row all) is tt
      kept-booked act.Nothing place answer first gives = absurd gives
      kept-booked act.Clerk place answer first gives = absurd gives
      kept-booked act.Schema place answer first gives = absurd gives
      kept-booked act.Master place answer first gives = absurd gives
      kept-booked act.Rulebook place answer first gives = absurd gives
      kept-booked act.Edition place answer first gives = absurd gives
      kept-booked act.Region place answer first gives = absurd gives

module _ (rows : Rows) (held : List (ℕ × Shelved)) (name : List ℕ) (place : ℕ)
    (found : IsFound (clerk_of rows.clerks name) place) where
  module _ (own : Own) (is_own : own ≡ own_of rows place) where
    -- a session that a Suggest advises on is the one that it names
    suggest-named : (number : ℕ) (suggested : Suggested) → IsSessionFirst own.sessions number held
        → Gives (suggestion_of (published_of rows) own number) (Ok suggested)
        → NamesFirst rows (Look name (look.Suggest number)) held
    suggest-named number suggested first gives =
        let (session, (one, stands, (passed, active, is_session)), advised) =
        Met-Gives (suggestion_of (published_of rows) own number) (Ok suggested) gives in
        record {
          session = one;
          names = record {
            own = own;
            asks = record { name = name; asks = refl; place = place; found = found; is_own = is_own };
            number = number;
            names = refl;
            stands = stands;
          };
          first = there-first own.sessions number one held stands first;
        }

    module _ (are : AreOwnRows (published_of rows) own.sessions own.records own.batches) (what : LookOf)
        (first : IsLookFirst own.sessions what held) where
      -- what is first after a look is first after this one, where it is the same
      looked-first : (other : LookOf) → what ≡ other → IsLookFirst own.sessions other held
      looked-first other is = subst (λ one. IsLookFirst own.sessions one held) is first

      -- what a look has found is booked
      found-booked : (content : Content) → Found (published_of rows) own what content
          → IsBookedFor rows (Look name what) content held
      found-booked (shows view) (inl (number, is, given)) =
          view_at-shows rows held own are number view (looked-first (look.View number) is) given
      found-booked (shows view) (inr (number, cells, is, given)) =
          preview-shows rows held own are number cells view (looked-first (look.Preview number cells) is) given
      found-booked advises (number, suggested, is, given) =
          subst (λ one. NamesFirst rows (Look name one) held) (sym is)
          (suggest-named number suggested (looked-first (look.Suggest number) is) given)
      found-booked (records sheet) found = tt
      found-booked (derives sheet) found = tt
      found-booked (refuses refusal) found = tt
      found-booked plain found = tt

      -- the reply to a look shows what is first
      pub look-booked : (answer : Reply) → Gives (look_reply (published_of rows) own what) (Ok answer)
          → IsBooked rows (Look name what) answer held
      look-booked answer gives =
          found-booked (content_of answer) (look-found (published_of rows) own what answer gives)
