-- A Carry moves one session, as the look before it shows.
use Rattle.std.proofs.Common.{◌≡◌, ◌≢◌, ◌∙◌, ℕ, ◌+◌, ◌-◌, ◌<◌, ◌≤◌, Bool, true, false, List, [], ◌∷◌, length, set, Some}
use Rattle.std.proofs.Common.{inl, inr, refl, sym, ap, subst, arith}
use Rattle.std.specs.Prelude.{◌&&◌, ◌==◌, Ok, slice_get}
use Rattle.std.specs.Str.{bytes_eq}
use Rattle.std.proofs.lemmas.Bool.Decides.{nat_tests}
use Rattle.std.proofs.lemmas.List.Quantifiers.{position-Some}
use Rattle.std.proofs.lemmas.Option.{same_Some, slice_get_within}
use Rattle.std.proofs.lemmas.Slice.Eq.{bytes_eq-Decides}
use Rattle.desk_carry.specs.Changes.{AreChanged}
use Rattle.desk_carry.specs.Moves.{places_apart}
use Rattle.desk_words.specs.declared.change.Change.{Change}
use Rattle.desk_words.specs.declared.change.Change.TheVariants as change
use Rattle.desk_words.specs.declared.clerk_work.ClerkWork.TheVariants.{Carry}
use Rattle.desk_words.specs.declared.command.Command.TheVariants.{Clerk, Look}
use Rattle.desk_words.specs.declared.command.Ticket.{Ticket}
use Rattle.desk_words.specs.declared.look.Look.TheVariants.{View, Carry as CarryLook}
use Rattle.desk_words.specs.declared.reply.Carried.{Carried}
use Rattle.desk_words.specs.declared.reply.Reply.{Reply}
use Rattle.desk_words.specs.declared.reply.Reply.TheVariants as reply
use Rattle.desk_words.specs.declared.rows.act.Act.TheVariants as act
use Rattle.desk_words.specs.declared.rows.clerk.ClerkRow.{ClerkRow}
use Rattle.desk_words.specs.declared.rows.edition.EditionRow.{EditionRow}
use Rattle.desk_words.specs.declared.rows.session.SessionRow.{SessionRow}
use Rattle.desk_words.specs.declared.view.View.{View as ViewOf}
use Rattle.desk_words.specs.Changes.{changed, changed_all}
use Rattle.desk_words.specs.Tables.{Published, Rows, published_of}
use Rattle.desk_valid.specs.declared.bound.Bound.{Bound}
use Rattle.desk_valid.specs.Bindings.{bound_at}
use Rattle.fix_engine.specs.Verdicts.{IsAnswer}
use Rattle.machine_core.specs.Answers.{state_of}
use Rattle.machine_core.specs.Checked.{Answer, done, Gives, IsFound}
use Rattle.machine_core.specs.Clerk.Carry.{carry_row, carry}
use Rattle.machine_core.specs.declared.deed.Deed.{Deed}
use Rattle.machine_core.specs.Finding.{edition_named, session_at}
use Rattle.machine_core.specs.Kept.{kept_reply}
use Rattle.machine_core.specs.Look.Carry.{carrying}
use Rattle.machine_core.specs.Look.View.{view_at}
use Rattle.machine_core.specs.Machine.{IsStep, clerk_of}
use Rattle.machine_core.specs.Own.{Own, after, changes_of, own_of, puts}
use Rattle.machine_core.specs.Views.{edition_at, view_of, view_with}
use Rattle.machine_core.specs.Look.{look_reply}
use Rattle.machine_core.proofs.Chains.{Gives-bind, Gives-unique}
use Rattle.machine_core.proofs.Commands.{IsCarryOf, carry_row-ok}
use Rattle.machine_core.proofs.Walks.{Gives-Met, Met-Gives}
use Rattle.machine_laws.specs.Carries.{CarriesOne, IsCarried, row_after}
use Rattle.machine_laws.proofs.Deeds.{changed-caller, put-within}
use Rattle.machine_laws.proofs.Isolating.{write-cases}
use Rattle.machine_laws.proofs.Lists.{slice_get-set_same}
use Rattle.machine_laws.proofs.Sessions.{session_at-found, IsActiveAt-session}
use Rattle.machine_laws.proofs.Told.{look-told, told-again}
use Rattle.machine_laws.proofs.Writes.{IsNew}

-- an edition stands under the name and the version by which it was found
edition-named : (published : Published) (name : List ℕ) (version place : ℕ)
    → edition_named published.editions name version ≡ Some place
    → ((edition_at published place).name ≡ name) × ((edition_at published place).version ≡ version)
edition-named published name version place is =
    let past : EditionRow = record { name = []; version = 0; rulebook = 0; masters = []; folded = [] } in
    let found = position-Some (λ (row : EditionRow). bytes_eq row.name name && (row.version == version))
    published.editions place past is in
    let row : EditionRow = edition_at published place in
    let both = and_both (bytes_eq row.name name) (row.version == version) found.1 in
    ((bytes_eq-Decides row.name name).0 both.0, grind (arith, nat_tests, both.1))
  where
    and_both : (one other : Bool) → (one && other) ≡ true → (one ≡ true) × (other ≡ true)
    and_both true other is = (refl, is)
    and_both false other is = absurd (cc)

-- what the tests of a Carry found is carried
IsCarried-found : (published : Published) (own : Own) (number version : ℕ) (moved : SessionRow)
    → (is : IsCarryOf published own number version moved) → IsCarried published version is.session moved
IsCarried-found published own number version moved is =
    let named = edition-named published (edition_at published is.session.edition).name version is.edition is.named in
    let words : List (List ℕ) = is.before.names.attributes in
    let others : List (List ℕ) = is.after.names.attributes in
    subst (IsCarried published version is.session) (sym is.is) (record {
      same_name = named.0;
      asked_for = named.1;
      newer = is.newer;
      before = is.before;
      following = is.after;
      binds = is.binds;
      binds_following = is.binds_after;
      moved = record {
        typed = moved.typed;
        confirmed = moved.confirmed;
        added = places_apart others words;
        dropped = places_apart words others;
      };
      is_moved = record {
        typed_is = ap (λ (one : SessionRow). one.typed) is.is;
        confirmed_is = ap (λ (one : SessionRow). one.confirmed) is.is;
        added = refl;
        dropped = refl;
      };
      typed = sym (ap (λ (one : SessionRow). one.typed) is.is);
      confirmed = sym (ap (λ (one : SessionRow). one.confirmed) is.is);
      stage = refl;
      batch = refl;
    })

-- the deed of a Carry puts the carried session
record IsCarryDeed (published : Published) (own : Own) (number version : ℕ) (deed : Deed) : Type 0 where
  moved : SessionRow
  carries : Gives (carry_row published own number version) (Ok moved)
  is : deed ≡ puts (number - 1) moved act.Changed

carry-deed : (rows : Rows) (name : List ℕ) (ticket : Ticket) (number version : ℕ) (answer : Reply)
    (changes : List Change)
    → (new : IsNew rows name ticket (Carry number version) answer changes)
    → IsCarryDeed (published_of rows) (own_of rows new.place) number version new.deed
carry-deed rows name ticket number version answer changes new =
    let (moved, carries, is) =
    Met-Gives (carry (published_of rows) (own_of rows new.place) number version) (Ok new.deed) new.does in
    record {
      moved = moved;
      carries = Gives-Met (carry_row (published_of rows) (own_of rows new.place) number version) (Ok moved) carries;
      is = is;
    }

-- a session that was put is shown as it is
put-shown : (published : Published) (own : Own) (number : ℕ) (moved : SessionRow) (answer : Reply) → 1 ≤ number
    → number - 1 < length own.sessions
    → Gives (kept_reply published (after own (puts (number - 1) moved act.Changed)) act.Changed (number - 1))
    (Ok answer)
    → (view : ViewOf) × Gives (view_of published number moved) (Ok view) × (answer ≡ reply.View view)
put-shown published own number moved answer counted within gives =
    let next : Own = after own (puts (number - 1) moved act.Changed) in
    let same_number : number - 1 + 1 ≡ number = omega (arith, counted) in
    let (view, (session, found, of_session), told_so) =
    Met-Gives (kept_reply published next act.Changed (number - 1)) (Ok answer) gives in
    let stands = session_at-found next.sessions number session
    (ap (session_at next.sessions) (sym same_number) ∙ found) in
    let put_there : slice_get next.sessions (number - 1) ≡ Some moved =
    ap (λ list. slice_get list (number - 1)) (put-within own.sessions (number - 1) moved within)
    ∙ slice_get-set_same own.sessions (number - 1) moved within in
    let same : session ≡ moved = same_Some session moved (sym stands.1 ∙ put_there) in (
      view,
      subst (λ one. Gives (view_of published one moved) (Ok view)) same_number
          (subst (λ one. Gives (view_of published (number - 1 + 1) one) (Ok view)) same
          (Gives-Met (view_of published (number - 1 + 1) session) (Ok view) of_session)),
      told_so,
    )

-- it is shown by what the rules of its edition make of it
record IsShownBy (published : Published) (number : ℕ) (session : SessionRow) (bound : Bound) (view : ViewOf) : Type 0
  where
    made_of_it : Answer
    answers : IsAnswer bound.kit (state_of session) made_of_it.first made_of_it.second made_of_it.verdict
    is : view ≡ view_with published number session bound made_of_it

shown-by : (published : Published) (number : ℕ) (session : SessionRow) (bound : Bound) (view : ViewOf)
    → bound_at published session.edition ≡ Some bound → Gives (view_of published number session) (Ok view)
    → IsShownBy published number session bound view
shown-by published number session bound view binds gives =
    let (found, bound_found, (answer, answers, is)) = Met-Gives (view_of published number session) (Ok view) gives in
    let same : found ≡ bound = same_Some found bound (sym bound_found ∙ binds) in
    subst (λ one. IsShownBy published number session one view) same (record {
      made_of_it = answer;
      answers = answers;
      is = is;
    })

pub CarriesOne-write : (rows : Rows) (name : List ℕ) (ticket : Ticket) (number version : ℕ) (answer : Reply)
    (changes : List Change) → IsStep rows (Clerk name ticket (Carry number version)) answer changes → changes ≢ []
    → CarriesOne rows name ticket number version answer changes
CarriesOne-write rows name ticket number version answer changes step accepted =
    elim (write-cases rows name ticket (Carry number version) answer changes step) [
      | inl none ↦ absurd (accepted none)
      | inr new ↦
          let place : ℕ = new.place in
          let own : Own = own_of rows place in
          let deed = carry-deed rows name ticket number version answer changes new in
          let found = carry_row-ok (published_of rows) own number version deed.moved deed.carries in
          let there = IsActiveAt-session own.sessions number found.session found.stands in
          let row : ClerkRow = row_after rows place ticket number in
          let two : changes ≡ change.Session place (number - 1) deed.moved ∷ change.Clerk place row ∷ [] =
          new.changed ∙ ap (changes_of place own.row ticket) deed.is in
          let within : number - 1 < length own.sessions =
          slice_get_within own.sessions (number - 1) found.session there.stands in
          let next : Rows = changed rows (change.Session place (number - 1) deed.moved) in
          let carried = IsCarried-found (published_of rows) own number version deed.moved found in
          let kept = subst (λ (made : Deed).
          Gives (kept_reply (published_of rows) (after own made) made.act made.target)
          (Ok answer)) deed.is new.kept in
          let shown = put-shown (published_of rows) own number deed.moved answer there.counted within kept in
          let by = shown-by (published_of rows) number deed.moved carried.following shown.0 carried.binds_following
          shown.1 in
          record {
            place = place;
            found = new.is_place.found;
            old = found.session;
            counted = there.counted;
            stands = there.stands;
            is_open = there.is_open;
            new = deed.moved;
            is_carried = carried;
            two_changes = two;
            leaves = ap (changed_all rows) two ∙ changed-caller next place row new.is_place.within
                ∙ ap (λ list. record rows {
                  clerks = set rows.clerks place row;
                  sessions = set rows.sessions place list;
                }) (put-within own.sessions (number - 1) deed.moved within);
            made_of_it = by.made_of_it;
            answers = by.answers;
            is_told = shown.2 ∙ ap reply.View by.is;
          }
    ]

-- what a look at a Carry is told: the session as it is shown, the one that a Carry leaves, and what changes
pub record IsCarryingOf (published : Published) (own : Own) (number version : ℕ) (carried : Carried) : Type 0 where
  pub moved : SessionRow
  pub carries : Gives (carry_row published own number version) (Ok moved)
  pub before : Gives (view_at published own number) (Ok carried.before)
  pub following : Gives (view_of published number moved) (Ok carried.after)
  pub changed : AreChanged carried.before carried.after carried.changed

carrying-found : (published : Published) (own : Own) (number version : ℕ) (carried : Carried)
    → Gives (carrying published own number version) (Ok carried) → IsCarryingOf published own number version carried
carrying-found published own number version carried gives =
    let (moved, carries, (before, shown, (after_it, shown_after, (pairs, changed_so, is)))) =
    Met-Gives (carrying published own number version) (Ok carried) gives in
    subst (IsCarryingOf published own number version) (sym is) (record {
      moved = moved;
      carries = Gives-Met (carry_row published own number version) (Ok moved) carries;
      before = Gives-Met (view_at published own number) (Ok before) shown;
      following = Gives-Met (view_of published number moved) (Ok after_it) shown_after;
      changed = changed_so;
    })

-- a look at a Carry is told this, and would be again
pub record IsShown (rows : Rows) (name : List ℕ) (number version : ℕ) (carried : Carried) : Type 0 where
  pub place : ℕ
  pub found : IsFound (clerk_of rows.clerks name) place
  pub is : IsCarryingOf (published_of rows) (own_of rows place) number version carried

pub carry-look : (rows : Rows) (name : List ℕ) (number version : ℕ) (carried : Carried) (changes : List Change)
    → IsStep rows (Look name (CarryLook number version)) (reply.Carried carried) changes
    → IsShown rows name number version carried
carry-look rows name number version carried changes step =
    let told = look-told rows name (CarryLook number version) (reply.Carried carried) changes (λ refusal same. cc)
    step in
    let own : Own = own_of rows told.place in
    let (found, carries, replies) = Met-Gives (look_reply (published_of rows) own (CarryLook number version))
    (Ok (reply.Carried carried)) told.gives in
    let same : found ≡ carried = cc in
    record {
      place = told.place;
      found = told.found;
      is = carrying-found (published_of rows) own number version carried
          (subst (λ one. Gives (carrying (published_of rows) own number version) (Ok one)) same
          (Gives-Met (carrying (published_of rows) own number version) (Ok found) carries));
    }

-- the session is shown so
pub shown-before : (rows : Rows) (name : List ℕ) (number version : ℕ) (carried : Carried) (answer : Reply)
    (changes : List Change) → IsShown rows name number version carried
    → IsStep rows (Look name (View number)) answer changes → answer ≡ reply.View carried.before
shown-before rows name number version carried answer changes look step =
    told-again rows name (View number) (reply.View carried.before) answer changes (record {
      place = look.place;
      found = look.found;
      gives = Gives-bind (view_at (published_of rows) (own_of rows look.place) number) (λ view. done (reply.View view))
          carried.before (Ok (reply.View carried.before)) look.is.before refl;
    }) step

-- and a Carry of it that is accepted is answered so
pub shown-after : (rows : Rows) (name : List ℕ) (ticket : Ticket) (number version : ℕ) (carried : Carried)
    (answer : Reply) (changes : List Change) → IsShown rows name number version carried
    → IsStep rows (Clerk name ticket (Carry number version)) answer changes → changes ≢ []
    → answer ≡ reply.View carried.after
shown-after rows name ticket number version carried answer changes look step accepted =
    elim (write-cases rows name ticket (Carry number version) answer changes step) [
      | inl none ↦ absurd (accepted none)
      | inr new ↦
          let published : Published = published_of rows in
          let places : IsFound (done look.place) new.place = sym look.found ∙ new.is_place.found in
          let same_place : look.place ≡ new.place = cc in
          let own : Own = own_of rows new.place in
          let deed = carry-deed rows name ticket number version answer changes new in
          let shows = subst (λ place. IsCarryingOf published (own_of rows place) number version carried) same_place
          look.is in
          let found = carry_row-ok published own number version deed.moved deed.carries in
          let there = IsActiveAt-session own.sessions number found.session found.stands in
          let one = Gives-unique (carry_row published own number version) (Ok shows.moved) (Ok deed.moved) shows.carries
          deed.carries in
          let same : shows.moved ≡ deed.moved = cc in
          let kept = subst (λ (made : Deed). Gives (kept_reply published (after own made) made.act made.target)
          (Ok answer))
          deed.is new.kept in
          let shown = put-shown published own number deed.moved answer there.counted
          (slice_get_within own.sessions (number - 1) found.session there.stands) kept in
          let views = Gives-unique (view_of published number deed.moved) (Ok shown.0) (Ok carried.after) shown.1
          (subst (λ session. Gives (view_of published number session) (Ok carried.after)) same shows.following) in
          let view : shown.0 ≡ carried.after = cc in
          shown.2 ∙ ap reply.View view
    ]
