-- The replies to a clerk are those of the list without the requests of other clerks.
use Rattle.std.proofs.Common.{◌≡◌, ◌≢◌, ◌∙◌, ℕ, ◌+◌, ◌-◌, ◌<◌, ◌≤◌, Bool, true, false, cond, List, [], ◌∷◌, length}
use Rattle.std.proofs.Common.{get_or, drop, map, Option, Some, None, inl, inr, refl, sym, ap, subst, arith}
use Rattle.std.specs.Prelude.{Ok, filter, not, option_map, position}
use Rattle.std.specs.Str.{bytes_eq}
use Rattle.std.proofs.lemmas.Bool.{cases_Bool, cases_lt}
use Rattle.std.proofs.lemmas.List.{get_or-drop, get_or-map, get_or-set_other, get_or-set_same, get_or_append_left}
use Rattle.std.proofs.lemmas.List.{length-drop, length-map, length-set}
use Rattle.std.proofs.lemmas.Slice.Eq.{bytes_eq-Decides}
use Rattle.desk_words.specs.declared.change.Change.{Change}
use Rattle.desk_words.specs.declared.change.Change.TheVariants as change
use Rattle.desk_words.specs.declared.command.Command.{Command}
use Rattle.desk_words.specs.declared.command.Command.TheVariants.{Steward, Clerk, Look, Desk}
use Rattle.desk_words.specs.declared.command.Ticket.{Ticket}
use Rattle.desk_words.specs.declared.refusal.Refusal.TheVariants.{NoClerk}
use Rattle.desk_words.specs.declared.reply.Reply.{Reply}
use Rattle.desk_words.specs.declared.rows.clerk.ClerkRow.{ClerkRow}
use Rattle.desk_words.specs.declared.steward_work.StewardWork.{StewardWork}
use Rattle.desk_words.specs.Changes.{changed, changed_all}
use Rattle.desk_words.specs.Tables.{Rows, new_clerk, published_of}
use Rattle.desk_valid.specs.Valid.{AreValid}
use Rattle.machine_core.specs.Checked.{done, some_or, ComesTo, IsFound, run, and_then, told}
use Rattle.machine_core.specs.Machine.{IsStep, answered, clerk_of, machine}
use Rattle.machine_core.specs.Own.{Own, own_of}
use Rattle.machine_core.specs.Ticket.{ticketed}
use Rattle.machine_core.proofs.Chains.{Gives-unique}
use Rattle.machine_laws.specs.Alike.{LookAlike}
use Rattle.machine_laws.specs.Callers.{asks, clerk, is_of_other, own_by, place_of, steward}
use Rattle.machine_laws.specs.Events.{AreAnswered, Event, answers_to, commands_of, without_others}
use Rattle.machine_laws.proofs.Accepted.{making-sound, step-valid}
use Rattle.machine_laws.proofs.Callers.{names_of}
use Rattle.machine_laws.proofs.Deeds.{put-within}
use Rattle.machine_laws.proofs.Isolating.{clerk-names, other-alike, own_by-same, same-look, same-write, write-alike}
use Rattle.machine_laws.proofs.Makings.{new_own}
use Rattle.machine_laws.proofs.Names.{clerk_of-begins, clerk_of-same, none-passes}
use Rattle.machine_laws.proofs.Staying.{after-steward, chain-done, clerk_of-named, step-kept, step-longer, with_making}
use Rattle.machine_laws.proofs.Stewards.{AreAsToSteward, changed-names, changed-published, steward-machine}
use Rattle.machine_laws.proofs.Unchanged.{step-unchanged}
use Rattle.machine_laws.proofs.Writes.{IsStewardsNew, clerk_of-ok, desk-unchanged, look-unchanged, steward-cases}

-- a place that is found is the one that was
same_place : {one another : ℕ} → IsFound (done one) another → one ≡ another
same_place is = cc

-- a clerk who comes with the steward's step has nothing yet
following-new : (rows : Rows) (valid : AreValid rows) (name : List ℕ) (ticket : Ticket) (work : StewardWork)
    (answer : Reply)
    (changes : List Change) (place : ℕ) → IsStep rows (Steward ticket work) answer changes → length rows.clerks ≤ place
    → IsFound (clerk_of (changed_all rows changes).clerks name) place
    → own_of (changed_all rows changes) place ≡ new_own
    name
following-new rows valid name ticket work answer changes place step following found =
    elim (steward-cases rows ticket work answer changes step) [
      | inl none ↦
          let here : IsFound (clerk_of rows.clerks name) place =
          subst (λ made. IsFound (clerk_of (changed_all rows made).clerks name) place) none found in
          absurd (omega (
            arith,
            following,
            (clerk_of-ok rows.clerks name place
                (subst (λ one. ComesTo one (Ok place)) (sym here) refl)).within,
          ))
      | inr new ↦
          let sound = making-sound rows work new.making valid new.makes in
          let next : Rows = changed rows new.making.change in
          let row : ClerkRow = ticketed (own_of rows 0).row ticket new.making.act new.making.target in
          let last : Rows = with_making rows valid ticket new.making in
          let same : changed_all rows changes ≡ last = after-steward rows valid ticket work answer changes new in
          let here : IsFound (clerk_of last.clerks name) place =
          subst (λ (one : Rows). IsFound (clerk_of one.clerks name) place) same found in
          let inside : place < length last.clerks = (clerk_of-ok last.clerks name place
          (subst (λ one. ComesTo one (Ok place)) (sym here) refl)).within in
          let apart : place ≢ 0 = λ first. omega (arith, first, following, valid.tables.steward) in
          let caller = get_or-set_other next.clerks 0 place row (new_clerk []) apart in
          let own : own_of last place ≡ own_of next place = λ i. record (own_of next place) { row = caller i } in
          let made = sound.new place following (omega (arith, inside, length-set next.clerks 0 row)) in
          let named : made.0 ≡ name = ap (λ (one : Own). one.row.name) (sym (own ∙ made.1))
          ∙ clerk_of-named last.clerks name place (new_clerk []) here in
          ap (λ (one : Rows). own_of one place) same ∙ own ∙ made.1 ∙ ap new_own named
    ]

-- what a clerk's name sees and what the steward is answered by are the same
pub record AreAs (name : List ℕ) (rows other : Rows) : Type 0 where
  pub to_steward : AreAsToSteward rows other
  pub own : run (own_by rows (clerk name)) ≡ run (own_by other (clerk name))

-- changes change alike what was published, and the names
all-published : (rows other : Rows) (changes : List Change) → published_of rows ≡ published_of other
    → published_of (changed_all rows changes) ≡ published_of (changed_all other changes)
all-published rows other [] same = same
all-published rows other (one ∷ changes) same =
    all-published (changed rows one) (changed other one) changes (changed-published rows other one same)

all-names : (rows other : Rows) (changes : List Change) → names_of rows.clerks ≡ names_of other.clerks
    → names_of (changed_all rows changes).clerks ≡ names_of (changed_all other changes).clerks
all-names rows other [] same = same
all-names rows other (one ∷ changes) same =
    all-names (changed rows one) (changed other one) changes (changed-names rows other one same)

-- names that are the same are as many
length-names : (clerks others : List ClerkRow) → names_of clerks ≡ names_of others → length clerks ≡ length others
length-names clerks others same =
    let name_in : ClerkRow → List ℕ = λ row. row.name in
    omega (arith, ap length same, length-map clerks name_in, length-map others name_in)

-- the steward's row after its own step, where there is one
steward-row : (rows : Rows) (valid : AreValid rows) (ticket : Ticket) (work : StewardWork) (answer : Reply)
    (changes : List Change) → (new : IsStewardsNew rows ticket work answer changes)
    → (own_of (changed_all rows changes) 0).row ≡ ticketed (own_of rows 0).row ticket new.making.act new.making.target
steward-row rows valid ticket work answer changes new =
    let sound = making-sound rows work new.making valid new.makes in
    let row : ClerkRow = ticketed (own_of rows 0).row ticket new.making.act new.making.target in
    ap (λ (one : Rows). (own_of one 0).row) (after-steward rows valid ticket work answer changes new)
    ∙ get_or-set_same (changed rows new.making.change).clerks 0 row (new_clerk []) sound.valid.tables.steward

module _ (name : List ℕ) (rows other : Rows) (valid : AreValid rows) (valid_too : AreValid other)
    (alike : AreAs name rows other)
    (ticket : Ticket) (work : StewardWork) (answer answer_too : Reply) (changes others : List Change)
    (step : IsStep rows (Steward ticket work) answer changes)
    (step_too : IsStep other (Steward ticket work) answer_too others)
  where
    -- the steward's request is answered alike, with the same changes
    same-made : ◌≡◌ {A = Reply × List Change} (answer, changes) (answer_too, others)
    same-made =
        let whole = steward-machine rows other ticket work alike.to_steward in
        let same = Gives-unique (machine rows (Steward ticket work)) step.outcome step_too.outcome step.gives
        (subst (λ one. ComesTo one step_too.outcome) (sym whole) step_too.gives) in
        step.answers ∙ ap answered same ∙ sym step_too.answers

    same-changes : changes ≡ others
    same-changes = ap (λ (both : Reply × List Change). both.1) same-made

    after-names : names_of (changed_all rows changes).clerks ≡ names_of (changed_all other others).clerks
    after-names = all-names rows other changes alike.to_steward.names
        ∙ ap (λ made. names_of (changed_all other made).clerks) same-changes

    pub same-reply : answer ≡ answer_too
    same-reply = ap (λ (both : Reply × List Change). both.0) same-made

    -- a clerk who was there has the same rows
    own-before : (place : ℕ) → IsFound (clerk_of rows.clerks name) place
        → own_of (changed_all rows changes) place ≡ own_of (changed_all other others) place
    own-before place found =
        let seen : IsFound (own_by rows (clerk name)) (own_of rows place) =
        ap (λ one. and_then one (λ there. told (Ok (own_of rows there)))) found in
        let there = chain-done (place_of other (clerk name)) (own_of other) (own_of rows place)
        (sym alike.own ∙ seen) in
        let found_too : IsFound (clerk_of other.clerks name) place =
        clerk_of-same rows.clerks other.clerks name (sym alike.to_steward.names) ∙ found in
        let same : there.0 ≡ place = same_place (sym there.1 ∙ found_too) in
        step-kept rows valid (clerk name) place (Steward ticket work) answer changes step (inr refl) found
        ∙ sym there.2 ∙ ap (own_of other) same
        ∙ sym (step-kept other valid_too (clerk name) place (Steward ticket work) answer_too others step_too (inr refl)
        found_too)

    -- and one who comes with the step has nothing yet
    own-following : (place : ℕ) → position (λ row. bytes_eq row.name name) (drop 1 rows.clerks) ≡ None
        → IsFound (clerk_of (changed_all rows changes).clerks name) place
        → own_of (changed_all rows changes) place ≡ own_of (changed_all other others) place
    own-following place none found =
        let test : ClerkRow → Bool = λ row. bytes_eq row.name name in
        let name_in : ClerkRow → List ℕ = λ row. row.name in
        let next : Rows = changed_all rows changes in
        let past : ClerkRow = new_clerk [] in
        let longer = step-longer rows valid (Steward ticket work) answer changes step in
        let there = clerk_of-ok next.clerks name place (subst (λ one. ComesTo one (Ok place)) (sym found) refl) in
        let named = clerk_of-named next.clerks name place past found in
        let following : length rows.clerks ≤ place = elim (cases_lt place (length rows.clerks)) [
          | inr past_all ↦ past_all
          | inl inside ↦
              let first : get_or (names_of next.clerks) place [] ≡ get_or (names_of rows.clerks) place [] =
              ap (λ list. get_or list place []) longer.names.1 ∙ get_or_append_left (names_of rows.clerks)
              longer.names.0 []
              place (omega (arith, inside, length-map rows.clerks name_in)) in
              let here : (get_or rows.clerks place past).name ≡ name =
              sym (get_or-map name_in rows.clerks place past [] inside) ∙ sym first
              ∙ get_or-map name_in next.clerks place past [] there.within ∙ named in
              let one : get_or (drop 1 rows.clerks) (place - 1) past ≡ get_or rows.clerks place past =
              get_or-drop 1 rows.clerks (place - 1) past
              ∙ ap (λ index. get_or rows.clerks index past) (omega (arith, there.following)) in
              let passes : test (get_or (drop 1 rows.clerks) (place - 1) past) ≡ true =
              ap test one ∙ (bytes_eq-Decides (get_or rows.clerks place past).name name).1 here in
              absurd (none-passes test (drop 1 rows.clerks) none (place - 1) past (omega (
                arith,
                inside,
                there.following,
                length-drop 1 rows.clerks,
              )) passes)
        ] in
        let found_too : IsFound (clerk_of (changed_all other others).clerks name) place =
        clerk_of-same next.clerks (changed_all other others).clerks name (sym after-names) ∙ found in
        let following_too : length other.clerks ≤ place =
        omega (arith, following, length-names rows.clerks other.clerks alike.to_steward.names) in
        following-new rows valid name ticket work answer changes place step following found
        ∙ sym (following-new other valid_too name ticket work answer_too others place step_too following_too found_too)

    own-after : (place : ℕ) → IsFound (clerk_of (changed_all rows changes).clerks name) place
        → own_of (changed_all rows changes) place ≡ own_of (changed_all other others) place
    own-after place found = whole (position (λ row. bytes_eq row.name name) (drop 1 rows.clerks)) refl
      where
        whole : (one : Option ℕ) → position (λ row. bytes_eq row.name name) (drop 1 rows.clerks) ≡ one
            → own_of (changed_all rows changes) place ≡ own_of (changed_all other others) place
        whole None is = own-following place is found
        whole (Some first) is =
            let before : IsFound (clerk_of rows.clerks name) (first + 1) =
            ap (λ one. run (some_or (option_map (λ index. index + 1) one) NoClerk)) is in
            let longer = step-longer rows valid (Steward ticket work) answer changes step in
            let later = clerk_of-begins rows.clerks (changed_all rows changes).clerks name (first + 1) longer.names
            before in
            let same : first + 1 ≡ place = same_place (sym later ∙ found) in
            subst (λ one. own_of (changed_all rows changes) one ≡ own_of (changed_all other others) one) same
            (own-before (first + 1) before)

    row-after : (own_of (changed_all rows changes) 0).row ≡ (own_of (changed_all other others) 0).row
    row-after = elim (steward-cases rows ticket work answer changes step) [
      | inl none ↦ ap (λ made. (own_of (changed_all rows made) 0).row) none ∙ alike.to_steward.row
          ∙ sym (ap (λ made. (own_of (changed_all other made) 0).row) (sym same-changes ∙ none))
      | inr new ↦
          let sound = making-sound rows work new.making valid new.makes in
          let row : ClerkRow = ticketed (own_of rows 0).row ticket new.making.act new.making.target in
          let next : Rows = changed other new.making.change in
          let many : 0 < length next.clerks = omega (
            arith,
            sound.valid.tables.steward,
            length-names
                (changed rows new.making.change).clerks next.clerks (changed-names rows other new.making.change
                alike.to_steward.names),
          ) in
          let made : changed_all other others ≡ changed next (change.Clerk 0 row) =
          ap (changed_all other) (sym same-changes ∙ new.changed_so) in
          let put_it : (own_of (changed next (change.Clerk 0 row)) 0).row ≡ row =
          ap (λ list. get_or list 0 (new_clerk [])) (put-within next.clerks 0 row many)
          ∙ get_or-set_same next.clerks 0 row (new_clerk []) many in
          steward-row rows valid ticket work answer changes new
          ∙ sym (ap (λ (one : Rows). (own_of one 0).row) made ∙ put_it)
    ]

    pub steward-alike : AreAs name (changed_all rows changes) (changed_all other others)
    steward-alike = record {
      to_steward = record {
        published = all-published rows other changes alike.to_steward.published
            ∙ ap (λ made. published_of (changed_all other made)) same-changes;
        names = after-names;
        row = row-after;
      };
      own = own_by-same name (changed_all rows changes) (changed_all other others) (sym after-names) own-after;
    }

-- the name is the clerk's
named-so : (named name : List ℕ) → not (bytes_eq named name) ≡ false → named ≡ name
named-so named name own = (bytes_eq-Decides named name).0 (not-false (bytes_eq named name) own)
  where
    not-false : (told : Bool) → not told ≡ false → told ≡ true
    not-false true is = refl
    not-false false is = absurd (cc)

-- nothing changes alike
none-alike : (name : List ℕ) (rows other : Rows) (changes others : List Change) → changes ≡ [] → others ≡ []
    → AreAs name rows other → AreAs name (changed_all rows changes) (changed_all other others)
none-alike name rows other changes others none none_too alike =
    subst (λ made. AreAs name (changed_all rows made) (changed_all other others)) (sym none)
    (subst (λ made. AreAs name rows (changed_all other made)) (sym none_too) alike)

-- another clerk's request leaves what is seen
other-as : (name : List ℕ) (rows other : Rows) (command : Command) (answer : Reply) (changes : List Change)
    → AreValid rows
    → is_of_other name command ≡ true → IsStep rows command answer changes → AreAs name rows other
    → AreAs name (changed_all rows changes) other
other-as name rows other (Steward ticket work) answer changes valid of_other step alike = absurd (cc)
other-as name rows other (Look named look) answer changes valid of_other step alike =
    none-alike name rows other changes [] (step-unchanged rows (Look named look) answer changes
    (look-unchanged rows named look) step) refl alike
other-as name rows other (Desk look) answer changes valid of_other step alike = absurd (cc)
other-as name rows other (Clerk named ticket work) answer changes valid of_other step alike =
    let seen : LookAlike name rows (changed_all rows changes) =
    other-alike name rows named ticket work answer changes valid
    (λ same. different ((bytes_eq-Decides named name).1 same))
    step in
    let row = step-kept rows valid steward 0 (Clerk named ticket work) answer changes step (inr refl) refl in
    record {
      to_steward = record {
        published = sym seen.published ∙ alike.to_steward.published;
        names = clerk-names rows named ticket work answer changes valid step ∙ alike.to_steward.names;
        row = ap (λ (own : Own). own.row) row ∙ alike.to_steward.row;
      };
      own = sym seen.own ∙ alike.own;
    }
  where
    different : bytes_eq named name ≡ true → ⊥
    different same =
        let both : not true ≡ true = ap not (sym same) ∙ of_other in
        cc

-- a request that is not of another clerk is answered alike, and leaves tables that are seen alike
own-step : (name : List ℕ) (rows other : Rows) (command : Command) (answer answer_too : Reply)
    (changes others : List Change)
    → AreValid rows → AreValid other → AreAs name rows other → is_of_other name command ≡ false
    → IsStep rows command answer changes → IsStep other command answer_too others
    → (asks (clerk name) command ≡ true → answer ≡ answer_too)
    × AreAs name (changed_all rows changes) (changed_all other others)
own-step name rows other (Steward ticket work) answer answer_too changes others valid valid_too alike own step
    step_too = (
      λ asked_it. same-reply name rows other valid valid_too alike ticket work answer answer_too changes others step
          step_too,
      steward-alike name rows other valid valid_too alike ticket work answer answer_too changes others step step_too,
    )
own-step name rows other (Desk look) answer answer_too changes others valid valid_too alike own step step_too = (
  λ asked_it. absurd (cc),
  none-alike name rows other changes others (step-unchanged rows (Desk look) answer changes (desk-unchanged rows look)
      step) (step-unchanged other (Desk look) answer_too others (desk-unchanged other look) step_too) alike,
)
own-step name rows other (Look named look) answer answer_too changes others valid valid_too alike own step step_too =
    let same : named ≡ name = named-so named name own in
    let seen : LookAlike name rows other = record { published = alike.to_steward.published; own = alike.own } in (
      λ asked_it. same-look name rows other seen look answer answer_too changes others
          (subst (λ one. IsStep rows (Look one look) answer changes) same step)
          (subst (λ one. IsStep other (Look one look) answer_too others) same step_too),
      none-alike name rows other changes others (step-unchanged rows (Look named look) answer changes
          (look-unchanged rows named look) step) (step-unchanged other (Look named look) answer_too others
          (look-unchanged other named look) step_too) alike,
    )
own-step name rows other (Clerk named ticket work) answer answer_too changes others valid valid_too alike own step
    step_too =
    let same : named ≡ name = named-so named name own in
    let seen : LookAlike name rows other = record { published = alike.to_steward.published; own = alike.own } in
    let mine = subst (λ one. IsStep rows (Clerk one ticket work) answer changes) same step in
    let theirs = subst (λ one. IsStep other (Clerk one ticket work) answer_too others) same step_too in
    let after_it = write-alike name rows other ticket work answer answer_too changes others valid valid_too seen mine
    theirs in
    let row = step-kept rows valid steward 0 (Clerk name ticket work) answer changes mine (inr refl) refl in
    let row_too = step-kept other valid_too steward 0 (Clerk name ticket work) answer_too others theirs (inr refl)
    refl in (
      λ asked_it. same-write name rows other seen ticket work answer answer_too changes others mine theirs,
      record {
        to_steward = record {
          published = after_it.published;
          names = clerk-names rows name ticket work answer changes valid mine ∙ alike.to_steward.names
              ∙ sym (clerk-names other name ticket work answer_too others valid_too theirs);
          row = ap (λ (one : Own). one.row) row ∙ alike.to_steward.row ∙ sym (ap (λ (one : Own). one.row) row_too);
        };
        own = after_it.own;
      },
    )

-- the replies to a clerk need no requests of other clerks
answers-apart : (name : List ℕ) (rows other : Rows) (events others : List Event) → AreValid rows → AreValid other
    → AreAs name rows other → AreAnswered rows events → AreAnswered other others
    → commands_of others ≡ commands_of (without_others name events) → answers_to name others ≡ answers_to name events
answers-apart name rows other [] [] valid valid_too alike steps steps_too same = refl
answers-apart name rows other [] (one ∷ others) valid valid_too alike steps steps_too same = absurd (cc)
answers-apart name rows other (event ∷ events) others valid valid_too alike steps steps_too same =
    let next : Rows = changed_all rows event.changes in
    let next_valid : AreValid next =
    (step-valid rows event.command event.answer event.changes valid steps.0 steps.1).1 in
    elim (cases_Bool (is_of_other name event.command)) [
      | inl of_other ↦
          let alike_next = other-as name rows other event.command event.answer event.changes valid of_other steps.1
          alike in
          let fewer : commands_of others ≡ commands_of (without_others name events) = same
          ∙ ap (λ told. commands_of (cond (not told) (event ∷ without_others name events) (without_others name events)))
          of_other in
          let quiet : asks (clerk name) event.command ≡ false = not-asked event.command of_other in
          answers-apart name next other events others next_valid valid_too alike_next steps.2 steps_too fewer
          ∙ sym (ap (λ told. map (λ (one : Event). one.answer) (cond told (event ∷ filter (λ one. asks (clerk name)
          one.command) events) (filter (λ one. asks (clerk name) one.command) events))) quiet)
      | inr own ↦
          let kept : commands_of others ≡ event.command ∷ commands_of (without_others name events) = same
          ∙ ap (λ told. commands_of (cond (not told) (event ∷ without_others name events) (without_others name events)))
          own in
          with-own others steps_too kept (λ first rest steps_next alike_next fewer. answers-apart name next
          (changed_all other first.changes) events rest next_valid
          (step-valid other first.command first.answer first.changes
          valid_too steps_next.0 steps_next.1).1 alike_next steps.2 steps_next.2 fewer) own
    ]
  where
    not-true : (told : Bool) → not told ≡ true → told ≡ false
    not-true true is = absurd (cc)
    not-true false is = refl

    not-asked : (command : Command) → is_of_other name command ≡ true → asks (clerk name) command ≡ false
    not-asked (Steward ticket work) is = refl
    not-asked (Clerk named ticket work) is = not-true (bytes_eq named name) is
    not-asked (Look named look) is = not-true (bytes_eq named name) is
    not-asked (Desk look) is = refl

    with-own : (others : List Event) → AreAnswered other others
        → commands_of others ≡ event.command ∷ commands_of (without_others name events)
        → ((first : Event) (rest : List Event) → AreAnswered other (first ∷ rest)
        → AreAs name (changed_all rows event.changes) (changed_all other first.changes)
        → commands_of rest ≡ commands_of (without_others name events)
        → answers_to name rest ≡ answers_to name events)
        → is_of_other name event.command ≡ false → answers_to name others ≡ answers_to name (event ∷ events)
    with-own [] steps_too kept more own = absurd (cc)
    with-own (first ∷ rest) steps_too kept more own =
        let same_command : first.command ≡ event.command = cc in
        let fewer : commands_of rest ≡ commands_of (without_others name events) = cc in
        let step_too : IsStep other event.command first.answer first.changes =
        subst (λ one. IsStep other one first.answer first.changes) same_command steps_too.1 in
        let both = own-step name rows other event.command event.answer first.answer event.changes first.changes valid
        valid_too alike own steps.1 step_too in
        let rest_same = more first rest steps_too both.1 fewer in
        let mine : Bool → List Reply = λ told. map (λ (one : Event). one.answer) (cond told (event ∷ filter (λ one.
        asks (clerk name) one.command) events) (filter (λ one. asks (clerk name) one.command) events)) in
        let theirs : Bool → List Reply = λ told. map (λ (one : Event). one.answer) (cond told (first ∷ filter (λ one.
        asks (clerk name) one.command) rest) (filter (λ one. asks (clerk name) one.command) rest)) in
        ap (λ command. theirs (asks (clerk name) command)) same_command
        ∙ elim (cases_Bool (asks (clerk name) event.command)) [
          | inl asked_it ↦ ap theirs asked_it ∙ (λ i. sym (both.0 asked_it) i ∷ rest_same i) ∙ sym (ap mine asked_it)
          | inr quiet ↦ ap theirs quiet ∙ rest_same ∙ sym (ap mine quiet)
        ]

pub answers-listed : (name : List ℕ) (rows : Rows) (events others : List Event) → AreValid rows
    → AreAnswered rows events
    → AreAnswered rows others → commands_of others ≡ commands_of (without_others name events)
    → answers_to name others ≡ answers_to name events
answers-listed name rows events others valid steps steps_too same =
    answers-apart name rows rows events others valid valid (record {
      to_steward = record { published = refl; names = refl; row = refl };
      own = refl;
    }) steps steps_too same
