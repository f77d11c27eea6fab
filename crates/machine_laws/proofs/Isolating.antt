-- What a clerk is answered is made of what was published and of the clerk's own rows.
use Rattle.std.proofs.Common.{◌≡◌, ◌≢◌, ◌⊎◌, ◌∙◌, ℕ, ◌+◌, false, List, [], drop, Option, Some, None, inl, inr, refl}
use Rattle.std.proofs.Common.{sym, ap, subst}
use Rattle.std.specs.Prelude.{Result, Ok, Err, option_map, position}
use Rattle.std.specs.Str.{bytes_eq}
use Rattle.std.proofs.lemmas.Bool.{cases_Bool}
use Rattle.std.proofs.lemmas.Slice.Eq.{bytes_eq-Decides}
use Rattle.desk_words.specs.declared.change.Change.{Change}
use Rattle.desk_words.specs.declared.clerk_work.ClerkWork.{ClerkWork}
use Rattle.desk_words.specs.declared.command.Command.{Command}
use Rattle.desk_words.specs.declared.command.Command.TheVariants.{Clerk, Look, Desk}
use Rattle.desk_words.specs.declared.desk_look.DeskLook.TheVariants.{Derive}
use Rattle.desk_words.specs.declared.command.Ticket.{Ticket}
use Rattle.desk_words.specs.declared.look.Look.{Look as LookOf}
use Rattle.desk_words.specs.declared.refusal.Refusal.{Refusal}
use Rattle.desk_words.specs.declared.refusal.Refusal.TheVariants.{NoClerk}
use Rattle.desk_words.specs.declared.reply.Reply.{Reply}
use Rattle.desk_words.specs.declared.reply.Reply.TheVariants.{Refused}
use Rattle.desk_words.specs.declared.reply.Reply.TheVariants as reply
use Rattle.desk_words.specs.Changes.{changed_all}
use Rattle.desk_words.specs.Tables.{Published, Rows, published_of}
use Rattle.desk_valid.specs.Valid.{AreValid}
use Rattle.machine_core.specs.Checked.{Checked, ComesTo, and_then, done, run, told, IsFound, Outcome, ◌>>=◌, some_or}
use Rattle.machine_core.specs.Checked.{Gives}
use Rattle.machine_core.specs.Deriving.{derived_sheet}
use Rattle.machine_core.specs.Machine.{IsStep, answered, changes_if, clerk_of, clerk_write, deed_of, machine}
use Rattle.machine_core.specs.Look.{look_reply, reply_of}
use Rattle.machine_core.specs.Look as looks
use Rattle.machine_core.specs.Own.{Own, after, changes_of, own_of}
use Rattle.machine_core.specs.declared.ticket.Use.TheVariants.{Fresh}
use Rattle.machine_core.specs.Ticket.{ticketed, use_of}
use Rattle.machine_core.specs.Kept.{kept_reply}
use Rattle.machine_core.proofs.Chains.{Gives-bind, Gives-bind_refused, Gives-same, Gives-unique, and_then-assoc}
use Rattle.machine_core.proofs.Chains.{Gives-found}
use Rattle.machine_core.proofs.Walks.{Gives-Met, Met-Gives}
use Rattle.machine_laws.specs.Alike.{LookAlike}
use Rattle.machine_laws.specs.Callers.{clerk, own_by, place_of}
use Rattle.machine_laws.proofs.Callers.{names_of}
use Rattle.machine_laws.proofs.Deeds.{own_after}
use Rattle.machine_laws.proofs.Names.{clerk_of-same}
use Rattle.machine_laws.proofs.Staying.{after-clerk, chain-done, names-set, own_of-with_same, step-kept}
use Rattle.machine_laws.proofs.Valid.{with_own}
use Rattle.machine_laws.proofs.Writes.{IsNew, IsPlaceOf, clerk-written, clerk_of-ok, step-holds}

-- the reply alone
abbrev replied : {C : Type 0} → Checked (Reply × C) → Checked Reply
replied made = made >>= (λ both. done both.0)

-- the reply needs the place of the caller's row for nothing but the caller's rows
replied-alone : {C D : Type 0} (places : Checked ℕ) (own : ℕ → Own) (write : Own → Checked (Reply × C))
    (changes : ℕ → C → D)
    → run (replied (places >>= (λ place. write (own place) >>= (λ both. done (both.0, changes place both.1)))))
    ≡ run ((places >>= (λ place. done (own place))) >>= (λ one. replied (write one)))
replied-alone {C} {D} places own write changes =
    and_then-assoc (run places) (λ place. run (write (own place) >>= (λ both. done (both.0, changes place both.1))))
    (λ both. told (Ok both.0))
    ∙ (λ i. and_then (run places) (λ place.
    let made : Reply × C → Outcome (Reply × D) = λ both. told (Ok (both.0, changes place both.1)) in
    and_then-assoc (run (write (own place))) made (λ both. told (Ok both.0)) i))
    ∙ sym (and_then-assoc (run places) (λ place. told (Ok (own place))) (λ one. run (replied (write one))))

-- the same of a look
looked-alone : {C : Type 0} (places : Checked ℕ) (own : ℕ → Own) (look : Own → Checked Reply) (none : C)
    → run (replied (places >>= (λ place. look (own place) >>= (λ answer. done (answer, none)))))
    ≡ run ((places >>= (λ place. done (own place))) >>= (λ one.
    replied (look one >>= (λ answer. done (answer, none)))))
looked-alone places own look none =
    and_then-assoc (run places) (λ place. run (look (own place) >>= (λ answer. done (answer, none))))
    (λ both. told (Ok both.0))
    ∙ sym (and_then-assoc (run places) (λ place. told (Ok (own place)))
    (λ one. run (replied (look one >>= (λ answer. done (answer, none))))))

-- the reply to a clerk's request, from what was published and the clerk's own rows
abbrev reply_to_write : Published → Checked Own → Ticket → ClerkWork → Checked Reply
reply_to_write published own ticket work = own >>= (λ one. replied (clerk_write published one ticket work))

abbrev no_changes : List Change
no_changes = []

abbrev reply_to_look : Published → Checked Own → LookOf → Checked Reply
reply_to_look published own look =
    own >>= (λ one. replied (look_reply published one look >>= (λ answer. done (answer, no_changes))))

-- the reply alone, of what comes of a request
abbrev reply_result : Result (Reply × List Change) Refusal → Result Reply Refusal
reply_result (Ok made) = Ok made.0
reply_result (Err refusal) = Err refusal

replied-gives : (made : Checked (Reply × List Change)) (outcome : Result (Reply × List Change) Refusal)
    → Gives made outcome
    → Gives (replied made) (reply_result outcome)
replied-gives made (Ok both) gives = Gives-bind made (λ two. done two.0) both (Ok both.0) gives refl
replied-gives made (Err refusal) gives = Gives-bind_refused made (λ two. done two.0) refusal gives

-- what is answered is the reply, or the refusal
abbrev shown : Result Reply Refusal → Reply
shown (Ok answer) = answer
shown (Err refusal) = Refused refusal

shown-answered : (outcome : Result (Reply × List Change) Refusal) → (answered outcome).0 ≡ shown (reply_result outcome)
shown-answered (Ok made) = refl
shown-answered (Err refusal) = refl

-- requests that come to the same reply are answered alike
same-answer : (seen : Checked Reply) (rows other : Rows) (command : Command) (answer answer_too : Reply)
    (changes others : List Change) → run (replied (machine rows command)) ≡ run seen
    → run (replied (machine other command)) ≡ run seen
    → IsStep rows command answer changes → IsStep other command answer_too others → answer ≡ answer_too
same-answer seen rows other command answer answer_too changes others is is_too step step_too =
    let mine : Gives seen (reply_result step.outcome) =
    Gives-same (replied (machine rows command)) seen (reply_result step.outcome) is
    (replied-gives (machine rows command) step.outcome step.gives) in
    let theirs : Gives seen (reply_result step_too.outcome) =
    Gives-same (replied (machine other command)) seen (reply_result step_too.outcome) is_too
    (replied-gives (machine other command) step_too.outcome step_too.gives) in
    let results = Gives-unique seen (reply_result step.outcome) (reply_result step_too.outcome) mine theirs in
    ap (λ (both : Reply × List Change). both.0) step.answers ∙ shown-answered step.outcome ∙ ap shown results
    ∙ sym (shown-answered step_too.outcome) ∙ sym (ap (λ (both : Reply × List Change). both.0) step_too.answers)

module _ (name : List ℕ) (rows other : Rows) (alike : LookAlike name rows other) where
  -- a write is answered alike
  pub same-write : (ticket : Ticket) (work : ClerkWork) (answer answer_too : Reply) (changes others : List Change)
      → IsStep rows (Clerk name ticket work) answer changes → IsStep other (Clerk name ticket work) answer_too others
      → answer ≡ answer_too
  same-write ticket work answer answer_too changes others step step_too =
      let of_rows : (one : Rows) → run (replied (machine one (Clerk name ticket work)))
      ≡ run (reply_to_write (published_of one) (own_by one (clerk name)) ticket work) = λ one.
      replied-alone (clerk_of one.clerks name) (own_of one) (λ own. clerk_write (published_of one) own ticket work)
      (λ place deed. changes_if place (own_of one place).row ticket deed) in
      let same : run (reply_to_write (published_of other) (own_by other (clerk name)) ticket work)
      ≡ run (reply_to_write (published_of rows) (own_by rows (clerk name)) ticket work) =
      λ i. and_then (sym alike.own i) (λ one. run (replied (clerk_write (sym alike.published i) one ticket work))) in
      same-answer (reply_to_write (published_of rows) (own_by rows (clerk name)) ticket work) rows other
      (Clerk name ticket work) answer answer_too changes others (of_rows rows) (of_rows other ∙ same) step step_too

  -- and so is a look
  pub same-look : (look : LookOf) (answer answer_too : Reply) (changes others : List Change)
      → IsStep rows (Look name look) answer changes → IsStep other (Look name look) answer_too others
      → answer ≡ answer_too
  same-look look answer answer_too changes others step step_too =
      let of_rows : (one : Rows) → run (replied (machine one (Look name look)))
      ≡ run (reply_to_look (published_of one) (own_by one (clerk name)) look) = λ one.
      looked-alone (clerk_of one.clerks name) (own_of one) (λ own. look_reply (published_of one) own look) no_changes in
      let same : run (reply_to_look (published_of other) (own_by other (clerk name)) look)
      ≡ run (reply_to_look (published_of rows) (own_by rows (clerk name)) look) =
      λ i. and_then (sym alike.own i) (λ one.
      run (replied (look_reply (sym alike.published i) one look >>= (λ answer. done (answer, no_changes))))) in
      same-answer (reply_to_look (published_of rows) (own_by rows (clerk name)) look) rows other (Look name look) answer
      answer_too changes others (of_rows rows) (of_rows other ∙ same) step step_too

-- derived rows are made of what was published alone
pub same-derived : (rows other : Rows) → published_of rows ≡ published_of other → (edition : List ℕ) (version : ℕ)
    (master : List ℕ) (pairs : List (List ℕ × List ℕ)) (answer answer_too : Reply) (changes others : List Change)
    → IsStep rows (Desk (Derive edition version master pairs)) answer changes
    → IsStep other (Desk (Derive edition version master pairs)) answer_too others → answer ≡ answer_too
same-derived rows other same edition version master pairs answer answer_too changes others step step_too =
    let command : Command = Desk (Derive edition version master pairs) in
    let of_published : Published → Checked Reply = λ published.
    replied (reply_of (looks.told (derived_sheet published edition version master pairs) reply.Derived)
    >>= (λ answer. done (answer, no_changes))) in
    same-answer (of_published (published_of rows)) rows other command answer answer_too changes others refl
    (ap (λ one. run (of_published one)) (sym same)) step step_too

-- a clerk's own rows after a new write
pub own_by-new : (rows : Rows) (name : List ℕ) (ticket : Ticket) (work : ClerkWork) (answer : Reply)
    (changes : List Change)
    → (valid : AreValid rows) → (new : IsNew rows name ticket work answer changes)
    → IsFound (own_by (changed_all rows changes) (clerk name)) (own_after (own_of rows new.place) ticket new.deed)
own_by-new rows name ticket work answer changes valid new =
    let own : Own = own_after (own_of rows new.place) ticket new.deed in
    let next : Rows = with_own rows new.place own in
    let names = names-set rows new.place own.row new.is_place.within refl in
    let found : IsFound (clerk_of next.clerks name) new.place =
    clerk_of-same rows.clerks next.clerks name names ∙ new.is_place.found in
    ap (λ (one : Rows). run (own_by one (clerk name))) (after-clerk rows valid name ticket work answer changes new)
    ∙ ap (λ one. and_then one (λ there. told (Ok (own_of next there)))) found
    ∙ ap (λ one. told (Ok one)) (own_of-with_same rows new.place own valid.tables new.is_place.within)

-- a new write in tables that look alike is new there too, with the same deed
new-alike : (name : List ℕ) (rows other : Rows) (ticket : Ticket) (work : ClerkWork) (answer answer_too : Reply)
    (changes others : List Change) → AreValid rows → AreValid other → LookAlike name rows other
    → IsNew rows name ticket work answer changes → IsStep other (Clerk name ticket work) answer_too others
    → run (own_by (changed_all other others) (clerk name)) ≡ run (own_by (changed_all rows changes) (clerk name))
new-alike name rows other ticket work answer answer_too changes others valid valid_too alike new step =
    let own : Own = own_of rows new.place in
    let seen : IsFound (own_by rows (clerk name)) own = ap
    (λ one. and_then one (λ place. told (Ok (own_of rows place))))
    new.is_place.found in
    let there = chain-done (place_of other (clerk name)) (own_of other) own (sym alike.own ∙ seen) in
    let is_place : IsPlaceOf other.clerks name there.0 =
    clerk_of-ok other.clerks name there.0 (subst (λ one. ComesTo one (Ok there.0)) (sym there.1) refl) in
    let own_too : Own = own_of other there.0 in
    let made : Reply × List Change = (answer, changes_of there.0 own_too.row ticket new.deed) in
    let Used : Own → Type 0 = λ one. Gives (use_of one.row ticket) (Ok Fresh) in
    let Does : Published → Own → Type 0 = λ published one. Gives (deed_of published one work) (Ok new.deed) in
    let Keeps : Published → Own → Type 0 = λ published one.
    Gives (kept_reply published (after one new.deed) new.deed.act
    new.deed.target) (Ok answer) in
    let used : Used own_too = subst Used (sym there.2) new.use_made in
    let does : Does (published_of other) own_too =
    subst (λ published. Does published own_too) alike.published
    (subst (Does (published_of rows)) (sym there.2) new.does) in
    let kept : Keeps (published_of other) own_too =
    subst (λ published. Keeps published own_too) alike.published
    (subst (Keeps (published_of rows)) (sym there.2) new.kept) in
    let whole : Gives (machine other (Clerk name ticket work)) (Ok made) =
    Gives-Met (machine other (Clerk name ticket work)) (Ok made) (
      there.0,
      Met-Gives (clerk_of other.clerks name) (Ok there.0) (Gives-found (clerk_of other.clerks name) there.0 there.1),
      (
        (answer, Some new.deed),
        (
          Fresh,
          Met-Gives (use_of own_too.row ticket) (Ok Fresh) used,
          (
            new.deed,
            Met-Gives (deed_of (published_of other) own_too work) (Ok new.deed) does,
            (
              answer,
              Met-Gives (kept_reply (published_of other) (after own_too new.deed) new.deed.act new.deed.target)
                  (Ok answer) kept,
              refl,
            ),
          ),
        ),
        refl,
      ),
    ) in
    let one = Gives-unique (machine other (Clerk name ticket work)) step.outcome (Ok made) step.gives whole in
    let pair = step.answers ∙ ap answered one in
    let new_too : IsNew other name ticket work answer others = record {
      place = there.0;
      is_place = is_place;
      use_made = used;
      deed = new.deed;
      does = does;
      kept = kept;
      changed = ap (λ (both : Reply × List Change). both.1) pair;
    } in
    own_by-new other name ticket work answer others valid_too new_too
    ∙ ap (λ one. told (Ok (own_after one ticket new.deed))) there.2
    ∙ sym (own_by-new rows name ticket work answer changes valid new)

-- what was published stays where a clerk writes
pub published-new : (rows : Rows) (name : List ℕ) (ticket : Ticket) (work : ClerkWork) (answer : Reply)
    (changes : List Change)
    → (valid : AreValid rows) → IsNew rows name ticket work answer changes
    → published_of (changed_all rows changes) ≡ published_of rows
published-new rows name ticket work answer changes valid new =
    ap published_of (after-clerk rows valid name ticket work answer changes new)

-- a clerk's write that is accepted is a new one
pub write-cases : (rows : Rows) (name : List ℕ) (ticket : Ticket) (work : ClerkWork) (answer : Reply)
    (changes : List Change)
    → IsStep rows (Clerk name ticket work) answer changes → (changes ≡ []) ⊎ IsNew rows name ticket work answer changes
write-cases rows name ticket work = step-holds
    (λ answer changes. (changes ≡ []) ⊎ IsNew rows name ticket work answer changes) rows (Clerk name ticket work)
    (λ made gives. elim (clerk-written rows name ticket work made gives) [
      | inl again ↦ inl again.unchanged
      | inr new ↦ inr new
    ]) (λ refusal gives. inl refl)

-- nor does it change what was published
pub clerk-published : (rows : Rows) (name : List ℕ) (ticket : Ticket) (work : ClerkWork) (answer : Reply)
    (changes : List Change) → AreValid rows → IsStep rows (Clerk name ticket work) answer changes
    → published_of (changed_all rows changes) ≡ published_of rows
clerk-published rows name ticket work answer changes valid step = elim (write-cases rows name ticket work answer changes
    step) [
      | inl none ↦ ap (λ made. published_of (changed_all rows made)) none
      | inr new ↦ published-new rows name ticket work answer changes valid new
    ]

-- tables look alike after a write of the clerk's own
pub write-alike : (name : List ℕ) (rows other : Rows) (ticket : Ticket) (work : ClerkWork) (answer answer_too : Reply)
    (changes others : List Change) → AreValid rows → AreValid other → LookAlike name rows other
    → IsStep rows (Clerk name ticket work) answer changes → IsStep other (Clerk name ticket work) answer_too others
    → LookAlike name (changed_all rows changes) (changed_all other others)
write-alike name rows other ticket work answer answer_too changes others valid valid_too alike step step_too = record {
  published = clerk-published rows name ticket work answer changes valid step ∙ alike.published
      ∙ sym (clerk-published other name ticket work answer_too others valid_too step_too);
  own = elim (write-cases rows name ticket work answer changes step) [
    | inl none ↦ elim (write-cases other name ticket work answer_too others step_too) [
      | inl none_too ↦ ap (λ made. run (own_by (changed_all rows made) (clerk name))) none ∙ alike.own
          ∙ sym (ap (λ made. run (own_by (changed_all other made) (clerk name))) none_too)
      | inr new_too ↦ new-alike name other rows ticket work answer_too answer others changes valid_too valid (record
          { published = sym alike.published; own = sym alike.own }) new_too step
    ]
    | inr new ↦ sym (new-alike name rows other ticket work answer answer_too changes others valid valid_too alike new
        step_too)
  ];
}

-- a clerk's own rows are those of the place that is found
own_by-places : (found : Option ℕ) (one other : ℕ → Own) → ((place : ℕ) → found ≡ Some place → one place ≡ other place)
    → run (some_or found NoClerk >>= (λ place. done (one place)))
    ≡ run (some_or found NoClerk >>= (λ place. done (other place)))
own_by-places None one other same = refl
own_by-places (Some place) one other same = ap (λ own. told (Ok own)) (same place refl)

-- where the names are the same, and each place that is found has the same rows, the own rows are the same
pub own_by-same : (name : List ℕ) (rows other : Rows) → names_of other.clerks ≡ names_of rows.clerks
    → ((place : ℕ) → IsFound (clerk_of rows.clerks name) place → own_of rows place ≡ own_of other place)
    → run (own_by rows (clerk name)) ≡ run (own_by other (clerk name))
own_by-same name rows other names same =
    let found : Option ℕ = option_map (λ place. place + 1)
    (position (λ row. bytes_eq row.name name) (drop 1 rows.clerks)) in
    own_by-places found (own_of rows) (own_of other) (λ place is. same place (ap (λ one. run (some_or one NoClerk)) is))
    ∙ ap (λ one. and_then one (λ place. told (Ok (own_of other place))))
    (sym (clerk_of-same rows.clerks other.clerks name names))

-- a clerk's write leaves the names
pub clerk-names : (rows : Rows) (name : List ℕ) (ticket : Ticket) (work : ClerkWork) (answer : Reply)
    (changes : List Change)
    → AreValid rows → IsStep rows (Clerk name ticket work) answer changes
    → names_of (changed_all rows changes).clerks ≡ names_of rows.clerks
clerk-names rows name ticket work answer changes valid step =
    elim (write-cases rows name ticket work answer changes step) [
      | inl none ↦ ap (λ made. names_of (changed_all rows made).clerks) none
      | inr new ↦ ap (λ (one : Rows). names_of one.clerks) (after-clerk rows valid name ticket work answer changes new)
          ∙ names-set rows new.place (ticketed (own_of rows new.place).row ticket new.deed.act new.deed.target)
          new.is_place.within refl
    ]

-- another clerk's write leaves what a clerk's name sees
pub other-alike : (name : List ℕ) (rows : Rows) (named : List ℕ) (ticket : Ticket) (work : ClerkWork) (answer : Reply)
    (changes : List Change) → AreValid rows → named ≢ name → IsStep rows (Clerk named ticket work) answer changes
    → LookAlike name rows (changed_all rows changes)
other-alike name rows named ticket work answer changes valid apart step = record {
  published = sym (clerk-published rows named ticket work answer changes valid step);
  own = own_by-same name rows (changed_all rows changes) (clerk-names rows named ticket work answer changes valid step)
      (λ place found. sym (step-kept rows valid (clerk name) place (Clerk named ticket work) answer changes step
      (inr not_its) found));
}
  where
    not_its : bytes_eq named name ≡ false
    not_its = elim (cases_Bool (bytes_eq named name)) [
      | inl same ↦ absurd (apart ((bytes_eq-Decides named name).0 same))
      | inr other ↦ other
    ]
