-- What a step leaves as it was, and what it does to the caller's own rows.
use Rattle.std.proofs.Common.{◌≡◌, ◌≢◌, ◌⊎◌, ◌∙◌, ℕ, ◌<◌, Bool, true, false, List, [], length, get_or, drop, set, inl}
use Rattle.std.proofs.Common.{inr, refl, sym, ap, subst, arith}
use Rattle.std.specs.Prelude.{Ok, Err, position}
use Rattle.std.specs.Str.{bytes_eq}
use Rattle.std.proofs.lemmas.List.{get_or-drop, get_or-set_other, get_or-set_same}
use Rattle.std.proofs.lemmas.List.Quantifiers.{position-Some}
use Rattle.std.proofs.lemmas.Slice.Eq.{bytes_eq-Decides}
use Rattle.desk_words.specs.declared.change.Change.{Change}
use Rattle.desk_words.specs.declared.clerk_work.ClerkWork.{ClerkWork}
use Rattle.desk_words.specs.declared.command.Command.{Command}
use Rattle.desk_words.specs.declared.command.Command.TheVariants.{Steward, Clerk, Look, Desk}
use Rattle.desk_words.specs.declared.command.Ticket.{Ticket}
use Rattle.desk_words.specs.declared.reply.Reply.{Reply}
use Rattle.desk_words.specs.declared.rows.act.Act.{Act}
use Rattle.desk_words.specs.declared.rows.clerk.ClerkRow.{ClerkRow}
use Rattle.desk_words.specs.declared.steward_work.StewardWork.{StewardWork}
use Rattle.desk_words.specs.Changes.{changed, changed_all}
use Rattle.desk_words.specs.Tables.{AreTables, Rows, new_clerk, published_of}
use Rattle.desk_valid.specs.Valid.{AreValid}
use Rattle.machine_core.specs.Checked.{Checked, IsFound, Outcome, and_then, awaits, done, nothing, told, ComesTo, run}
use Rattle.machine_core.specs.Checked.{◌>>=◌, Gives}
use Rattle.machine_core.specs.Machine.{IsStep, clerk_of, machine}
use Rattle.machine_core.specs.declared.making.Making.{Making}
use Rattle.machine_core.specs.Own.{Own, own_of}
use Rattle.machine_core.specs.declared.ticket.Use.TheVariants.{Fresh}
use Rattle.machine_core.specs.Ticket.{ticketed, use_of}
use Rattle.machine_laws.specs.Callers.{Caller, asks, clerk, number_of, place_of, steward}
use Rattle.machine_laws.proofs.Accepted.{making-sound}
use Rattle.machine_laws.proofs.Callers.{names_of}
use Rattle.machine_laws.proofs.Deeds.{changed-caller, changed-deed, own_after}
use Rattle.machine_laws.proofs.Lists.{Begins, Begins-same, list_at-set_other, list_at-set_same, map-set_same}
use Rattle.machine_laws.proofs.Lists.{slice_get-read, slice_get-there}
use Rattle.machine_laws.proofs.More.{AreMore, AreMore-same, AreMore-changed}
use Rattle.machine_laws.proofs.Names.{clerk_of-begins, found-place}
use Rattle.machine_laws.proofs.Valid.{with_own}
use Rattle.machine_laws.proofs.Writes.{IsNew, IsPlaceOf, IsStewardsNew, clerk-written, clerk_of-ok, desk-unchanged}
use Rattle.machine_laws.proofs.Writes.{look-unchanged, step-holds, steward-written}

-- what an accepted request is: a new write of a clerk or of the steward
pub data IsAccepted (rows : Rows) : Command → Reply → List Change → Type 0 where
  by_clerk : (name : List ℕ) (ticket : Ticket) (work : ClerkWork) (answer : Reply) (changes : List Change)
      → IsNew rows name ticket work answer changes → IsAccepted rows (Clerk name ticket work) answer changes
  by_steward : (ticket : Ticket) (work : StewardWork) (answer : Reply) (changes : List Change)
      → IsStewardsNew rows ticket work answer changes → IsAccepted rows (Steward ticket work) answer changes

made-cases : (rows : Rows) (command : Command) (made : Reply × List Change) → Gives (machine rows command) (Ok made)
    → (made.1 ≡ []) ⊎ IsAccepted rows command made.0 made.1
made-cases rows (Steward ticket work) made gives = elim (steward-written rows ticket work made gives) [
  | inl again ↦ inl again.unchanged
  | inr new ↦ inr (by_steward ticket work made.0 made.1 new)
]
made-cases rows (Clerk name ticket work) made gives = elim (clerk-written rows name ticket work made gives) [
  | inl again ↦ inl again.unchanged
  | inr new ↦ inr (by_clerk name ticket work made.0 made.1 new)
]
made-cases rows (Look name look) made gives = inl (look-unchanged rows name look made gives)
made-cases rows (Desk look) made gives = inl (desk-unchanged rows look made gives)

-- a step changes nothing, or its request is accepted
pub step-cases : (rows : Rows) (command : Command) (answer : Reply) (changes : List Change)
    → IsStep rows command answer changes → (changes ≡ []) ⊎ IsAccepted rows command answer changes
step-cases rows command = step-holds (λ answer changes. (changes ≡ []) ⊎ IsAccepted rows command answer changes) rows
    command (made-cases rows command) (λ refusal gives. inl refl)

-- the caller's own rows are those that were put
pub own_of-with_same : (rows : Rows) (place : ℕ) (own : Own) → AreTables rows → place < length rows.clerks
    → own_of (with_own rows place own) place ≡ own
own_of-with_same rows place own tables within =
    let row = get_or-set_same rows.clerks place own.row (new_clerk []) within in
    let sessions = list_at-set_same rows.sessions place own.sessions (omega (arith, tables.sessions.each)) in
    let records = list_at-set_same rows.records place own.records (omega (arith, tables.records.each)) in
    let batches = list_at-set_same rows.batches place own.batches (omega (arith, tables.batches.each)) in
    λ i. record { row = row i; sessions = sessions i; records = records i; batches = batches i }

-- and another caller's are as they were
pub own_of-with_other : (rows : Rows) (place other : ℕ) (own : Own) → other ≢ place
    → own_of (with_own rows place own) other ≡ own_of rows other
own_of-with_other rows place other own apart =
    let row = get_or-set_other rows.clerks place other own.row (new_clerk []) apart in
    let sessions = list_at-set_other rows.sessions place other own.sessions apart in
    let records = list_at-set_other rows.records place other own.records apart in
    let batches = list_at-set_other rows.batches place other own.batches apart in
    λ i. record { row = row i; sessions = sessions i; records = records i; batches = batches i }

-- names stay where a caller's row keeps its name
pub names-set : (rows : Rows) (place : ℕ) (row : ClerkRow) → place < length rows.clerks
    → row.name ≡ (own_of rows place).row.name → names_of (set rows.clerks place row) ≡ names_of rows.clerks
names-set rows place row within same =
    let there = slice_get-there rows.clerks place within in
    map-set_same (λ (row : ClerkRow). row.name) rows.clerks place row there.0 there.1
    (same ∙ ap (λ (row : ClerkRow). row.name) (slice_get-read rows.clerks place there.0 (new_clerk []) there.1))

-- a clerk who is found has the name
pub clerk_of-named : (clerks : List ClerkRow) (name : List ℕ) (place : ℕ) (past : ClerkRow)
    → IsFound (clerk_of clerks name) place
    → (get_or clerks place past).name ≡ name
clerk_of-named clerks name place past is =
    let test : ClerkRow → Bool = λ row. bytes_eq row.name name in
    let found = found-place place (position test (drop 1 clerks)) is in
    let here = position-Some test (drop 1 clerks) found.0 past found.1 in
    let same : get_or (drop 1 clerks) found.0 past ≡ get_or clerks place past =
    get_or-drop 1 clerks found.0 past ∙ ap (λ one. get_or clerks one past) (omega (arith, found.2)) in
    ap (λ (row : ClerkRow). row.name) (sym same)
    ∙ (bytes_eq-Decides (get_or (drop 1 clerks) found.0 past).name name).0 here.1

-- so two names have two places
clerk_of-apart : (clerks : List ClerkRow) (name other : List ℕ) (place : ℕ) → IsFound (clerk_of clerks name) place
    → IsFound (clerk_of clerks other) place → name ≡ other
clerk_of-apart clerks name other place is is_too =
    sym (clerk_of-named clerks name place (new_clerk []) is) ∙ clerk_of-named clerks other place (new_clerk []) is_too

-- a chain that finds its value: its first part did
pub chain-done : {A B : Type 0} (checked : Checked A) (make : A → B) (value : B)
    → IsFound (checked >>= (λ one. done (make one))) value
    → (found : A) × IsFound checked found × (make found ≡ value)
chain-done {A} checked make value = made (run checked)
  where
    made : (outcome : Outcome A) → and_then outcome (λ one. told (Ok (make one))) ≡ told (Ok value)
        → (found : A) × (outcome ≡ told (Ok found)) × (make found ≡ value)
    made (told (Ok found)) is = (found, refl, cc)
    made (told (Err refusal)) is = absurd (cc)
    made (awaits question more) is = absurd (cc)
    made nothing is = absurd (cc)

-- places stay where clerks come after
pub place_of-begins : (rows other : Rows) (caller : Caller) (place : ℕ)
    → Begins (names_of rows.clerks) (names_of other.clerks) → IsFound (place_of rows caller) place
    → IsFound (place_of other caller) place
place_of-begins rows other steward place begins is = is
place_of-begins rows other (clerk name) place begins is =
    clerk_of-begins rows.clerks other.clerks name place begins is

module _ (rows : Rows) (valid : AreValid rows) where
  -- the tables after a clerk's new write
  pub after-clerk : (name : List ℕ) (ticket : Ticket) (work : ClerkWork) (answer : Reply) (changes : List Change)
      → (new : IsNew rows name ticket work answer changes)
      → changed_all rows changes ≡ with_own rows new.place (own_after (own_of rows new.place) ticket new.deed)
  after-clerk name ticket work answer changes new = ap (changed_all rows) new.changed
      ∙ changed-deed rows valid.tables new.place new.is_place.within ticket new.deed

  -- and after one of the steward
  abbrev pub with_making : Ticket → Making → Rows
  with_making ticket making = record (changed rows making.change) {
    clerks = set (changed rows making.change).clerks 0 (ticketed (own_of rows 0).row ticket making.act making.target);
  }

  pub after-steward : (ticket : Ticket) (work : StewardWork) (answer : Reply) (changes : List Change)
      → (new : IsStewardsNew rows ticket work answer changes) → changed_all rows changes ≡ with_making ticket new.making
  after-steward ticket work answer changes new =
      let sound = making-sound rows work new.making valid new.makes in
      ap (changed_all rows) new.changed_so ∙ changed-caller (changed rows new.making.change) 0
      (ticketed (own_of rows 0).row ticket new.making.act new.making.target) sound.valid.tables.steward

  -- a step leaves what was published, and callers under their names
  pub record IsLonger (other : Rows) : Type 0 where
    pub published : AreMore (published_of rows) (published_of other)
    pub names : Begins (names_of rows.clerks) (names_of other.clerks)

  longer-same : IsLonger rows
  longer-same = record { published = AreMore-same (published_of rows); names = Begins-same (names_of rows.clerks) }

  accepted-longer : (command : Command) (answer : Reply) (changes : List Change) → IsAccepted rows command answer
      changes
      → IsLonger (changed_all rows changes)
  accepted-longer command answer changes (by_clerk name ticket work answer' changes' new) =
      let own : Own = own_after (own_of rows new.place) ticket new.deed in
      let names = names-set rows new.place own.row new.is_place.within refl in
      let same : IsLonger (with_own rows new.place own) = record {
        published = AreMore-same (published_of rows);
        names = subst (Begins (names_of rows.clerks)) (sym names) (Begins-same (names_of rows.clerks));
      } in
      subst IsLonger (sym (after-clerk name ticket work answer' changes' new)) same
  accepted-longer command answer changes (by_steward ticket work answer' changes' new) =
      let sound = making-sound rows work new.making valid new.makes in
      let next : Rows = changed rows new.making.change in
      let row : ClerkRow = ticketed (own_of rows 0).row ticket new.making.act new.making.target in
      let names = names-set next 0 row sound.valid.tables.steward (ap (λ (own : Own). own.row.name) (sym (sound.own 0
      valid.tables.steward))) in
      let same : IsLonger (with_making ticket new.making) = record {
        published = AreMore-changed rows new.making.change;
        names = subst (Begins (names_of rows.clerks)) (sym names) sound.names;
      } in
      subst IsLonger (sym (after-steward ticket work answer' changes' new)) same

  pub step-longer : (command : Command) (answer : Reply) (changes : List Change) → IsStep rows command answer changes
      → IsLonger (changed_all rows changes)
  step-longer command answer changes step = elim (step-cases rows command answer changes step) [
    | inl none ↦ subst (λ made. IsLonger (changed_all rows made)) (sym none) longer-same
    | inr accepted ↦ accepted-longer command answer changes accepted
  ]

  -- another's request leaves a caller's own rows
  accepted-kept : (caller : Caller) (place : ℕ) (command : Command) (answer : Reply) (changes : List Change)
      → IsAccepted rows command answer changes → asks caller command ≡ false → IsFound (place_of rows caller) place
      → own_of (changed_all rows changes) place ≡ own_of rows place
  accepted-kept steward place command answer changes (by_clerk name ticket work answer' changes' new) other is =
      let first : place ≡ 0 = cc in
      let apart : place ≢ new.place = λ same. omega (arith, first, same, new.is_place.following) in
      ap (λ (one : Rows). own_of one place) (after-clerk name ticket work answer' changes' new)
      ∙ own_of-with_other rows new.place place (own_after (own_of rows new.place) ticket new.deed) apart
  accepted-kept steward place command answer changes (by_steward ticket work answer' changes' new) other is =
      absurd (cc)
  accepted-kept (clerk name) place command answer changes (by_clerk named ticket work answer' changes' new) other is =
      let apart : place ≢ new.place = λ same. different (clerk_of-apart rows.clerks named name place
      (subst (λ one. IsFound (clerk_of rows.clerks named) one) (sym same) new.is_place.found) is) in
      ap (λ (one : Rows). own_of one place) (after-clerk named ticket work answer' changes' new)
      ∙ own_of-with_other rows new.place place (own_after (own_of rows new.place) ticket new.deed) apart
    where
      different : named ≡ name → ⊥
      different same =
          let told : bytes_eq named name ≡ true = (bytes_eq-Decides named name).1 same in
          let both : true ≡ false = sym told ∙ other in
          cc
  accepted-kept (clerk name) place command answer changes (by_steward ticket work answer' changes' new) other is =
      let sound = making-sound rows work new.making valid new.makes in
      let there : IsPlaceOf rows.clerks name place =
      clerk_of-ok rows.clerks name place (subst (λ one. ComesTo one (Ok place)) (sym is) refl) in
      let next : Rows = changed rows new.making.change in
      let row : ClerkRow = ticketed (own_of rows 0).row ticket new.making.act new.making.target in
      let apart : place ≢ 0 = λ same. omega (arith, same, there.following) in
      let caller = get_or-set_other next.clerks 0 place row (new_clerk []) apart in
      let same : own_of (with_making ticket new.making) place ≡ own_of next place = λ i. record (own_of next place)
      { row = caller i } in
      ap (λ (one : Rows). own_of one place) (after-steward ticket work answer' changes' new) ∙ same
      ∙ sound.own place there.within

  pub step-kept : (caller : Caller) (place : ℕ) (command : Command) (answer : Reply) (changes : List Change)
      → IsStep rows command answer changes → (changes ≡ []) ⊎ (asks caller command ≡ false)
      → IsFound (place_of rows caller) place → own_of (changed_all rows changes) place ≡ own_of rows place
  step-kept caller place command answer changes step (inl none) is = ap (λ made. own_of (changed_all rows made) place)
      none
  step-kept caller place command answer changes step (inr other) is =
      elim (step-cases rows command answer changes step) [
        | inl none ↦ ap (λ made. own_of (changed_all rows made) place) none
        | inr accepted ↦ accepted-kept caller place command answer changes accepted other is
      ]

  -- an accepted request puts its ticket into the caller's row
  pub record IsTicketed (caller : Caller) (command : Command) (changes : List Change) : Type 0 where
    pub place : ℕ
    pub found : IsFound (place_of rows caller) place
    pub ticket : Ticket
    pub number : number_of command ≡ ticket.number
    pub use_made : Gives (use_of (own_of rows place).row ticket) (Ok Fresh)
    pub what : Act
    pub target : ℕ
    pub row : (own_of (changed_all rows changes) place).row ≡ ticketed (own_of rows place).row ticket what target

  accepted-ticketed : (caller : Caller) (command : Command) (answer : Reply) (changes : List Change)
      → IsAccepted rows command answer changes → asks caller command ≡ true → IsTicketed caller command changes
  accepted-ticketed steward command answer changes (by_clerk name ticket work answer' changes' new) asked_it =
      absurd (cc)
  accepted-ticketed steward command answer changes (by_steward ticket work answer' changes' new) asked_it =
      let sound = making-sound rows work new.making valid new.makes in
      let next : Rows = changed rows new.making.change in
      let row : ClerkRow = ticketed (own_of rows 0).row ticket new.making.act new.making.target in
      record {
        place = 0;
        found = refl;
        ticket = ticket;
        number = refl;
        use_made = new.use_made;
        what = new.making.act;
        target = new.making.target;
        row = ap (λ (one : Rows). (own_of one 0).row) (after-steward ticket work answer' changes' new)
            ∙ get_or-set_same next.clerks 0 row (new_clerk []) sound.valid.tables.steward;
      }
  accepted-ticketed (clerk name) command answer changes (by_clerk named ticket work answer' changes' new) asked_it =
      let same : named ≡ name = (bytes_eq-Decides named name).0 asked_it in
      record {
        place = new.place;
        found = subst (λ one. IsFound (clerk_of rows.clerks one) new.place) same new.is_place.found;
        ticket = ticket;
        number = refl;
        use_made = new.use_made;
        what = new.deed.act;
        target = new.deed.target;
        row = ap (λ (one : Rows). (own_of one new.place).row) (after-clerk named ticket work answer' changes' new)
            ∙ ap (λ (own : Own). own.row) (own_of-with_same rows new.place
            (own_after (own_of rows new.place) ticket new.deed)
            valid.tables new.is_place.within);
      }
  accepted-ticketed (clerk name) command answer changes (by_steward ticket work answer' changes' new) asked_it =
      absurd (cc)

  pub step-ticketed : (caller : Caller) (command : Command) (answer : Reply) (changes : List Change)
      → IsStep rows command answer changes → changes ≢ [] → asks caller command ≡ true → IsTicketed caller command
      changes
  step-ticketed caller command answer changes step some asked_it = elim (step-cases rows command answer changes step) [
    | inl none ↦ absurd (some none)
    | inr accepted ↦ accepted-ticketed caller command answer changes accepted asked_it
  ]
