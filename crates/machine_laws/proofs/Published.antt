-- What was published as a text is shown ever after.
use Rattle.std.proofs.Common.{◌≡◌, ◌≢◌, ◌∙◌, ℕ, ◌+◌, List, [], ◌∷◌, ◌++◌, length, Some, inl, inr, refl, sym, ap, subst}
use Rattle.std.proofs.Common.{arith}
use Rattle.std.specs.Prelude.{◌==◌, ◌&&◌, Ok, Option, count_by, slice_get}
use Rattle.std.specs.Str.{bytes_eq}
use Rattle.std.proofs.lemmas.List.{length-append, take_all}
use Rattle.std.proofs.lemmas.Option.{same_Some, slice_get_within}
use Rattle.std.proofs.lemmas.Slice.Eq.{bytes_eq-Decides}
use Rattle.desk_base.proofs.Lists.{slice_get-end}
use Rattle.desk_words.specs.declared.change.Change.{Change}
use Rattle.desk_words.specs.declared.change.Change.TheVariants as change
use Rattle.desk_words.specs.declared.command.Command.{Command}
use Rattle.desk_words.specs.declared.command.Command.TheVariants.{Steward, Clerk, Look, Desk}
use Rattle.desk_words.specs.declared.command.Ticket.{Ticket}
use Rattle.desk_words.specs.declared.desk_look.DeskLook.TheVariants.{Body}
use Rattle.desk_words.specs.declared.desk_look.Publication.{Publication}
use Rattle.desk_words.specs.declared.desk_look.Publication.TheVariants.{Schema, Master, Rulebook}
use Rattle.desk_words.specs.declared.made.Made.{Made}
use Rattle.desk_words.specs.declared.made.Made.TheVariants as made
use Rattle.desk_words.specs.declared.refusal.Kind.{Kind}
use Rattle.desk_words.specs.declared.refusal.Kind.TheVariants as kind
use Rattle.desk_words.specs.declared.reply.Reply.{Reply}
use Rattle.desk_words.specs.declared.reply.Reply.TheVariants as reply
use Rattle.desk_words.specs.declared.rows.act.Act.TheVariants as act
use Rattle.desk_words.specs.declared.rows.rulebook.RulebookRow.{RulebookRow}
use Rattle.desk_words.specs.declared.rows.text.TextRow.{TextRow}
use Rattle.desk_words.specs.declared.steward_work.StewardWork.{StewardWork}
use Rattle.desk_words.specs.declared.proposal.Proposal.TheVariants as proposal
use Rattle.desk_words.specs.declared.steward_work.StewardWork.TheVariants.{AddClerk, Publish, AddRegion, AddDerived}
use Rattle.desk_words.specs.Changes.{changed, changed_all}
use Rattle.desk_words.specs.Tables.{Published, Rows, published_of}
use Rattle.desk_valid.specs.Valid.{AreValid}
use Rattle.machine_core.specs.Checked.{Gives, IsFound, done}
use Rattle.machine_core.specs.DeskLook.{desk_reply}
use Rattle.machine_core.specs.DeskLook.Bodies.{body_at, body_of}
use Rattle.machine_core.specs.Finding.{place_of}
use Rattle.machine_core.specs.Kept.{kept_made}
use Rattle.machine_core.specs.Machine.{IsStep, making_of}
use Rattle.machine_core.specs.declared.making.Making.{Making}
use Rattle.machine_core.specs.Versions.{AreVersions, IsLastNamed}
use Rattle.machine_core.proofs.Chains.{Gives-bind, Gives-found}
use Rattle.machine_core.proofs.Newest.{newest-last, version-last}
use Rattle.machine_core.proofs.Walks.{Met-Gives}
use Rattle.machine_laws.specs.Events.{AreAnswered, Event, tables_after}
use Rattle.machine_laws.specs.Publishing.{ShowWhatWasPublished, made_of, text_in}
use Rattle.machine_laws.proofs.DeskLooks.{desk-answered}
use Rattle.machine_laws.proofs.Listed.{next-valid}
use Rattle.machine_laws.proofs.Lists.{Begins, slice_get-begins}
use Rattle.machine_laws.proofs.More.{AreMore}
use Rattle.machine_laws.proofs.Names.{position-append}
use Rattle.machine_laws.proofs.Numbers.{accepted-some}
use Rattle.machine_laws.proofs.Staying.{IsLonger, after-steward, step-longer}
use Rattle.machine_laws.proofs.Writes.{IsStewardsNew, steward-cases}

-- ---- a row with its body

-- the first row of this name and version has this body
record HasBody {T : Type 0} (name_of : T → List ℕ) (version_of : T → ℕ) (body_in : T → List ℕ) (rows : List T)
    (name : List ℕ) (version : ℕ) (body : List ℕ) : Type 0 where
  place : ℕ
  found : place_of name_of version_of rows name version ≡ Some place
  row : T
  stands : slice_get rows place ≡ Some row
  is : body_in row ≡ body

module _ {T : Type 0} (name_of : T → List ℕ) (version_of : T → ℕ) (body_in : T → List ℕ) where
  -- it has it where more rows stand
  HasBody-begins : (rows others : List T) (name : List ℕ) (version : ℕ) (body : List ℕ) → Begins rows others
      → HasBody name_of version_of body_in rows name version body
      → HasBody name_of version_of body_in others name version body
  HasBody-begins rows others name version body begins has = record {
    place = has.place;
    found = ap (λ list. place_of name_of version_of list name version) begins.1
        ∙ position-append (λ row. bytes_eq (name_of row) name && (version_of row == version)) rows begins.0 has.place
        has.found;
    row = has.row;
    stands = slice_get-begins rows others begins has.place (slice_get_within rows has.place has.row has.stands)
        ∙ has.stands;
    is = has.is;
  }

  -- a row that was published last is the only one of its name and version
  HasBody-last : (rows : List T) (row : T) → AreVersions name_of version_of (rows ++ row ∷ [])
      → HasBody name_of version_of body_in (rows ++ row ∷ []) (name_of row) (version_of row) (body_in row)
  HasBody-last rows row versions =
      let all : List T = rows ++ row ∷ [] in
      let last : IsLastNamed name_of all (name_of row) (length rows) = record {
        row = row;
        stands = slice_get-end rows row;
        named = (bytes_eq-Decides (name_of row) (name_of row)).1 refl;
        last = ap (count_by (λ one. bytes_eq (name_of one) (name_of row)))
            (take_all (length rows + 1) all (omega (arith, length-append rows (row ∷ []))));
      } in
      record {
        place = length rows;
        found = ap (place_of name_of version_of all (name_of row))
            (version-last name_of version_of all (name_of row) versions (length rows) last)
            ∙ newest-last name_of version_of all (name_of row) versions (length rows) last;
        row = row;
        stands = slice_get-end rows row;
        is = refl;
      }

  -- so a row that is published has its body, under what it is told
  HasBody-pushed : (rows next : List T) (row : T) (name : List ℕ) (version : ℕ) (body : List ℕ)
      → next ≡ rows ++ row ∷ [] → AreVersions name_of version_of next → name_of row ≡ name → version_of row ≡ version
      → body_in row ≡ body → HasBody name_of version_of body_in next name version body
  HasBody-pushed rows next row name version body pushed versions named numbered sent =
      let has = HasBody-last rows row (subst (AreVersions name_of version_of) pushed versions) in
      subst (λ list. HasBody name_of version_of body_in list name version body) (sym pushed)
      (subst (λ one. HasBody name_of version_of body_in (rows ++ row ∷ []) one version body) named
      (subst (λ one. HasBody name_of version_of body_in (rows ++ row ∷ []) (name_of row) one body) numbered
      (subst (HasBody name_of version_of body_in (rows ++ row ∷ []) (name_of row) (version_of row)) sent has)))

  -- and the body is found
  HasBody-found : (kind : Kind) (rows : List T) (name : List ℕ) (version : ℕ) (body : List ℕ)
      → HasBody name_of version_of body_in rows name version body
      → IsFound (body_at body_in kind rows (place_of name_of version_of rows name version)) body
  HasBody-found kind rows name version body has = rw (has.found, has.stands, has.is) refl

-- ---- a published text

-- this version of a schema, a master or a rulebook has this body
abbrev HasText : Published → Publication → List ℕ → ℕ → List ℕ → Type 0
HasText published Schema = HasBody (λ row. row.name) (λ row. row.version) (λ row. row.body) published.schemas
HasText published Master = HasBody (λ row. row.name) (λ row. row.version) (λ row. row.body) published.masters
HasText published Rulebook = HasBody (λ row. row.name) (λ row. row.version) (λ row. row.body) published.rulebooks

-- it has it where more is published
HasText-more : (one other : Published) → AreMore one other → (what : Publication) (name : List ℕ) (version : ℕ)
    (body : List ℕ) → HasText one what name version body → HasText other what name version body
HasText-more one other more Schema name version body = HasBody-begins (λ row. row.name) (λ row. row.version)
    (λ row. row.body) one.schemas other.schemas name version body more.schemas
HasText-more one other more Master name version body = HasBody-begins (λ row. row.name) (λ row. row.version)
    (λ row. row.body) one.masters other.masters name version body more.masters
HasText-more one other more Rulebook name version body = HasBody-begins (λ row. row.name) (λ row. row.version)
    (λ row. row.body) one.rulebooks other.rulebooks name version body more.rulebooks

-- and it is what is found
HasText-gives : (published : Published) (what : Publication) (name : List ℕ) (version : ℕ) (body : List ℕ)
    → HasText published what name version body → Gives (body_of published what name version) (Ok body)
HasText-gives published Schema name version body has = Gives-found (body_of published Schema name version) body
    (HasBody-found (λ row. row.name) (λ row. row.version) (λ row. row.body) kind.Schema published.schemas name version
    body has)
HasText-gives published Master name version body has = Gives-found (body_of published Master name version) body
    (HasBody-found (λ row. row.name) (λ row. row.version) (λ row. row.body) kind.Master published.masters name version
    body has)
HasText-gives published Rulebook name version body has = Gives-found (body_of published Rulebook name version) body
    (HasBody-found (λ row. row.name) (λ row. row.version) (λ row. row.body) kind.Rulebook published.rulebooks name
    version body has)

-- and replied
HasText-reply : (rows : Rows) (what : Publication) (name : List ℕ) (version : ℕ) (body : List ℕ)
    → HasText (published_of rows) what name version body
    → Gives (desk_reply rows (Body what name version)) (Ok (reply.Body what body))
HasText-reply rows what name version body has = Gives-bind (body_of (published_of rows) what name version)
    (λ one. done (reply.Body what one)) body (Ok (reply.Body what body))
    (HasText-gives (published_of rows) what name version body has) refl

-- ---- an accepted write of the steward

-- what is made of one who is told of a thing
same_made : (one other : Made) → reply.Made one ≡ reply.Made other → one ≡ other
same_made one other is = cc

module _ (rows : Rows) (valid : AreValid rows) (ticket : Ticket) (answer : Reply) (changes : List Change)
    (next_valid : AreValid (changed_all rows changes)) (name : List ℕ) (version : ℕ) (body : List ℕ) where
  -- a schema stands under what the steward is told
  schema-published : IsStewardsNew rows ticket (Publish (proposal.Schema body)) answer changes
      → answer ≡ reply.Made (made.Schema name version)
      → HasText (published_of (changed_all rows changes)) Schema name version body
  schema-published new told =
      let (row, (_, reads, (_, few, row_is)), making) =
      Met-Gives (making_of rows (Publish (proposal.Schema body))) (Ok new.making) new.makes in
      let pushed : (changed_all rows changes).schemas ≡ rows.schemas ++ row ∷ [] =
      ap (λ (one : Rows). one.schemas)
      (after-steward rows valid ticket (Publish (proposal.Schema body)) answer changes new)
      ∙ ap (λ (one : Making). (changed rows one.change).schemas) making in
      let (there, stands, made_is) = Met-Gives (kept_made (changed rows (change.Schema row)) act.Schema
      (length rows.schemas)) (Ok new.made) (subst (λ (one : Making).
      Gives (kept_made (changed rows one.change) one.act one.target) (Ok new.made)) making new.kept) in
      let found : Some there ≡ Some row = sym stands ∙ slice_get-end rows.schemas row in
      let told_so : made.Schema there.name there.version ≡ made.Schema name version =
      sym made_is ∙ same_made new.made (made.Schema name version) (sym new.answered ∙ told) in
      HasBody-pushed (λ one. one.name) (λ one. one.version) (λ one. one.body) rows.schemas
      (changed_all rows changes).schemas row name version body pushed
      (λ place one at. (next_valid.schemas place one at).version) (cc) (cc)
      (ap (λ (one : TextRow). one.body) row_is)

  -- and so does a master
  master-published : (named : List ℕ) → IsStewardsNew rows ticket (Publish (proposal.Master named body)) answer changes
      → answer ≡ reply.Made (made.Master name version)
      → HasText (published_of (changed_all rows changes)) Master name version body
  master-published named new told =
      let (row, (_, proper, (_, reads, (_, few, (_, cells, row_is)))), making) =
      Met-Gives (making_of rows (Publish (proposal.Master named body))) (Ok new.making) new.makes in
      let pushed : (changed_all rows changes).masters ≡ rows.masters ++ row ∷ [] =
      ap (λ (one : Rows). one.masters)
      (after-steward rows valid ticket (Publish (proposal.Master named body)) answer changes new)
      ∙ ap (λ (one : Making). (changed rows one.change).masters) making in
      let (there, stands, made_is) = Met-Gives (kept_made (changed rows (change.Master row)) act.Master
      (length rows.masters)) (Ok new.made) (subst (λ (one : Making).
      Gives (kept_made (changed rows one.change) one.act one.target) (Ok new.made)) making new.kept) in
      let found : Some there ≡ Some row = sym stands ∙ slice_get-end rows.masters row in
      let told_so : made.Master there.name there.version ≡ made.Master name version =
      sym made_is ∙ same_made new.made (made.Master name version) (sym new.answered ∙ told) in
      HasBody-pushed (λ one. one.name) (λ one. one.version) (λ one. one.body) rows.masters
      (changed_all rows changes).masters row name version body pushed
      (λ place one at. (next_valid.masters place one at).version) (cc) (cc)
      (ap (λ (one : TextRow). one.body) row_is)

  -- and a rulebook
  rulebook-published : (named schema : List ℕ) (over : ℕ)
      → IsStewardsNew rows ticket (Publish (proposal.Rulebook named schema over body)) answer changes
      → answer ≡ reply.Made (made.Rulebook name version)
      → HasText (published_of (changed_all rows changes)) Rulebook name version body
  rulebook-published named schema over new told =
      let (row, (_, proper, (_, stood, (_, read, (_, reads, (_, few, row_is))))), making) =
      Met-Gives (making_of rows (Publish (proposal.Rulebook named schema over body))) (Ok new.making) new.makes in
      let pushed : (changed_all rows changes).rulebooks ≡ rows.rulebooks ++ row ∷ [] =
      ap (λ (one : Rows). one.rulebooks)
      (after-steward rows valid ticket (Publish (proposal.Rulebook named schema over body)) answer changes new)
      ∙ ap (λ (one : Making). (changed rows one.change).rulebooks) making in
      let (there, stands, made_is) = Met-Gives (kept_made (changed rows (change.Rulebook row)) act.Rulebook
      (length rows.rulebooks)) (Ok new.made) (subst (λ (one : Making).
      Gives (kept_made (changed rows one.change) one.act one.target) (Ok new.made)) making new.kept) in
      let found : Some there ≡ Some row = sym stands ∙ slice_get-end rows.rulebooks row in
      let told_so : made.Rulebook there.name there.version ≡ made.Rulebook name version =
      sym made_is ∙ same_made new.made (made.Rulebook name version) (sym new.answered ∙ told) in
      HasBody-pushed (λ one. one.name) (λ one. one.version) (λ one. one.body) rows.rulebooks
      (changed_all rows changes).rulebooks row name version body pushed
      (λ place one at. (next_valid.rulebooks place one at).version) (cc) (cc)
      (ap (λ (one : RulebookRow). one.body) row_is)

module _ (rows : Rows) (valid : AreValid rows) (answer : Reply) (changes : List Change)
    (next_valid : AreValid (changed_all rows changes)) (accepted : changes ≢ []) (name : List ℕ) (version : ℕ) where
  -- a text stands where its caller is told so
  abbrev Stands : Publication × List ℕ → Type 0
  Stands text = answer ≡ reply.Made (made_of text.0 name version)
      → HasText (published_of (changed_all rows changes)) text.0 name version text.1

  -- what stands of the text that was sent stands of what is said to be this text
  Stands-sent : (sent text : Publication × List ℕ)
      → ◌≡◌ {A = Option (Publication × List ℕ)} (Some sent) (Some text) → Stands sent → Stands text
  Stands-sent sent text is = subst Stands (same_Some sent text is)

  -- an accepted write of the steward is new
  new-write : (ticket : Ticket) (work : StewardWork) → IsStep rows (Steward ticket work) answer changes
      → IsStewardsNew rows ticket work answer changes
  new-write ticket work step = elim (steward-cases rows ticket work answer changes step) [
    | inl none ↦ absurd (accepted none)
    | inr new ↦ new
  ]

  -- the text of an accepted write stands under what its caller is told
  step-published : (command : Command) → IsStep rows command answer changes → (text : Publication × List ℕ)
      → text_in command ≡ Some text → Stands text
  step-published (Steward ticket (Publish (proposal.Schema sent))) step text is = Stands-sent (Schema, sent) text is
      (schema-published rows valid ticket answer changes next_valid name version sent
      (new-write ticket (Publish (proposal.Schema sent)) step))
  step-published (Steward ticket (Publish (proposal.Master named sent))) step text is =
      Stands-sent (Master, sent) text is
      (master-published rows valid ticket answer changes next_valid name version sent named
      (new-write ticket (Publish (proposal.Master named sent)) step))
  step-published (Steward ticket (Publish (proposal.Rulebook named schema over sent))) step text is =
      Stands-sent (Rulebook, sent) text is
      (rulebook-published rows valid ticket answer changes next_valid name version sent named schema over
      (new-write ticket (Publish (proposal.Rulebook named schema over sent)) step))
  step-published (Steward ticket (AddClerk named)) step text is = absurd (cc)
  step-published (Steward ticket (Publish (proposal.Edition named rulebook masters folded))) step text is = absurd (cc)
  step-published (Steward ticket (AddRegion edition over attributes texts)) step text is = absurd (cc)
  step-published (Steward ticket (AddDerived edition over master pairs from)) step text is = absurd (cc)
  step-published (Clerk clerk ticket work) step text is = absurd (cc)
  step-published (Look clerk look) step text is = absurd (cc)
  step-published (Desk look) step text is = absurd (cc)

-- ---- over requests one after another

-- tables stay valid, through any requests
valid-through : (rows : Rows) (events others : List Event) → AreValid rows → AreAnswered rows (events ++ others)
    → AreValid (tables_after rows events) × AreAnswered (tables_after rows events) others
valid-through rows [] others valid steps = (valid, steps)
valid-through rows (event ∷ events) others valid steps =
    valid-through (changed_all rows event.changes) events others (next-valid rows event valid steps.0 steps.1) steps.2

-- and a text stays
text-through : (rows : Rows) (what : Publication) (name : List ℕ) (version : ℕ) (body : List ℕ)
    (between others : List Event) → AreValid rows → HasText (published_of rows) what name version body
    → AreAnswered rows (between ++ others)
    → HasText (published_of (tables_after rows between)) what name version body
    × AreAnswered (tables_after rows between) others
text-through rows what name version body [] others valid has steps = (has, steps)
text-through rows what name version body (one ∷ between) others valid has steps =
    let next : Rows = changed_all rows one.changes in
    let longer : IsLonger rows valid next = step-longer rows valid one.command one.answer one.changes steps.1 in
    text-through next what name version body between others (next-valid rows one valid steps.0 steps.1)
    (HasText-more (published_of rows) (published_of next) longer.published what name version body has) steps.2

-- so a later look at it shows the body that was sent
pub published-shown : (rows : Rows) → AreValid rows → (events : List Event) → AreAnswered rows events
    → ShowWhatWasPublished events
published-shown rows valid events answered =
    λ earlier between later publishing look is what name version body publishes looks.
    let split : AreAnswered rows (earlier ++ publishing ∷ (between ++ look ∷ later)) =
    subst (AreAnswered rows) is answered in
    let (valid_before, steps) = valid-through rows earlier (publishing ∷ (between ++ look ∷ later)) valid split in
    let before : Rows = tables_after rows earlier in
    let next : Rows = changed_all before publishing.changes in
    let next_valid : AreValid next = next-valid before publishing valid_before steps.0 steps.1 in
    let has = step-published before valid_before publishing.answer publishing.changes next_valid
    (accepted-some publishing publishes.accepted) name version publishing.command steps.1 (what, body)
    publishes.publishes publishes.told in
    let there = text-through next what name version body between (look ∷ later) next_valid has steps.2 in
    let seen : Rows = tables_after next between in
    let step : IsStep seen (Desk (Body what name version)) look.answer look.changes =
    subst (λ command. IsStep seen command look.answer look.changes) looks there.1.1 in
    desk-answered seen (Body what name version) look.answer (reply.Body what body) look.changes
    (HasText-reply seen what name version body there.0) step
