-- A check tells what publishing the same next is answered.
use Rattle.std.proofs.Common.{◌≡◌, ◌∙◌, ℕ, ◌+◌, List, map, refl, sym, ap, subst, inl, inr, Option, Some, None}
use Rattle.std.specs.Prelude.{Result, Ok, Err}
use Rattle.std.proofs.lemmas.Option.{same_Some}
use Rattle.desk_base.proofs.Lists.{slice_get-end}
use Rattle.desk_words.specs.declared.change.Change.{Change}
use Rattle.desk_words.specs.declared.change.Change.TheVariants as change
use Rattle.desk_words.specs.declared.command.Command.TheVariants.{Steward}
use Rattle.desk_words.specs.declared.command.Ticket.{Ticket}
use Rattle.desk_words.specs.declared.desk_look.DeskLook.TheVariants.{Check}
use Rattle.desk_words.specs.declared.fits.Fits.{Fits}
use Rattle.desk_words.specs.declared.fits.Fits.TheVariants as fits
use Rattle.desk_words.specs.declared.made.Made.{Made}
use Rattle.desk_words.specs.declared.made.Made.TheVariants as made
use Rattle.desk_words.specs.declared.proposal.Proposal.{Proposal}
use Rattle.desk_words.specs.declared.proposal.Proposal.TheVariants.{Schema, Master, Rulebook, Edition}
use Rattle.desk_words.specs.declared.refusal.Refusal.{Refusal}
use Rattle.desk_words.specs.declared.reply.Reply.{Reply}
use Rattle.desk_words.specs.declared.reply.Reply.TheVariants as reply
use Rattle.desk_words.specs.declared.rows.act.Act.TheVariants as act
use Rattle.desk_words.specs.declared.rows.clerk.ClerkRow.{ClerkRow}
use Rattle.desk_words.specs.declared.rows.clerk.Digest.{Digest}
use Rattle.desk_words.specs.declared.rows.text.TextRow.{TextRow}
use Rattle.desk_words.specs.declared.steward_work.StewardWork.{StewardWork}
use Rattle.desk_words.specs.declared.steward_work.StewardWork.TheVariants.{Publish}
use Rattle.desk_words.specs.Changes.{changed}
use Rattle.desk_words.specs.Tables.{Rows, published_of}
use Rattle.desk_valid.specs.Bindings.{binding, parts_of}
use Rattle.desk_valid.specs.Readings.{schema_at}
use Rattle.desk_valid.specs.Valid.{AreValid}
use Rattle.fix_model.specs.Entries.{entries}
use Rattle.master_rows.specs.Outline.{outline_of, outline_read, read_outline}
use Rattle.rule_text.specs.Reading.{read_rules}
use Rattle.schema_core.specs.Reading.{schema_of}
use Rattle.machine_core.specs.Checked.{Checked, Gives, certainly, done, run, value_or, ◌>>=◌}
use Rattle.machine_core.specs.DeskLook.Check.{check_reply, edition_fits, entries_of, fits_of, master_fits}
use Rattle.machine_core.specs.DeskLook.Check.{rulebook_fits, schema_fits, tried}
use Rattle.machine_core.specs.Faults.{bind_refusal, rules_refusal, schema_refusal, sheet_refusal}
use Rattle.machine_core.specs.Kept.{kept_made}
use Rattle.machine_core.specs.Machine.{IsStep, answered, machine, making_changes, making_of}
use Rattle.machine_core.specs.Own.{own_of}
use Rattle.machine_core.specs.declared.making.Making.{Making}
use Rattle.machine_core.specs.Steward.AddEdition.{edition_row}
use Rattle.machine_core.specs.Steward.AddMaster.{master_row}
use Rattle.machine_core.specs.Steward.AddRulebook.{rulebook_row}
use Rattle.machine_core.specs.Steward.AddSchema.{schema_row}
use Rattle.machine_core.specs.Ticket.{use_of}
use Rattle.machine_core.specs.declared.ticket.Use.TheVariants.{Fresh}
use Rattle.machine_core.proofs.Chains.{Gives-bind, Gives-bind_err, Gives-bind_ok, Gives-bind_refused, Gives-found}
use Rattle.machine_core.proofs.Chains.{Gives-unique, done-not_refused, Gives-same}
use Rattle.machine_core.proofs.Trying.{tried-gives}
use Rattle.machine_core.proofs.Walks.{Gives-Met, Met, Met-Gives}
use Rattle.machine_laws.specs.Checking.{IsToldBy, TellsPublishing, made_for, publishing_next}
use Rattle.machine_laws.proofs.Makings.{edition_making, master_making, rulebook_making, schema_making}
use Rattle.machine_laws.proofs.Tried.{edition-binds, outcome-fits, rulebook-reads}
use Rattle.machine_laws.proofs.DeskLooks.{desk-answered}
use Rattle.machine_laws.proofs.RowByRow.{use-next}

-- ---- what reads once reads again

no-fault : {A B E : Type 0} (read : Result A E) (refusal_of : E → Refusal) (next : A → B) (value : A) (refusal : Refusal)
    → read ≡ Ok value → Gives (value_or read refusal_of >>= (λ one. done (next one))) (Err refusal) → ⊥
no-fault (Ok one) refusal_of next value refusal is gives = cc
no-fault (Err fault) refusal_of next value refusal is gives = cc

-- also of what is there
no-fault_in : {A B C E : Type 0} (there : Option A) (read : A → Result B E) (refusal_of : E → Refusal)
    (next : A → B → C) (one : A) (value : B) (refusal : Refusal) → there ≡ Some one → read one ≡ Ok value
    → Gives (certainly there >>= (λ found. value_or (read found) refusal_of >>= (λ got. done (next found got))))
    (Err refusal) → ⊥
no-fault_in None read refusal_of next one value refusal is reads gives = absurd (cc)
no-fault_in (Some other) read refusal_of next one value refusal is reads gives =
    no-fault (read other) refusal_of (next other) value refusal (ap read (same_Some other one is) ∙ reads) gives

module _ (rows : Rows) (digest : Digest) where
  abbrev row-before : ClerkRow
  row-before = (own_of rows 0).row

  abbrev ticket-next : Ticket
  ticket-next = record { number = row-before.last + 1; digest = digest }

  -- ---- the steward's next write

  fresh-next : Met (use_of row-before ticket-next) (Ok Fresh)
  fresh-next = Met-Gives (use_of row-before ticket-next) (Ok Fresh)
      (Gives-found (use_of row-before ticket-next) Fresh (use-next row-before ticket-next refl))

  -- it makes what it asks for
  made-next : (work : StewardWork) (making : Making) (told : Made) → Gives (making_of rows work) (Ok making)
      → Gives (kept_made (changed rows making.change) making.act making.target) (Ok told)
      → Gives (machine rows (Steward ticket-next work))
      (Ok (reply.Made told, making_changes row-before ticket-next making))
  made-next work making told makes kept = Gives-Met (machine rows (Steward ticket-next work))
      (Ok (reply.Made told, making_changes row-before ticket-next making)) (
        Fresh,
        fresh-next,
        (
          making,
          Met-Gives (making_of rows work) (Ok making) makes,
          (
            told,
            Met-Gives (kept_made (changed rows making.change) making.act making.target) (Ok told) kept,
            refl,
          ),
        ),
      )

  -- or is refused as that is
  refused-next : (work : StewardWork) (refusal : Refusal) → Gives (making_of rows work) (Err refusal)
      → Gives (machine rows (Steward ticket-next work)) (Err refusal)
  refused-next work refusal refused = Gives-Met (machine rows (Steward ticket-next work)) (Err refusal)
      (inr (Fresh, fresh-next, inl (Met-Gives (making_of rows work) (Err refusal) refused)))

  -- ---- it comes to what its check does

  abbrev Agrees : StewardWork → Result Fits Refusal → Type 0
  Agrees work (Ok found) = (changes : List Change)
      × Gives (machine rows (Steward ticket-next work)) (Ok (reply.Made (made_for found), changes))
  Agrees work (Err refusal) = Gives (machine rows (Steward ticket-next work)) (Err refusal)

  -- where the write makes a row, the check tells of the row what it reads as, and the row reads
  module _ {Row : Type 0} (work : StewardWork) (row_of : Checked Row) (making : Row → Making)
      (makes_it : run (making_of rows work) ≡ run (row_of >>= (λ row. done (making row)))) (told_of : Row → Made)
      (kept : (row : Row)
      → Gives (kept_made (changed rows (making row).change) (making row).act (making row).target) (Ok (told_of row)))
      (rest : Row → Checked Fits)
      (tells : (row : Row) (found : Fits) → Met (rest row) (Ok found) → made_for found ≡ told_of row)
      (reads : (row : Row) (refusal : Refusal) → Met row_of (Ok row) → Gives (rest row) (Err refusal) → ⊥) where
    row-agrees : (result : Result Fits Refusal) → Gives (row_of >>= rest) result → Agrees work result
    row-agrees (Ok found) gives =
        let (row, makes, read) = Gives-bind_ok row_of rest found gives in (
          making_changes row-before ticket-next (making row),
          made-next work (making row) (made_for found) (Gives-same (row_of >>= (λ one. done (making one)))
              (making_of rows work) (Ok (making row)) (sym makes_it)
              (Gives-bind row_of (λ one. done (making one)) row (Ok (making row)) makes refl))
              (subst (λ one. Gives
              (kept_made (changed rows (making row).change) (making row).act (making row).target) (Ok one))
              (sym (tells row found (Met-Gives (rest row) (Ok found) read))) (kept row)),
        )
    row-agrees (Err refusal) gives = elim (Gives-bind_err row_of rest refusal gives) [
      | inl refused ↦ refused-next work refusal (Gives-same (row_of >>= (λ one. done (making one)))
          (making_of rows work) (Err refusal) (sym makes_it)
          (Gives-bind_refused row_of (λ one. done (making one)) refusal refused))
      | inr (row, makes, read) ↦ absurd (reads row refusal (Met-Gives row_of (Ok row) makes) read)
    ]

  schema-agrees : (body : List ℕ) (result : Result Fits Refusal) → Gives (schema_fits rows.schemas body) result
      → Agrees (Publish (Schema body)) result
  schema-agrees body = row-agrees (Publish (Schema body)) (schema_row rows.schemas body)
      (schema_making (published_of rows)) refl (λ row. made.Schema row.name row.version)
      (λ row. rw (slice_get-end rows.schemas row) refl)
      (λ row. value_or (schema_of row.body) schema_refusal
      >>= (λ schema. done (fits.Schema row.name row.version schema.attributes)))
      (λ row found (schema, read, is). ap made_for is)
      (λ row refusal (schema, read, (_, few, is)). no-fault (schema_of row.body) schema_refusal
      (λ schema. fits.Schema row.name row.version schema.attributes) schema refusal
      (ap (λ (one : TextRow). schema_of one.body) is ∙ read))

  master-agrees : (name body : List ℕ) (result : Result Fits Refusal) → Gives (master_fits rows.masters name body) result
      → Agrees (Publish (Master name body)) result
  master-agrees name body = row-agrees (Publish (Master name body)) (master_row rows.masters name body)
      (master_making (published_of rows)) refl (λ row. made.Master row.name row.version)
      (λ row. rw (slice_get-end rows.masters row) refl)
      (λ row. value_or (read_outline row.body) sheet_refusal
      >>= (λ outline. done (fits.Master row.name row.version outline.columns outline.rows)))
      (λ row found (outline, read, is). ap made_for is)
      (λ row refusal (_, named, (master, read, (_, few, (_, cells, is)))). no-fault (read_outline row.body)
      sheet_refusal (λ outline. fits.Master row.name row.version outline.columns outline.rows) (outline_of master)
      refusal (ap (λ (one : TextRow). read_outline one.body) is ∙ ap outline_read read))

  rulebook-agrees : (name schema : List ℕ) (version : ℕ) (body : List ℕ) (result : Result Fits Refusal)
      → Gives (rulebook_fits (published_of rows) name schema version body) result
      → Agrees (Publish (Rulebook name schema version body)) result
  rulebook-agrees name schema version body = row-agrees (Publish (Rulebook name schema version body))
      (rulebook_row (published_of rows) name schema version body) (rulebook_making (published_of rows)) refl
      (λ row. made.Rulebook row.name row.version) (λ row. rw (slice_get-end rows.rulebooks row) refl)
      (λ row. certainly (schema_at (published_of rows) row.schema)
      >>= (λ over. value_or (read_rules row.body over) rules_refusal
      >>= (λ rulebook. done (fits.Rulebook row.name row.version (map (λ line. line.name) rulebook.lines)))))
      (λ row found (over, there, (rulebook, read, is)). ap made_for is)
      (λ row refusal makes.
      let has = rulebook-reads (published_of rows) name schema version body row makes in
      no-fault_in (schema_at (published_of rows) row.schema) (λ over. read_rules row.body over) rules_refusal
      (λ over rulebook. fits.Rulebook row.name row.version (map (λ line. line.name) rulebook.lines)) has.schema
      has.rulebook refusal has.stands has.reads)

  edition-agrees : (name : List ℕ) (rulebook : List ℕ × ℕ) (masters : List (List ℕ × ℕ)) (folded : List (List ℕ))
      (result : Result Fits Refusal) → Gives (edition_fits (published_of rows) name rulebook masters folded) result
      → Agrees (Publish (Edition name rulebook masters folded)) result
  edition-agrees name rulebook masters folded = row-agrees (Publish (Edition name rulebook masters folded))
      (edition_row (published_of rows) name rulebook masters folded) (edition_making (published_of rows)) refl
      (λ row. made.Edition row.name row.version) (λ row. rw (slice_get-end rows.editions row) refl)
      (λ row. entries_of (published_of rows) row >>= (λ count. done (fits.Edition row.name row.version count)))
      (λ row found (count, counts, is). ap made_for is)
      (λ row refusal makes read.
      let has = edition-binds (published_of rows) name rulebook masters folded row makes in
      elim (Gives-bind_err (entries_of (published_of rows) row)
      (λ count. done (fits.Edition row.name row.version count)) refusal read) [
        | inl refused ↦ no-fault_in (parts_of (published_of rows) row) (λ parts. binding parts row.folded)
            bind_refusal (λ parts kit. entries kit) has.parts has.kit refusal has.are has.binds refused
        | inr (count, counts, is) ↦ done-not_refused (fits.Edition row.name row.version count) refusal is
      ])

  proposal-agrees : (proposal : Proposal) (result : Result Fits Refusal) → Gives (fits_of (published_of rows) proposal) result
      → Agrees (Publish proposal) result
  proposal-agrees (Schema body) = schema-agrees body
  proposal-agrees (Master name body) = master-agrees name body
  proposal-agrees (Rulebook name schema version body) = rulebook-agrees name schema version body
  proposal-agrees (Edition name rulebook masters folded) = edition-agrees name rulebook masters folded

  -- a write is answered by what it comes to
  answered-next : (proposal : Proposal) (answer : Reply) (changes : List Change)
      (outcome : Result (Reply × List Change) Refusal)
      → Gives (machine rows (publishing_next rows digest proposal)) outcome
      → IsStep rows (publishing_next rows digest proposal) answer changes → answer ≡ (answered outcome).0
  answered-next proposal answer changes outcome gives step =
      let same = Gives-unique (machine rows (publishing_next rows digest proposal)) step.outcome outcome step.gives gives in
      ap (λ (both : Reply × List Change). both.0) (step.answers ∙ ap answered same)

  told-by : (proposal : Proposal) (result : Result Fits Refusal) (answer : Reply) (changes : List Change)
      → Gives (fits_of (published_of rows) proposal) result
      → IsStep rows (publishing_next rows digest proposal) answer changes
      → IsToldBy (check_reply (published_of rows) proposal result) answer
  told-by proposal (Ok found) answer changes gives step =
      let (after, publishes) = proposal-agrees proposal (Ok found) gives in
      answered-next proposal answer changes (Ok (reply.Made (made_for found), after)) publishes step
  told-by proposal (Err refusal) answer changes gives step =
      answered-next proposal answer changes (Err refusal) (proposal-agrees proposal (Err refusal) gives) step

pub tells-publishing : (rows : Rows) → AreValid rows → TellsPublishing rows
tells-publishing rows valid proposal digest told answer unchanged changes step next =
    let has = outcome-fits rows valid proposal in
    let reply_of : Result Fits Refusal → Reply = check_reply (published_of rows) proposal in
    let gives = Gives-bind (tried (published_of rows) proposal) (λ one. done (reply_of one)) has.outcome
    (Ok (reply_of has.outcome)) (tried-gives (run (fits_of (published_of rows) proposal)) has.outcome has.gives) refl in
    let same = desk-answered rows (Check proposal) told (reply_of has.outcome) unchanged gives step in
    subst (λ one. IsToldBy one answer) (sym same)
    (told-by rows digest proposal has.outcome answer changes has.gives next)
