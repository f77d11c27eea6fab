-- The steward is answered alike where the same was published, under the same names.
use Rattle.std.proofs.Common.{◌≡◌, ◌∙◌, ℕ, Bool, true, false, List, [], ◌∷◌, ◌++◌, length, map, set, refl, sym, ap, Ok}
use Rattle.std.specs.Prelude.{◌||◌, ◌==◌, if◌then◌else◌, not, slice_get}
use Rattle.std.specs.List.{list_any}
use Rattle.std.specs.Str.{bytes_eq}
use Rattle.std.proofs.lemmas.List.{length-map, map-append, map-set}
use Rattle.std.proofs.lemmas.Option.{slice_get-map}
use Rattle.desk_words.specs.declared.change.Change.{Change}
use Rattle.desk_words.specs.declared.change.Change.TheVariants as change
use Rattle.desk_words.specs.declared.command.Command.TheVariants.{Steward}
use Rattle.desk_words.specs.declared.command.Ticket.{Ticket}
use Rattle.desk_words.specs.declared.limit.Which.TheVariants as which
use Rattle.desk_words.specs.declared.made.Made.TheVariants as made
use Rattle.desk_words.specs.declared.refusal.Refusal.TheVariants.{Taken}
use Rattle.desk_words.specs.declared.reply.Reply.{Reply}
use Rattle.desk_words.specs.declared.reply.Reply.TheVariants as reply
use Rattle.desk_words.specs.declared.rows.act.Act.{Act}
use Rattle.desk_words.specs.declared.rows.act.Act.TheVariants as act
use Rattle.desk_words.specs.declared.rows.clerk.ClerkRow.{ClerkRow}
use Rattle.desk_words.specs.declared.steward_work.StewardWork.{StewardWork}
use Rattle.desk_words.specs.declared.proposal.Proposal.TheVariants.{Schema, Master, Rulebook, Edition}
use Rattle.desk_words.specs.declared.steward_work.StewardWork.TheVariants.{AddClerk, Publish, AddRegion, AddDerived}
use Rattle.desk_words.specs.Changes.{changed, put}
use Rattle.desk_words.specs.Tables.{Published, Rows, new_clerk, published_of}
use Rattle.machine_core.specs.Checked.{Checked, ◌>>=◌, ◌>>◌, certainly, done, unless, run, and_then, told}
use Rattle.machine_core.specs.Kept.{kept_made, region_made}
use Rattle.machine_core.specs.Limits.{within}
use Rattle.machine_core.specs.Machine.{machine, making_changes, making_of, steward_write}
use Rattle.machine_core.specs.declared.making.Making.{Making}
use Rattle.machine_core.specs.Own.{own_of}
use Rattle.machine_core.specs.Steward.AddEdition.{edition_row}
use Rattle.machine_core.specs.Steward.AddMaster.{master_row}
use Rattle.machine_core.specs.Steward.AddDerived.{derived_region}
use Rattle.machine_core.specs.Steward.AddRegion.{region_row}
use Rattle.machine_core.specs.Steward.AddRulebook.{rulebook_row}
use Rattle.machine_core.specs.Steward.AddSchema.{schema_row}
use Rattle.machine_core.specs.Tests as tests
use Rattle.machine_core.specs.declared.ticket.Use.{Use}
use Rattle.machine_core.specs.declared.ticket.Use.TheVariants.{Fresh, Repeated}
use Rattle.machine_core.specs.Ticket.{use_of}
use Rattle.machine_laws.proofs.Callers.{names_of}
use Rattle.machine_laws.proofs.Kept.{made_clerk-names}
use Rattle.machine_laws.proofs.Makings.{edition_making, master_making, region_making, rulebook_making, schema_making}

-- what the steward is answered by: what was published, the names, and the steward's row
pub record AreAsToSteward (rows other : Rows) : Type 0 where
  pub published : published_of rows ≡ published_of other
  pub names : names_of rows.clerks ≡ names_of other.clerks
  pub row : (own_of rows 0).row ≡ (own_of other 0).row

-- names are tested alike
list_any-names : (clerks : List ClerkRow) (name : List ℕ)
    → list_any (λ clerk. bytes_eq clerk.name name) clerks ≡ list_any (λ one. bytes_eq one name) (names_of clerks)
list_any-names [] name = refl
list_any-names (clerk ∷ clerks) name = ap (λ rest. bytes_eq clerk.name name || rest) (list_any-names clerks name)

-- a new clerk is made of the names
abbrev clerk_making : List (List ℕ) → List ℕ → Checked Making
clerk_making names name =
    tests.proper_name name >> (unless (not (list_any (λ one. bytes_eq one name) names)) (Taken name)
    >> (within which.Clerks (length names) >> done (new_clerk name)))
    >>= (λ row. done (record { change = change.Clerk (length names) row; act = act.Clerk; target = length names }))

clerk_making-names : (rows : Rows) (name : List ℕ) → run (making_of rows (AddClerk name))
    ≡ run (clerk_making (names_of rows.clerks) name)
clerk_making-names rows name =
    let any = list_any-names rows.clerks name in
    let long = sym (length-map rows.clerks (λ (row : ClerkRow). row.name)) in
    λ i. run (tests.proper_name name >> (unless (not (any i)) (Taken name) >> (within which.Clerks (long i) >> done
    (new_clerk name))) >>= (λ row. done
    (record { change = change.Clerk (long i) row; act = act.Clerk; target = long i })))

-- what the steward makes is the same
making-alike : (rows other : Rows) (work : StewardWork) → AreAsToSteward rows other
    → run (making_of rows work) ≡ run (making_of other work)
making-alike rows other (AddClerk name) alike =
    clerk_making-names rows name ∙ ap (λ names. run (clerk_making names name)) alike.names
    ∙ sym (clerk_making-names other name)
making-alike rows other (Publish (Schema body)) alike = ap (λ (one : Published). run (schema_row one.schemas body
    >>= (λ row. done (schema_making one row)))) alike.published
making-alike rows other (Publish (Master name body)) alike =
    ap (λ (one : Published). run (master_row one.masters name body
    >>= (λ row. done (master_making one row)))) alike.published
making-alike rows other (Publish (Rulebook name schema version body)) alike = ap (λ (one : Published).
    run (rulebook_row one name schema version body >>= (λ row. done (rulebook_making one row)))) alike.published
making-alike rows other (Publish (Edition name rulebook masters folded)) alike = ap (λ (one : Published).
    run (edition_row one name rulebook masters folded >>= (λ row. done (edition_making one row)))) alike.published
making-alike rows other (AddRegion edition version attributes texts) alike = ap (λ (one : Published).
    run (region_row one edition version attributes texts >>= (λ row. done (region_making one row)))) alike.published
making-alike rows other (AddDerived edition version master pairs from) alike = ap (λ (one : Published).
    run (derived_region one edition version master pairs from >>= (λ row. done (region_making one row))))
    alike.published

-- and so is the kept reply
kept-alike : (rows other : Rows) (what : Act) (target : ℕ) → published_of rows ≡ published_of other
    → names_of rows.clerks ≡ names_of other.clerks
    → run (kept_made rows what target) ≡ run (kept_made other what target)
kept-alike rows other act.Clerk target published names =
    let name_in : ClerkRow → List ℕ = λ row. row.name in
    made_clerk-names (slice_get rows.clerks target)
    ∙ ap (λ name. run (certainly name >>= (λ one. done (made.Clerk one))))
    (sym (slice_get-map name_in rows.clerks target)
    ∙ ap (λ list. slice_get list target) names ∙ slice_get-map name_in other.clerks target)
    ∙ sym (made_clerk-names (slice_get other.clerks target))
kept-alike rows other act.Schema target published names =
    ap (λ (one : Published). run (certainly (slice_get one.schemas target)
    >>= (λ row. done (made.Schema row.name row.version)))) published
kept-alike rows other act.Master target published names =
    ap (λ (one : Published). run (certainly (slice_get one.masters target)
    >>= (λ row. done (made.Master row.name row.version)))) published
kept-alike rows other act.Rulebook target published names = ap
    (λ (one : Published). run (certainly (slice_get one.rulebooks
    target) >>= (λ row. done (made.Rulebook row.name row.version)))) published
kept-alike rows other act.Edition target published names =
    ap (λ (one : Published). run (certainly (slice_get one.editions target)
    >>= (λ row. done (made.Edition row.name row.version)))) published
kept-alike rows other act.Region target published names =
    ap (λ (one : Published). run (certainly (slice_get one.regions target)
    >>= region_made one target)) published
kept-alike rows other act.Nothing target published names = refl
kept-alike rows other act.Opened target published names = refl
kept-alike rows other act.Changed target published names = refl
kept-alike rows other act.Committed target published names = refl
kept-alike rows other act.Batched target published names = refl

-- a change changes alike what was published
pub changed-published : (rows other : Rows) (one : Change) → published_of rows ≡ published_of other
    → published_of (changed rows one) ≡ published_of (changed other one)
changed-published rows other (change.Clerk place row) same = same
changed-published rows other (change.Schema row) same =
    ap (λ (one : Published). record one { schemas = one.schemas ++ row ∷ [] }) same
changed-published rows other (change.Master row) same =
    ap (λ (one : Published). record one { masters = one.masters ++ row ∷ [] }) same
changed-published rows other (change.Rulebook row) same =
    ap (λ (one : Published). record one { rulebooks = one.rulebooks ++ row ∷ [] }) same
changed-published rows other (change.Edition row) same =
    ap (λ (one : Published). record one { editions = one.editions ++ row ∷ [] }) same
changed-published rows other (change.Region row) same =
    ap (λ (one : Published). record one { regions = one.regions ++ row ∷ [] }) same
changed-published rows other (change.Session caller place row) same = same
changed-published rows other (change.Record caller row) same = same
changed-published rows other (change.Batch caller row) same = same

-- and the names
map-put : {A B : Type 0} (image : A → B) (items : List A) (place : ℕ) (item : A)
    → map image (put items place item) ≡ put (map image items) place (image item)
map-put image items place item =
    let long = sym (length-map items image) in
    chosen (place == length items)
    ∙ ap (λ count. if place == count then map image items ++ image item ∷ [] else set (map image items) place
    (image item)) long
  where
    chosen : (last : Bool) → map image (if last then items ++ item ∷ [] else set items place item)
        ≡ (if last then map image items ++ image item ∷ [] else set (map image items) place (image item))
    chosen true = map-append image items (item ∷ [])
    chosen false = map-set image items place item

pub changed-names : (rows other : Rows) (one : Change) → names_of rows.clerks ≡ names_of other.clerks
    → names_of (changed rows one).clerks ≡ names_of (changed other one).clerks
changed-names rows other (change.Clerk place row) same =
    let name_in : ClerkRow → List ℕ = λ one. one.name in
    map-put name_in rows.clerks place row ∙ ap (λ names. put names place row.name) same
    ∙ sym (map-put name_in other.clerks place row)
changed-names rows other (change.Schema row) same = same
changed-names rows other (change.Master row) same = same
changed-names rows other (change.Rulebook row) same = same
changed-names rows other (change.Edition row) same = same
changed-names rows other (change.Region row) same = same
changed-names rows other (change.Session caller place row) same = same
changed-names rows other (change.Record caller row) same = same
changed-names rows other (change.Batch caller row) same = same

-- the steward's request comes to the same
steward-write-alike : (rows other : Rows) (ticket : Ticket) (work : StewardWork) (turn : Use)
    → AreAsToSteward rows other
    → run (steward_write rows ticket work turn) ≡ run (steward_write other ticket work turn)
steward-write-alike rows other ticket work Repeated alike =
    let kept : run (kept_made rows (own_of rows 0).row.act (own_of rows 0).row.target)
    ≡ run (kept_made other (own_of other 0).row.act (own_of other 0).row.target) =
    kept-alike rows other (own_of rows 0).row.act (own_of rows 0).row.target alike.published alike.names
    ∙ ap (λ (row : ClerkRow). run (kept_made other row.act row.target)) alike.row in
    ap (λ one. and_then one (λ found. told (Ok (reply.Made found, [])))) kept
steward-write-alike rows other ticket work Fresh alike =
    let last : Rows → ClerkRow → Making → Checked (Reply × List Change) = λ one row making.
    kept_made (changed one making.change) making.act making.target
    >>= (λ found. done (reply.Made found, making_changes row ticket making)) in
    let each_making : (making : Making) → run (last rows (own_of rows 0).row making)
    ≡ run (last other (own_of other 0).row making)
    =
    λ making.
    let kept = kept-alike (changed rows making.change) (changed other making.change) making.act making.target
    (changed-published rows other making.change alike.published) (changed-names rows other making.change alike.names) in
    λ i. and_then (kept i) (λ found. told (Ok (reply.Made found, making_changes (alike.row i) ticket making))) in
    ap (λ one. and_then one (λ making. run (last rows (own_of rows 0).row making))) (making-alike rows other work alike)
    ∙ (λ i. and_then (run (making_of other work)) (λ making. each_making making i))

pub steward-machine : (rows other : Rows) (ticket : Ticket) (work : StewardWork) → AreAsToSteward rows other
    → run (machine rows (Steward ticket work)) ≡ run (machine other (Steward ticket work))
steward-machine rows other ticket work alike =
    ap (λ (row : ClerkRow). run (use_of row ticket >>= steward_write rows ticket work)) alike.row
    ∙ (λ i. and_then (run (use_of (own_of other 0).row ticket)) (λ turn.
    steward-write-alike rows other ticket work turn alike i))
