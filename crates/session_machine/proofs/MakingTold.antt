-- What a write of the steward makes, with its reply, by the row that is found.
use Rattle.std.proofs.Common.{◌≡◌, ◌∙◌, ℕ, ◌<◌, List, [], ◌∷◌, ◌++◌, length, take, Some, refl, sym, ap, subst, arith}
use Rattle.std.specs.Prelude.{Result, Ok, Err, IsErrAnd, slice_get}
use Rattle.std.proofs.lemmas.List.{take_all, take_at}
use Rattle.desk_words.specs.declared.change.Change.{Change}
use Rattle.desk_words.specs.declared.change.Change.TheVariants as change
use Rattle.desk_words.specs.declared.made.Made.{Made}
use Rattle.desk_words.specs.declared.made.Made.TheVariants as made
use Rattle.desk_words.specs.declared.refusal.Kind.TheVariants as kind
use Rattle.desk_words.specs.declared.refusal.Refusal.TheVariants.{NoSuch}
use Rattle.desk_words.specs.declared.rows.act.Act.{Act}
use Rattle.desk_words.specs.declared.rows.act.Act.TheVariants as act
use Rattle.desk_words.specs.declared.rows.clerk.ClerkRow.{ClerkRow}
use Rattle.desk_words.specs.declared.rows.region.RegionRow.{RegionRow}
use Rattle.desk_words.specs.declared.steward_work.StewardWork.{StewardWork}
use Rattle.desk_words.specs.declared.proposal.Proposal.TheVariants.{Schema, Master, Edition}
use Rattle.desk_words.specs.declared.steward_work.StewardWork.TheVariants.{AddClerk, Publish, AddRegion, AddDerived}
use Rattle.desk_words.specs.Changes.{changed, put}
use Rattle.desk_words.specs.Tables.{Rows, published_of}
use Rattle.desk_valid.specs.declared.bound.Bound.{Bound}
use Rattle.desk_valid.specs.Bindings.{bound_at}
use Rattle.desk_valid.specs.Rows.Region.{IsRegionRow}
use Rattle.desk_valid.specs.Valid.{AreValid}
use Rattle.machine_core.specs.declared.making.Making.{Making}
use Rattle.machine_core.specs.declared.stop.Stop.{Stop}
use Rattle.machine_core.specs.Checked.{Checked, ◌>>=◌, certainly, done, some_or, Gives, IsFound, run, Outcome, and_then}
use Rattle.machine_core.specs.Finding.{edition_named}
use Rattle.machine_core.specs.Kept.{kept_made, region_made}
use Rattle.machine_core.specs.Machine.{making_of}
use Rattle.machine_core.specs.Outcomes.{Answers, Finds}
use Rattle.machine_core.specs.Steward.AddClerk.{clerk_row}
use Rattle.machine_core.specs.Steward.AddMaster.{master_row}
use Rattle.machine_core.specs.Steward.AddRegion.{region_count, region_on, region_row}
use Rattle.machine_core.specs.Steward.AddSchema.{schema_row}
use Rattle.machine_core.proofs.Answering.{Answers-stopped, Answers-same}
use Rattle.machine_core.proofs.Chains.{Gives-bind, Gives-same, Gives-found}
use Rattle.machine_views.proofs.Making.{clerk-given, master-given, region-kept, schema-given, edition-given}
use Rattle.machine_laws.proofs.Accepted.{making-sound}
use Rattle.machine_laws.proofs.Deeds.{put-end}
use Rattle.session_machine.specs.Made.{AddsRegion, made_by, row_by}
use Rattle.desk_base.proofs.Lists.{slice_get-end}
use Rattle.desk_words.specs.declared.rows.edition.EditionRow.{EditionRow}
use Rattle.desk_words.specs.declared.rows.text.TextRow.{TextRow}
use Rattle.machine_core.specs.Steward.AddEdition.{edition_row}
use Rattle.machine_core.proofs.Stopping.{Finds-same}

-- what is answered of the rows and of the work is answered of equal ones
pub Answers-made : {rows other : Rows} {work same : StewardWork} (result : Result (Made × Making) Stop) → rows ≡ other
    → work ≡ same → Answers result (made_by rows same) → Answers result (made_by other work)
Answers-made {rows} {other} {work} {same} result are is answers =
    subst (λ (one : Rows). Answers result (made_by one work)) are
    (subst (λ (one : StewardWork). Answers result (made_by rows one)) (sym is) answers)

-- what is made is told by its kept reply over the rows after it
made-told : (rows : Rows) (work : StewardWork) (making : Making) (told : Made) → Gives (making_of rows work) (Ok making)
    → Gives (kept_made (changed rows making.change) making.act making.target) (Ok told)
    → Gives (made_by rows work) (Ok (told, making))
made-told rows work making told makes kept =
    let kept_by : Making → Checked Made = λ one. kept_made (changed rows one.change) one.act one.target in
    Gives-bind (making_of rows work) (λ one. kept_by one >>= (λ made. done (made, one))) making (Ok (told, making))
    makes (Gives-bind (kept_by making) (λ made. done (made, making)) told (Ok (told, making)) kept refl)

-- a row of the steward's act, put at a place
abbrev pub put_so : Change → Act → ℕ → Making
put_so change act target = record { change = change; act = act; target = target }

module _ (rows : Rows) (place : ℕ) (told : List ℕ) where
  -- a new clerk
  pub clerk-made : (name : List ℕ) (row : ClerkRow) → IsFound (clerk_row rows.clerks name) row → told ≡ row.name
      → place ≡ length rows.clerks
      → Gives (made_by rows (AddClerk name)) (Ok (made.Clerk told, put_so (change.Clerk place row) act.Clerk place))
  clerk-made name row found named last =
      let Makes : ℕ → Type 0 = λ there.
      Gives (made_by rows (AddClerk name)) (Ok (made.Clerk told, put_so (change.Clerk there row) act.Clerk there)) in
      let end : ℕ = length rows.clerks in
      let making : Making = put_so (change.Clerk end row) act.Clerk end in
      let stands : slice_get (put rows.clerks end row) end ≡ Some row =
      ap (λ list. slice_get list end) (put-end rows.clerks row) ∙ slice_get-end rows.clerks row in
      subst Makes (sym last) (made-told rows (AddClerk name) making (made.Clerk told) (rw found refl)
      (clerk-given (changed rows making.change) end told row stands named))

  -- a new version of a schema's name
  pub schema-made : (body : List ℕ) (row : TextRow) → IsFound (schema_row rows.schemas body) row → told ≡ row.name
      → place ≡ length rows.schemas
      → Gives (made_by rows (Publish (Schema body)))
      (Ok (made.Schema told row.version, put_so (change.Schema row) act.Schema place))
  schema-made body row found named last =
      let work : StewardWork = Publish (Schema body) in
      let making : ℕ → Making = λ there. put_so (change.Schema row) act.Schema there in
      let end : ℕ = length rows.schemas in
      subst (λ there. Gives (made_by rows work) (Ok (made.Schema told row.version, making there))) (sym last)
      (made-told rows work (making end) (made.Schema told row.version) (rw found refl)
      (schema-given (changed rows (change.Schema row)) end told row (slice_get-end rows.schemas row) named))

  -- and of a master's
  pub master-made : (name body : List ℕ) (row : TextRow) → IsFound (master_row rows.masters name body) row
      → told ≡ row.name → place ≡ length rows.masters
      → Gives (made_by rows (Publish (Master name body)))
      (Ok (made.Master told row.version, put_so (change.Master row) act.Master place))
  master-made name body row found named last =
      let work : StewardWork = Publish (Master name body) in
      let making : ℕ → Making = λ there. put_so (change.Master row) act.Master there in
      let end : ℕ = length rows.masters in
      subst (λ there. Gives (made_by rows work) (Ok (made.Master told row.version, making there))) (sym last)
      (made-told rows work (making end) (made.Master told row.version) (rw found refl)
      (master-given (changed rows (change.Master row)) end told row (slice_get-end rows.masters row) named))

  -- and of an edition's
  pub edition-made : (name : List ℕ) (rulebook : List ℕ × ℕ) (masters : List (List ℕ × ℕ)) (folded : List (List ℕ))
      (row : EditionRow) → IsFound (edition_row (published_of rows) name rulebook masters folded) row → told ≡ row.name
      → place ≡ length rows.editions
      → Gives (made_by rows (Publish (Edition name rulebook masters folded)))
      (Ok (made.Edition told row.version, put_so (change.Edition row) act.Edition place))
  edition-made name rulebook masters folded row found named last =
      let work : StewardWork = Publish (Edition name rulebook masters folded) in
      let making : ℕ → Making = λ there. put_so (change.Edition row) act.Edition there in
      let end : ℕ = length rows.editions in
      let row_of : Checked EditionRow = edition_row (published_of rows) name rulebook masters folded in
      let put_in : EditionRow → Checked Making = λ one. done (put_so (change.Edition one) act.Edition end) in
      subst (λ there. Gives (made_by rows work) (Ok (made.Edition told row.version, making there))) (sym last)
      (made-told rows work (making end) (made.Edition told row.version)
      (Gives-bind row_of put_in row (Ok (making end)) (Gives-found row_of row found) refl)
      (edition-given (changed rows (change.Edition row)) end told row (slice_get-end rows.editions row) named))

-- where the row is not found that a write puts, nothing is made
pub row-unmade : {A : Type 0} (rows : Rows) (work : StewardWork) (found : Checked A) (put_in : A → Making) (stop : Stop)
    (result : Result (Made × Making) Stop) → run (making_of rows work) ≡ run (found >>= (λ row. done (put_in row)))
    → IsErrAnd result (λ one. one ≡ stop) → Answers {A = A} (Err stop) found → Answers result (made_by rows work)
row-unmade rows work found put_in stop result same stops answers =
    let told : Making → Checked (Made × Making) = λ making.
    kept_made (changed rows making.change) making.act making.target >>= (λ made. done (made, making)) in
    let put_so_far : Answers {A = Making} (Err stop) (found >>= (λ row. done (put_in row))) =
    Answers-stopped found (λ row. done (put_in row)) stop (Err stop) refl answers in
    Answers-stopped (making_of rows work) told stop result stops
    (Answers-same (found >>= (λ row. done (put_in row))) (making_of rows work) (Err stop) (sym same) put_so_far)

-- the row of a region on the edition that is named is found over that edition's attributes
pub region-found : (rows : Rows) (name : List ℕ) (version : ℕ) (words : List (List ℕ))
    (texts : List (List (List ℕ))) (place : ℕ) (bound : Bound) (regions : List RegionRow) (attributes : List (List ℕ))
    (result : Result RegionRow Stop)
    → IsFound (some_or (edition_named rows.editions name version) (NoSuch kind.Edition)) place
    → bound_at (published_of rows) place ≡ Some bound → regions ≡ rows.regions → attributes ≡ bound.names.attributes
    → Finds result (region_on regions place attributes words texts)
    → Finds result (region_row (published_of rows) name version words texts)
region-found rows name version words texts place bound regions attributes result named is all wide finds =
    let over : ℕ → Checked RegionRow = λ edition. certainly (bound_at (published_of rows) edition)
    >>= (λ one. region_on rows.regions edition one.names.attributes words texts) in
    let same : run (region_on rows.regions place bound.names.attributes words texts)
    ≡ run (region_row (published_of rows) name version words texts) =
    sym (ap (λ (one : Outcome ℕ). and_then one (λ edition. run (over edition))) named
    ∙ ap (λ one. run (certainly one >>= (λ found. region_on rows.regions place found.names.attributes words texts))) is)
    in
    Finds-same (region_on rows.regions place bound.names.attributes words texts)
    (region_row (published_of rows) name version words texts) result same
    (subst (λ list. Finds result (region_on rows.regions place list words texts)) wide
    (subst (λ list. Finds result (region_on list place attributes words texts)) all finds))

-- the regions before a new one are all that there are
before-new : (regions : List RegionRow) (row : RegionRow)
    → take (length regions) (regions ++ row ∷ []) ≡ take (length regions) regions
before-new regions row =
    take_at regions (row ∷ []) (length regions) refl ∙ sym (take_all (length regions) regions (omega arith))

module _ (rows : Rows) (work : StewardWork) where
  -- the making of a region, after the others
  abbrev adding : RegionRow → Making
  adding row = put_so (change.Region row) act.Region (length rows.regions)

  -- what adds a region makes the region of its row
  region-making : AddsRegion work
      → run (making_of rows work) ≡ run (row_by (published_of rows) work >>= (λ row. done (adding row)))
  region-making adds = elim work as (λ one. AddsRegion one → run (making_of rows one)
      ≡ run (row_by (published_of rows) one >>= (λ row. done (adding row)))) [
        | AddRegion edition version attributes texts ↦ λ _. refl
        | AddDerived edition version master pairs from ↦ λ _. refl
        | AddClerk name ↦ λ none. absurd none
        | Publish proposal ↦ λ none. absurd none
      ] adds

  -- and nothing, where its row is not found
  pub region-unmade : (stop : Stop) (result : Result (Made × Making) Stop) → AddsRegion work
      → IsErrAnd result (λ one. one ≡ stop) → Answers {A = RegionRow} (Err stop) (row_by (published_of rows) work)
      → Answers result (made_by rows work)
  region-unmade stop result adds =
      row-unmade rows work (row_by (published_of rows) work) adding stop result (region-making adds)

  module _ (row : RegionRow) (adds : AddsRegion work) (gives : Gives (row_by (published_of rows) work) (Ok row)) where
    makes : Gives (making_of rows work) (Ok (adding row))
    makes = Gives-same (row_by (published_of rows) work >>= (λ one. done (adding one))) (making_of rows work)
        (Ok (adding row)) (sym (region-making adds))
        (Gives-bind (row_by (published_of rows) work) (λ one. done (adding one)) row (Ok (adding row)) gives refl)

    -- a new region's row is good where it is put
    pub region-good : AreValid rows → IsRegionRow (published_of rows) (length rows.regions) row
    region-good valid =
        let end : ℕ = length rows.regions in
        let sound = making-sound rows work (adding row) valid makes in
        let good = sound.valid.regions end row (slice_get-end rows.regions row) in
        record {
          edition = good.edition;
          few = subst (λ before. region_count before row.edition < 8) (before-new rows.regions row) good.few;
          distinct = good.distinct;
          within = good.within;
          few_rows = good.few_rows;
          whole = good.whole;
        }

    -- a new region
    pub region-made : (place : ℕ) (told : Made) → place ≡ length rows.regions
        → Gives (region_made (published_of rows) place row) (Ok told)
        → Gives (made_by rows work) (Ok (told, put_so (change.Region row) act.Region place))
    region-made place told last shown =
        let making : ℕ → Making = λ there. put_so (change.Region row) act.Region there in
        let end : ℕ = length rows.regions in
        let next : Rows = changed rows (change.Region row) in
        let here : Gives (region_made (published_of rows) end row) (Ok told) =
        subst (λ there. Gives (region_made (published_of rows) there row) (Ok told)) last shown in
        let after : Gives (region_made (published_of next) end row) (Ok told) = rw (before-new rows.regions row) here in
        subst (λ there. Gives (made_by rows work) (Ok (told, making there))) (sym last)
        (made-told rows work (making end) told makes
        (region-kept next end row told (slice_get-end rows.regions row) after))
