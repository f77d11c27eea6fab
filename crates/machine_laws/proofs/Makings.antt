-- What the steward makes is good where it is put: schemas, masters, rulebooks and clerks.
use Rattle.std.proofs.Common.{◌≡◌, ◌≢◌, ◌∙◌, ℕ, ◌+◌, ◌<◌, ◌≤◌, Bool, List, [], ◌∷◌, ◌++◌, length, get_or, Some, refl}
use Rattle.std.proofs.Common.{sym, ap, subst, arith}
use Rattle.std.specs.Prelude.{◌&&◌, ◌==◌, All, IfSome, IsSome, IsTrue, Ok, count_by, slice_get}
use Rattle.std.specs.Str.{bytes_eq}
use Rattle.std.proofs.lemmas.List.{get_or_append_left, get_or_at, get_or_past, length-append, map-append, take_at}
use Rattle.std.proofs.lemmas.List.Quantifiers.{position-Some}
use Rattle.std.proofs.lemmas.Slice.Eq.{bytes_eq-Decides}
use Rattle.desk_base.specs.Words.{is_name}
use Rattle.schema_core.proofs.Sound.{IsSchema-from_bytes}
use Rattle.desk_words.specs.declared.change.Change.TheVariants as change
use Rattle.desk_words.specs.declared.limit.Which.TheVariants as which
use Rattle.desk_words.specs.declared.rows.act.Act.TheVariants as act
use Rattle.desk_words.specs.declared.rows.clerk.ClerkRow.{ClerkRow}
use Rattle.desk_words.specs.declared.rows.rulebook.RulebookRow.{RulebookRow}
use Rattle.desk_words.specs.declared.proposal.Proposal.TheVariants.{Schema, Master, Rulebook}
use Rattle.desk_words.specs.declared.steward_work.StewardWork.TheVariants.{AddClerk, Publish}
use Rattle.desk_words.specs.Changes.{Fits, changed}
use Rattle.desk_words.specs.Tables.{AreTables, Published, Rows, new_clerk, published_of}
use Rattle.desk_words.proofs.Changes.{AreTables-changed, put-end, with_clerk-end}
use Rattle.desk_words.specs.declared.change.Change.{Change}
use Rattle.desk_words.specs.declared.rows.edition.EditionRow.{EditionRow}
use Rattle.desk_words.specs.declared.rows.region.RegionRow.{RegionRow}
use Rattle.desk_words.specs.declared.rows.text.TextRow.{TextRow}
use Rattle.desk_valid.specs.Readings.{read, rules_over}
use Rattle.desk_valid.specs.Rows.Clerk.{IsClerkRow, HasTarget, IsStewardsAct}
use Rattle.desk_valid.specs.Rows.Master.{IsMasterRow}
use Rattle.desk_valid.specs.Rows.Rulebook.{IsRulebookRow}
use Rattle.desk_valid.specs.Rows.Schema.{IsSchemaRow}
use Rattle.desk_valid.specs.Valid.{AreValid}
use Rattle.desk_valid.specs.Versions.{IsVersion}
use Rattle.desk_valid.specs.Rows.Edition.{IsEditionRow}
use Rattle.desk_valid.specs.Rows.Region.{IsRegionRow}
use Rattle.machine_core.specs.Checked.{Gives}
use Rattle.machine_core.specs.Finding.{next_version, place_of}
use Rattle.machine_core.specs.Limits.{within}
use Rattle.machine_core.specs.Machine.{making_of}
use Rattle.machine_core.specs.declared.making.Making.{Making}
use Rattle.machine_core.specs.Own.{Own, own_of}
use Rattle.machine_core.proofs.Masters.{not-any}
use Rattle.machine_core.proofs.Walks.{Met-Gives}
use Rattle.machine_core.proofs.Commands.{few-stand}
use Rattle.machine_laws.proofs.Callers.{IsDone, IsDone-steward, names_of}
use Rattle.machine_laws.proofs.Lists.{Begins, Begins-same, list_at-push, nothing-following, pushed}
use Rattle.machine_laws.proofs.Valid.{AreValid-new, AreValid-published, with_new, with_published}
use Rattle.machine_laws.proofs.More.{AreMore-changed}

-- what is a new clerk's own
abbrev pub new_own : List ℕ → Own
new_own name = record { row = new_clerk name; sessions = []; records = []; batches = [] }

-- what the steward makes fits, and leaves valid tables in which it is done and callers and their own rows are as they
-- were
pub record IsSoundMaking (rows : Rows) (making : Making) : Type 0 where
  pub fits : Fits rows making.change
  pub valid : AreValid (changed rows making.change)
  pub names : Begins (names_of rows.clerks) (names_of (changed rows making.change).clerks)
  pub own : (place : ℕ) → place < length rows.clerks → own_of (changed rows making.change) place ≡ own_of rows place
  pub new : (place : ℕ) → length rows.clerks ≤ place → place < length (changed rows making.change).clerks
      → (name : List ℕ) × (own_of (changed rows making.change) place ≡ new_own name)
  pub is_done : IsDone (changed rows making.change) 0 making.act making.target

-- a row after the others has the next version of its name
pub IsVersion-next : {T : Type 0} (name_of : T → List ℕ) (rows : List T) (row : T) (name : List ℕ)
    → IsTrue (is_name name)
    → IsVersion name_of (rows ++ row ∷ []) (length rows) name (next_version name_of rows name)
IsVersion-next name_of rows row name named = record {
  named = named;
  next = ap (λ before. count_by (λ earlier. bytes_eq (name_of earlier) name) before + 1)
      (sym (take_at rows (row ∷ []) (length rows) refl));
}

-- the place of a version stands
pub place_of-within : {T : Type 0} (name_of : T → List ℕ) (version_of : T → ℕ) (rows : List T) (name : List ℕ)
    (version place : ℕ) → place_of name_of version_of rows name version ≡ Some place → place < length rows
place_of-within name_of version_of [] name version place is = absurd (cc)
place_of-within name_of version_of (first ∷ others) name version place is =
    (position-Some (λ row. bytes_eq (name_of row) name && (version_of row == version)) (first ∷ others) place first is).0

-- nothing stands after the rows of a table that stays
pub stays : {T : Type 0} (Q : ℕ → T → Type 0) (rows : List T) (place : ℕ) (row : T) → length rows ≤ place
    → slice_get rows place ≡ Some row → Q place row
stays Q rows place row past stands = absurd (nothing-following rows place row past stands)

-- a new clerk changes no caller's own rows
own-new : (rows : Rows) (row : ClerkRow) (place : ℕ) → place < length rows.clerks
    → own_of (with_new rows row) place ≡ own_of rows place
own-new rows row place within =
    let caller = get_or_append_left rows.clerks (row ∷ []) (new_clerk []) place within in
    let sessions = list_at-push rows.sessions place in
    let records = list_at-push rows.records place in
    let batches = list_at-push rows.batches place in
    λ i. record { row = caller i; sessions = sessions i; records = records i; batches = batches i }

-- and a new clerk has none
own-last : (rows : Rows) (name : List ℕ) (place : ℕ) → AreTables rows → place ≡ length rows.clerks
    → own_of (with_new rows (new_clerk name)) place ≡ new_own name
own-last rows name place tables last =
    let caller = get_or_at rows.clerks (new_clerk name) [] (new_clerk []) place (sym last) in
    let sessions = list_at-push rows.sessions place ∙ get_or_past rows.sessions place [] (omega (
      arith,
      last,
      tables.sessions.each,
    )) in
    let records = list_at-push rows.records place ∙ get_or_past rows.records place [] (omega (
      arith,
      last,
      tables.records.each,
    )) in
    let batches = list_at-push rows.batches place ∙ get_or_past rows.batches place [] (omega (
      arith,
      last,
      tables.batches.each,
    )) in
    λ i. record { row = caller i; sessions = sessions i; records = records i; batches = batches i }

-- what is made of each kind of row that is published after the others
abbrev pub schema_making : Published → TextRow → Making
schema_making published row =
    record { change = change.Schema row; act = act.Schema; target = length published.schemas }

abbrev pub master_making : Published → TextRow → Making
master_making published row =
    record { change = change.Master row; act = act.Master; target = length published.masters }

abbrev pub rulebook_making : Published → RulebookRow → Making
rulebook_making published row =
    record { change = change.Rulebook row; act = act.Rulebook; target = length published.rulebooks }

abbrev pub edition_making : Published → EditionRow → Making
edition_making published row =
    record { change = change.Edition row; act = act.Edition; target = length published.editions }

abbrev pub region_making : Published → RegionRow → Making
region_making published row =
    record { change = change.Region row; act = act.Region; target = length published.regions }

-- the row that a change publishes is good there
abbrev pub IsGoodNew : Rows → Change → Type 0
IsGoodNew rows (change.Schema row) =
    IsSchemaRow (published_of (changed rows (change.Schema row))) (length rows.schemas) row
IsGoodNew rows (change.Master row) =
    IsMasterRow (published_of (changed rows (change.Master row))) (length rows.masters) row
IsGoodNew rows (change.Rulebook row) =
    IsRulebookRow (published_of (changed rows (change.Rulebook row))) (length rows.rulebooks) row
IsGoodNew rows (change.Edition row) =
    IsEditionRow (published_of (changed rows (change.Edition row))) (length rows.editions) row
IsGoodNew rows (change.Region row) =
    IsRegionRow (published_of (changed rows (change.Region row))) (length rows.regions) row
IsGoodNew rows (change.Clerk place row) = ⊥
IsGoodNew rows (change.Session caller place row) = ⊥
IsGoodNew rows (change.Record caller row) = ⊥
IsGoodNew rows (change.Batch caller row) = ⊥

-- so the tables with it are valid
AreValid-new_row : (rows : Rows) (one : Change) → AreValid rows → IsGoodNew rows one
    → AreTables (with_published rows (published_of (changed rows one)))
    → AreValid (with_published rows (published_of (changed rows one)))
AreValid-new_row rows (change.Schema row) valid good tables =
    AreValid-published rows (published_of (changed rows (change.Schema row))) valid (AreMore-changed rows (change.Schema row)) tables
    (pushed _ rows.schemas row good) (stays _ rows.masters) (stays _ rows.rulebooks) (stays _ rows.editions) (stays _ rows.regions)
AreValid-new_row rows (change.Master row) valid good tables =
    AreValid-published rows (published_of (changed rows (change.Master row))) valid (AreMore-changed rows (change.Master row)) tables
    (stays _ rows.schemas) (pushed _ rows.masters row good) (stays _ rows.rulebooks) (stays _ rows.editions) (stays _ rows.regions)
AreValid-new_row rows (change.Rulebook row) valid good tables =
    AreValid-published rows (published_of (changed rows (change.Rulebook row))) valid (AreMore-changed rows (change.Rulebook row)) tables
    (stays _ rows.schemas) (stays _ rows.masters) (pushed _ rows.rulebooks row good) (stays _ rows.editions) (stays _ rows.regions)
AreValid-new_row rows (change.Edition row) valid good tables =
    AreValid-published rows (published_of (changed rows (change.Edition row))) valid (AreMore-changed rows (change.Edition row)) tables
    (stays _ rows.schemas) (stays _ rows.masters) (stays _ rows.rulebooks) (pushed _ rows.editions row good) (stays _ rows.regions)
AreValid-new_row rows (change.Region row) valid good tables =
    AreValid-published rows (published_of (changed rows (change.Region row))) valid (AreMore-changed rows (change.Region row)) tables
    (stays _ rows.schemas) (stays _ rows.masters) (stays _ rows.rulebooks) (stays _ rows.editions) (pushed _ rows.regions row good)
AreValid-new_row rows (change.Clerk place row) valid good tables = absurd good
AreValid-new_row rows (change.Session caller place row) valid good tables = absurd good
AreValid-new_row rows (change.Record caller row) valid good tables = absurd good
AreValid-new_row rows (change.Batch caller row) valid good tables = absurd good

module _ (rows : Rows) (valid : AreValid rows) where
  -- a row that is published after the others, and good there, is soundly made
  pub IsSoundMaking-published : (making : Making) → (fits : Fits rows making.change)
      → let published : Published = published_of (changed rows making.change) in
      changed rows making.change ≡ with_published rows published → IsGoodNew rows making.change
      → making.act ≢ act.Nothing → IsStewardsAct making.act
      → HasTarget (with_published rows published) 0 making.act making.target → IsSoundMaking rows making
  IsSoundMaking-published making fits same good some is stands = record {
    fits = fits;
    valid = subst AreValid (sym same) (AreValid-new_row rows making.change valid good
        (subst AreTables same (AreTables-changed rows making.change fits valid.tables)));
    names = subst (λ (one : Rows). Begins (names_of rows.clerks) (names_of one.clerks)) (sym same)
        (Begins-same (names_of rows.clerks));
    own = λ place within. ap (λ (one : Rows). own_of one place) same;
    new = λ place following within.
        absurd (omega (arith, following, within, ap (λ (one : Rows). length one.clerks) same));
    is_done = subst (λ one. IsDone one 0 making.act making.target) (sym same) (IsDone-steward
        (with_published rows (published_of (changed rows making.change))) making.act making.target some is stands);
  }

module _ (rows : Rows) (valid : AreValid rows) where
  -- a new schema
  pub IsSoundMaking-add_schema : (body : List ℕ) (making : Making)
      → Gives (making_of rows (Publish (Schema body))) (Ok making)
      → IsSoundMaking rows making
  IsSoundMaking-add_schema body making gives =
      let (row, (schema, reads, (_, few, is_row)), is) =
      Met-Gives (making_of rows (Publish (Schema body))) (Ok making) gives
      in
      let new : TextRow =
      record { name = schema.name; version = next_version (λ one. one.name) rows.schemas schema.name; body = body } in
      let few_it = few-stand which.Schemas (length rows.schemas + 1) few in
      subst (IsSoundMaking rows) (sym (is ∙ ap (schema_making (published_of rows)) is_row))
      (IsSoundMaking-published rows valid (schema_making (published_of rows) new) (omega arith, omega (arith, few_it))
      refl (record {
        schema = schema;
        reads = ap read reads;
        name = refl;
        version = IsVersion-next (λ one. one.name) rows.schemas new schema.name
            (IsSchema-from_bytes body schema reads).named;
      }) (λ same. cc) tt (omega (arith, length-append rows.schemas (new ∷ []))))

  -- a new master
  pub IsSoundMaking-add_master : (name body : List ℕ) (making : Making)
      → Gives (making_of rows (Publish (Master name body))) (Ok making) → IsSoundMaking rows making
  IsSoundMaking-add_master name body making gives =
      let (row, (_, named, (master, reads, (_, few, (_, cells, is_row)))), is) =
      Met-Gives (making_of rows (Publish (Master name body))) (Ok making) gives in
      let new : TextRow =
      record { name = name; version = next_version (λ one. one.name) rows.masters name; body = body } in
      let few_it = few-stand which.Masters (length rows.masters + 1) few in
      subst (IsSoundMaking rows) (sym (is ∙ ap (master_making (published_of rows)) is_row))
      (IsSoundMaking-published rows valid (master_making (published_of rows) new) (omega arith, omega (arith, few_it))
      refl (record {
        version = IsVersion-next (λ one. one.name) rows.masters new name named;
        reads = rw reads refl;
      }) (λ same. cc) tt (omega (arith, length-append rows.masters (new ∷ []))))

  -- a new rulebook
  pub IsSoundMaking-add_rulebook : (name schema : List ℕ) (version : ℕ) (body : List ℕ) (making : Making)
      → Gives (making_of rows (Publish (Rulebook name schema version body))) (Ok making) → IsSoundMaking rows making
  IsSoundMaking-add_rulebook name schema_name version body making gives =
      let (row, (_, named, (place, found, (schema, stands, (rulebook, reads, (_, few, is_row))))), is) =
      Met-Gives (making_of rows (Publish (Rulebook name schema_name version body))) (Ok making) gives in
      let new : RulebookRow = record {
        name = name;
        version = next_version (λ one. one.name) rows.rulebooks name;
        schema = place;
        body = body;
      } in
      let reads_so : IsSome (rules_over body schema) = rw reads refl in
      let few_it = few-stand which.Rulebooks (length rows.rulebooks + 1) few in
      subst (IsSoundMaking rows) (sym (is ∙ ap (rulebook_making (published_of rows)) is_row))
      (IsSoundMaking-published rows valid (rulebook_making (published_of rows) new)
      (omega arith, omega (arith, few_it)) refl (record {
        version = IsVersion-next (λ one. one.name) rows.rulebooks new name named;
        schema = place_of-within (λ one. one.name) (λ one. one.version) rows.schemas schema_name version place
            found;
        reads = subst (λ one. IfSome one (λ schema. IsSome (rules_over body schema))) (sym stands) reads_so;
      }) (λ same. cc) tt (omega (arith, length-append rows.rulebooks (new ∷ []))))

  -- a new clerk
  IsSoundMaking-clerk : (name : List ℕ) → length rows.clerks ≤ 32 → IsTrue (is_name name)
      → All (λ earlier. earlier.name ≢ name) rows.clerks
      → IsSoundMaking rows (record {
        change = change.Clerk (length rows.clerks) (new_clerk name);
        act = act.Clerk;
        target = length rows.clerks;
      })
  IsSoundMaking-clerk name few named apart =
      let row : ClerkRow = new_clerk name in
      let place : ℕ = length rows.clerks in
      let other : Rows = with_new rows row in
      let fits : Fits rows (change.Clerk place row) = (omega arith, omega (arith, few)) in
      let clerks = put-end rows.clerks row in
      let sessions = with_clerk-end rows.sessions place in
      let records = with_clerk-end rows.records place in
      let batches = with_clerk-end rows.batches place in
      let same : changed rows (change.Clerk place row) ≡ other = λ i. record rows
      { clerks = clerks i; sessions = sessions i; records = records i; batches = batches i } in
      let good : IsClerkRow other place row = record {
        few = omega (arith, few);
        name = record {
          steward = λ first. absurd (omega (arith, first, valid.tables.steward));
          clerk = λ following. named;
          first = subst (All (λ earlier. earlier.name ≢ name)) (sym (take_at rows.clerks (row ∷ []) place refl)) apart;
        };
        number = omega arith;
        started = (λ none. refl, λ nothing. refl);
        digest = λ nothing. refl;
        steward = λ first. tt;
        clerk = λ following. tt;
        target = refl;
      } in
      let tables = subst AreTables same (AreTables-changed rows (change.Clerk place row) fits valid.tables) in
      record {
        fits = fits;
        valid = subst AreValid (sym same) (AreValid-new rows row valid good tables);
        names = subst (λ (one : Rows). Begins (names_of rows.clerks) (names_of one.clerks)) (sym same)
            (names_of (row ∷ []), map-append (λ (clerk : ClerkRow). clerk.name) rows.clerks (row ∷ []));
        own = λ caller within. ap (λ (one : Rows). own_of one caller) same ∙ own-new rows row caller within;
        new = λ caller following inside. (
          name,
          ap (λ (one : Rows). own_of one caller) same
              ∙ own-last rows name caller valid.tables (omega (
                arith,
                following,
                inside,
                length-append rows.clerks (row ∷ []),
                ap (λ (one : Rows). length one.clerks) same,
              )),
        );
        is_done = subst (λ one. IsDone one 0 act.Clerk place) (sym same) (IsDone-steward other act.Clerk place
            (λ same_act. cc) tt (valid.tables.steward, omega (arith, length-append rows.clerks (row ∷ []))));
      }

  pub IsSoundMaking-add_clerk : (name : List ℕ) (making : Making) → Gives (making_of rows (AddClerk name)) (Ok making)
      → IsSoundMaking rows making
  IsSoundMaking-add_clerk name making gives =
      let (row, (_, named, (_, free, (_, few, is_row))), is) =
      Met-Gives (making_of rows (AddClerk name)) (Ok making) gives in
      let made_of : ClerkRow → Making = λ one.
      record { change = change.Clerk (length rows.clerks) one; act = act.Clerk; target = length rows.clerks } in
      let is_named : ClerkRow → Bool = λ clerk. bytes_eq clerk.name name in
      subst (IsSoundMaking rows) (sym (is ∙ ap made_of is_row))
      (IsSoundMaking-clerk name (few-stand which.Clerks (length rows.clerks) few) named
      (λ index past inside same. not-any is_named rows.clerks
      free index past inside ((bytes_eq-Decides (get_or rows.clerks index past).name name).1 same)))
