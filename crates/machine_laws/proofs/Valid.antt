-- Valid tables stay valid: where more is published, where a clerk comes, and where one clerk's rows change.
use Rattle.std.proofs.Common.{◌≡◌, ◌∙◌, ℕ, ◌<◌, ◌≤◌, List, [], ◌∷◌, ◌++◌, length, set, take, Some, inl, inr, refl, sym}
use Rattle.std.proofs.Common.{ap, subst, arith}
use Rattle.std.specs.Prelude.{slice_get}
use Rattle.std.proofs.lemmas.Bool.{cases_eq}
use Rattle.std.proofs.lemmas.List.{length-append, length-map, length-set, take-append-le, map-append}
use Rattle.desk_words.specs.declared.rows.batch.BatchRow.{BatchRow}
use Rattle.desk_words.specs.declared.rows.clerk.ClerkRow.{ClerkRow}
use Rattle.desk_words.specs.declared.rows.record.RecordRow.{RecordRow}
use Rattle.desk_words.specs.declared.rows.session.SessionRow.{SessionRow}
use Rattle.desk_words.specs.Tables.{AreTables, Published, Rows, list_at, published_of, new_clerk}
use Rattle.desk_valid.specs.Rows.Clerk.{IsClerkRow}
use Rattle.desk_valid.specs.Rows.Edition.{IsEditionRow}
use Rattle.desk_valid.specs.Rows.Master.{IsMasterRow}
use Rattle.desk_valid.specs.Rows.Region.{IsRegionRow}
use Rattle.desk_valid.specs.Rows.Rulebook.{IsRulebookRow}
use Rattle.desk_valid.specs.Rows.Schema.{IsSchemaRow}
use Rattle.desk_valid.specs.Valid.{AreValid, EachAt}
use Rattle.machine_core.specs.Own.{Own, own_of}
use Rattle.machine_core.specs.OwnRows.{AreOwnRows}
use Rattle.machine_laws.proofs.Lists.{slice_get-read, slice_get-there, Begins-push, EachAt-begins, EachAt-set}
use Rattle.machine_laws.proofs.Lists.{length-begins, list_at-push, list_at-set_other, list_at-set_same, map-set_same}
use Rattle.machine_laws.proofs.Lists.{pushed}
use Rattle.machine_laws.proofs.Callers.{AreNoFewer, IsClerkRow-more, names_of}
use Rattle.machine_laws.proofs.More.{AreMore, AreOwnRows-more, IsEditionRow-more, IsMasterRow-more, IsRegionRow-more}
use Rattle.machine_laws.proofs.More.{IsRulebookRow-more, IsSchemaRow-more}

-- a clerk's own rows in valid tables
pub own-rows : (rows : Rows) → AreValid rows → (clerk : ℕ) → AreOwnRows (published_of rows)
    (list_at rows.sessions clerk) (list_at rows.records clerk) (list_at rows.batches clerk)
own-rows rows valid clerk = record {
  sessions_valid = valid.sessions clerk;
  records_valid = valid.records clerk;
  batches_valid = valid.batches clerk;
}

-- a caller's row in valid tables is good
pub good-row : (rows : Rows) → AreValid rows → (place : ℕ) → place < length rows.clerks
    → IsClerkRow rows place (own_of rows place).row
good-row rows valid place within =
    let row = slice_get-there rows.clerks place within in
    let is : (own_of rows place).row ≡ row.0 = slice_get-read rows.clerks place row.0 (new_clerk []) row.1 in
    subst (IsClerkRow rows place) (sym is) (valid.clerks place row.0 row.1)

-- equal lists are good alike
pub AreOwnRows-same : (published : Published) (sessions other_sessions : List SessionRow)
    (records other_records : List RecordRow) (batches other_batches : List BatchRow) → other_sessions ≡ sessions
    → other_records ≡ records → other_batches ≡ batches → AreOwnRows published sessions records batches
    → AreOwnRows published other_sessions other_records other_batches
AreOwnRows-same published sessions other_sessions records other_records batches other_batches same_sessions
    same_records same_batches are =
    subst (λ list. AreOwnRows published list other_records other_batches) (sym same_sessions)
    (subst (λ list. AreOwnRows published sessions list other_batches) (sym same_records)
    (subst (λ list. AreOwnRows published sessions records list) (sym same_batches) are))

-- the rows of a list after those of one before are good
abbrev pub IsGoodFrom : {T : Type 0} → (ℕ → T → Type 0) → List T → List T → Type 0
IsGoodFrom {T} Q before now =
    (place : ℕ) (row : T) → length before ≤ place → slice_get now place ≡ Some row → Q place row

-- the tables with this published
abbrev pub with_published : Rows → Published → Rows
with_published rows published = record rows {
  schemas = published.schemas;
  masters = published.masters;
  rulebooks = published.rulebooks;
  editions = published.editions;
  regions = published.regions;
}

-- more that is published, and good, leaves valid tables
pub AreValid-published : (rows : Rows) (published : Published) → AreValid rows → AreMore (published_of rows) published
    → AreTables (with_published rows published)
    → IsGoodFrom (IsSchemaRow published) rows.schemas published.schemas
    → IsGoodFrom (IsMasterRow published) rows.masters published.masters
    → IsGoodFrom (IsRulebookRow published) rows.rulebooks published.rulebooks
    → IsGoodFrom (IsEditionRow published) rows.editions published.editions
    → IsGoodFrom (IsRegionRow published) rows.regions published.regions → AreValid (with_published rows published)
AreValid-published rows published valid more tables new_schemas new_masters new_rulebooks new_editions new_regions =
    let other : Rows = with_published rows published in
    let fewer : AreNoFewer rows other = record {
      clerks = omega arith;
      schemas = length-begins rows.schemas published.schemas more.schemas;
      masters = length-begins rows.masters published.masters more.masters;
      rulebooks = length-begins rows.rulebooks published.rulebooks more.rulebooks;
      editions = length-begins rows.editions published.editions more.editions;
      regions = length-begins rows.regions published.regions more.regions;
      sessions = λ clerk. omega arith;
      records = λ clerk. omega arith;
      batches = λ clerk. omega arith;
    } in
    let own = λ (clerk : ℕ). AreOwnRows-more rows valid published more (list_at rows.sessions clerk)
    (list_at rows.records clerk) (list_at rows.batches clerk) (own-rows rows valid clerk) in
    record {
      tables = tables;
      clerks = λ place row stands. IsClerkRow-more rows other place row fewer refl (valid.clerks place row stands);
      schemas = EachAt-begins (IsSchemaRow (published_of rows)) (IsSchemaRow published) rows.schemas published.schemas
          more.schemas valid.schemas (λ place row within is. IsSchemaRow-more rows valid published more place row
          (omega arith) is) new_schemas;
      masters = EachAt-begins (IsMasterRow (published_of rows)) (IsMasterRow published) rows.masters published.masters
          more.masters valid.masters (λ place row within is. IsMasterRow-more rows valid published more place row
          (omega arith) is) new_masters;
      rulebooks = EachAt-begins (IsRulebookRow (published_of rows)) (IsRulebookRow published) rows.rulebooks
          published.rulebooks more.rulebooks valid.rulebooks (λ place row within is. IsRulebookRow-more rows valid
          published more place row (omega arith) is) new_rulebooks;
      editions = EachAt-begins (IsEditionRow (published_of rows)) (IsEditionRow published) rows.editions
          published.editions more.editions valid.editions (λ place row within is. IsEditionRow-more rows valid
          published more place row (omega arith) is) new_editions;
      regions = EachAt-begins (IsRegionRow (published_of rows)) (IsRegionRow published) rows.regions published.regions
          more.regions valid.regions (λ place row within is. IsRegionRow-more rows valid published more place row
          (omega arith) is) new_regions;
      sessions = λ clerk. (own clerk).sessions_valid;
      records = λ clerk. (own clerk).records_valid;
      batches = λ clerk. (own clerk).batches_valid;
    }

module _ (rows : Rows) (clerks : List ClerkRow) (sessions : List (List SessionRow)) (records : List (List RecordRow))
    (batches : List (List BatchRow)) where
  -- the tables with these rows of clerks, and the same published
  abbrev pub with_callers : Rows
  with_callers = record rows { clerks = clerks; sessions = sessions; records = records; batches = batches }

  AreNoFewer-callers : length rows.clerks ≤ length clerks
      → ((clerk : ℕ) → length (list_at rows.sessions clerk) ≤ length (list_at sessions clerk))
      → ((clerk : ℕ) → length (list_at rows.records clerk) ≤ length (list_at records clerk))
      → ((clerk : ℕ) → length (list_at rows.batches clerk) ≤ length (list_at batches clerk))
      → AreNoFewer rows with_callers
  AreNoFewer-callers more_clerks more_sessions more_records more_batches = record {
    clerks = more_clerks;
    schemas = omega arith;
    masters = omega arith;
    rulebooks = omega arith;
    editions = omega arith;
    regions = omega arith;
    sessions = more_sessions;
    records = more_records;
    batches = more_batches;
  }

  -- they are valid where the clerks' rows are good
  AreValid-callers : AreValid rows → AreTables with_callers → EachAt clerks (IsClerkRow with_callers)
      → ((clerk : ℕ)
      → AreOwnRows (published_of rows) (list_at sessions clerk) (list_at records clerk) (list_at batches clerk))
      → AreValid with_callers
  AreValid-callers valid tables good own = record {
    tables = tables;
    clerks = good;
    schemas = valid.schemas;
    masters = valid.masters;
    rulebooks = valid.rulebooks;
    editions = valid.editions;
    regions = valid.regions;
    sessions = λ clerk. (own clerk).sessions_valid;
    records = λ clerk. (own clerk).records_valid;
    batches = λ clerk. (own clerk).batches_valid;
  }

-- the tables with these rows of the caller at a place
abbrev pub with_own : Rows → ℕ → Own → Rows
with_own rows place own = with_callers rows (set rows.clerks place own.row) (set rows.sessions place own.sessions)
    (set rows.records place own.records) (set rows.batches place own.batches)

module _ (rows : Rows) (valid : AreValid rows) (place : ℕ) (within : place < length rows.clerks) (own : Own) where
  -- one clerk's rows are those that are put, and the others' stay
  own-with : AreOwnRows (published_of rows) own.sessions own.records own.batches → (clerk : ℕ)
      → AreOwnRows (published_of rows) (list_at (set rows.sessions place own.sessions) clerk)
      (list_at (set rows.records place own.records) clerk) (list_at (set rows.batches place own.batches) clerk)
  own-with good clerk = elim (cases_eq clerk place) [
    | inl same ↦
        let here = AreOwnRows-same (published_of rows) own.sessions
        (list_at (set rows.sessions place own.sessions) place)
        own.records (list_at (set rows.records place own.records) place) own.batches
        (list_at (set rows.batches place own.batches) place)
        (list_at-set_same rows.sessions place own.sessions (omega (arith, valid.tables.sessions.each)))
        (list_at-set_same rows.records place own.records (omega (arith, valid.tables.records.each)))
        (list_at-set_same rows.batches place own.batches (omega (arith, valid.tables.batches.each))) good in
        subst (λ one. AreOwnRows (published_of rows) (list_at (set rows.sessions place own.sessions) one)
        (list_at (set rows.records place own.records) one) (list_at (set rows.batches place own.batches) one))
        (sym same)
        here
    | inr apart ↦ AreOwnRows-same (published_of rows)
        (list_at rows.sessions clerk) (list_at (set rows.sessions place own.sessions) clerk)
        (list_at rows.records clerk) (list_at (set rows.records place own.records) clerk)
        (list_at rows.batches clerk) (list_at (set rows.batches place own.batches) clerk)
        (list_at-set_other rows.sessions place clerk own.sessions apart)
        (list_at-set_other rows.records place clerk own.records apart)
        (list_at-set_other rows.batches place clerk own.batches apart) (own-rows rows valid clerk)
  ]

  -- a caller's rows that are good, and no fewer than before, leave valid tables
  pub AreValid-own : (old : ClerkRow) → slice_get rows.clerks place ≡ Some old → own.row.name ≡ old.name
      → AreOwnRows (published_of rows) own.sessions own.records own.batches
      → AreNoFewer rows (with_own rows place own) → IsClerkRow (with_own rows place own) place own.row
      → AreTables (with_own rows place own) → AreValid (with_own rows place own)
  AreValid-own old stands name good fewer row tables =
      let other : Rows = with_own rows place own in
      let name_in : ClerkRow → List ℕ = λ clerk. clerk.name in
      let names : names_of other.clerks ≡ names_of rows.clerks =
      map-set_same name_in rows.clerks place own.row old stands name in
      AreValid-callers rows (set rows.clerks place own.row) (set rows.sessions place own.sessions)
      (set rows.records place own.records) (set rows.batches place own.batches) valid tables
      (EachAt-set (IsClerkRow rows) (IsClerkRow other) rows.clerks place own.row valid.clerks
      (λ caller one apart is. IsClerkRow-more rows other caller one fewer (ap (take caller) names) is) row)
      (own-with good)

-- a list is no shorter where the one that is put is not
length-list_at : {T : Type 0} (lists : List (List T)) (place clerk : ℕ) (list : List T) → place < length lists
    → length (list_at lists place) ≤ length list → length (list_at lists clerk) ≤ length
    (list_at (set lists place list) clerk)
length-list_at lists place clerk list within longer = elim (cases_eq clerk place) [
  | inl same ↦ subst (λ one. length (list_at lists one) ≤ length (list_at (set lists place list) one)) (sym same)
      (omega (arith, ap length (list_at-set_same lists place list within), longer))
  | inr apart ↦ omega (arith, ap length (list_at-set_other lists place clerk list apart))
]

-- where a caller's lists are no shorter, no table is
pub AreNoFewer-own : (rows : Rows) (place : ℕ) (own : Own) → AreTables rows → place < length rows.clerks
    → length (list_at rows.sessions place) ≤ length own.sessions
    → length (list_at rows.records place) ≤ length own.records
    → length (list_at rows.batches place) ≤ length own.batches → AreNoFewer rows (with_own rows place own)
AreNoFewer-own rows place own tables within sessions records batches = AreNoFewer-callers rows
    (set rows.clerks place own.row) (set rows.sessions place own.sessions) (set rows.records place own.records)
    (set rows.batches place own.batches) (omega (arith, length-set rows.clerks place own.row))
    (λ clerk. length-list_at rows.sessions place clerk own.sessions (omega (arith, tables.sessions.each)) sessions)
    (λ clerk. length-list_at rows.records place clerk own.records (omega (arith, tables.records.each)) records)
    (λ clerk. length-list_at rows.batches place clerk own.batches (omega (arith, tables.batches.each)) batches)

-- the tables with a clerk more, who has done nothing yet
abbrev pub with_new : Rows → ClerkRow → Rows
with_new rows row = with_callers rows (rows.clerks ++ row ∷ []) (rows.sessions ++ [] ∷ []) (rows.records ++ [] ∷ [])
    (rows.batches ++ [] ∷ [])

-- a new clerk whose row is good leaves valid tables
pub AreValid-new : (rows : Rows) (row : ClerkRow) → AreValid rows → IsClerkRow (with_new rows row) (length rows.clerks)
    row
    → AreTables (with_new rows row) → AreValid (with_new rows row)
AreValid-new rows row valid good tables =
    let other : Rows = with_new rows row in
    let name_in : ClerkRow → List ℕ = λ clerk. clerk.name in
    let fewer : AreNoFewer rows other = AreNoFewer-callers rows other.clerks other.sessions other.records other.batches
    (omega (arith, length-append rows.clerks (row ∷ [])))
    (λ clerk. omega (arith, ap length (list_at-push rows.sessions clerk)))
    (λ clerk. omega (arith, ap length (list_at-push rows.records clerk)))
    (λ clerk. omega (arith, ap length (list_at-push rows.batches clerk))) in
    let names = λ (place : ℕ) (within : place < length rows.clerks).
    ap (take place) (map-append name_in rows.clerks (row ∷ [])) ∙ take-append-le place (names_of rows.clerks)
    (names_of (row ∷ [])) (omega (arith, length-map rows.clerks name_in)) in
    let own = λ (clerk : ℕ). AreOwnRows-same (published_of rows)
    (list_at rows.sessions clerk) (list_at other.sessions clerk)
    (list_at rows.records clerk) (list_at other.records clerk)
    (list_at rows.batches clerk) (list_at other.batches clerk)
    (list_at-push rows.sessions clerk) (list_at-push rows.records clerk) (list_at-push rows.batches clerk)
    (own-rows rows valid clerk) in
    AreValid-callers rows other.clerks other.sessions other.records other.batches valid tables
    (EachAt-begins (IsClerkRow rows) (IsClerkRow other) rows.clerks other.clerks (Begins-push rows.clerks row)
    valid.clerks (λ place one within is. IsClerkRow-more rows other place one fewer (names place within) is)
    (pushed (IsClerkRow other) rows.clerks row good))
    own
