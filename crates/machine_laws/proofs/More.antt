-- What was published before stays as it was where more is published.
use Rattle.std.proofs.Common.{◌≡◌, ◌∙◌, ℕ, ◌<◌, ◌≤◌, List, [], ◌∷◌, length, get_or, map, Option, Some, refl, sym, ap}
use Rattle.std.proofs.Common.{subst, arith}
use Rattle.std.specs.Prelude.{◌+◌, ◌==◌, All, IfSome, IsSome, count_by, option_and_then, option_map, slice_get}
use Rattle.std.specs.Str.{bytes_eq}
use Rattle.std.proofs.lemmas.List.Elements.{All-get_or, All-head, All-tail, All-weaker}
use Rattle.desk_words.specs.declared.rows.batch.BatchRow.{BatchRow}
use Rattle.desk_words.specs.declared.rows.edition.EditionRow.{EditionRow}
use Rattle.desk_words.specs.declared.rows.record.RecordRow.{RecordRow}
use Rattle.desk_words.specs.declared.rows.region.RegionRow.{RegionRow}
use Rattle.desk_words.specs.declared.rows.rulebook.RulebookRow.{RulebookRow}
use Rattle.desk_words.specs.declared.rows.session.SessionRow.{SessionRow}
use Rattle.desk_words.specs.declared.rows.text.TextRow.{TextRow}
use Rattle.desk_words.specs.Tables.{Published, Rows, published_of}
use Rattle.desk_valid.specs.Bindings.{parts_of}
use Rattle.desk_valid.specs.Readings.{master_at, master_in, rules_at, rules_in, rules_over, schema_at, schema_in}
use Rattle.desk_valid.specs.Readings.{width_at}
use Rattle.desk_valid.specs.Rows.Batch.{IsBatchRow}
use Rattle.desk_valid.specs.Rows.Edition.{AreNamedApart, IsBinding, IsEditionRow}
use Rattle.desk_valid.specs.Rows.Master.{IsMasterRow}
use Rattle.desk_valid.specs.Rows.Region.{IsRegionRow}
use Rattle.desk_valid.specs.Rows.Rulebook.{IsRulebookRow}
use Rattle.desk_valid.specs.Rows.Schema.{IsSchemaRow}
use Rattle.desk_valid.specs.Rows.Session.{IsSessionRow}
use Rattle.desk_valid.specs.Valid.{AreValid}
use Rattle.desk_valid.specs.Versions.{IsVersion}
use Rattle.machine_core.specs.OwnRows.{AreOwnRows}
use Rattle.machine_laws.proofs.Lists.{Begins, length-begins, slice_get-begins, slice_get-there, take-begins}
use Rattle.machine_laws.proofs.Lists.{Begins-push, Begins-same}
use Rattle.desk_words.specs.declared.change.Change.{Change}
use Rattle.desk_words.specs.declared.change.Change.TheVariants as change
use Rattle.desk_words.specs.Changes.{changed}

-- each list begins with what was published before
pub record AreMore (one other : Published) : Type 0 where
  pub schemas : Begins one.schemas other.schemas
  pub masters : Begins one.masters other.masters
  pub rulebooks : Begins one.rulebooks other.rulebooks
  pub editions : Begins one.editions other.editions
  pub regions : Begins one.regions other.regions

-- what was published stays
pub AreMore-same : (published : Published) → AreMore published published
AreMore-same published = record {
  schemas = Begins-same published.schemas;
  masters = Begins-same published.masters;
  rulebooks = Begins-same published.rulebooks;
  editions = Begins-same published.editions;
  regions = Begins-same published.regions;
}

are_more : (one other : Published) → Begins one.schemas other.schemas → Begins one.masters other.masters
    → Begins one.rulebooks other.rulebooks → Begins one.editions other.editions → Begins one.regions other.regions
    → AreMore one other
are_more one other schemas masters rulebooks editions regions = record {
  schemas = schemas;
  masters = masters;
  rulebooks = rulebooks;
  editions = editions;
  regions = regions;
}

-- what was published begins what is published after a change
pub AreMore-changed : (rows : Rows) (one : Change) → AreMore (published_of rows) (published_of (changed rows one))
AreMore-changed rows (change.Clerk place row) = AreMore-same (published_of rows)
AreMore-changed rows (change.Schema row) = are_more (published_of rows)
    (published_of (changed rows (change.Schema row)))
    (Begins-push rows.schemas row) (Begins-same rows.masters) (Begins-same rows.rulebooks) (Begins-same rows.editions)
    (Begins-same rows.regions)
AreMore-changed rows (change.Master row) = are_more (published_of rows)
    (published_of (changed rows (change.Master row)))
    (Begins-same rows.schemas) (Begins-push rows.masters row) (Begins-same rows.rulebooks) (Begins-same rows.editions)
    (Begins-same rows.regions)
AreMore-changed rows (change.Rulebook row) = are_more (published_of rows)
    (published_of (changed rows (change.Rulebook row))) (Begins-same rows.schemas) (Begins-same rows.masters)
    (Begins-push rows.rulebooks row) (Begins-same rows.editions) (Begins-same rows.regions)
AreMore-changed rows (change.Edition row) = are_more (published_of rows)
    (published_of (changed rows (change.Edition row)))
    (Begins-same rows.schemas) (Begins-same rows.masters) (Begins-same rows.rulebooks) (Begins-push rows.editions row)
    (Begins-same rows.regions)
AreMore-changed rows (change.Region row) = are_more (published_of rows)
    (published_of (changed rows (change.Region row)))
    (Begins-same rows.schemas) (Begins-same rows.masters) (Begins-same rows.rulebooks) (Begins-same rows.editions)
    (Begins-push rows.regions row)
AreMore-changed rows (change.Session caller place row) = AreMore-same (published_of rows)
AreMore-changed rows (change.Record caller row) = AreMore-same (published_of rows)
AreMore-changed rows (change.Batch caller row) = AreMore-same (published_of rows)

-- a version is the next of its name still
IsVersion-more : {T : Type 0} (name_of : T → List ℕ) (rows others : List T) (begins : Begins rows others) (place : ℕ)
    (name : List ℕ) (version : ℕ) → place ≤ length rows → IsVersion name_of rows place name version
    → IsVersion name_of others place name version
IsVersion-more name_of rows others begins place name version within is = record {
  named = is.named;
  next = is.next ∙ ap (λ before. count_by (λ earlier. bytes_eq (name_of earlier) name) before + 1)
      (sym (take-begins rows others begins place within));
}

module _ (rows : Rows) (valid : AreValid rows) (other : Published) (more : AreMore (published_of rows) other) where
  -- a schema
  pub schema_at-more : (place : ℕ) → place < length rows.schemas → schema_at other place ≡ schema_at
      (published_of rows) place
  schema_at-more place within =
      ap (option_and_then schema_in) (slice_get-begins rows.schemas other.schemas more.schemas place within)

  -- a master
  pub master_at-more : (place : ℕ) → place < length rows.masters → master_at other place ≡ master_at
      (published_of rows) place
  master_at-more place within =
      ap (option_and_then master_in) (slice_get-begins rows.masters other.masters more.masters place within)

  masters_at-more : (places : List ℕ) → All (λ place. place < length rows.masters) places
      → map (master_at other) places ≡ map (master_at (published_of rows)) places
  masters_at-more [] within = refl
  masters_at-more (place ∷ places) within =
      let Within : ℕ → Type 0 = λ one. one < length rows.masters in
      let first = master_at-more place (All-head Within place places within) in
      let rest = masters_at-more places (All-tail Within place places within) in
      λ i. first i ∷ rest i

  -- a rulebook
  pub rules_at-more : (place : ℕ) → place < length rows.rulebooks → rules_at other place ≡ rules_at (published_of rows)
      place
  rules_at-more place within =
      let here = slice_get-there rows.rulebooks place within in
      let good : IsRulebookRow (published_of rows) place here.0 = valid.rulebooks place here.0 here.1 in
      let there : slice_get other.rulebooks place ≡ Some here.0 =
      slice_get-begins rows.rulebooks other.rulebooks more.rulebooks place within ∙ here.1 in
      ap (option_and_then (rules_in other)) there
      ∙ ap (option_and_then (rules_over here.0.body)) (schema_at-more here.0.schema good.schema)
      ∙ sym (ap (option_and_then (rules_in (published_of rows))) here.1)

  -- the parts of an edition
  pub parts_of-more : (row : EditionRow) → row.rulebook < length rows.rulebooks
      → All (λ place. place < length rows.masters) row.masters → parts_of other row ≡ parts_of (published_of rows) row
  parts_of-more row rulebook masters = rw (masters_at-more row.masters masters, rules_at-more row.rulebook rulebook)
      refl

  -- how many attributes an edition has
  pub width_at-more : (place : ℕ) → place < length rows.editions → width_at other place ≡ width_at (published_of rows)
      place
  width_at-more place within =
      let here = slice_get-there rows.editions place within in
      let good : IsEditionRow (published_of rows) place here.0 = valid.editions place here.0 here.1 in
      let there : slice_get other.editions place ≡ Some here.0 =
      slice_get-begins rows.editions other.editions more.editions place within ∙ here.1 in
      rw (there, here.1, rules_at-more here.0.rulebook good.rulebook) refl

  -- a row of each table is good where it was
  pub IsSchemaRow-more : (place : ℕ) (row : TextRow) → place ≤ length rows.schemas
      → IsSchemaRow (published_of rows) place row → IsSchemaRow other place row
  IsSchemaRow-more place row within is = record {
    schema = is.schema;
    reads = is.reads;
    name = is.name;
    version = IsVersion-more (λ one. one.name) rows.schemas other.schemas more.schemas place row.name row.version
        within is.version;
  }

  pub IsMasterRow-more : (place : ℕ) (row : TextRow) → place ≤ length rows.masters
      → IsMasterRow (published_of rows) place row → IsMasterRow other place row
  IsMasterRow-more place row within is = record {
    version = IsVersion-more (λ one. one.name) rows.masters other.masters more.masters place row.name row.version
        within is.version;
    reads = is.reads;
  }

  pub IsRulebookRow-more : (place : ℕ) (row : RulebookRow) → place ≤ length rows.rulebooks
      → IsRulebookRow (published_of rows) place row → IsRulebookRow other place row
  IsRulebookRow-more place row within is = record {
    version = IsVersion-more (λ one. one.name) rows.rulebooks other.rulebooks more.rulebooks place row.name row.version
        within is.version;
    schema = omega (arith, is.schema, length-begins rows.schemas other.schemas more.schemas);
    reads = subst (λ found. IfSome found (λ schema. IsSome (rules_over row.body schema)))
        (sym (schema_at-more row.schema is.schema)) is.reads;
  }

  AreNamedApart-more : (masters : List ℕ) → All (λ place. place < length rows.masters) masters
      → AreNamedApart (published_of rows) masters → AreNamedApart other masters
  AreNamedApart-more masters within apart i j past before last same =
      let name : Option TextRow → Option (List ℕ) = option_map (λ master. master.name) in
      let Within : ℕ → Type 0 = λ place. place < length rows.masters in
      let first = slice_get-begins rows.masters other.masters more.masters (get_or masters i past)
      (All-get_or Within masters i past (omega arith) within) in
      let second = slice_get-begins rows.masters other.masters more.masters (get_or masters j past)
      (All-get_or Within masters j past last within) in
      apart i j past before last (sym (ap name first) ∙ same ∙ ap name second)

  pub IsEditionRow-more : (place : ℕ) (row : EditionRow) → place ≤ length rows.editions
      → IsEditionRow (published_of rows) place row → IsEditionRow other place row
  IsEditionRow-more place row within is = record {
    few = is.few;
    version = IsVersion-more (λ one. one.name) rows.editions other.editions more.editions place row.name row.version
        within is.version;
    rulebook = omega (arith, is.rulebook, length-begins rows.rulebooks other.rulebooks more.rulebooks);
    few_masters = is.few_masters;
    masters = All-weaker (λ master. master < length rows.masters) (λ master. master < length other.masters)
        (λ master inside. omega (arith, inside, length-begins rows.masters other.masters more.masters)) row.masters
        is.masters;
    named_apart = AreNamedApart-more row.masters is.masters is.named_apart;
    folded = is.folded;
    binds = subst (λ found. IfSome found (λ parts. IsBinding parts row.folded))
        (sym (parts_of-more row is.rulebook is.masters)) is.binds;
  }

  pub IsRegionRow-more : (place : ℕ) (row : RegionRow) → place ≤ length rows.regions
      → IsRegionRow (published_of rows) place row → IsRegionRow other place row
  IsRegionRow-more place row within is = record {
    edition = omega (arith, is.edition, length-begins rows.editions other.editions more.editions);
    few = subst (λ before. count_by (λ earlier. earlier.edition == row.edition) before < 8)
        (sym (take-begins rows.regions other.regions more.regions place within)) is.few;
    distinct = is.distinct;
    within = subst (λ found. IfSome found (λ width. All (λ attribute. attribute < width) row.region.attrs))
        (sym (width_at-more row.edition is.edition)) is.within;
    few_rows = is.few_rows;
    whole = is.whole;
  }

  IsSessionRow-more : (batches : List BatchRow) (row : SessionRow) → IsSessionRow (published_of rows) batches row
      → IsSessionRow other batches row
  IsSessionRow-more batches row is = record {
    edition = omega (arith, is.edition, length-begins rows.editions other.editions more.editions);
    typed = subst (λ found. IfSome found (λ width. length row.typed ≡ width))
        (sym (width_at-more row.edition is.edition)) is.typed;
    confirmed = subst (λ found. IfSome found (λ width. length row.confirmed ≡ width))
        (sym (width_at-more row.edition is.edition)) is.confirmed;
    batch = is.batch;
  }

  -- and so are a clerk's own rows
  pub AreOwnRows-more : (sessions : List SessionRow) (records : List RecordRow) (batches : List BatchRow)
      → AreOwnRows (published_of rows) sessions records batches → AreOwnRows other sessions records batches
  AreOwnRows-more sessions records batches are = record {
    sessions_valid = λ place row stands. IsSessionRow-more batches row (are.sessions_valid place row stands);
    records_valid = are.records_valid;
    batches_valid = λ place row stands. batch row (are.batches_valid place row stands);
  }
    where
      batch : (row : BatchRow) → IsBatchRow (published_of rows) sessions row → IsBatchRow other sessions row
      batch row is = record {
        edition = omega (arith, is.edition, length-begins rows.editions other.editions more.editions);
        counted = is.counted;
        within = is.within;
      }
