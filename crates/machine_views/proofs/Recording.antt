-- The records of an edition, one after another.
use Rattle.std.proofs.Common.{◌≡◌, ◌∙◌, ℕ, ◌+◌, ◌<◌, ◌≤◌, Bool, true, false, cond, List, [], ◌∷◌, ◌++◌, length}
use Rattle.std.proofs.Common.{get_or, map, take, Some, Ok, sym, ap, arith}
use Rattle.std.specs.Prelude.{filter}
use Rattle.std.proofs.lemmas.List.{append-nil, map-append, take_all}
use Rattle.std.proofs.lemmas.List.Elements.{filter_more}
use Rattle.desk_words.specs.declared.rows.record.RecordRow.{RecordRow}
use Rattle.desk_words.specs.declared.report.RecordLine.{RecordLine}
use Rattle.desk_words.specs.declared.report.RecordSheet.{RecordSheet}
use Rattle.desk_words.specs.declared.refusal.Kind.TheVariants as kind
use Rattle.desk_words.specs.declared.refusal.Refusal.TheVariants.{NoSuch}
use Rattle.desk_words.specs.Tables.{Published}
use Rattle.desk_valid.specs.declared.bound.Bound.{Bound}
use Rattle.desk_valid.specs.Bindings.{bound_at}
use Rattle.machine_core.specs.Checked.{◌>>=◌, certainly, done, Gives, some_or, IsFound}
use Rattle.machine_core.specs.Finding.{edition_named}
use Rattle.machine_core.specs.Look.Records.{is_on, record_line, records_of}
use Rattle.machine_core.proofs.Chains.{Gives-bind, Gives-found}
use Rattle.machine_views.proofs.Numbered.{numbered, numbered-at, numbered-length}
use Rattle.machine_core.specs.Own.{Own}

-- a clerk's records, each with its number
abbrev records_numbered : Own → List (ℕ × RecordRow)
records_numbered own = numbered 1 own.records

module _ (own : Own) (edition place : ℕ) (row : RecordRow) (within : place < length own.records)
    (is : row ≡ get_or own.records place row) where
  -- whether the next record is on the edition says what comes after those before it
  next-kept : (test : Bool) → is_on own edition (place + 1, row) ≡ test
      → filter (is_on own edition) (take (place + 1) (records_numbered own))
      ≡ filter (is_on own edition) (take place (records_numbered own)) ++ cond test ((place + 1, row) ∷ []) []
  next-kept test passes =
      let item : ℕ × RecordRow = (place + 1, row) in
      let before = filter (is_on own edition) (take place (records_numbered own)) in
      let inside : place < length (records_numbered own) = omega (arith, within, numbered-length 1 own.records) in
      filter_more (is_on own edition) (records_numbered own) place item inside
      ∙ ap (λ one. before ++ cond (is_on own edition one) (one ∷ []) [])
      (sym (numbered-at 1 own.records place (place + 1) row within is (omega arith)))
      ∙ ap (λ test. before ++ cond test (item ∷ []) []) passes

  -- the line of a record on the edition comes after the others
  pub lines-kept : (lines new : List RecordLine) (line : RecordLine) → is_on own edition (place + 1, row) ≡ true
      → lines ≡ map record_line (filter (is_on own edition) (take place (records_numbered own)))
      → line ≡ record_line (place + 1, row) → new ≡ lines ++ line ∷ []
      → new ≡ map record_line (filter (is_on own edition) (take (place + 1) (records_numbered own)))
  lines-kept lines new line passes so_far is_line more =
      let item : ℕ × RecordRow = (place + 1, row) in
      let before = filter (is_on own edition) (take place (records_numbered own)) in
      more ∙ (λ i. so_far i ++ is_line i ∷ []) ∙ sym (map-append record_line before (item ∷ []))
      ∙ ap (map record_line) (sym (next-kept true passes))

  -- and a record on another is left out
  pub lines-left : (lines new : List RecordLine) → is_on own edition (place + 1, row) ≡ false
      → lines ≡ map record_line (filter (is_on own edition) (take place (records_numbered own))) → new ≡ lines
      → new ≡ map record_line (filter (is_on own edition) (take (place + 1) (records_numbered own)))
  lines-left lines new passes so_far same =
      let before = filter (is_on own edition) (take place (records_numbered own)) in
      same ∙ so_far ∙ ap (map record_line) (sym (next-kept false passes ∙ append-nil before))

-- past the last record all lines are there
pub lines-all : (own : Own) (edition place : ℕ) (lines : List RecordLine) → length own.records ≤ place
    → lines ≡ map record_line (filter (is_on own edition) (take place (records_numbered own)))
    → lines ≡ map record_line (filter (is_on own edition) (records_numbered own))
lines-all own edition place lines past so_far =
    let whole : take place (records_numbered own) ≡ records_numbered own =
    take_all place (records_numbered own) (omega (arith, past, numbered-length 1 own.records)) in
    so_far ∙ ap (λ items. map record_line (filter (is_on own edition) items)) whole

-- the records of a clerk over an edition that is found
pub records-given : (published : Published) (own : Own) (name : List ℕ) (version place : ℕ) (bound : Bound)
    (attributes : List (List ℕ)) (lines : List RecordLine)
    → IsFound (some_or (edition_named published.editions name version) (NoSuch kind.Edition)) place
    → bound_at published place ≡ Some bound → attributes ≡ bound.names.attributes
    → lines ≡ map record_line (filter (is_on own place) (records_numbered own))
    → Gives (records_of published own name version) (Ok (record { attributes = attributes; lines = lines }))
records-given published own name version place bound attributes lines found here named listed =
    let sheet : RecordSheet = record { attributes = attributes; lines = lines } in
    Gives-bind (some_or (edition_named published.editions name version) (NoSuch kind.Edition))
    (λ edition. certainly (bound_at published edition) >>= (λ one. done (record {
      attributes = one.names.attributes;
      lines = map record_line (filter (is_on own edition) (records_numbered own));
    }))) place (Ok sheet) (Gives-found (some_or (edition_named published.editions name version) (NoSuch kind.Edition))
    place
    found)
    (rw here (λ i. Ok (record { attributes = named i; lines = listed i })))
