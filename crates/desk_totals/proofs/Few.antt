-- In valid tables the numbers are small.
use Rattle.std.proofs.Common.{◌≡◌, ℕ, ◌-◌, ◌*◌, ◌<◌, ◌≤◌, ◌^◌, ◌∙◌, List, [], length, get_or, subst, ap, arith, All}
use Rattle.std.proofs.Common.{Option, Some}
use Rattle.std.specs.Prelude.{IfSome, option_and_then, option_map, slice_get, sum_by}
use Rattle.std.proofs.lemmas.List.Sums.{sum_by-le}
use Rattle.std.proofs.lemmas.Option.{slice_get-get_or}
use Rattle.desk_words.specs.declared.rows.batch.BatchRow.{BatchRow}
use Rattle.desk_words.specs.declared.rows.edition.EditionRow.{EditionRow}
use Rattle.desk_words.specs.declared.rows.record.RecordRow.{RecordRow}
use Rattle.desk_words.specs.declared.rows.session.SessionRow.{SessionRow}
use Rattle.desk_words.specs.Tables.{IsShort, Rows, list_at, published_of}
use Rattle.desk_valid.specs.declared.reading.Rules.{Rules}
use Rattle.desk_valid.specs.Readings.{rules_at, width_at}
use Rattle.desk_valid.specs.Rows.Edition.{IsEditionRow}
use Rattle.desk_valid.specs.Rows.Session.{IsSessionRow}
use Rattle.desk_valid.specs.Tallies.{bytes_in, master_cells, record_bytes, text_bytes, typed_bytes}
use Rattle.desk_valid.specs.Valid.{AreValid, IsOwnRecord}
use Rattle.desk_valid.proofs.Few.{callers-few}
use Rattle.desk_valid.proofs.Kits.{rules-read}
use Rattle.desk_valid.proofs.Named.{rules_at-sound}
use Rattle.desk_totals.specs.declared.totals.Totals.{Totals}
use Rattle.desk_totals.specs.Totals.{AreTexts, AreTotals}
use Rattle.desk_totals.proofs.Bytes.{bytes_in-le}
use Rattle.desk_totals.proofs.MasterCells.{master_cells-le}

-- what holds of each row at its place holds of all
All-from_each : {A : Type 0} (P : A → Type 0) (rows : List A)
    → ((place : ℕ) (row : A) → slice_get rows place ≡ Some row → P row) → All P rows
All-from_each P rows each = λ place default within.
    each place (get_or rows place default) (slice_get-get_or rows place default within)

module _ (rows : Rows) (valid : AreValid rows) where
  -- an edition has at most 48 attributes
  width_at-few : (edition : ℕ) → edition < length rows.editions
      → (width : ℕ) × (width_at (published_of rows) edition ≡ Some width) × (width ≤ 48)
  width_at-few edition within =
      let none : EditionRow = record { name = []; version = 0; rulebook = 0; masters = []; folded = [] } in
      let row : EditionRow = get_or rows.editions edition none in
      let stands : slice_get rows.editions edition ≡ Some row = slice_get-get_or rows.editions edition none within in
      let good : IsEditionRow (published_of rows) edition row = valid.editions edition row stands in
      let rules = rules-read rows valid row.rulebook good.rulebook in
      let rules_of : EditionRow → Option Rules = λ one. rules_at (published_of rows) one.rulebook in
      let width_of : Option Rules → Option ℕ = option_map (λ one. length one.schema.attributes) in (
        length rules.0.schema.attributes,
        ap (λ (found : Option EditionRow). width_of (option_and_then rules_of found)) stands ∙ ap width_of rules.1,
        (rules_at-sound (published_of rows) row.rulebook rules.0 rules.1).0.fits,
      )

  -- a session has at most 48 texts
  session-width : (batches : List BatchRow) (session : SessionRow) → IsSessionRow (published_of rows) batches session
      → length session.typed ≤ 48
  session-width batches session good =
      let (width, is, few) = width_at-few session.edition good.edition in
      let Full : Option ℕ → Type 0 = λ found. IfSome found (λ one. length session.typed ≡ one) in
      omega (arith, subst Full is good.typed, few)

  -- a clerk's sessions do
  own-width : (clerk place : ℕ) (session : SessionRow) → slice_get (list_at rows.sessions clerk) place ≡ Some session
      → length session.typed ≤ 48
  own-width clerk place session stands =
      session-width (list_at rows.batches clerk) session (valid.sessions clerk place session stands)

  -- and so do a clerk's records
  record-width : (clerk place : ℕ) (row : RecordRow) → slice_get (list_at rows.records clerk) place ≡ Some row
      → length row.texts ≤ 48
  record-width clerk place row stands =
      let good : IsOwnRecord rows clerk place row = valid.records clerk place row stands in
      omega (arith, good.whole, own-width clerk (row.session - 1) good.session good.stands)

  module _ (totals : List Totals) (are : AreTotals rows totals) (clerk : ℕ) (there : clerk < length rows.clerks) where
    -- the texts of each session have at most 9,600 bytes
    typed_bytes-few : typed_bytes (list_at rows.sessions clerk) ≤ length (list_at rows.sessions clerk) * 9600
    typed_bytes-few =
        sum_by-le (λ session. bytes_in session.typed) 9600 (list_at rows.sessions clerk)
        (λ place default within.
        let session : SessionRow = get_or (list_at rows.sessions clerk) place default in
        let texts : AreTexts session.typed = are.typed clerk place default within in
        omega (
          arith,
          bytes_in-le session.typed texts,
          own-width clerk place session (slice_get-get_or (list_at rows.sessions clerk) place default within),
        ))

    -- and so have those of each record
    record_bytes-few : record_bytes (list_at rows.records clerk) ≤ length (list_at rows.records clerk) * 9600
    record_bytes-few =
        sum_by-le (λ row. bytes_in row.texts) 9600 (list_at rows.records clerk)
        (λ place default within.
        let row : RecordRow = get_or (list_at rows.records clerk) place default in
        let texts : AreTexts row.texts = are.kept clerk place default within in
        omega (
          arith,
          bytes_in-le row.texts texts,
          record-width clerk place row (slice_get-get_or (list_at rows.records clerk) place default within),
        ))

    -- so a clerk's texts have fewer than 2 ^ 64
    pub text_bytes-few : text_bytes (list_at rows.sessions clerk) (list_at rows.records clerk) < 2 ^ 64
    text_bytes-few =
        let sessions : IsShort (list_at rows.sessions clerk) =
        valid.tables.sessions.short clerk [] (omega (arith, valid.tables.sessions.each, there)) in
        let records : IsShort (list_at rows.records clerk) =
        valid.tables.records.short clerk [] (omega (arith, valid.tables.records.each, there)) in
        omega (arith, typed_bytes-few, record_bytes-few, sessions, records)

  -- the last numbers of the callers add up to little
  pub turn-few : sum_by (λ clerk. clerk.last) rows.clerks < 2 ^ 64
  turn-few =
      omega (
        arith,
        sum_by-le (λ clerk. clerk.last) 999999999999 rows.clerks
            (All-from_each (λ clerk. clerk.last ≤ 999999999999) rows.clerks
            (λ place row stands. (valid.clerks place row stands).number)),
        callers-few rows valid,
      )

  -- and all masters have few cells
  pub master_cells-few : master_cells rows.masters < 2 ^ 63
  master_cells-few = omega (arith, master_cells-le rows.masters, valid.tables.masters)
