-- How many bytes texts can have that are no longer than a cell's.
use Rattle.std.proofs.Common.{◌≡◌, ℕ, ◌+◌, ◌*◌, ◌<◌, ◌≤◌, ◌^◌, ◌∙◌, List, [], length, length-take, get_or, take, ap}
use Rattle.std.proofs.Common.{subst, sum_by, arith, All}
use Rattle.std.proofs.lemmas.List.Elements.{All-more, All-weaker}
use Rattle.std.proofs.lemmas.List.Sums.{sum_by-le, sum_by_more}
use Rattle.desk_words.specs.declared.rows.record.RecordRow.{RecordRow}
use Rattle.desk_words.specs.declared.rows.session.SessionRow.{SessionRow}
use Rattle.desk_words.specs.Tables.{AreTables, IsShort, Rows, list_at}
use Rattle.desk_valid.specs.Tallies.{bytes_in, record_bytes, text_bytes, typed_bytes}
use Rattle.desk_totals.specs.declared.totals.Totals.{Totals}
use Rattle.desk_totals.specs.Totals.{AreTexts, AreTotals, no_totals, totals_at}

-- texts have at most 200 bytes each
pub bytes_in-le : (texts : List (List ℕ)) → AreTexts texts → bytes_in texts ≤ length texts * 200
bytes_in-le texts are = sum_by-le length 200 texts are.short

-- so all together have fewer than 2 ^ 72
pub bytes_in-few : (texts : List (List ℕ)) → AreTexts texts → bytes_in texts ≤ 2 ^ 72
bytes_in-few texts are = omega (arith, bytes_in-le texts are, are.few)

-- so many bytes have the texts of the first rows, which are such texts
pub record HaveBytes {A : Type 0} (texts_of : A → List (List ℕ)) (rows : List A) (bytes : ℕ) : Type 0 where
  pub counted : bytes ≡ sum_by (λ row. bytes_in (texts_of row)) rows
  pub few : bytes ≤ length rows * 2 ^ 72
  pub texts : All (λ row. AreTexts (texts_of row)) rows

-- one row more
pub HaveBytes-more : {A : Type 0} (texts_of : A → List (List ℕ)) (rows : List A) (place : ℕ) (row : A) (bytes : ℕ)
    (texts : List (List ℕ)) → place < length rows → row ≡ get_or rows place row → texts ≡ texts_of row → AreTexts texts
    → HaveBytes texts_of (take place rows) bytes
    → HaveBytes texts_of (take (place + 1) rows) (bytes + bytes_in texts)
HaveBytes-more {A} texts_of rows place row bytes texts within is of are have =
    let found : texts ≡ texts_of (get_or rows place row) = of ∙ ap texts_of is in
    record {
      counted = omega (
        arith,
        have.counted,
        sum_by_more (λ one. bytes_in (texts_of one)) rows place row within,
        ap bytes_in found,
      );
      few = omega (
        arith,
        have.few,
        bytes_in-few texts are,
        length-take place rows,
        length-take (place + 1) rows,
      );
      texts = All-more (λ one. AreTexts (texts_of one)) rows place row within have.texts (subst AreTexts found are);
    }

-- what is typed in sessions
pub typed_bytes-le : (sessions : List SessionRow) → All (λ session. AreTexts session.typed) sessions
    → typed_bytes sessions ≤ length sessions * 2 ^ 72
typed_bytes-le sessions are =
    let Few : SessionRow → Type 0 = λ session. bytes_in session.typed ≤ 2 ^ 72 in
    sum_by-le (λ session. bytes_in session.typed) (2 ^ 72) sessions
    (All-weaker (λ session. AreTexts session.typed) Few (λ session texts. bytes_in-few session.typed texts) sessions
    are)

-- what stands in records
pub record_bytes-le : (records : List RecordRow) → All (λ row. AreTexts row.texts) records
    → record_bytes records ≤ length records * 2 ^ 72
record_bytes-le records are =
    let Few : RecordRow → Type 0 = λ row. bytes_in row.texts ≤ 2 ^ 72 in
    sum_by-le (λ row. bytes_in row.texts) (2 ^ 72) records
    (All-weaker (λ row. AreTexts row.texts) Few (λ row texts. bytes_in-few row.texts texts) records are)

-- in tables a clerk's texts have fewer than 2 ^ 105
pub text_bytes-most : (rows : Rows) (totals : List Totals) → AreTables rows → AreTotals rows totals → (clerk : ℕ)
    → clerk < length rows.clerks → text_bytes (list_at rows.sessions clerk) (list_at rows.records clerk) < 2 ^ 105
text_bytes-most rows totals whole are clerk there =
    let sessions : IsShort (list_at rows.sessions clerk) =
    whole.sessions.short clerk [] (omega (arith, whole.sessions.each, there)) in
    let records : IsShort (list_at rows.records clerk) =
    whole.records.short clerk [] (omega (arith, whole.records.each, there)) in
    omega (
      arith,
      typed_bytes-le (list_at rows.sessions clerk) (are.typed clerk),
      record_bytes-le (list_at rows.records clerk) (are.kept clerk),
      sessions,
      records,
    )

-- what is read of the numbers of a clerk is what is counted
pub totals-read : (rows : Rows) (totals read : List Totals) (clerk : ℕ) → read ≡ totals → AreTotals rows totals
    → get_or read clerk no_totals ≡ totals_at rows clerk
totals-read rows totals read clerk same are =
    ap (λ (items : List Totals). get_or items clerk no_totals) same ∙ are.right clerk

-- and in tables its bytes are fewer than 2 ^ 105
pub totals-most : (rows : Rows) (totals read : List Totals) (clerk : ℕ) → read ≡ totals → AreTotals rows totals
    → AreTables rows → clerk < length rows.clerks → (get_or read clerk no_totals).bytes < 2 ^ 105
totals-most rows totals read clerk same are whole there =
    omega (
      arith,
      ap (λ (one : Totals). one.bytes) (totals-read rows totals read clerk same are),
      text_bytes-most rows totals whole are clerk there,
    )
