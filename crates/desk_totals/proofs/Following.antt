-- What is counted of each clerk follows a change.
use Rattle.std.proofs.Common.{◌≡◌, ℕ, zero, suc, ◌+◌, ◌<◌, ◌∙◌, ◌==◌, true, false, List, [], ◌∷◌, ◌++◌, length}
use Rattle.std.proofs.Common.{get_or, set, sym, refl, ap, arith, All, inl, inr}
use Rattle.std.specs.Prelude.{if◌then◌else◌}
use Rattle.std.proofs.lemmas.Bool.{cases_eq}
use Rattle.std.proofs.lemmas.Bool.Decides.{nat_tests}
use Rattle.std.proofs.lemmas.List.{get_or-set_other, get_or-set_same, length-append, length-set}
use Rattle.std.proofs.lemmas.List.Elements.{All-push, All-set}
use Rattle.std.proofs.lemmas.List.Sums.{sum_by_push}
use Rattle.desk_words.proofs.Changes.{length-put}
use Rattle.desk_words.specs.declared.change.Change.TheVariants.{Clerk, Session, Record}
use Rattle.desk_words.specs.declared.rows.clerk.ClerkRow.{ClerkRow}
use Rattle.desk_words.specs.declared.rows.record.RecordRow.{RecordRow}
use Rattle.desk_words.specs.declared.rows.session.SessionRow.{SessionRow}
use Rattle.desk_words.specs.Changes.{Fits, changed, put, with_clerk, with_list}
use Rattle.desk_words.specs.Tables.{AreTables, Rows, list_at}
use Rattle.desk_valid.specs.Tallies.{active_count, bytes_in, record_bytes, text_bytes, typed_bytes}
use Rattle.desk_totals.specs.declared.totals.Totals.{Totals}
use Rattle.desk_totals.specs.Totals.{AreTexts, AreTotals, no_totals, totals_of}

-- after the others stands what is read where nothing is
get_or-push_default : {A : Type 0} (items : List A) (place : ℕ) (default : A)
    → get_or (items ++ default ∷ []) place default ≡ get_or items place default
get_or-push_default [] zero default = refl
get_or-push_default [] (suc place) default = refl
get_or-push_default (item ∷ items) zero default = refl
get_or-push_default (item ∷ items) (suc place) default = get_or-push_default items place default

-- a new clerk has the empty list that one who is not there has
list_at-with_clerk : {A : Type 0} (lists : List (List A)) (place clerks one : ℕ)
    → list_at (with_clerk lists place clerks) one ≡ list_at lists one
list_at-with_clerk lists place clerks one =
    elim (place == clerks) as (λ comes. list_at (if comes then lists ++ [] ∷ [] else lists) one ≡ list_at lists one) [
      | true ↦ get_or-push_default lists one []
      | false ↦ refl
    ]

-- what holds of the list of each clerk holds with one list replaced
each-with_list : {A : Type 0} (P : List A → Type 0) (lists : List (List A)) (clerk : ℕ) (list : List A) → P list
    → ((one : ℕ) → P (list_at lists one)) → (one : ℕ) → P (list_at (with_list lists clerk list) one)
each-with_list P [] clerk list holds each one = each one
each-with_list P (first ∷ lists) zero list holds each zero = holds
each-with_list P (first ∷ lists) zero list holds each (suc one) = each (suc one)
each-with_list P (first ∷ lists) (suc clerk) list holds each zero = each zero
each-with_list P (first ∷ lists) (suc clerk) list holds each (suc one) =
    each-with_list P lists clerk list holds (λ other. each (suc other)) one

-- what holds of all items holds with one more, or one replaced
All-put : {A : Type 0} (P : A → Type 0) (items : List A) (place : ℕ) (item : A) → All P items → P item
    → All P (put items place item)
All-put P items place item all holds =
    elim (place == length items) as (λ following. All P (if following then items ++ item ∷ [] else set items place
    item)) [
      | true ↦ All-push P items item all holds
      | false ↦ All-set P items place item holds all
    ]

-- the numbers of one clerk are replaced with one of the clerk's lists
right-set : {A B : Type 0} (count : List A → List B → Totals) (totals : List Totals) (lists : List (List A))
    (others : List (List B)) (clerk : ℕ) (list : List A) → clerk < length totals → clerk < length lists
    → ((one : ℕ) → get_or totals one no_totals ≡ count (list_at lists one) (list_at others one))
    → (one : ℕ) → get_or (set totals clerk (count list (list_at others clerk))) one no_totals
    ≡ count (list_at (with_list lists clerk list) one) (list_at others one)
right-set count totals lists others clerk list within inside right one =
    let after : Totals = count list (list_at others clerk) in
    elim (cases_eq one clerk) [
      | inl same ↦
          let wrote : get_or (set totals clerk after) clerk no_totals ≡ after =
          get_or-set_same totals clerk after no_totals within in
          let stands : list_at (with_list lists clerk list) clerk ≡ list = get_or-set_same lists clerk list [] inside in
          rw (same, wrote, stands) refl
      | inr apart ↦
          get_or-set_other totals clerk one after no_totals apart ∙ right one
          ∙ ap (λ found. count found (list_at others one)) (sym (get_or-set_other lists clerk one list [] apart))
    ]

-- numbers are the same where each of the two is
same_totals : (one other : Totals) → one.active ≡ other.active → one.bytes ≡ other.bytes → one ≡ other
same_totals one other active bytes =
    ap (λ (count : ℕ). let made : Totals = record { active = count; bytes = one.bytes } in made) active
    ∙ ap (λ (count : ℕ). let made : Totals = record { active = other.active; bytes = count } in made) bytes

-- the numbers once a session is put
pub totals_of-session : (before : Totals) (sessions : List SessionRow) (records : List RecordRow) (place : ℕ)
    (row : SessionRow) (active bytes : ℕ) → before ≡ totals_of sessions records
    → active ≡ active_count (put sessions place row)
    → bytes + typed_bytes sessions ≡ before.bytes + typed_bytes (put sessions place row)
    → record { active = active; bytes = bytes } ≡ totals_of (put sessions place row) records
totals_of-session before sessions records place row active bytes is counted added =
    let was : before.bytes ≡ text_bytes sessions records = ap (λ (one : Totals). one.bytes) is in
    same_totals (record { active = active; bytes = bytes }) (totals_of (put sessions place row) records) counted
    (omega (arith, was, added))

-- the numbers once a record is put
pub totals_of-record : (before : Totals) (sessions : List SessionRow) (records : List RecordRow) (row : RecordRow)
    (bytes : ℕ) → before ≡ totals_of sessions records → bytes ≡ bytes_in row.texts
    → record before { bytes = before.bytes + bytes } ≡ totals_of sessions (records ++ row ∷ [])
totals_of-record before sessions records row bytes is counted =
    let was : before.bytes ≡ text_bytes sessions records = ap (λ (one : Totals). one.bytes) is in
    let more : record_bytes (records ++ row ∷ []) ≡ record_bytes records + bytes_in row.texts =
    sum_by_push (λ (one : RecordRow). bytes_in one.texts) records row in
    same_totals (record before { bytes = before.bytes + bytes }) (totals_of sessions (records ++ row ∷ []))
    (ap (λ (one : Totals). one.active) is) (omega (arith, was, more, counted))

module _ (rows : Rows) (totals : List Totals) (whole : AreTables rows) (are : AreTotals rows totals) where
  -- a new caller comes, of whom nothing is counted
  pub AreTotals-new : (place : ℕ) (row : ClerkRow) → place ≡ length rows.clerks
      → AreTotals (changed rows (Clerk place row)) (totals ++ no_totals ∷ [])
  AreTotals-new place row same =
      let sessions = list_at-with_clerk rows.sessions place (length rows.clerks) in
      let records = list_at-with_clerk rows.records place (length rows.clerks) in
      record {
        each = grind (arith, nat_tests, length-put rows.clerks place row, are.each, length-append {A = Totals});
        right = λ one. rw (sessions one, records one, get_or-push_default totals one no_totals) (are.right one);
        typed = λ one. rw (sessions one) (are.typed one);
        kept = λ one. rw (records one) (are.kept one);
      }

  -- a session is put into a clerk's list
  pub AreTotals-session : (clerk place : ℕ) (row : SessionRow) → Fits rows (Session clerk place row)
      → AreTexts row.typed
      → AreTotals (changed rows (Session clerk place row))
      (set totals clerk (totals_of (put (list_at rows.sessions clerk) place row) (list_at rows.records clerk)))
  AreTotals-session clerk place row fits texts =
      let list : List SessionRow = put (list_at rows.sessions clerk) place row in
      let Texts : List SessionRow → Type 0 = All (λ session. AreTexts session.typed) in
      record {
        each = length-set totals clerk _ ∙ are.each;
        right = right-set totals_of totals rows.sessions rows.records clerk list (omega (arith, fits.0, are.each))
            (omega (arith, fits.0, whole.sessions.each)) are.right;
        typed = each-with_list Texts rows.sessions clerk list
            (All-put (λ session. AreTexts session.typed) (list_at rows.sessions clerk) place row (are.typed clerk)
            texts) are.typed;
        kept = are.kept;
      }

  -- a record is put after the others of a clerk
  pub AreTotals-record : (clerk : ℕ) (row : RecordRow) → Fits rows (Record clerk row) → AreTexts row.texts
      → AreTotals (changed rows (Record clerk row))
      (set totals clerk (totals_of (list_at rows.sessions clerk) (list_at rows.records clerk ++ row ∷ [])))
  AreTotals-record clerk row fits texts =
      let list : List RecordRow = list_at rows.records clerk ++ row ∷ [] in
      let Texts : List RecordRow → Type 0 = All (λ one. AreTexts one.texts) in
      record {
        each = length-set totals clerk _ ∙ are.each;
        right = right-set (λ records sessions. totals_of sessions records) totals rows.records rows.sessions clerk list
            (omega (arith, fits.0, are.each)) (omega (arith, fits.0, whole.records.each)) are.right;
        typed = are.typed;
        kept = each-with_list Texts rows.records clerk list
            (All-push (λ one. AreTexts one.texts) (list_at rows.records clerk) row (are.kept clerk) texts) are.kept;
      }
