-- Sessions after others, each at its place.
use Rattle.std.proofs.Common.{◌≡◌, ◌∙◌, ◌+◌, ◌<◌, ◌≤◌, ℕ, List, [], ◌∷◌, ◌++◌, length, map, replicate, take, get_or, ap}
use Rattle.std.proofs.Common.{arith, subst, sym}
use Rattle.std.specs.Prelude.{All, zip}
use Rattle.std.specs.List.{range_with_len}
use Rattle.std.proofs.lemmas.List.{length-map, length-replicate, length-take, map-append, take_more}
use Rattle.std.proofs.lemmas.List.Elements.{All-map}
use Rattle.std.proofs.lemmas.List.FromFn.{length-range_with_len}
use Rattle.std.proofs.lemmas.Slice.Zip.{get_or-zip, length-zip, seconds-zip}
use Rattle.desk_words.specs.declared.rows.session.SessionRow.{SessionRow}
use Rattle.desk_valid.specs.Tallies.{typed_bytes}
use Rattle.machine_core.specs.declared.column.Column.{Column}
use Rattle.machine_core.specs.Clerk.Batch.{placed, row_session}
use Rattle.machine_core.proofs.Widths.{length-typed_over}

-- one session more stands at the place after the others
placed-push : (sessions : List SessionRow) (session : SessionRow) (count : ℕ)
    → placed count (sessions ++ session ∷ []) ≡ placed count sessions ++ (count + length sessions, session) ∷ []
placed-push [] session count = ap (λ place. (place, session) ∷ []) (omega arith)
placed-push (first ∷ sessions) session count =
    let place : count + 1 + length sessions ≡ count + length (first ∷ sessions) = omega arith in
    ap (λ others. (count, first) ∷ others) (placed-push sessions session (count + 1)
    ∙ ap (λ one. placed (count + 1) sessions ++ (one, session) ∷ []) place)

-- the session of one row more
pub placed-more : {A : Type 0} (session_of : A → SessionRow) (rows : List A) (row : ℕ) (none : A) (count : ℕ)
    → row < length rows
    → placed count (map session_of (take (row + 1) rows))
    ≡ placed count (map session_of (take row rows)) ++ (count + row, session_of (get_or rows row none)) ∷ []
placed-more session_of rows row none count within =
    let so_far = map session_of (take row rows) in
    let one = session_of (get_or rows row none) in
    let long : length so_far ≡ row = omega (arith, length-map (take row rows) session_of, length-take row rows) in
    ap (placed count) (ap (map session_of) (take_more rows row none within)
    ∙ map-append session_of (take row rows) (get_or rows row none ∷ []))
    ∙ placed-push so_far one count ∙ ap (λ place. placed count so_far ++ (place, one) ∷ []) (ap (λ n. count + n) long)

-- the sessions without their places
placed-sessions : (count : ℕ) (sessions : List SessionRow)
    → map (λ (put : ℕ × SessionRow). put.1) (placed count sessions) ≡ sessions
placed-sessions count sessions =
    seconds-zip (range_with_len count (length sessions)) sessions (sym (length-range_with_len count (length sessions)))

-- there are as many
length-placed : (count : ℕ) (sessions : List SessionRow) → length (placed count sessions) ≡ length sessions
length-placed count sessions = omega (
  arith,
  length-zip (range_with_len count (length sessions)) sessions,
  length-range_with_len count (length sessions),
)

-- what holds of each session holds of each that has its place
placed-all : (P : SessionRow → Type 0) (count : ℕ) (sessions : List SessionRow) → All P sessions
    → All (λ (put : ℕ × SessionRow). P put.1) (placed count sessions)
placed-all P count sessions all place past inside =
    let within : place < length sessions = omega (arith, inside, length-placed count sessions) in
    let places = range_with_len count (length sessions) in
    let within_too : place < length places = omega (arith, within, length-range_with_len count (length sessions)) in
    subst (λ (put : ℕ × SessionRow). P put.1) (sym (get_or-zip places sessions place past within_too within))
    (all place past.1 within)

module _ (edition width batch count : ℕ) (columns : List Column) (rows : List (List (List ℕ)))
    {puts : List (ℕ × SessionRow)} (are : puts ≡ placed count (map (row_session edition width batch columns) rows)) where
  -- there are no more sessions than rows
  pub few-sessions : length rows ≤ 20000 → length puts ≤ 20000
  few-sessions few =
      let session_of : List (List ℕ) → SessionRow = row_session edition width batch columns in
      omega (arith, few, ap length are, length-placed count (map session_of rows), length-map rows session_of)

  -- a session of a row has a text for each attribute
  pub narrow-sessions : width ≤ 48 → All (λ (put : ℕ × SessionRow). length put.1.typed ≤ 48) puts
  narrow-sessions narrow =
      let Narrow : SessionRow → Type 0 = λ session. length session.typed ≤ 48 in
      let session_of : List (List ℕ) → SessionRow = row_session edition width batch columns in
      rw are (placed-all Narrow count (map session_of rows)
      (All-map Narrow session_of rows (λ index past inside. omega (
        arith,
        narrow,
        length-typed_over (replicate width []) (map (λ cell. (cell.0.attribute, cell.1))
            (zip columns (get_or rows index past))),
        length-replicate {A = List ℕ} width [],
      ))))

  -- the bytes that are typed in them
  pub bytes-sessions : typed_bytes (map (λ (put : ℕ × SessionRow). put.1) puts)
      ≡ typed_bytes (map (row_session edition width batch columns) rows)
  bytes-sessions = ap (λ some. typed_bytes (map (λ (put : ℕ × SessionRow). put.1) some)) are
      ∙ ap typed_bytes (placed-sessions count (map (row_session edition width batch columns) rows))

-- cells under columns of attributes below a number are of such attributes
pub cells-within : (width : ℕ) (columns : List Column) (texts : List (List ℕ)) → length texts ≡ length columns
    → All (λ column. column.attribute < width) columns
    → All (λ (cell : ℕ × List ℕ). cell.0 < width) (map (λ (cell : Column × List ℕ). (cell.0.attribute, cell.1))
    (zip columns texts))
cells-within width columns texts whole within =
    let attributed : Column × List ℕ → ℕ × List ℕ = λ cell. (cell.0.attribute, cell.1) in
    All-map (λ (cell : ℕ × List ℕ). cell.0 < width) attributed (zip columns texts) (λ index past inside.
    let here : index < length columns = omega (arith, inside, length-zip columns texts) in
    let there : index < length texts = omega (arith, here, whole) in
    subst (λ (cell : Column × List ℕ). cell.0.attribute < width) (sym (get_or-zip columns texts index past here there))
    (within index past.0 here))
