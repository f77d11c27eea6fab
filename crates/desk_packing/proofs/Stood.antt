-- Which tables lines stand for: those that are read from them in the order of their keys, and no others.
use Rattle.std.proofs.Common.{◌≡◌, inl, inr, ℕ, ◌+◌, ◌<◌, ◌≤◌, Bool, true, false, ◌&&◌, ◌||◌, ◌==◌, List, [], ◌∷◌, ◌↔◌}
use Rattle.std.proofs.Common.{◌++◌, drop, length, Some, None, Option, refl, sym, ap, ap₂, ◌∙◌, ◌^◌, append-nil, arith}
use Rattle.std.specs.Prelude.{IsPermutation, nat_le, nat_lt, if◌then◌else◌}
use Rattle.std.specs.List.{AllByRecursion}
use Rattle.std.proofs.lemmas.Bool.{and_left, and_parts, cases_Bool, eqb-true, le-leb, leb-true, ne_eqb}
use Rattle.std.proofs.lemmas.Bool.Decides.{nat_tests}
use Rattle.std.proofs.lemmas.List.{nil_from_length}
use Rattle.std.proofs.lemmas.List.Sorted.{IsPermutation-sym, IsPermutation-trans, length_permutation}
use Rattle.desk_words.specs.declared.rows.batch.BatchRow.{BatchRow}
use Rattle.desk_words.specs.declared.rows.clerk.ClerkRow.{ClerkRow}
use Rattle.desk_words.specs.declared.rows.edition.EditionRow.{EditionRow}
use Rattle.desk_words.specs.declared.rows.record.RecordRow.{RecordRow}
use Rattle.desk_words.specs.declared.rows.region.RegionRow.{RegionRow}
use Rattle.desk_words.specs.declared.rows.rulebook.RulebookRow.{RulebookRow}
use Rattle.desk_words.specs.declared.rows.session.SessionRow.{SessionRow}
use Rattle.desk_words.specs.declared.rows.text.TextRow.{TextRow}
use Rattle.desk_words.specs.Tables.{AreListsOf, AreTables, IsShort, Rows, empty_rows}
use Rattle.desk_packing.specs.declared.kinds.TheConstants.{VERSION, CLERKS, SCHEMAS, MASTERS, RULEBOOKS, EDITIONS}
use Rattle.desk_packing.specs.declared.kinds.TheConstants.{REGIONS, SESSIONS, RECORDS, BATCHES}
use Rattle.desk_packing.specs.Formats.{Format, IsExact}
use Rattle.desk_packing.specs.Lines.{AreByKey, Line, comes_before}
use Rattle.desk_packing.specs.Reading.{by_key, is_of, list_in, lists_in, rows_in, rows_in_order, tables_in}
use Rattle.desk_packing.specs.Reading.{version_in, version_of}
use Rattle.desk_packing.specs.RowFormats.{batch, clerk, committed, region, rulebook, session, text_row}
use Rattle.desk_packing.specs.Stands.{FitFields, StandAs, StandFor, StandIn, edition_in, lines_in, list_lines}
use Rattle.desk_packing.specs.Stands.{own_lines}
use Rattle.desk_packing.specs.Stands.{version_line}
use Rattle.desk_packing.proofs.Fields.{batch-exact, clerk-exact, committed-exact, edition-exact, text_row-exact}
use Rattle.desk_packing.proofs.Fields.{old_edition-exact, region-exact, rulebook-exact, session-exact}
use Rattle.desk_packing.proofs.Joined.{AreParts, IsPart, StandFrom, StandFrom-drop, StandFrom-joined, joined}
use Rattle.desk_packing.proofs.Options.{and_then-some, if-found, if-some}
use Rattle.desk_packing.proofs.Order.{AreApart-from_order, AreByKey-append, by_key-IsPermutation, by_key-permutation}
use Rattle.desk_packing.proofs.Order.{by_key-same}
use Rattle.desk_packing.proofs.Permutations.{each-weaker, equal}
use Rattle.desk_packing.proofs.Standing.{AreOthers, list_in-back, list_in-only, list_lines-kind, list_lines-owner}
use Rattle.desk_packing.proofs.Standing.{line-is, lists_in-back, lists_in-only, own_lines-kind, own_lines-owner}

pub edition_in-exact : (is_old : Bool) → IsExact (edition_in is_old)
edition_in-exact false = edition-exact
edition_in-exact true = old_edition-exact

-- of one list, a line at an earlier place comes first
place-before : (kind owner low place : ℕ) → low < place
    → (nat_lt kind kind || ((kind == kind) && (nat_lt owner owner || ((owner == owner) && nat_lt low place)))) ≡ true
place-before kind owner low place less = grind (arith, nat_tests)

-- of one kind, a line of an earlier owner comes first
owner-before : (one other : Line) (kind owner : ℕ) → (one.kind ≡ kind) × (one.owner ≡ owner)
    → (other.kind ≡ kind) × (owner < other.owner) → comes_before one other ≡ true
owner-before one other kind owner is later = below one.kind one.owner one.place other.kind other.owner other.place
    (is.0 ∙ sym later.0) (omega (arith, is.1, later.1))
  where
    below : (a b c x y z : ℕ) → a ≡ x → b < y
        → (nat_lt a x || ((a == x) && (nat_lt b y || ((b == y) && nat_lt c z)))) ≡ true
    below a b c x y z same less = grind (arith, nat_tests)

module _ {A : Type 0} (format : Format A) where
  list_lines-following : (kind owner low place : ℕ) (body : List ℕ) (rows : List A) → low < place
      → AllByRecursion (λ other. comes_before (record { kind = kind; owner = owner; place = low; body = body })
      other ≡ true)
      (list_lines format kind owner place rows)
  list_lines-following kind owner low place body [] less = tt
  list_lines-following kind owner low place body (x ∷ rows) less = (
    place-before kind owner low place less,
    list_lines-following kind owner low (place + 1) body rows (omega arith),
  )

  list_lines-order : (kind owner place : ℕ) (rows : List A) → AreByKey (list_lines format kind owner place rows)
  list_lines-order kind owner place [] = tt
  list_lines-order kind owner place (x ∷ rows) = (
    list_lines-following kind owner place (place + 1) (format.print x) rows (omega arith),
    list_lines-order kind owner (place + 1) rows,
  )

  own_lines-order : (kind owner : ℕ) (lists : List (List A)) → AreByKey (own_lines format kind owner lists)
  own_lines-order kind owner [] = tt
  own_lines-order kind owner (rows ∷ lists) =
      AreByKey-append (λ line. (line.kind ≡ kind) × (line.owner ≡ owner))
      (λ line. (line.kind ≡ kind) × (owner < line.owner))
      (λ one other. owner-before one other kind owner)
      (list_lines format kind owner 0 rows) (own_lines format kind (owner + 1) lists)
      (list_lines-owner format kind owner 0 rows) (own_lines-owner format kind owner (owner + 1) lists (omega arith))
      (list_lines-order kind owner 0 rows) (own_lines-order kind (owner + 1) lists)

  -- a list that is nobody's own is the part of its kind
  list_lines-IsPart : (kind : ℕ) (rows : List A) → IsPart kind (list_lines format kind 0 0 rows)
  list_lines-IsPart kind rows = record {
    kinds = list_lines-kind format kind 0 0 rows;
    order = list_lines-order kind 0 0 rows;
  }

  -- so are the clerks' own lists
  own_lines-IsPart : (kind : ℕ) (lists : List (List A)) → IsPart kind (own_lines format kind 0 lists)
  own_lines-IsPart kind lists = record {
    kinds = own_lines-kind format kind 0 lists;
    order = own_lines-order kind 0 lists;
  }

-- lines of later kinds are of no list of an earlier one
other_kinds : (kind owner : ℕ) (lines : List Line) → StandFrom (kind + 1) lines → AreOthers kind owner lines
other_kinds kind owner lines from = each-weaker (λ line. kind + 1 ≤ line.kind) (λ line. is_of kind owner line ≡ false)
    (λ line later. and_left (line.kind == kind) (line.owner == owner)
    (ne_eqb line.kind kind (λ e. absurd (omega arith))))
    lines from.kinds

-- the lines of tables, in parts by their kind
abbrev pub parts_of : Bool → Rows → List (List Line)
parts_of is_old rows = (version_line is_old ∷ [])
    ∷ list_lines clerk CLERKS 0 0 rows.clerks
    ∷ list_lines text_row SCHEMAS 0 0 rows.schemas
    ∷ list_lines text_row MASTERS 0 0 rows.masters
    ∷ list_lines rulebook RULEBOOKS 0 0 rows.rulebooks
    ∷ list_lines (edition_in is_old) EDITIONS 0 0 rows.editions
    ∷ list_lines region REGIONS 0 0 rows.regions
    ∷ own_lines session SESSIONS 0 rows.sessions
    ∷ own_lines committed RECORDS 0 rows.records
    ∷ own_lines batch BATCHES 0 rows.batches
    ∷ []

-- the lines of tables from a kind on
abbrev pub lines_from : Bool → Rows → ℕ → List Line
lines_from is_old rows kind = joined (drop kind (parts_of is_old rows))

module _ (is_old : Bool) (rows : Rows) where
  -- each part of the lines of tables is of its kind
  pub AreParts-parts_of : AreParts 0 (parts_of is_old rows)
  AreParts-parts_of = (
    record { kinds = (refl, tt); order = (tt, tt) },
    (
      list_lines-IsPart clerk 1 rows.clerks,
      (
        list_lines-IsPart text_row 2 rows.schemas,
        (
          list_lines-IsPart text_row 3 rows.masters,
          (
            list_lines-IsPart rulebook 4 rows.rulebooks,
            (
              list_lines-IsPart (edition_in is_old) 5 rows.editions,
              (
                list_lines-IsPart region 6 rows.regions,
                (
                  own_lines-IsPart session 7 rows.sessions,
                  (
                    own_lines-IsPart committed 8 rows.records,
                    (own_lines-IsPart batch 9 rows.batches, tt),
                  ),
                ),
              ),
            ),
          ),
        ),
      ),
    ),
  )

  -- so are the lines from a kind on of that kind or a later one
  pub StandFrom-lines_from : (kind : ℕ) → StandFrom kind (lines_from is_old rows kind)
  StandFrom-lines_from kind = StandFrom-drop kind 0 kind (parts_of is_old rows) (omega arith) AreParts-parts_of

  -- the lines of tables stand in the order of their keys
  pub lines_in-order : AreByKey (lines_in is_old rows)
  lines_in-order = (StandFrom-joined 0 (parts_of is_old rows) AreParts-parts_of).order

  -- a list that is nobody's own is read back in front of the lines of later kinds
  list_in-part : {A : Type 0} (format : Format A) (exact : IsExact format) (kind : ℕ) (list : List A)
      → AllByRecursion format.Fits list → IsShort list
      → list_in format kind 0 0 (list_lines format kind 0 0 list ++ lines_from is_old rows (kind + 1))
      ≡ Some (list, lines_from is_old rows (kind + 1))
  list_in-part format exact kind list fit short =
      list_in-back format exact kind 0 0 list (lines_from is_old rows (kind + 1)) fit (omega arith)
      (other_kinds kind 0 (lines_from is_old rows (kind + 1)) (StandFrom-lines_from (kind + 1)))

  -- so are the clerks' own lists
  lists_in-part : {A : Type 0} (format : Format A) (exact : IsExact format) (kind : ℕ) (lists : List (List A))
      → AllByRecursion (AllByRecursion format.Fits) lists → AreListsOf (length rows.clerks) lists
      → lists_in format kind 0 (length rows.clerks) (own_lines format kind 0 lists ++ lines_from is_old rows (kind + 1))
      ≡ Some (lists, lines_from is_old rows (kind + 1))
  lists_in-part format exact kind lists fit are =
      rw (← are.each) (lists_in-back format exact kind 0 lists (lines_from is_old rows (kind + 1)) fit are.short
      (λ owner. other_kinds kind owner (lines_from is_old rows (kind + 1)) (StandFrom-lines_from (kind + 1))))

  -- after the line of the version the tables are read back
  pub tables_in-back : AreTables rows → FitFields is_old rows → tables_in is_old (lines_from is_old rows 1) ≡ Some rows
  tables_in-back are fit =
      rw (
        list_in-part clerk clerk-exact 1 rows.clerks fit.clerks are.clerks,
        list_in-part text_row text_row-exact 2 rows.schemas fit.schemas are.schemas,
        list_in-part text_row text_row-exact 3 rows.masters fit.masters are.masters,
        list_in-part rulebook rulebook-exact 4 rows.rulebooks fit.rulebooks are.rulebooks,
        list_in-part (edition_in is_old) (edition_in-exact is_old) 5 rows.editions fit.editions are.editions,
        list_in-part region region-exact 6 rows.regions fit.regions are.regions,
        lists_in-part session session-exact 7 rows.sessions fit.sessions are.sessions,
        lists_in-part committed committed-exact 8 rows.records fit.records are.records,
        rw append-nil at (lists_in-part batch batch-exact 9 rows.batches fit.batches are.batches),
        le-leb 1 (length rows.clerks) are.steward,
      ) refl

-- a list that has few rows from its start on is short
IsShort-from : {A : Type 0} (rows : List A) → 0 + length rows < 2 ^ 31 → IsShort rows
IsShort-from rows few = omega arith

-- tables whose lists are read one after another, each with the lines after it
module _ (is_old : Bool) (lines : List Line) {clerks : List ClerkRow} {schemas : List TextRow}
    {masters : List TextRow} {rulebooks : List RulebookRow} {editions : List EditionRow} {regions : List RegionRow}
    {sessions : List (List SessionRow)} {records : List (List RecordRow)} {batches : List (List BatchRow)}
    {after_clerks after_schemas after_masters after_rulebooks after_editions after_regions after_sessions : List Line}
    {after_records rest : List Line}
    (clerks_are : list_in clerk CLERKS 0 0 lines ≡ Some (clerks, after_clerks))
    (schemas_are : list_in text_row SCHEMAS 0 0 after_clerks ≡ Some (schemas, after_schemas))
    (masters_are : list_in text_row MASTERS 0 0 after_schemas ≡ Some (masters, after_masters))
    (rulebooks_are : list_in rulebook RULEBOOKS 0 0 after_masters ≡ Some (rulebooks, after_rulebooks))
    (editions_are : list_in (edition_in is_old) EDITIONS 0 0 after_rulebooks ≡ Some (editions, after_editions))
    (regions_are : list_in region REGIONS 0 0 after_editions ≡ Some (regions, after_regions))
    (sessions_are : lists_in session SESSIONS 0 (length clerks) after_regions ≡ Some (sessions, after_sessions))
    (records_are : lists_in committed RECORDS 0 (length clerks) after_sessions ≡ Some (records, after_records))
    (batches_are : lists_in batch BATCHES 0 (length clerks) after_records ≡ Some (batches, rest)) where
  abbrev read_rows : Rows
  read_rows = record {
    clerks = clerks;
    schemas = schemas;
    masters = masters;
    rulebooks = rulebooks;
    editions = editions;
    regions = regions;
    sessions = sessions;
    records = records;
    batches = batches;
  }

  -- they are found where there is a clerk and no line is left
  pub tables_in-read : tables_in is_old lines
      ≡ (if nat_le 1 (length clerks) && nat_le (length rest) 0 then Some read_rows else None)
  tables_in-read =
      rw (
        clerks_are,
        schemas_are,
        masters_are,
        rulebooks_are,
        editions_are,
        regions_are,
        sessions_are,
        records_are,
        batches_are,
      ) refl

  -- and then the lines are theirs
  read-only : (nat_le 1 (length clerks) ≡ true) × (nat_le (length rest) 0 ≡ true)
      → AreTables read_rows × FitFields is_old read_rows × (lines ≡ lines_from is_old read_rows 1)
  read-only all =
      let steward : 0 < length clerks = omega (arith, leb-true 1 (length clerks) all.0) in
      let less : length rest ≤ 0 = leb-true (length rest) 0 all.1 in
      let none : rest ≡ [] = nil_from_length rest (omega arith) in
      let of_clerks = list_in-only clerk clerk-exact 1 0 0 lines after_clerks clerks (omega arith) clerks_are in
      let of_schemas = list_in-only text_row text_row-exact 2 0 0 after_clerks after_schemas schemas (omega arith)
      schemas_are in
      let of_masters = list_in-only text_row text_row-exact 3 0 0 after_schemas after_masters masters (omega arith)
      masters_are in
      let of_rulebooks = list_in-only rulebook rulebook-exact 4 0 0 after_masters after_rulebooks rulebooks
      (omega arith)
      rulebooks_are in
      let of_editions = list_in-only (edition_in is_old) (edition_in-exact is_old) 5 0 0 after_rulebooks after_editions
      editions (omega arith) editions_are in
      let of_regions = list_in-only region region-exact 6 0 0 after_editions after_regions regions (omega arith)
      regions_are in
      let of_sessions = lists_in-only session session-exact 7 0 (length clerks) after_regions after_sessions sessions
      sessions_are in
      let of_records = lists_in-only committed committed-exact 8 0 (length clerks) after_sessions after_records records
      records_are in
      let of_batches = lists_in-only batch batch-exact 9 0 (length clerks) after_records rest batches batches_are in (
        assumption (
          steward,
          IsShort-from clerks of_clerks.few,
          IsShort-from schemas of_schemas.few,
          IsShort-from masters of_masters.few,
          IsShort-from rulebooks of_rulebooks.few,
          IsShort-from editions of_editions.few,
          IsShort-from regions of_regions.few,
          of_sessions.are,
          of_records.are,
          of_batches.are,
        ),
        assumption,
        rw (
          of_clerks.lines_are,
          of_schemas.lines_are,
          of_masters.lines_are,
          of_rulebooks.lines_are,
          of_editions.lines_are,
          of_regions.lines_are,
          of_sessions.lines_are,
          of_records.lines_are,
          of_batches.lines_are,
          none,
          append-nil (own_lines batch BATCHES 0 batches),
        ) refl,
      )

-- tables that are found are those whose lines these are
pub tables_in-only : (is_old : Bool) (lines : List Line) (rows : Rows) → tables_in is_old lines ≡ Some rows
    → AreTables rows × FitFields is_old rows × (lines ≡ lines_from is_old rows 1)
tables_in-only is_old lines rows found =
    let (clerks, clerks_are, after_clerks) = and_then-some _ (list_in clerk CLERKS 0 0 lines) rows found in
    let (schemas, schemas_are, after_schemas) = and_then-some _ (list_in text_row SCHEMAS 0 0 clerks.1) rows
    after_clerks in
    let (masters, masters_are, after_masters) = and_then-some _ (list_in text_row MASTERS 0 0 schemas.1) rows
    after_schemas in
    let (rulebooks, rulebooks_are, after_rulebooks) = and_then-some _ (list_in rulebook RULEBOOKS 0 0 masters.1) rows
    after_masters in
    let (editions, editions_are, after_editions) = and_then-some _
    (list_in (edition_in is_old) EDITIONS 0 0 rulebooks.1) rows after_rulebooks in
    let (regions, regions_are, after_regions) = and_then-some _ (list_in region REGIONS 0 0 editions.1) rows
    after_editions in
    let (sessions, sessions_are, after_sessions) = and_then-some _
    (lists_in session SESSIONS 0 (length clerks.0) regions.1) rows after_regions in
    let (records, records_are, after_records) = and_then-some _
    (lists_in committed RECORDS 0 (length clerks.0) sessions.1) rows after_sessions in
    let (batches, batches_are, made) = and_then-some _ (lists_in batch BATCHES 0 (length clerks.0) records.1) rows
    after_records in
    let (all, is) = if-some (nat_le 1 (length clerks.0) && nat_le (length batches.1) 0) _ rows made in
    rw (← is) (read-only is_old lines clerks_are schemas_are masters_are rulebooks_are editions_are regions_are
    sessions_are records_are batches_are (and_parts (nat_le 1 (length clerks.0)) (nat_le (length batches.1) 0) all))

-- the version is the one whose byte stands there
version_of-only : (body : List ℕ) (is_old : Bool) → version_of body ≡ Some is_old
    → body ≡ (if is_old then 1 else 2) ∷ []
version_of-only [] is_old found = absurd cc
version_of-only (byte ∷ []) is_old found = elim (cases_Bool (byte == 1)) [
  | inl old ↦
      let is : ◌≡◌ {A = Option Bool} (Some true) (Some is_old) = rw old at found in
      let same : is_old ≡ true = cc in
      rw (same, eqb-true byte 1 old)
  | inr other ↦
      let (new, same) = if-some (byte == 2) false is_old (rw other at found) in
      rw (← same, eqb-true byte 2 new)
]
version_of-only (byte ∷ (next ∷ rest)) is_old found = absurd cc

-- so is its line
version_in-only : (line : Line) (is_old : Bool) → version_in line ≡ Some is_old → line ≡ version_line is_old
version_in-only line is_old found =
    let (is, body) = if-found (is_of VERSION 0 line && (line.place == 0)) (version_of line.body) is_old found in
    let (keys, place) = and_parts (is_of VERSION 0 line) (line.place == 0) is in
    let (kind, owner) = and_parts (line.kind == 0) (line.owner == 0) keys in
    line-is line 0 0 0 ((if is_old then 1 else 2) ∷ []) (eqb-true line.kind 0 kind) (eqb-true line.owner 0 owner)
    (eqb-true line.place 0 place) (version_of-only line.body is_old body)

-- the line of a version says which it is
version_in-back : (is_old : Bool) → version_in (version_line is_old) ≡ Some is_old
version_in-back false = refl
version_in-back true = refl

-- the line of a version and lines after it that are read stand for what is read
pub version_stands : (is_old : Bool) (line : Line) (lines : List Line) (rows : Rows) → version_in line ≡ Some is_old
    → tables_in is_old lines ≡ Some rows → StandAs is_old (line ∷ lines) rows
version_stands is_old line lines rows version found =
    let (tables, fit, lines_are) = tables_in-only is_old lines rows found in
    let same : lines_in is_old rows ≡ line ∷ lines
    = ap₂ ◌∷◌ (sym (version_in-only line is_old version)) (sym lines_are) in
    record { tables = tables; fit = fit; same = equal (lines_in is_old rows) (line ∷ lines) same }

-- what is read of lines they stand for
rows_in_order-only : (lines : List Line) (rows : Rows) → rows_in_order lines ≡ Some rows → StandFor lines rows
rows_in_order-only [] rows found =
    let is : empty_rows ≡ rows = cc in
    (false, (refl, sym is))
rows_in_order-only (line ∷ lines) rows found =
    let (is_old, version, tables) = and_then-some (λ is_old. tables_in is_old lines) (version_in line) rows found in
    (is_old, version_stands is_old line lines rows version tables)

-- lines stand for the same in any order
StandAs-permutation : (is_old : Bool) (xs ys : List Line) (rows : Rows) → IsPermutation xs ys → StandAs is_old xs rows
    → StandAs is_old ys rows
StandAs-permutation is_old [] [] rows turned stand = stand
StandAs-permutation is_old [] (y ∷ ys) rows turned stand =
    absurd (let same = length_permutation [] (y ∷ ys) turned in omega arith)
StandAs-permutation is_old (x ∷ xs) [] rows turned stand =
    absurd (let same = length_permutation (x ∷ xs) [] turned in omega arith)
StandAs-permutation is_old (x ∷ xs) (y ∷ ys) rows turned stand = record {
  tables = stand.tables;
  fit = stand.fit;
  same = IsPermutation-trans (lines_in is_old rows) (x ∷ xs) (y ∷ ys) stand.same turned;
}

-- lines that stand for tables are theirs in the order of the keys
pub by_key-StandIn : (is_old : Bool) (lines : List Line) (rows : Rows) → StandIn is_old lines rows
    → by_key lines ≡ lines_in is_old rows
by_key-StandIn is_old lines rows stand =
    let order = lines_in-order is_old rows in
    sym (by_key-permutation (lines_in is_old rows) lines stand.same
    (AreApart-from_order (lines_in is_old rows) order)).order
    ∙ by_key-same (lines_in is_old rows) order

rows_in-back : (is_old : Bool) (lines : List Line) (rows : Rows) → StandAs is_old lines rows → rows_in lines ≡ Some rows
rows_in-back is_old [] rows stand = ap Some (sym stand.1)
rows_in-back is_old (line ∷ lines) rows stand =
    rw (by_key-StandIn is_old (line ∷ lines) rows stand, version_in-back is_old)
    (tables_in-back is_old rows stand.tables stand.fit)

-- the tables that are read from the lines in the order of their keys are the ones that they stand for
pub rows_in-StandFor : (lines : List Line) (rows : Rows) → (rows_in lines ≡ Some rows) ↔ StandFor lines rows
rows_in-StandFor lines rows = (
  λ found.
      let stand = rows_in_order-only (by_key lines) rows found in (
        stand.0,
        StandAs-permutation stand.0 (by_key lines) lines rows
            (IsPermutation-sym lines (by_key lines) (by_key-IsPermutation lines)) stand.1,
      ),
  λ stand. rows_in-back stand.0 lines rows stand.1,
)

-- lines in the order of their keys that are not read stand for no tables
pub none_stand : (lines : List Line) → AreByKey lines → rows_in_order lines ≡ None → (rows : Rows)
    → StandFor lines rows → ⊥
none_stand lines order none rows stand =
    let found : rows_in_order lines ≡ Some rows = rw (by_key-same lines order) at
    (rows_in-back stand.0 lines rows stand.1) in
    let e : ◌≡◌ {A = Option Rows} None (Some rows) = sym none ∙ found in
    cc
