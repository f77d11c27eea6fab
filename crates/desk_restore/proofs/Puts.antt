-- The changes that put all rows of tables fit a new desk, and make the tables.
use Rattle.std.proofs.Common.{◌≡◌, ◌∙◌, ℕ, suc, ◌+◌, ◌<◌, ◌≤◌, List, [], ◌∷◌, ◌++◌, length, map, refl, sym, ap, subst}
use Rattle.std.proofs.Common.{arith, append_assoc, append-nil}
use Rattle.std.specs.List.{AllByRecursion}
use Rattle.std.specs.Prelude.{All}
use Rattle.std.proofs.Math.Seq.{set-append_seam}
use Rattle.std.proofs.lemmas.List.{length-append}
use Rattle.desk_words.specs.declared.change.Change.{Change}
use Rattle.desk_words.specs.declared.change.Change.TheVariants as change
use Rattle.desk_words.specs.declared.rows.clerk.ClerkRow.{ClerkRow}
use Rattle.desk_words.specs.Changes.{FitAll, Fits, changed, changed_all, put, with_list}
use Rattle.desk_words.specs.Tables.{AreTables, IsShort, Rows, empty_rows, list_at, row_limit}
use Rattle.desk_words.proofs.Changes.{put-end, with_clerk-end}
use Rattle.desk_restore.specs.Changes.{changes_of, put_from, put_lists}

-- changes that fit tables, and make others of them
pub record Puts (rows : Rows) (changes : List Change) (after : Rows) : Type 0 where
  pub fit : FitAll rows changes
  pub made : changed_all rows changes ≡ after

-- nothing is put
Puts-nil : (rows : Rows) → Puts rows [] rows
Puts-nil rows = record { fit = tt; made = refl }

-- one change, and others after it
Puts-cons : (rows : Rows) (change : Change) (changes : List Change) (made : Rows) → Fits rows change
    → Puts (changed rows change) changes made → Puts rows (change ∷ changes) made
Puts-cons rows change changes made fits puts = record { fit = (fits, puts.fit); made = puts.made }

-- changes, and others after them
pub FitAll-append : (rows : Rows) (changes others : List Change) → FitAll rows changes
    → FitAll (changed_all rows changes) others → FitAll rows (changes ++ others)
FitAll-append rows [] others fit more = more
FitAll-append rows (change ∷ changes) others fit more =
    (fit.0, FitAll-append (changed rows change) changes others fit.1 more)

-- the first of changes that fit
pub FitAll-front : (rows : Rows) (changes others : List Change) → FitAll rows (changes ++ others) → FitAll rows changes
FitAll-front rows [] others fit = tt
FitAll-front rows (change ∷ changes) others fit = (fit.0, FitAll-front (changed rows change) changes others fit.1)

-- those after them
pub FitAll-back : (rows : Rows) (changes others : List Change) → FitAll rows (changes ++ others)
    → FitAll (changed_all rows changes) others
FitAll-back rows [] others fit = fit
FitAll-back rows (change ∷ changes) others fit = FitAll-back (changed rows change) changes others fit.1

-- what changes make with others after them
pub changed_all-append : (rows : Rows) (changes others : List Change)
    → changed_all rows (changes ++ others) ≡ changed_all (changed_all rows changes) others
changed_all-append rows [] others = refl
changed_all-append rows (change ∷ changes) others = changed_all-append (changed rows change) changes others

Puts-append : (rows middle made : Rows) (changes others : List Change) → Puts rows changes middle
    → Puts middle others made → Puts rows (changes ++ others) made
Puts-append rows middle made changes others one other = record {
  fit = FitAll-append rows changes others one.fit (subst (λ at. FitAll at others) (sym one.made) other.fit);
  made = changed_all-append rows changes others ∙ ap (λ at. changed_all at others) one.made ∙ other.made;
}

-- ---- the desk's own tables

module _ {Row : Type 0} (put : Row → Change) (with_list : Rows → List Row → Rows) (list_of : Rows → List Row)
    (kept : (rows : Rows) → with_list rows (list_of rows) ≡ rows)
    (got : (rows : Rows) (list : List Row) → list_of (with_list rows list) ≡ list)
    (again : (rows : Rows) (list other : List Row) → with_list (with_list rows list) other ≡ with_list rows other)
    (fits : (rows : Rows) (row : Row) → length (list_of rows) + 1 < row_limit → Fits rows (put row))
    (puts : (rows : Rows) (row : Row) → changed rows (put row) ≡ with_list rows (list_of rows ++ row ∷ [])) where
  -- the rows of a table are put after those that are there
  Puts-table : (rows : Rows) (place : ℕ) (list : List Row) → length (list_of rows) + length list < row_limit
      → Puts rows (put_from (λ place row. put row) place list) (with_list rows (list_of rows ++ list))
  Puts-table rows place [] short = record {
    fit = tt;
    made = sym (ap (with_list rows) (append-nil (list_of rows)) ∙ kept rows);
  }
  Puts-table rows place (row ∷ list) short =
      let next : Rows = with_list rows (list_of rows ++ row ∷ []) in
      let fewer : length (list_of next) + length list < row_limit = subst
      (λ all. length all + length list < row_limit) (sym (got rows (list_of rows ++ row ∷ [])))
      (omega (arith, short, length-append (list_of rows) (row ∷ []))) in
      let rest = Puts-table next (place + 1) list fewer in
      let same : with_list next (list_of next ++ list) ≡ with_list rows (list_of rows ++ row ∷ list) =
      again rows (list_of rows ++ row ∷ []) (list_of next ++ list)
      ∙ ap (λ all. with_list rows (all ++ list)) (got rows (list_of rows ++ row ∷ []))
      ∙ ap (with_list rows) (append_assoc (list_of rows) (row ∷ []) list) in
      let others : List Change = put_from (λ place row. put row) (place + 1) list in
      Puts-cons rows (put row) others (with_list rows (list_of rows ++ row ∷ list))
      (fits rows row (omega (arith, short)))
      (subst (λ made. Puts (changed rows (put row)) others made) same
      (subst (λ at. Puts at others (with_list next (list_of next ++ list))) (sym (puts rows row)) rest))

-- ---- the clerks

-- the tables with more callers, of whom nothing is kept yet
abbrev with_clerks : Rows → List ClerkRow → Rows
with_clerks rows list = record rows {
  clerks = rows.clerks ++ list;
  sessions = rows.sessions ++ map (λ row. []) list;
  records = rows.records ++ map (λ row. []) list;
  batches = rows.batches ++ map (λ row. []) list;
}

-- a caller who is put after the others
changed-clerk : (rows : Rows) (place : ℕ) (row : ClerkRow) → place ≡ length rows.clerks
    → changed rows (change.Clerk place row) ≡ with_clerks rows (row ∷ [])
changed-clerk rows place row same = rw (
  same,
  put-end rows.clerks row,
  with_clerk-end rows.sessions (length rows.clerks),
  with_clerk-end rows.records (length rows.clerks),
  with_clerk-end rows.batches (length rows.clerks),
) refl

-- callers after those that are there
Puts-clerks : (rows : Rows) (place : ℕ) (list : List ClerkRow) → place ≡ length rows.clerks
    → place + length list < row_limit → Puts rows (put_from change.Clerk place list) (with_clerks rows list)
Puts-clerks rows place [] same short = record {
  fit = tt;
  made = rw (append-nil rows.clerks, append-nil rows.sessions, append-nil rows.records, append-nil rows.batches) refl;
}
Puts-clerks rows place (row ∷ list) same short =
    let next : Rows = with_clerks rows (row ∷ []) in
    let longer : place + 1 ≡ length next.clerks = omega (arith, same, length-append rows.clerks (row ∷ [])) in
    let rest = Puts-clerks next (place + 1) list longer (omega (arith, short)) in
    let whole : with_clerks next list ≡ with_clerks rows (row ∷ list) =
    rw (
      append_assoc rows.clerks (row ∷ []) list,
      append_assoc rows.sessions ([] ∷ []) (map (λ one. []) list),
      append_assoc rows.records ([] ∷ []) (map (λ one. []) list),
      append_assoc rows.batches ([] ∷ []) (map (λ one. []) list),
    ) refl in
    let others : List Change = put_from change.Clerk (place + 1) list in
    Puts-cons rows (change.Clerk place row) others (with_clerks rows (row ∷ list))
    (omega (arith, same), omega (arith, short))
    (subst (λ made. Puts (changed rows (change.Clerk place row)) others made) whole
    (subst (λ at. Puts at others (with_clerks next list)) (sym (changed-clerk rows place row same)) rest))

-- ---- the clerks' own lists

-- the list in the middle
list_at-middle : {T : Type 0} (before after : List (List T)) (list : List T)
    → list_at (before ++ list ∷ after) (length before) ≡ list
list_at-middle [] after list = refl
list_at-middle (first ∷ before) after list = list_at-middle before after list

module _ {Row : Type 0} (put : ℕ → ℕ → Row → Change) (with_lists : Rows → List (List Row) → Rows)
    (lists_in : Rows → List (List Row))
    (kept : (rows : Rows) → with_lists rows (lists_in rows) ≡ rows)
    (got : (rows : Rows) (lists : List (List Row)) → lists_in (with_lists rows lists) ≡ lists)
    (again : (rows : Rows) (lists other : List (List Row))
    → with_lists (with_lists rows lists) other ≡ with_lists rows other)
    (clerks : (rows : Rows) (lists : List (List Row)) → length (with_lists rows lists).clerks ≡ length rows.clerks)
    (fits : (rows : Rows) (clerk place : ℕ) (row : Row) → clerk < length rows.clerks
    → place ≡ length (list_at (lists_in rows) clerk) → place + 1 < row_limit → Fits rows (put clerk place row))
    (puts : (rows : Rows) (clerk place : ℕ) (row : Row) → place ≡ length (list_at (lists_in rows) clerk)
    → changed rows (put clerk place row)
    ≡ with_lists rows (with_list (lists_in rows) clerk (list_at (lists_in rows) clerk ++ row ∷ []))) where
  -- a row after those of a clerk's list
  changed-own : (rows : Rows) (clerk place : ℕ) (row : Row) (before after : List (List Row)) (list : List Row)
      → lists_in rows ≡ before ++ list ∷ after → clerk ≡ length before → place ≡ length list
      → changed rows (put clerk place row) ≡ with_lists rows (before ++ (list ++ row ∷ []) ∷ after)
  changed-own rows clerk place row before after list is at counted =
      let found : list_at (lists_in rows) clerk ≡ list =
      ap (λ lists. list_at lists clerk) is ∙ ap (list_at (before ++ list ∷ after)) at
      ∙ list_at-middle before after list in
      puts rows clerk place row (counted ∙ sym (ap length found))
      ∙ ap (λ one. with_lists rows (with_list (lists_in rows) clerk (one ++ row ∷ []))) found
      ∙ ap (λ lists. with_lists rows (with_list lists clerk (list ++ row ∷ []))) is
      ∙ ap (λ one. with_lists rows (with_list (before ++ list ∷ after) one (list ++ row ∷ []))) at
      ∙ ap (with_lists rows) (set-append_seam before list after (list ++ row ∷ []))

  -- rows after those of a clerk's list
  Puts-list : (rows : Rows) (clerk place : ℕ) (before after : List (List Row)) (list more : List Row)
      → lists_in rows ≡ before ++ list ∷ after → clerk ≡ length before → place ≡ length list
      → clerk < length rows.clerks → place + length more < row_limit
      → Puts rows (put_from (put clerk) place more) (with_lists rows (before ++ (list ++ more) ∷ after))
  Puts-list rows clerk place before after list [] is at counted within short = record {
    fit = tt;
    made = sym (ap (λ one. with_lists rows (before ++ one ∷ after)) (append-nil list)
        ∙ ap (with_lists rows) (sym is) ∙ kept rows);
  }
  Puts-list rows clerk place before after list (row ∷ more) is at counted within short =
      let next : Rows = with_lists rows (before ++ (list ++ row ∷ []) ∷ after) in
      let found : list_at (lists_in rows) clerk ≡ list =
      ap (λ lists. list_at lists clerk) is ∙ ap (list_at (before ++ list ∷ after)) at
      ∙ list_at-middle before after list in
      let rest = Puts-list next clerk (place + 1) before after (list ++ row ∷ []) more
      (got rows (before ++ (list ++ row ∷ []) ∷ after)) at (omega (arith, counted, length-append list (row ∷ [])))
      (omega (arith, within, clerks rows (before ++ (list ++ row ∷ []) ∷ after))) (omega (arith, short)) in
      let whole : with_lists next (before ++ ((list ++ row ∷ []) ++ more) ∷ after)
      ≡ with_lists rows (before ++ (list ++ row ∷ more) ∷ after) =
      again rows (before ++ (list ++ row ∷ []) ∷ after) (before ++ ((list ++ row ∷ []) ++ more) ∷ after)
      ∙ ap (λ one. with_lists rows (before ++ one ∷ after)) (append_assoc list (row ∷ []) more) in
      let others : List Change = put_from (put clerk) (place + 1) more in
      Puts-cons rows (put clerk place row) others (with_lists rows (before ++ (list ++ row ∷ more) ∷ after))
      (fits rows clerk place row within (counted ∙ sym (ap length found)) (omega (arith, short)))
      (subst (λ made. Puts (changed rows (put clerk place row)) others made) whole
      (subst (λ one. Puts one others (with_lists next (before ++ ((list ++ row ∷ []) ++ more) ∷ after)))
      (sym (changed-own rows clerk place row before after list is at counted)) rest))

  -- the lists of the clerks from one on, of whom nothing is kept yet
  Puts-lists : (rows : Rows) (clerk : ℕ) (before lists : List (List Row)) (left : List ClerkRow)
      → lists_in rows ≡ before ++ map (λ row. []) left → length left ≡ length lists → clerk ≡ length before
      → clerk + length lists ≤ length rows.clerks → AllByRecursion IsShort lists
      → Puts rows (put_lists put clerk lists) (with_lists rows (before ++ lists))
  Puts-lists rows clerk before [] [] is same at within short = record {
    fit = tt;
    made = sym (ap (with_lists rows) (sym is) ∙ kept rows);
  }
  Puts-lists rows clerk before [] (one ∷ left) is same at within short = absurd (omega (arith, same))
  Puts-lists rows clerk before (list ∷ lists) [] is same at within short = absurd (omega (arith, same))
  Puts-lists rows clerk before (list ∷ lists) (one ∷ left) is same at within short =
      let empties : List (List Row) = map (λ row. []) left in
      let next : Rows = with_lists rows (before ++ list ∷ empties) in
      let own = Puts-list rows clerk 0 before empties [] list is at refl (omega (arith, within))
      (omega (arith, short.0)) in
      let there : lists_in next ≡ (before ++ list ∷ []) ++ empties =
      got rows (before ++ list ∷ empties) ∙ sym (append_assoc before (list ∷ []) empties) in
      let rest = Puts-lists next (clerk + 1) (before ++ list ∷ []) lists left there (omega (arith, same))
      (omega (arith, at, length-append before (list ∷ [])))
      (omega (arith, within, clerks rows (before ++ list ∷ empties))) short.1 in
      let whole : with_lists next ((before ++ list ∷ []) ++ lists) ≡ with_lists rows (before ++ list ∷ lists) =
      again rows (before ++ list ∷ empties) ((before ++ list ∷ []) ++ lists)
      ∙ ap (with_lists rows) (append_assoc before (list ∷ []) lists) in
      Puts-append rows next (with_lists rows (before ++ list ∷ lists)) (put_from (put clerk) 0 list)
      (put_lists put (clerk + 1) lists) own
      (subst (λ made. Puts next (put_lists put (clerk + 1) lists) made) whole rest)

-- ---- all tables

-- each list is short
pub each-short : {T : Type 0} (lists : List (List T)) → All IsShort lists → AllByRecursion IsShort lists
each-short [] short = tt
each-short (list ∷ lists) short =
    (short 0 [] (omega arith), each-short lists (λ k d within. short (suc k) d (omega (arith, within))))

-- what is put at the end of a list is put after its rows
put-counted : {T : Type 0} (items : List T) (place : ℕ) (item : T) → place ≡ length items
    → put items place item ≡ items ++ item ∷ []
put-counted items place item same = ap (λ at. put items at item) same ∙ put-end items item

module _ (rows : Rows) (first : ClerkRow) (others : List ClerkRow) (clerks : rows.clerks ≡ first ∷ others)
    (tables : AreTables rows) where
  -- the clerks alone
  abbrev with_callers : Rows
  with_callers = with_clerks (record empty_rows { clerks = first ∷ [] }) others

  -- the clerks are put
  puts-clerks : Puts empty_rows (put_from change.Clerk 0 (first ∷ others)) with_callers
  puts-clerks =
      let short : length (first ∷ others) < row_limit =
      subst (λ all. length all < row_limit) clerks tables.clerks in
      Puts-cons empty_rows (change.Clerk 0 first) (put_from change.Clerk 1 others) with_callers
      (omega arith, omega arith)
      (Puts-clerks (record empty_rows { clerks = first ∷ [] }) 1 others refl (omega (arith, short)))

  -- as many lists as clerks
  counted : {T : Type 0} (lists : List (List T)) → length lists ≡ length rows.clerks
      → length (first ∷ others) ≡ length lists
  counted lists same = sym (same ∙ ap length clerks)

  abbrev with_schemas : Rows
  with_schemas = record with_callers { schemas = rows.schemas }

  abbrev with_masters : Rows
  with_masters = record with_schemas { masters = rows.masters }

  abbrev with_rulebooks : Rows
  with_rulebooks = record with_masters { rulebooks = rows.rulebooks }

  abbrev with_editions : Rows
  with_editions = record with_rulebooks { editions = rows.editions }

  abbrev with_regions : Rows
  with_regions = record with_editions { regions = rows.regions }

  abbrev with_sessions : Rows
  with_sessions = record with_regions { sessions = rows.sessions }

  abbrev with_records : Rows
  with_records = record with_sessions { records = rows.records }

  abbrev with_batches : Rows
  with_batches = record with_records { batches = rows.batches }

  puts-schemas : Puts with_callers (put_from (λ place row. change.Schema row) 0 rows.schemas) with_schemas
  puts-schemas = Puts-table change.Schema (λ at all. record at { schemas = all }) (λ at. at.schemas)
      (λ at. refl) (λ at all. refl) (λ at all other. refl) (λ at row fewer. (omega arith, fewer)) (λ at row. refl)
      with_callers 0 rows.schemas (omega (arith, tables.schemas))

  puts-masters : Puts with_schemas (put_from (λ place row. change.Master row) 0 rows.masters) with_masters
  puts-masters = Puts-table change.Master (λ at all. record at { masters = all }) (λ at. at.masters)
      (λ at. refl) (λ at all. refl) (λ at all other. refl) (λ at row fewer. (omega arith, fewer)) (λ at row. refl)
      with_schemas 0 rows.masters (omega (arith, tables.masters))

  puts-rulebooks : Puts with_masters (put_from (λ place row. change.Rulebook row) 0 rows.rulebooks) with_rulebooks
  puts-rulebooks = Puts-table change.Rulebook (λ at all. record at { rulebooks = all }) (λ at. at.rulebooks)
      (λ at. refl) (λ at all. refl) (λ at all other. refl) (λ at row fewer. (omega arith, fewer)) (λ at row. refl)
      with_masters 0 rows.rulebooks (omega (arith, tables.rulebooks))

  puts-editions : Puts with_rulebooks (put_from (λ place row. change.Edition row) 0 rows.editions) with_editions
  puts-editions = Puts-table change.Edition (λ at all. record at { editions = all }) (λ at. at.editions)
      (λ at. refl) (λ at all. refl) (λ at all other. refl) (λ at row fewer. (omega arith, fewer)) (λ at row. refl)
      with_rulebooks 0 rows.editions (omega (arith, tables.editions))

  puts-regions : Puts with_editions (put_from (λ place row. change.Region row) 0 rows.regions) with_regions
  puts-regions = Puts-table change.Region (λ at all. record at { regions = all }) (λ at. at.regions)
      (λ at. refl) (λ at all. refl) (λ at all other. refl) (λ at row fewer. (omega arith, fewer)) (λ at row. refl)
      with_editions 0 rows.regions (omega (arith, tables.regions))

  puts-sessions : Puts with_regions (put_lists change.Session 0 rows.sessions) with_sessions
  puts-sessions = Puts-lists change.Session (λ at all. record at { sessions = all }) (λ at. at.sessions)
      (λ at. refl) (λ at all. refl) (λ at all other. refl) (λ at all. refl)
      (λ at clerk place row within same fewer. (within, (omega (arith, same), fewer)))
      (λ at clerk place row same. ap (λ one. record at { sessions = with_list at.sessions clerk one })
      (put-counted (list_at at.sessions clerk) place row same))
      with_regions 0 [] rows.sessions (first ∷ others) refl (counted rows.sessions tables.sessions.each) refl
      (omega (arith, counted rows.sessions tables.sessions.each)) (each-short rows.sessions tables.sessions.short)

  puts-records : Puts with_sessions (put_lists (λ clerk place row. change.Record clerk row) 0 rows.records) with_records
  puts-records = Puts-lists (λ clerk place row. change.Record clerk row) (λ at all. record at { records = all })
      (λ at. at.records) (λ at. refl) (λ at all. refl) (λ at all other. refl) (λ at all. refl)
      (λ at clerk place row within same fewer. (within, (omega arith, omega (arith, same, fewer))))
      (λ at clerk place row same. refl)
      with_sessions 0 [] rows.records (first ∷ others) refl (counted rows.records tables.records.each) refl
      (omega (arith, counted rows.records tables.records.each)) (each-short rows.records tables.records.short)

  puts-batches : Puts with_records (put_lists (λ clerk place row. change.Batch clerk row) 0 rows.batches) with_batches
  puts-batches = Puts-lists (λ clerk place row. change.Batch clerk row) (λ at all. record at { batches = all })
      (λ at. at.batches) (λ at. refl) (λ at all. refl) (λ at all other. refl) (λ at all. refl)
      (λ at clerk place row within same fewer. (within, (omega arith, omega (arith, same, fewer))))
      (λ at clerk place row same. refl)
      with_records 0 [] rows.batches (first ∷ others) refl (counted rows.batches tables.batches.each) refl
      (omega (arith, counted rows.batches tables.batches.each)) (each-short rows.batches tables.batches.short)

  -- all rows are put
  puts-rows : Puts empty_rows (changes_of rows) rows
  puts-rows =
      let begun : Puts empty_rows (put_from change.Clerk 0 rows.clerks) with_callers =
      subst (λ all. Puts empty_rows (put_from change.Clerk 0 all) with_callers) (sym clerks) puts-clerks in
      let whole : with_batches ≡ rows = ap (λ all. record rows { clerks = all }) (sym clerks) in
      subst (Puts empty_rows (changes_of rows)) whole
      (Puts-append empty_rows with_records with_batches _ _
      (Puts-append empty_rows with_sessions with_records _ _
      (Puts-append empty_rows with_regions with_sessions _ _
      (Puts-append empty_rows with_editions with_regions _ _
      (Puts-append empty_rows with_rulebooks with_editions _ _
      (Puts-append empty_rows with_masters with_rulebooks _ _
      (Puts-append empty_rows with_schemas with_masters _ _
      (Puts-append empty_rows with_callers with_schemas _ _ begun puts-schemas)
      puts-masters) puts-rulebooks) puts-editions) puts-regions) puts-sessions) puts-records) puts-batches)

-- the changes that put all rows fit a new desk, and make its tables
pub Puts-changes_of : (rows : Rows) → AreTables rows → Puts empty_rows (changes_of rows) rows
Puts-changes_of rows tables = by_clerks rows.clerks refl
  where
    by_clerks : (clerks : List ClerkRow) → rows.clerks ≡ clerks → Puts empty_rows (changes_of rows) rows
    by_clerks [] none = absurd (omega (arith, tables.steward, ap length none))
    by_clerks (first ∷ others) some = puts-rows rows first others some tables
