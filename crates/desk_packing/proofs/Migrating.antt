-- The lines of the migration make the lines of the old version those of the new one.
use Rattle.std.proofs.Common.{◌≡◌, ℕ, ◌+◌, ◌<◌, ◌≤◌, true, false, ◌==◌, List, [], ◌∷◌, ◌++◌, take, refl, sym}
use Rattle.std.proofs.Common.{append_assoc, arith}
use Rattle.std.specs.Prelude.{IsPermutation}
use Rattle.std.specs.List.{AllByRecursion}
use Rattle.std.proofs.lemmas.Bool.{and_left, ne_eqb}
use Rattle.std.proofs.lemmas.List.Sorted.{IsPermutation-refl, IsPermutation-sym, IsPermutation-trans}
use Rattle.desk_words.specs.declared.rows.edition.EditionRow.{EditionRow}
use Rattle.desk_words.specs.Tables.{Rows}
use Rattle.desk_packing.specs.Formats.{Format, list, u16}
use Rattle.desk_packing.specs.Lines.{Line, put_line, put_lines, same_key}
use Rattle.desk_packing.specs.RowFormats.{clerk, edition, old_edition, rulebook, text_row}
use Rattle.desk_packing.specs.Shapes.{migration_lines}
use Rattle.desk_packing.specs.Stands.{StandIn, lines_of, list_lines, old_lines_of, row_line, version_line}
use Rattle.desk_packing.proofs.Joined.{joined, joined-before}
use Rattle.desk_packing.proofs.Permutations.{each-append, each-weaker}
use Rattle.desk_packing.proofs.Putting.{IsFree, Puts, later-free, list_lines-below, place-apart}
use Rattle.desk_packing.proofs.Putting.{put_lines-permutation}
use Rattle.desk_packing.proofs.Putting.{kept-free, puts-following, puts-front, same_key-own}
use Rattle.desk_packing.proofs.Stood.{AreParts-parts_of, StandFrom-lines_from, lines_from, parts_of}

-- the list is put anew in another format, between lines of other lists
module _ {A : Type 0} (old new : Format A) (kind : ℕ) (following : List Line)
    (later : AllByRecursion (λ other. kind + 1 ≤ other.kind) following) where
  over : (place : ℕ) (rows : List A) (x : A)
      → Puts (row_line old kind 0 place x ∷ list_lines old kind 0 (place + 1) rows) (row_line new kind 0 place x)
      (row_line new kind 0 place x ∷ list_lines old kind 0 (place + 1) rows)
  over place rows x =
      let line = row_line new kind 0 place x in
      let lines = list_lines old kind 0 (place + 1) rows in
      rw (
        same_key-own kind 0 place (old.print x) (new.print x),
        kept-free line lines (list_lines-below old kind 0 line (place + 1) rows (omega arith)),
      )
      (IsPermutation-refl (line ∷ lines))

  anew : (place : ℕ) (rows : List A) (front : List Line)
      → ((line : Line) → line.kind ≡ kind → place ≤ line.place → IsFree line front)
      → IsPermutation (put_lines (front ++ (list_lines old kind 0 place rows ++ following))
      (list_lines new kind 0 place rows))
      (front ++ (list_lines new kind 0 place rows ++ following))
  anew place [] front free = IsPermutation-refl (front ++ following)
  anew place (x ∷ rows) front free =
      let line = row_line new kind 0 place x in
      let before = row_line old kind 0 place x in
      let rest = list_lines old kind 0 (place + 1) rows ++ following in
      let more = list_lines new kind 0 (place + 1) rows in
      let one : Puts (front ++ (before ∷ rest)) line (front ++ (line ∷ rest))
      = puts-following front (before ∷ rest) (line ∷ rest) line (free line refl (omega arith))
      (puts-front (before ∷ list_lines old kind 0 (place + 1) rows) (line ∷ list_lines old kind 0 (place + 1) rows)
      following line (over place rows x) (later-free line following later)) in
      let moved : front ++ (line ∷ rest) ≡ (front ++ line ∷ []) ++ rest = sym (append_assoc front (line ∷ []) rest) in
      let others = anew (place + 1) rows (front ++ line ∷ []) (λ next is above.
      each-append (λ other. same_key other next ≡ false) front (line ∷ []) (free next is (omega arith))
      (place-apart line next (λ e. absurd (omega arith)), tt)) in
      IsPermutation-trans _ (put_lines ((front ++ line ∷ []) ++ rest) more) _
      (put_lines-permutation (put_line (front ++ (before ∷ rest)) line) ((front ++ line ∷ []) ++ rest) more
      (rw (← moved) one))
      (rw (← append_assoc front (line ∷ []) (more ++ following)) others)

module _ (rows : Rows) where
  -- what stands in front of the editions
  abbrev in_front : List Line
  in_front = joined (take 5 (parts_of false rows))

  -- no edition is among it
  no_edition : (line : Line) → line.kind ≡ 5 → IsFree line in_front
  no_edition line is = each-weaker (λ other. other.kind < 5) (λ other. same_key other line ≡ false)
      (λ other before. and_left (other.kind == line.kind) _ (ne_eqb other.kind line.kind (λ e. absurd (omega arith))))
      in_front (joined-before 5 0 (parts_of false rows) (AreParts-parts_of false rows))

  -- the lines of tables before and after the editions
  split_at_editions : (lines : List Line)
      → version_line false ∷ (list_lines clerk 1 0 0 rows.clerks ++ (list_lines text_row 2 0 0 rows.schemas
      ++ (list_lines text_row 3 0 0 rows.masters ++ (list_lines rulebook 4 0 0 rows.rulebooks ++ lines))))
      ≡ in_front ++ lines
  split_at_editions lines = simp append_assoc

  -- the line of the version is replaced
  new_version : Puts (old_lines_of rows) (version_line false) (version_line false ∷ lines_from true rows 1)
  new_version =
      rw (kept-free (version_line false) (lines_from true rows 1)
      (later-free (version_line false) (lines_from true rows 1) (StandFrom-lines_from true rows 1).kinds))
      (IsPermutation-refl (version_line false ∷ lines_from true rows 1))

  -- put over the lines of the old version, the lines of the migration are those of the new one
  pub puts-migration : IsPermutation (put_lines (old_lines_of rows) (migration_lines rows)) (lines_of rows)
  puts-migration =
      let editions = list_lines edition 5 0 0 rows.editions in
      let old_editions = list_lines old_edition 5 0 0 rows.editions ++ lines_from true rows 6 in
      IsPermutation-trans _ (put_lines (version_line false ∷ lines_from true rows 1) editions) _
      (put_lines-permutation (put_line (old_lines_of rows) (version_line false))
      (version_line false ∷ lines_from true rows 1) editions new_version)
      (rw (split_at_editions old_editions, split_at_editions (editions ++ lines_from true rows 6))
      (anew old_edition edition 5 (lines_from true rows 6) (StandFrom-lines_from true rows 6).kinds 0 rows.editions
      in_front (λ line is above. no_edition line is)))

-- lines that stand for tables in the old version stand for them in the new one once the lines of the migration are put
pub StandIn-migration : (lines : List Line) (rows : Rows) → StandIn true lines rows
    → AllByRecursion edition.Fits rows.editions
    → StandIn false (put_lines lines (migration_lines rows)) rows
StandIn-migration lines rows stand fit = record {
  tables = stand.tables;
  fit = assumption (fit, stand.fit);
  same = IsPermutation-trans (lines_of rows) (put_lines (old_lines_of rows) (migration_lines rows)) _
      (IsPermutation-sym _ (lines_of rows) (puts-migration rows))
      (put_lines-permutation (old_lines_of rows) lines (migration_lines rows) stand.same);
}

-- an edition that fits the old version fits the new one, since it has no folded attribute
pub old_editions-fit : (editions : List EditionRow) → AllByRecursion old_edition.Fits editions
    → AllByRecursion edition.Fits editions
old_editions-fit [] fit = tt
old_editions-fit (row ∷ editions) ((name, (version, (rulebook, (masters, none)))), fit) =
    let few : (list u16).Fits row.folded = rw none (omega arith, tt) in
    ((name, (version, (rulebook, (masters, few)))), old_editions-fit editions fit)
