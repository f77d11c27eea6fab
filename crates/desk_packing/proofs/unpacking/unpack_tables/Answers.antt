use Rattle.std.proofs.Common.{◌≡◌, ℕ, ◌≤◌, ◌∙◌, ◌==◌, true, false, List, length, map, sym, refl, arith}
use Rattle.std.specs.Prelude.{nat_le}
use Rattle.std.proofs.lemmas.Bool.{eqb-false, eqb-true, le-leb, lt-leb}
use Rattle.std.proofs.lemmas.List.{length-map}
use Rattle.desk_packing.specs.declared.line.PackedRow.{PackedRow}
use Rattle.desk_packing.specs.Lines.{line_of}
use Rattle.desk_packing.proofs.Stood.{tables_in-read}
use Rattle.desk_packing.proofs.unpacking.unpack_tables.Goals as goal

-- a number that is not 0 is at least 1
positive : (n : ℕ) → (n ≡ 0 → ⊥) → 1 ≤ n
positive n apart = grind arith

some : (n : ℕ) → (n == 0) ≡ false → nat_le 1 n ≡ true
some n other = le-leb 1 n (positive n (eqb-false n 0 other))

-- lines are as many as their rows
none_left : (rows : List PackedRow) → (length rows == 0) ≡ true → nat_le (length (map line_of rows)) 0 ≡ true
none_left rows none =
    let empty : length rows ≡ 0 = eqb-true (length rows) 0 none in
    le-leb (length (map line_of rows)) 0 (omega (arith, length-map rows line_of))

some_left : (rows : List PackedRow) → (length rows == 0) ≡ false → nat_le (length (map line_of rows)) 0 ≡ false
some_left rows some =
    let more : 1 ≤ length rows = positive (length rows) (eqb-false (length rows) 0 some) in
    lt-leb (length (map line_of rows)) 0 (omega (arith, length-map rows line_of))

pub returns-then-is_whole-clause-read : goal.returns-then-is_whole-clause-read
returns-then-is_whole-clause-read c =
    let steward = some (length c.in_ok-clerks.clerks.items) (sym c.is_empty-no_clerk.ensures ∙ c.if-no_clerk.false) in
    let all = none_left c.in_ok-batches.rest.now (sym c.is_empty-is_whole.ensures ∙ c.if-is_whole.true) in
    tables_in-read c.args.is_old (map line_of c.args.rows.now) c.in_ok-clerks.ensures.read c.in_ok-schemas.ensures.read
    c.in_ok-masters.ensures.read c.in_ok-rulebooks.ensures.read c.in_ok-editions.ensures.read
    c.in_ok-regions.ensures.read (rw c.len.ensures at c.in_ok-sessions.ensures.read)
    (rw c.len-2.ensures at c.in_ok-records.ensures.read) (rw c.len-3.ensures at c.in_ok-batches.ensures.read)
    ∙ rw (steward, all) refl

pub returns-clause-damaged : goal.returns-clause-damaged
returns-clause-damaged c damaged =
    let steward = some (length c.in_ok-clerks.clerks.items) (sym c.is_empty-no_clerk.ensures ∙ c.if-no_clerk.false) in
    let more = some_left c.in_ok-batches.rest.now (sym c.is_empty-is_whole.ensures ∙ c.if-is_whole.false) in
    tables_in-read c.args.is_old (map line_of c.args.rows.now) c.in_ok-clerks.ensures.read c.in_ok-schemas.ensures.read
    c.in_ok-masters.ensures.read c.in_ok-rulebooks.ensures.read c.in_ok-editions.ensures.read
    c.in_ok-regions.ensures.read (rw c.len.ensures at c.in_ok-sessions.ensures.read)
    (rw c.len-2.ensures at c.in_ok-records.ensures.read) (rw c.len-3.ensures at c.in_ok-batches.ensures.read)
    ∙ rw (steward, more) refl
