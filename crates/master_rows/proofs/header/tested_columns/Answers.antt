use Rattle.std.proofs.Common.{◌≡◌, ◌++◌, ◌∷◌, [], ℕ, List, suc, drop, get_or, sym, ap, ◌∙◌, add-one}
use Rattle.desk_base.specs.Texts.{bytes_of}
use Rattle.master_rows.specs.Header.{columns_fault}
use Rattle.desk_base.proofs.Slices.{drop-texts, take-texts}
use Rattle.master_rows.proofs.Faults.{columns_fault-bad, columns_fault-twice, columns_fault-next}
use Rattle.master_rows.proofs.header.tested_columns.Goals as goal
use Rattle.master_rows.proofs.header.tested_columns.Goals.{After-is_column}

-- the column at which the loop is
abbrev column-at : After-is_column → List ℕ
column-at c = (get_or c.args.texts.now c.loop-text.text-index (record { ref_ptr = (0, 0); now = [] })).now

-- the columns after it
abbrev columns-after : After-is_column → List (List ℕ)
columns-after c = drop (suc c.loop-text.text-index) (bytes_of c.args.texts.now)

-- the first fault of all columns is the first from this one on
fault-from : (c : After-is_column) → columns_fault [] (bytes_of c.args.texts.now)
    ≡ columns_fault c.loop-text.columns (column-at c ∷ columns-after c)
fault-from c = c.loop-text.invariant.1 ∙ ap (columns_fault c.loop-text.columns)
    (drop-texts c.args.texts.now c.loop-text.text-index _ c.loop-text-test.true)

pub returns-then-not-is_column-clause-fault : goal.returns-then-not-is_column-clause-fault
returns-then-not-is_column-clause-fault c =
    let read = (goal.at.returns-then-not-is_column-clause-fault c).After-is_column in
    let bad = sym c.is_column.ensures.form ∙ c.if-not-is_column.true in
    rw c.len.ensures (λ _. fault-from read
    ∙ columns_fault-bad c.loop-text.columns (columns-after read) (column-at read) bad)

pub returns-then-has_text-clause-fault : goal.returns-then-has_text-clause-fault
returns-then-has_text-clause-fault c =
    let read = (goal.at.returns-then-has_text-clause-fault c).After-is_column in
    let good = sym c.is_column.ensures.form ∙ c.if-not-is_column.false in
    let twice = sym (rw c.as_slice.ensures at c.has_text.ensures) ∙ c.if-has_text.true in
    rw c.len.ensures (λ _. fault-from read
    ∙ columns_fault-twice c.loop-text.columns (columns-after read) (column-at read) good twice)

pub loop-text-preserved : goal.loop-text-preserved
loop-text-preserved c =
    let read = (goal.at.loop-text-preserved c).After-is_column in
    let good = sym c.is_column.ensures.form ∙ c.if-not-is_column.false in
    let new = sym (rw c.as_slice.ensures at c.has_text.ensures) ∙ c.if-has_text.false in
    let grown = rw c.in_ok-of.ensures at c.in_ok-push.ensures.pushed in
    rw (grown, add-one c.loop-text.text-index) (
      ap (λ (front : List (List ℕ)). front ++ column-at read ∷ []) c.loop-text.invariant.0
          ∙ sym (take-texts c.args.texts.now c.loop-text.text-index _ c.loop-text-test.true),
      fault-from read ∙ columns_fault-next c.loop-text.columns (columns-after read) (column-at read) good new,
    )
