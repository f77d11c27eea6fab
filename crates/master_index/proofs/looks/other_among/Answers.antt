use Rattle.std.proofs.Common.{◌≡◌, ◌≢◌, ℕ, arith}
use Rattle.desk_base.specs.Grid.{cell_text}
use Rattle.fix_model.specs.Sought.{Meets}
use Rattle.master_index.proofs.Ascending.{least_from_first, all_from_listed}
use Rattle.master_index.proofs.looks.other_among.Goals as goal

pub gives_other-requires-clause-row_within : goal.gives_other-requires-clause-row_within
gives_other-requires-clause-row_within c = c.requires.rows.within c.rows.row-index 0 c.rows-test.true

pub returns-then-gives_other : goal.returns-then-gives_other
returns-then-gives_other c =
    let master = c.args.master.now in
    let rule = c.args.rule.now in
    let gives = λ (row : ℕ). Meets master rule c.args.sought.now row
    × (cell_text master row rule.from ≢ cell_text master c.args.first rule.from) in
    let here = rw c.if-gives_other.true at c.gives_other.ensures in
    let least = least_from_first gives c.args.rows.now (λ row given. c.requires.rows.whole row given.0)
    c.requires.rows.ascending c.rows.row-index c.rows-test.true
    (λ k below given. given.1 (c.rows.invariant k below given.0)) in
    record {
      agrees = here.0;
      differs = here.1;
      least = λ other agrees differs. least other (agrees, differs);
    }

pub returns : goal.returns
returns c =
    let master = c.args.master.now in
    let rule = c.args.rule.now in
    all_from_listed (Meets master rule c.args.sought.now) c.args.rows.now c.requires.rows.whole
    (λ (row : ℕ). cell_text master row rule.from ≡ cell_text master c.args.first rule.from)
    (λ k within. c.rows.invariant k (omega arith))
