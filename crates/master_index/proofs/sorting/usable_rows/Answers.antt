use Rattle.std.proofs.Common.{◌∙◌, sym, arith}
use Rattle.std.proofs.lemmas.Bool.{false≢true}
use Rattle.fix_model.specs.Application.{IsUsable}
use Rattle.master_index.proofs.RowOrder.{AreUsableBefore-pass, AreUsableBefore-push}
use Rattle.master_index.proofs.sorting.usable_rows.Goals as goal
use Rattle.master_index.proofs.sorting.usable_rows.Goals.{then-is_usable+in_ok-push, else-is_usable}

pub rows-preserved : goal.rows-preserved
rows-preserved c =
    let kit = c.args.kit.now in
    let rule = c.args.rule.now in
    elim c.if-is_usable.branch [
      | then-is_usable+in_ok-push w ↦
          let usable : IsUsable kit rule c.rows.row = rw c.master-master.ensures
          at (c.is_usable.ensures.0 w.if-is_usable.true) in
          rw w.rows-is (rw w.in_ok-push.ensures.items (AreUsableBefore-push kit rule c.rows.row c.rows.rows.items
          c.rows.invariant usable))
      | else-is_usable w ↦
          let unusable : ¬ IsUsable kit rule c.rows.row = λ usable. false≢true (sym w.if-is_usable.false
          ∙ c.is_usable.ensures.1 (rw c.master-master.ensures usable)) in
          rw w.rows-is (AreUsableBefore-pass kit rule c.rows.row c.rows.rows.items c.rows.invariant unusable)
    ]

pub is_usable-requires : goal.is_usable-requires
is_usable-requires c =
    let rows = rw c.master-master.ensures at c.rows-row-end.ensures.rows in
    rw c.master-master.ensures (record {
      row_within = omega (arith, rows, c.rows-test.true);
      keys = c.requires.rule_valid.keys.columns_within;
      from = c.requires.rule_valid.from;
    })

pub returns-clause-whole : goal.returns-clause-whole
returns-clause-whole c = λ row usable.
    let rows = rw c.master-master.ensures at c.rows-row-end.ensures.rows in
    c.rows.invariant.whole row (omega (arith, rows, usable.row_within, c.rows-test.false)) usable
