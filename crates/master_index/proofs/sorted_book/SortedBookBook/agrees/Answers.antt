use Rattle.std.proofs.Common.{ap, arith}
use Rattle.desk_base.specs.Counts.{Counts}
use Rattle.fix_model.specs.Rules.{rule_at}
use Rattle.master_index.proofs.Found.{SomeRowAgrees-found}
use Rattle.master_index.proofs.sorted_book.SortedBookBook.agrees.Goals as goal

pub entry_at-requires-clause-part : goal.entry_at-requires-clause-part
entry_at-requires-clause-part g c = rw c.self.view_is c.part.ensures

-- where all keys are covered, some row agrees exactly where an entry is found
pub returns-clause-agrees : goal.returns-clause-agrees
returns-clause-agrees g c =
    let covered = rw (c.rule-this.ensures.rule, c.self.view_is)
    at (c.has_covered_keys.ensures.0 c.if-not-has_covered_keys.false) in
    let found = rw c.self.view_is at c.entry_at.ensures.found in
    rw c.is_some.ensures (SomeRowAgrees-found c.args.self.now c.args.state.now (rule_at c.args.self.now c.args.rule)
    covered c.entry_at.result found)

-- where not all are, the rows are gone through
pub returns-then-not-has_covered_keys : goal.returns-then-not-has_covered_keys
returns-then-not-has_covered_keys g c = record {
  agrees = rw (c.rule-this.ensures.rule, c.self.view_is) at c.some_row_agrees.ensures;
  looks = ap (λ (counts : Counts). counts.looks) c.look.ensures;
  compares = omega (arith, ap (λ (counts : Counts). counts.compares) c.look.ensures);
}
