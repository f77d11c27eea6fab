use Rattle.std.proofs.Common.{rules}
use Rattle.std.proofs.lemmas.List.Sorted.{IsNonDecreasingBy-from_sort_by}
use Rattle.fix_model.specs.Rules.{rule_at}
use Rattle.rule_contradictions.specs.declared.contradiction.Contradiction.{Contradiction}
use Rattle.rule_contradictions.proofs.Sorting.{AreContradictions-sorted}
use Rattle.rule_contradictions.proofs.listing.contradictions.Goals as goal

pub returns : goal.returns
returns c = rw c.from_vec.ensures (AreContradictions-sorted c.args.book.now (rule_at c.args.book.now c.args.rule)
    c.in_ok-found.found.items c.sort_unstable_by.new.self.items c.in_ok-found.ensures
    c.sort_unstable_by.ensures.permutation
    (IsNonDecreasingBy-from_sort_by (λ (it : Contradiction). it.row) _ c.sort_unstable_by.ensures.sorted
    (λ a r q k. search rules)))
