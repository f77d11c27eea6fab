use Rattle.std.proofs.Common.{rules, arith}
use Rattle.std.specs.Ordering.{is_lt}
use Rattle.std.proofs.lemmas.Fn.{always_returns_same}
use Rattle.std.proofs.lemmas.List.Sorted.{All-permutation, Contains-permutation, length_permutation}
use Rattle.fix_model.specs.Application.{IsUsable}
use Rattle.fix_model.specs.Comparison.{row_key}
use Rattle.master_index.specs.Sorted.{row_order}
use Rattle.master_index.proofs.Grouping.{row_order-ranks}
use Rattle.master_index.proofs.sorting.sorted_by_fronts.Goals as goal

pub returns : goal.returns
returns c =
    let key = row_key c.args.kit.now c.args.rule.now in
    let moved = c.sort_unstable_by.ensures.permutation in
    record {
      usable = All-permutation (IsUsable c.args.kit.now c.args.rule.now) _ _ moved c.in_ok-rows.ensures.usable;
      whole = λ row is. Contains-permutation _ _ row moved (c.in_ok-rows.ensures.whole row is);
      sorted = c.sort_unstable_by.ensures.sorted (λ one other. is_lt (row_order key one other)) (row_order-ranks key)
          (always_returns_same _ _ _ (λ a r next called. search rules));
      few = omega (arith, length_permutation _ _ moved, c.in_ok-rows.ensures.few);
    }
