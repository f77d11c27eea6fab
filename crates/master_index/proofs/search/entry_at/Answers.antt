use Rattle.std.proofs.Common.{ℕ, ◌<◌, ◌≤◌, ◌+◌, ◌-◌, ◌*◌, ◌/◌, ◌∙◌, length, sym, arith}
use Rattle.fix_model.specs.Application.{IsUsable}
use Rattle.fix_model.specs.Comparison.{row_key, sought_key}
use Rattle.fix_model.specs.Rules.{from_text, master_of, rule_at}
use Rattle.fix_model.specs.States.{value_at}
use Rattle.master_index.proofs.Fronts.{IsNarrowed-fronts, IsNonDecreasing-fronts}
use Rattle.master_index.proofs.Grouping.{nothing}
use Rattle.master_index.proofs.Halving.{IsHalved, compares-halved, halves, IsHalved-none, IsHalved-once, IsHit-entry}
use Rattle.master_index.proofs.Halving.{IsMissed-narrowed, IsNarrowed-greater, IsNarrowed-less}
use Rattle.master_index.proofs.Halving.{RisesByDigits-halved}
use Rattle.master_index.proofs.search.entry_at.Given.{Over}
use Rattle.master_index.proofs.search.entry_at.Goals as goal
use Rattle.master_index.proofs.search.entry_at.Goals.{After-compare}

-- the place in the middle of what is left
abbrev middle-at : (g : Over) → After-compare g → ℕ
middle-at g c = c.halves.low + (c.halves.high - c.halves.low) / 2

-- it is one of what is left
middle-within : (g : Over) (c : After-compare g) → middle-at g c < c.halves.high
middle-within g c = omega (arith, halves (c.halves.high - c.halves.low))

-- with one comparison more no more than half is left
halved-once : (g : Over) (c : After-compare g) (rest : ℕ) → 2 * rest ≤ c.halves.high - c.halves.low
    → IsHalved (length c.args.part.now.entries) rest c.args.counts.now c.compare.new.counts
halved-once g c rest few = IsHalved-once (length c.args.part.now.entries) (c.halves.high - c.halves.low) rest
    c.args.counts.now c.halves.counts c.compare.new.counts c.halves.invariant.halved (omega arith) few
    c.compare.ensures.compares

pub equal_range-low-requires : goal.equal_range-low-requires
equal_range-low-requires g c =
    let kit = c.args.kit.now in
    let rule = rule_at kit c.args.rule in
    let part = c.requires.part in
    rw c.as_slice.ensures (IsNonDecreasing-fronts (row_key kit rule) (from_text kit rule) (IsUsable kit rule)
    (length (master_of kit rule).rows) c.args.part.now.entries part.entries c.args.part.now.fronts part.fronts)

pub halves-init : goal.halves-init
halves-init g c =
    let kit = c.args.kit.now in
    let rule = rule_at kit c.args.rule in
    let sought = sought_key kit (value_at kit c.args.state.now) rule in
    let entries = c.args.part.now.entries in
    let part = c.requires.part in
    let front = rw c.rule.ensures.rule at c.sought_front-sought.ensures in
    let range = rw c.as_slice.ensures at c.equal_range-low.ensures in
    record {
      narrowed = IsNarrowed-fronts (row_key kit rule) (from_text kit rule) (IsUsable kit rule)
          (length (master_of kit rule).rows) entries part.entries c.args.part.now.fronts part.fronts sought
          c.sought_front-sought.result c.equal_range-low.result.0 c.equal_range-low.result.1 front range;
      halved = IsHalved-none (length entries) (c.equal_range-low.result.1 - c.equal_range-low.result.0)
          c.args.counts.now (omega (arith, range.within, part.fronts.whole))
          (omega (arith, c.compares-made.ensures, c.compares-made.type_inv));
    }

pub halves-preserved-in-Less : goal.halves-preserved-in-Less
halves-preserved-in-Less g c =
    let kit = c.args.kit.now in
    let rule = rule_at kit c.args.rule in
    let entries = c.args.part.now.entries in
    let tried = (goal.at.halves-preserved-in-Less g c).After-compare in
    let middle = middle-at g tried in
    let less = rw c.as_slice-entries.ensures at (sym c.compare.ensures.order ∙ c.in-Less.is) in
    record {
      narrowed = IsNarrowed-less (row_key kit rule) (from_text kit rule) (IsUsable kit rule)
          (length (master_of kit rule).rows) entries c.requires.part.entries
          (sought_key kit (value_at kit c.args.state.now) rule) c.halves.low c.halves.high middle nothing
          c.halves.invariant.narrowed (omega arith) (middle-within g tried) less;
      halved = halved-once g tried (c.halves.high - (middle + 1))
          (omega (arith, halves (c.halves.high - c.halves.low)));
    }

pub halves-preserved : goal.halves-preserved
halves-preserved g c =
    let kit = c.args.kit.now in
    let rule = rule_at kit c.args.rule in
    let entries = c.args.part.now.entries in
    let tried = (goal.at.halves-preserved g c).After-compare in
    let middle = middle-at g tried in
    let greater = rw c.as_slice-entries.ensures at (sym c.compare.ensures.order ∙ c.in-Greater.is) in
    record {
      narrowed = IsNarrowed-greater (row_key kit rule) (from_text kit rule) (IsUsable kit rule)
          (length (master_of kit rule).rows) entries c.requires.part.entries
          (sought_key kit (value_at kit c.args.state.now) rule) c.halves.low c.halves.high middle nothing
          c.halves.invariant.narrowed (omega arith) (middle-within g tried) greater;
      halved = halved-once g tried (middle - c.halves.low) (omega (arith, halves (c.halves.high - c.halves.low)));
    }

pub returns-in-Equal : goal.returns-in-Equal
returns-in-Equal g c =
    let kit = c.args.kit.now in
    let rule = rule_at kit c.args.rule in
    let entries = c.args.part.now.entries in
    let tried = (goal.at.returns-in-Equal g c).After-compare in
    let middle = middle-at g tried in
    let inside : middle < length entries = omega (arith, middle-within g tried, c.halves.invariant.narrowed.within) in
    let same = rw c.as_slice-entries.ensures at (sym c.compare.ensures.order ∙ c.in-Equal.is) in
    let halved = halved-once g tried (middle - c.halves.low) (omega (arith, halves (c.halves.high - c.halves.low))) in
    rw c.as_slice-entries.ensures (record {
      found = IsHit-entry kit (value_at kit c.args.state.now) rule entries c.requires.part.entries middle nothing
          inside same;
      looks = halved.looks;
      rises = compares-halved (length entries) (middle - c.halves.low) c.args.counts.now
          c.compare.new.counts halved (omega (arith, c.compares-made.ensures, c.compares-made.type_inv));
      digits = RisesByDigits-halved (length entries) _ (middle - c.halves.low) c.args.counts.now
          c.compare.new.counts halved c.requires.part.entries.few;
    })

pub returns : goal.returns
returns g c =
    let kit = c.args.kit.now in
    let rule = rule_at kit c.args.rule in
    let entries = c.args.part.now.entries in
    let left = c.halves.high - c.halves.low in
    let halved = c.halves.invariant.halved in
    record {
      found = IsMissed-narrowed kit (value_at kit c.args.state.now) rule entries c.requires.part.entries c.halves.low
          c.halves.high c.halves.invariant.narrowed c.halves-test.false;
      looks = halved.looks;
      rises = compares-halved (length entries) left c.args.counts.now c.halves.counts halved
          (omega (arith, c.compares-made.ensures, c.compares-made.type_inv));
      digits = RisesByDigits-halved (length entries) _ left c.args.counts.now c.halves.counts halved
          c.requires.part.entries.few;
    }
