use Rattle.std.proofs.Common.{◌≡◌, ◌<◌, ◌∙◌, ℕ, true, false, length, take, get_or, ap, sym, arith, length-take}
use Rattle.std.proofs.lemmas.List.{length-map}
use Rattle.std.proofs.lemmas.List.Sums.{count_by-le-length, length-filter}
use Rattle.fix_model.specs.Hit.{covered_among}
use Rattle.fix_model.specs.States.{cell_at, is_covering}
use Rattle.fix_model.proofs.Filters.{fails_with}
use Rattle.fix_model.proofs.Aims.{aims_at-covered, aims_at-uncovered}
use Rattle.fix_model.proofs.rows.Sought.at.Goals as goal
use Rattle.fix_model.proofs.rows.Sought.at.Goals.{then-covers, else-covers}

pub add-requires : goal.add-requires
add-requires c =
    let keys = c.args.rule.now.keys in
    let before = take c.keys.key-index keys in
    let covers = λ (key : ℕ × ℕ). is_covering (cell_at c.args.state.now key.0) in
    let within : c.keys.key-index < length keys = rw c.as_slice-key-items.ensures at c.keys-test.true in
    let count : length c.keys.sought ≡ length (covered_among c.args.state.now before) = ap length c.keys.invariant
    ∙ length-map (covered_among c.args.state.now before) _ in
    omega (
      arith,
      count,
      length-filter covers before,
      count_by-le-length covers before,
      length-take c.keys.key-index
          keys,
      c.requires.rule_valid.keys.few,
    )

pub keys-preserved : goal.keys-preserved
keys-preserved c =
    let kit = c.args.kit.now in
    let state = c.args.state.now in
    let keys = c.args.rule.now.keys in
    let within : c.keys.key-index < length keys = rw c.as_slice-key-items.ensures at c.keys-test.true in
    let key = get_or keys c.keys.key-index (0, 0) in
    elim c.if-covers.branch [
      | then-covers w ↦
          let covered : is_covering (cell_at state key.0)
          ≡ true = rw c.as_slice-key-items.ensures at (c.covers.ensures.0 w.if-covers.true) in
          let added = rw (
            w.value-text.ensures.text,
            w.folds.ensures,
            c.as_slice-key-items.ensures,
            c.keys.invariant,
          ) at w.add.ensures in
          w.sought-is ∙ added ∙ sym (aims_at-covered kit state keys c.keys.key-index within covered)
      | else-covers w ↦
          let open_ : is_covering (cell_at state key.0)
          ≡ false = rw c.as_slice-key-items.ensures at (fails_with _ _ c.covers.ensures.1 w.if-covers.false) in
          w.sought-is ∙ c.keys.invariant ∙ sym (aims_at-uncovered kit state keys c.keys.key-index within open_)
    ]
