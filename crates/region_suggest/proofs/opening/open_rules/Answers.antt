use Rattle.std.proofs.Common.{◌≡◌, ◌<◌, ◌+◌, ◌∙◌, [], List, ℕ, ap, subst, sym, length, replicate, arith}
use Rattle.fix_model.specs.Application.{covers_left_side}
use Rattle.fix_model.specs.Rules.{rule_at}
use Rattle.fix_engine.proofs.Turns.{read_rule}
use Rattle.region_suggest.specs.Openings.{AreOpenings}
use Rattle.region_suggest.proofs.Counts.{count_by-next, count_by-rest, looks-next}
use Rattle.region_suggest.proofs.Openings.{AreOpenings-add, AreOpenings-closed, AreOpenings-none, left_side-valid}
use Rattle.region_suggest.proofs.opening.open_rules.Goals as goal
use Rattle.region_suggest.proofs.opening.open_rules.Goals.{then-is_open+in_ok-add, else-is_open}

pub rules-init : goal.rules-init
rules-init g c =
    let none : List ℕ = [] in
    let (users, heads, counts) = c.in_ok-made.ensures in
    record {
      openings = AreOpenings-none (g.B.Book.kit c.args.book.now) c.args.state.now c.in_ok-made.made
          (users ∙ ap (λ n. replicate n none) c.width.ensures.width) heads counts;
      looks = omega arith;
    }

pub add-requires-clause-few : goal.add-requires-clause-few
add-requires-clause-few g c =
    omega (
      arith,
      c.rules.invariant.openings.few,
      c.rules-test.true,
      c.rules-2.ensures.valid.few_rules,
      ap length
          c.rules-2.ensures.rules,
    )

pub rules-preserved : goal.rules-preserved
rules-preserved g c = let kit = g.B.Book.kit c.args.book.now in
    let state = c.args.state.now in
    let place : ℕ = c.rules.place in
    let within : place < length kit.rules = omega (arith, c.rules-test.true, ap length c.rules-2.ensures.rules) in
    let valid = c.rules-2.ensures.valid.rules place _ within in
    let counted = count_by-next (covers_left_side state) kit.rules place
    (record { keys = []; head = 0; from = 0; master = 0; conds = [] }) within in
    elim c.if-is_open.branch [
      | then-is_open+in_ok-add w ↦
          let this = w.index-rules-from.result in
          let is : this ≡ rule_at kit place = read_rule kit w.rules-then-is_open.result.now place w.from.result this
          w.rules-then-is_open.ensures.rules w.from.ensures within w.index-rules-from.is in
          let sides = left_side-valid kit (rule_at kit place) valid in
          record {
            openings = subst (AreOpenings kit state (place + 1)) (sym w.made-is)
                (AreOpenings-add kit state c.rules.made w.add.new.self this place is
                (c.is_open.ensures.open.0 w.if-is_open.true)
                (rw is sides.0) (rw is valid.head) (rw is sides.1) w.in_ok-add.ensures c.rules.invariant.openings);
            looks = looks-next (covers_left_side state (rule_at kit place)) _ _ _ _ _ _ c.rules.invariant.looks
                c.is_open.ensures.looks counted;
          }
      | else-is_open w ↦ record {
        openings = subst (AreOpenings kit state (place + 1)) (sym w.made-is)
            (AreOpenings-closed kit state c.rules.made place
            (λ opened. let told = c.is_open.ensures.open.1 opened in let no = w.if-is_open.false in cc)
            c.rules.invariant.openings);
        looks = looks-next (covers_left_side state (rule_at kit place)) _ _ _ _ _ _ c.rules.invariant.looks
            c.is_open.ensures.looks counted;
      }
    ]

pub returns-in_err-add-clause-looks : goal.returns-in_err-add-clause-looks
returns-in_err-add-clause-looks g c = let kit = g.B.Book.kit c.args.book.now in
    let state = c.args.state.now in
    let place : ℕ = c.rules.place in
    let within : place < length kit.rules = omega (arith, c.rules-test.true, ap length c.rules-2.ensures.rules) in
    let counted = count_by-next (covers_left_side state) kit.rules place
    (record { keys = []; head = 0; from = 0; master = 0; conds = [] }) within in
    let next = looks-next (covers_left_side state (rule_at kit place)) _ _ _ _ _ _ c.rules.invariant.looks
    c.is_open.ensures.looks counted in
    let rest = count_by-rest (covers_left_side state) kit.rules (place + 1) (omega (arith, within)) in
    omega (arith, next, rest)
