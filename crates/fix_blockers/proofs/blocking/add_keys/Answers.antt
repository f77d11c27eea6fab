use Rattle.std.proofs.Common.{◌≡◌, ◌<◌, ◌++◌, ◌∷◌, ◌∙◌, [], ℕ, length, get_or}
use Rattle.std.proofs.lemmas.List.{get_or_default}
use Rattle.fix_blockers.specs.Blockers.{is_uncovered}
use Rattle.fix_blockers.proofs.Adding.{filter_next-fails, filter_next-passes, grows, stays}
use Rattle.fix_blockers.proofs.Covered.{is_uncovered-told, is_uncovered-untold}
use Rattle.fix_blockers.proofs.blocking.add_keys.Goals as goal
use Rattle.fix_blockers.proofs.blocking.add_keys.Goals.{then-not-covers+in_ok-push, else-not-covers}

pub keys-preserved : goal.keys-preserved
keys-preserved c =
    let keys = c.args.rule.now.keys in
    let test = is_uncovered c.args.state.now in
    let place : ℕ = c.keys.key-index in
    let key = get_or keys place (0, 0) in
    let within : place < length keys = rw c.as_slice-key-items.ensures at c.keys-test.true in
    let told = rw c.as_slice-key-items.ensures at c.covers.ensures in
    let number = λ (key : ℕ × ℕ). key.0 in
    let is : key ≡ get_or keys place key = get_or_default keys place (0, 0) key within in
    elim c.if-not-covers.branch [
      | then-not-covers+in_ok-push w ↦
          let pushed : c.if-not-covers.unknown ≡ c.keys.unknown ++ key.0 ∷ [] =
          w.unknown-is ∙ rw c.as_slice-key-items.ensures at w.in_ok-push.ensures.pushed in
          grows c.args.unknown.now _ _ _ _ key.0 c.keys.invariant (filter_next-passes number keys place key within is
          test (is_uncovered-untold c.args.state.now key.0 c.covers.result told.1 w.if-not-covers.true)) pushed
      | else-not-covers w ↦ stays c.args.unknown.now _ _ _ _ c.keys.invariant (filter_next-fails number keys place key
          within is test (is_uncovered-told c.args.state.now key.0 c.covers.result told.0 w.if-not-covers.false))
          w.unknown-is
    ]
