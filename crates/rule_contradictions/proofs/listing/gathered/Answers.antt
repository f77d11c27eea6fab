use Rattle.std.proofs.Common.{◌≡◌, ◌∙◌, ◌+◌, ◌++◌, ◌∷◌, [], ℕ, Option, ap, get_or, subst, sym, arith}
use Rattle.std.proofs.Common.{Vec, Global}
use Rattle.fix_model.specs.Rules.{rule_at}
use Rattle.master_index.proofs.Grouping.{nothing}
use Rattle.rule_contradictions.specs.declared.contradiction.Contradiction.{Contradiction}
use Rattle.rule_contradictions.proofs.Told.{AreGathered-told, AreToldBefore, AreToldBefore-more, AreToldBefore-passed}
use Rattle.rule_contradictions.proofs.Told.{entry_of, first-fresh}
use Rattle.rule_contradictions.proofs.listing.gathered.Goals as goal
use Rattle.rule_contradictions.proofs.listing.gathered.Goals.{in-Some+in_ok-push, in_default}

pub entries-preserved : goal.entries-preserved
entries-preserved c =
    let kit = c.args.book.now in
    let rule = rule_at kit c.args.rule in
    let entries = c.entries-entry-items.result.now in
    let place : ℕ = c.entries.entry-index in
    let entry = get_or entries place nothing in
    elim c.match-entry.branch [
      | in-Some+in_ok-push w ↦
          let it : Contradiction = record { row = entry.first; other_row = w.in-Some.other_row } in
          let is : entry ≡ entry_of it =
          ap (λ (other : Option ℕ). record { first = entry.first; other = other }) w.in-Some.is in
          let pushed : c.match-entry.found.items ≡ c.entries.found.items ++ it ∷ [] =
          ap (λ (v : Vec Contradiction Global). v.items) w.found-is ∙ w.in_ok-push.ensures.items in
          subst (AreToldBefore entries (place + 1)) (sym pushed)
          (AreToldBefore-more entries place c.entries.found.items c.entries.invariant it is
          (first-fresh kit rule entries c.entries-entry-items.ensures place c.entries-test.true))
      | in_default w ↦ subst (AreToldBefore entries (place + 1))
          (sym (ap (λ (v : Vec Contradiction Global). v.items) w.found-is))
          (AreToldBefore-passed entries place c.entries.found.items c.entries.invariant w.in_default.is)
    ]

pub returns : goal.returns
returns c =
    AreGathered-told c.args.book.now (rule_at c.args.book.now c.args.rule) c.entries-entry-items.result.now
    c.entries-entry-items.ensures c.entries.entry-index c.entries.found.items
    (omega (arith, c.entries-test.false, c.entries.auto.entry-index-end)) c.entries.invariant
