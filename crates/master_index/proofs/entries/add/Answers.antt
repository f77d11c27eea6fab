use Rattle.std.proofs.Common.{◌≡◌, ◌-◌, ◌∷◌, ◌++◌, ◌∙◌, [], length, get_or, set, sym}
use Rattle.std.specs.Prelude.{None}
use Rattle.std.proofs.lemmas.Bool.{false≢true}
use Rattle.std.proofs.lemmas.Result.{on_ok_weaker}
use Rattle.fix_model.specs.declared.book.Hit.{Hit}
use Rattle.fix_model.specs.Comparison.{row_key}
use Rattle.fix_model.specs.Rules.{from_text}
use Rattle.master_index.specs.Sorted.{EndsWithKey, IsGrown}
use Rattle.master_index.proofs.Grouping.{AreEntries-grown, AreEntries-own, ahead-other_key}
use Rattle.master_index.proofs.Grouping.{following-not_before, nothing}
use Rattle.master_index.proofs.Grouping.{not_before-sorted}
use Rattle.master_index.proofs.entries.add.Goals as goal

pub returns-then-not-ends_with_key : goal.returns-then-not-ends_with_key
returns-then-not-ends_with_key c =
    let key = row_key c.args.kit.now c.args.rule.now in
    let text = from_text c.args.kit.now c.args.rule.now in
    let rows = c.args.rows.now in
    let entries = c.args.entries.now in
    let not_before = not_before-sorted key rows c.requires.rows.sorted c.args.place c.requires.place_within in
    let other_key : ¬ EndsWithKey key entries (get_or rows c.args.place 0) = λ ends.
    false≢true (sym c.if-not-ends_with_key.true ∙ c.ends_with_key.ensures.1 (rw c.as_slice.ensures ends)) in
    let ahead = ahead-other_key key text rows c.args.place entries c.requires.before not_before other_key in
    let own : Hit = record { first = get_or rows c.args.place 0; other = None } in
    on_ok_weaker c.push.result (λ (pushed : c.push.new.self ≡ entries ++ own ∷ []). rw pushed
    (AreEntries-own key text rows c.args.place entries c.requires.before ahead)) c.push.ensures.pushed

pub returns : goal.returns
returns c =
    let key = row_key c.args.kit.now c.args.rule.now in
    let text = from_text c.args.kit.now c.args.rule.now in
    let rows = c.args.rows.now in
    let entries = c.args.entries.now in
    let row = get_or rows c.args.place 0 in
    let ends : EndsWithKey key entries row = rw c.as_slice.ensures
    at (c.ends_with_key.ensures.0 c.if-not-ends_with_key.false) in
    let not_before = not_before-sorted key rows c.requires.rows.sorted c.args.place c.requires.place_within in
    let grows : IsGrown text (get_or entries (length entries - 1) nothing) row
    c.with_row-grown.result = rw (c.as_slice-2.ensures, c.len-end.ensures) at c.with_row-grown.ensures in
    let changed : c.set.new.self ≡ set entries (length entries - 1) c.with_row-grown.result = rw c.len-end.ensures
    at c.set.ensures in
    rw changed (AreEntries-grown key text rows c.args.place entries c.requires.before
    (λ other stands same. following-not_before key row other (not_before other stands) same) nothing ends.0 ends.1
    c.with_row-grown.result grows)
