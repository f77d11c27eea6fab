use Rattle.std.proofs.Common.{◌∙◌, arith, length, refl, subst, sym}
use Rattle.std.proofs.lemmas.Option.{same_Some}
use Rattle.std.proofs.lemmas.Result.{IfOk-weaker}
use Rattle.desk_valid.specs.declared.reading.Rules.{Rules}
use Rattle.desk_words.specs.declared.limit.Which.TheVariants as which
use Rattle.desk_words.specs.Tables.{published_of, rows_of}
use Rattle.rule_text.specs.Binding.{AreFolded}
use Rattle.machine_core.specs.Outcomes.{Finds}
use Rattle.machine_core.specs.Steward.AddEdition.{HasParts, bound_row, edition_row, in_order, next_edition}
use Rattle.machine_core.proofs.EditionRows.{edition-tested}
use Rattle.machine_core.proofs.InOrder.{AreFolded-in_order}
use Rattle.machine_core.proofs.Stopping.{Finds-same}
use Rattle.machine_core.proofs.Tested.{within-ok}
use Rattle.machine_core.proofs.steward.add_edition.edition_row.Goals as goal

pub bound_row-requires-clause-folded : goal.bound_row-requires-clause-folded
bound_row-requires-clause-folded c = rw (c.in_ok-row.ensures, c.in_ok-folded.ensures, c.len-2.ensures)
    (AreFolded-in_order c.in_ok-rules.rules.schema c.as_slice-3.result.now)

pub returns-clause-row : goal.returns-clause-row
returns-clause-row c =
    let published = published_of (rows_of c.args.tables.now) in
    let book = rw c.as_slice.ensures at c.in_ok-book.ensures.finds in
    let attributes = rw c.as_slice-2.ensures at c.in_ok-attributes.ensures.finds in
    let few = rw c.len.ensures at c.in_ok-within-2.ensures.finds in
    let row = rw (c.in_ok-folded.ensures, c.as_slice-3.ensures, c.len-2.ensures) at c.in_ok-row.ensures in
    let next = next_edition published.editions c.args.name.now c.in_ok-book.book c.in_ok-places.places
    (in_order c.in_ok-attributes.attributes (length c.in_ok-rules.rules.schema.attributes)) in
    let binds = subst (λ one. Finds c.bound_row.result (bound_row published one)) row c.bound_row.ensures.binds in
    Finds-same (bound_row published next) (edition_row published c.args.name.now
    c.args.rulebook.now c.args.masters.now c.args.folded.now) c.bound_row.result
    (sym (edition-tested published c.args.name.now c.args.rulebook.now c.args.masters.now c.args.folded.now
    c.in_ok-book.book c.in_ok-rules.rules c.in_ok-attributes.attributes c.in_ok-places.places
    c.in_ok-proper_name.ensures.finds book c.in_ok-rules.ensures.rules attributes c.in_ok-within.ensures.finds
    c.in_ok-places.ensures.finds few))
    binds

pub returns-clause-parts : goal.returns-clause-parts
returns-clause-parts c =
    let published = published_of (rows_of c.args.tables.now) in
    let row = rw (c.in_ok-folded.ensures, c.as_slice-3.ensures, c.len-2.ensures) at c.in_ok-row.ensures in
    let schema = c.in_ok-rules.rules.schema in
    let folded = in_order c.in_ok-attributes.attributes (length schema.attributes) in
    let whole = subst (HasParts published) (sym row) (record {
      rulebook = rw c.as_slice.ensures at c.in_ok-book.ensures.within;
      masters = c.in_ok-places.ensures.others;
      few = omega (
        arith,
        c.in_ok-places.ensures.each,
        within-ok which.EditionMasters (length c.args.masters.now) tt (rw c.in_ok-within.ensures.finds refl),
      );
      folded = λ rules read. subst (λ (one : Rules). AreFolded one.schema folded)
          (same_Some c.in_ok-rules.rules rules (sym c.in_ok-rules.ensures.rules ∙ read))
          (AreFolded-in_order schema c.in_ok-attributes.attributes);
    }) in
    IfOk-weaker c.bound_row.result _ (HasParts published) (λ bound same. subst (HasParts published) (sym same) whole)
    c.bound_row.ensures.same
