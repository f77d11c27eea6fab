use Rattle.std.proofs.Common.{◌≡◌, ◌+◌, ◌∙◌, ◌++◌, ◌∷◌, [], ℕ, List, IsTrue, sym, subst, ap, arith}
use Rattle.region_derive.specs.Derived.{IsDerived, texts_in}
use Rattle.region_derive.specs.Seen.{has_come}
use Rattle.region_derive.proofs.Come.{HaveCome-next, first_here, not_first}
use Rattle.region_derive.proofs.Rows.{AreDerivedBefore, AreDerivedBefore-more, AreDerivedBefore-passed}
use Rattle.region_derive.proofs.Rows.{AreDerivedBefore-whole}
use Rattle.region_derive.proofs.listing.derive.Goals as goal
use Rattle.region_derive.proofs.listing.derive.Goals.{then-is_new+in_ok-promises+then-branch+in_ok-push, else-is_new}
use Rattle.region_derive.proofs.listing.derive.Goals.{else-is_new-via-then-is_new+in_ok-promises+else-branch}
use Rattle.region_derive.proofs.listing.derive.Goals.{else-is_new-via-else-is_new}

pub rows-preserved : goal.rows-preserved
rows-preserved g c =
    let kit = g.B.Book.kit c.args.book.now in
    let grid = c.args.grid.now in
    let attributes = c.args.attributes.now in
    let columns = c.args.columns.now in
    let row : ℕ = c.rows.row in
    let before = c.rows.invariant in
    let texts : c.as_slice.result.now ≡ texts_in grid columns row = c.as_slice.ensures ∙ c.in_ok-texts.ensures in
    let told = rw texts at c.in_ok-is_new.ensures.new in
    let kept = rw texts at c.in_ok-is_new.ensures.kept in
    let come = HaveCome-next grid columns row (has_come c.rows.seen) (has_come c.keep.new.self) before.seen kept in
    let passed = AreDerivedBefore-passed kit grid attributes columns row c.rows.found before.found in
    elim c.if-is_new.branch [
      | then-is_new+in_ok-promises+then-branch+in_ok-push w ↦
          let promised = (rw (w.as_slice-then-is_new.ensures ∙ c.in_ok-texts.ensures)
          at w.in_ok-promises.ensures.promises).0
          w.if-branch.true in
          let derived : IsDerived kit grid attributes columns row = record {
            within = (let few = before.few in omega arith);
            filled = promised.0;
            first = first_here grid columns row (has_come c.rows.seen) (has_come c.keep.new.self) before.seen
                c.in_ok-is_new.is_new told w.if-is_new.true;
            certain = promised.1;
          } in
          record {
            found = subst (AreDerivedBefore kit grid attributes columns (row + 1))
                (sym (w.found-is ∙ w.in_ok-push.ensures.pushed
                ∙ ap (λ (l : List (List ℕ)). c.rows.found ++ (row, l) ∷ []) c.in_ok-texts.ensures))
                (AreDerivedBefore-more kit grid attributes columns row c.rows.found before.found derived);
            seen = come;
            few = before.few;
            looks = rw w.counts-is (omega (arith, before.looks, w.in_ok-promises.ensures.looks));
            size = rw w.work-is (record {
              width = w.in_ok-promises.ensures.size.width ∙ before.size.width;
              rules = w.in_ok-promises.ensures.size.rules ∙ before.size.rules;
            });
          }
      | else-is_new w ↦ elim w.else-is_new.branch [
        | else-is_new-via-then-is_new+in_ok-promises+else-branch w' ↦
            let promises = rw (w'.as_slice-then-is_new.ensures ∙ c.in_ok-texts.ensures)
            at w'.in_ok-promises.ensures.promises in
            let none : ¬ IsDerived kit grid attributes columns row = λ derived.
            let is : IsTrue w'.in_ok-promises.field-0 = promises.1 (derived.filled, derived.certain) in cc in
            record {
              found = subst (AreDerivedBefore kit grid attributes columns (row + 1)) (sym w.found-is) (passed none);
              seen = come;
              few = before.few;
              looks = rw (w.counts-is, w'.counts-is) (omega (arith, before.looks, w'.in_ok-promises.ensures.looks));
              size = rw (w.work-is, w'.work-is) (record {
                width = w'.in_ok-promises.ensures.size.width ∙ before.size.width;
                rules = w'.in_ok-promises.ensures.size.rules ∙ before.size.rules;
              });
            }
        | else-is_new-via-else-is_new w' ↦
            let none : ¬ IsDerived kit grid attributes columns row = not_first grid columns row (has_come c.rows.seen)
            (has_come c.keep.new.self) before.seen kit attributes c.in_ok-is_new.is_new told w'.if-is_new.false in
            record {
              found = subst (AreDerivedBefore kit grid attributes columns (row + 1)) (sym w.found-is) (passed none);
              seen = come;
              few = before.few;
              looks = rw (w.counts-is, w'.counts-is) (omega (arith, before.looks));
              size = rw (w.work-is, w'.work-is) before.size;
            }
      ]
    ]

pub returns-clause-derived : goal.returns-clause-derived
returns-clause-derived g c = AreDerivedBefore-whole (g.B.Book.kit c.args.book.now) c.args.grid.now c.args.attributes.now
    c.args.columns.now c.rows.row c.rows.found c.rows.invariant.found
    (let few = c.rows.invariant.few in omega arith)
