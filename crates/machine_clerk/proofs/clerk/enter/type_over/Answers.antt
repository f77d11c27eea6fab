use Rattle.std.proofs.Common.{◌≡◌, ◌∙◌, ◌<◌, All, ap, length, length-set, subst, sym}
use Rattle.std.proofs.lemmas.List.Elements.{All-head, All-tail}
use Rattle.machine_core.specs.Clerk.Enter.{typed_over}
use Rattle.machine_clerk.proofs.clerk.enter.type_over.Goals as goal

pub set-requires : goal.set-requires
set-requires c =
    let within = subst (λ cells. All (λ cell. cell.0 < length c.cells.texts) cells) c.in-Some.ensures.steps.0
    c.cells.invariant.within in
    All-head (λ cell. cell.0 < length c.cells.texts) (c.in-Some.place, c.in-Some.text) c.next.new.self.rest.items within

pub cells-preserved : goal.cells-preserved
cells-preserved c =
    let left = c.next.new.self.rest.items in
    let within = subst (λ cells. All (λ cell. cell.0 < length c.cells.texts) cells) c.in-Some.ensures.steps.0
    c.cells.invariant.within in
    let whole : length c.set.new.self ≡ length c.cells.texts =
    ap length c.set.ensures ∙ length-set c.cells.texts c.in-Some.place c.in-Some.text in
    record {
      typed = ap (λ texts. typed_over texts left) c.set.ensures
          ∙ ap (typed_over c.cells.texts) (sym c.in-Some.ensures.steps.0) ∙ c.cells.invariant.typed;
      within = subst (λ count. All (λ cell. cell.0 < count) left) (sym whole)
          (All-tail (λ cell. cell.0 < length c.cells.texts) (c.in-Some.place, c.in-Some.text) left within);
    }
