use Rattle.std.proofs.Common.{◌∙◌, [], ◌∷◌, ◌++◌, map, ap, sym}
use Rattle.std.specs.List.{range_with_len}
use Rattle.fix_model.proofs.Ranges.{map-range-suc}
use Rattle.machine_core.specs.Shelves.{bound_on}
use Rattle.machine_core.specs.Views.{view_cell}
use Rattle.machine_views.proofs.views.view_cells.Goals as goal

pub attributes-preserved : goal.attributes-preserved
attributes-preserved c =
    let shown = view_cell (bound_on c.args.shelved.now) c.args.state.now in
    let place = c.attributes.attribute in
    let cell = c.in_ok-view_cell.field-0 in
    c.in_ok-push.ensures.pushed ∙ ap (λ cells. cells ++ cell ∷ []) c.attributes.invariant
    ∙ ap (λ one. map shown (range_with_len 0 place) ++ one ∷ []) c.in_ok-view_cell.ensures
    ∙ sym (map-range-suc shown place)
