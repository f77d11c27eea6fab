use Rattle.std.proofs.Common.{◌≡◌, ◌<◌, All, length}
use Rattle.machine_core.specs.Clerk.Enter.{typed_over}
use Rattle.machine_clerk.proofs.clerk.enter.type_over.Given as goal

-- the texts with the cells left typed over them are the texts with all typed over
abbrev pub invariant-cells : goal.invariant-cells
invariant-cells l = record {
  typed : typed_over l.texts l.place-iterator.rest.items ≡ typed_over l.initial.texts l.fn.cells;
  within : All (λ cell. cell.0 < length l.texts) l.place-iterator.rest.items;
}
