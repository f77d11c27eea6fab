-- What a look finds where all keys are covered, and whether some row agrees.
use Rattle.std.proofs.Common.{refl}
use Rattle.std.specs.Prelude.{◌↔◌, All, IsTrue, Option, Some, None, is_some}
use Rattle.fix_model.specs.declared.book.Hit.{Hit}
use Rattle.fix_model.specs.declared.kit.Kit.{Kit}
use Rattle.fix_model.specs.declared.rule.Rule.{Rule}
use Rattle.fix_model.specs.declared.state.State.{State}
use Rattle.fix_model.specs.Hit.{IsFound, SomeRowAgrees}
use Rattle.fix_model.specs.States.{IsCovered, value_at}
use Rattle.fix_model.proofs.Hits.{covered_keys-all}

-- where all keys are covered, some row agrees exactly where a look finds one
pub SomeRowAgrees-found : (kit : Kit) (state : State) (rule : Rule) → All (λ key. IsCovered state key.0) rule.keys
    → (answer : Option Hit) → IsFound kit (value_at kit state) rule answer
    → IsTrue (is_some answer) ↔ SomeRowAgrees kit state rule
SomeRowAgrees-found kit state rule covered None none = (
  λ never. absurd (let e = never in cc),
  λ some. absurd (none some.0 (rw (covered_keys-all state rule covered) at some.1)),
)
SomeRowAgrees-found kit state rule covered (Some hit) is = (
  λ told. (hit.first, rw (covered_keys-all state rule covered) is.first.agrees),
  λ some. refl,
)
