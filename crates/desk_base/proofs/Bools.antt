-- What tests tell.
use Rattle.std.proofs.Common.{◌≡◌, Bool, true, false, IsTrue, refl}
use Rattle.std.specs.Prelude.{◌||◌}
use Rattle.std.specs.Ordering.{is_eq}
use Rattle.std.specs.declared.cmp.Ordering.{Ordering}
use Rattle.std.specs.declared.cmp.Ordering.TheVariants.{Less, Equal, Greater}

-- one of two tests passes where the second does
pub or-second : (one other : Bool) → IsTrue other → IsTrue (one || other)
or-second true other is = refl
or-second false other is = is

-- an order that passes the test for equal is equal
pub is_eq-true : (order : Ordering) → is_eq order ≡ true → order ≡ Equal
is_eq-true Less told = absurd cc
is_eq-true Equal told = refl
is_eq-true Greater told = absurd cc
