-- What a step that found something found on the way.
use Rattle.std.proofs.Common.{◌≡◌, Bool, true, false, Some, None, Option, refl, ap}
use Rattle.std.specs.Prelude.{option_and_then, if◌then◌else◌}

-- a step that found something was taken on something
pub and_then-some : {A B : Type 0} (next : A → Option B) (found : Option A) (y : B)
    → option_and_then next found ≡ Some y → (x : A) × (found ≡ Some x) × (next x ≡ Some y)
and_then-some next None y e = absurd cc
and_then-some next (Some x) y e = (x, refl, e)

-- what is found where a test passes is found only there
pub if-found : {A : Type 0} (test : Bool) (found : Option A) (y : A) → (if test then found else None) ≡ Some y
    → (test ≡ true) × (found ≡ Some y)
if-found true found y e = (refl, e)
if-found false found y e = absurd cc

-- so is a value
pub if-some : {A : Type 0} (test : Bool) (x y : A) → (if test then Some x else None) ≡ Some y
    → (test ≡ true) × (x ≡ y)
if-some true x y e = (refl, cc)
if-some false x y e = absurd cc

-- two pairs that are found are the same in each part
pub some-pair : {A B : Type 0} (a x : A) (b y : B) → ◌≡◌ {A = Option (A × B)} (Some (a, b)) (Some (x, y))
    → (a ≡ x) × (b ≡ y)
some-pair {A} {B} a x b y e =
    let same : ◌≡◌ {A = A × B} (a, b) (x, y) = cc in
    (ap (λ (p : A × B). p.0) same, ap (λ (p : A × B). p.1) same)

-- so are two that are equal
pub pair-parts : {A B : Type 0} (a x : A) (b y : B) → ◌≡◌ {A = A × B} (a, b) (x, y) → (a ≡ x) × (b ≡ y)
pair-parts {A} {B} a x b y e = (ap (λ (p : A × B). p.0) e, ap (λ (p : A × B). p.1) e)
