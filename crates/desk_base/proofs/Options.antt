-- Values that may not be there.
use Rattle.std.proofs.Common.{◌≡◌, false, Option, Some, None, refl}
use Rattle.std.specs.Prelude.{is_some, option_map}
use Rattle.std.specs.Borrow.{Bor}
use Rattle.std.specs.Option.{option_copied, option_or}

-- where there is none of two, there is neither
pub option_or-None : {A : Type 0} (first later : Option A) → option_or first later ≡ None
    → (first ≡ None) × (later ≡ None)
option_or-None None later none = (refl, none)
option_or-None (Some value) later none = absurd cc

-- a value that was made was made from one that was there
pub option_map-Some : {A B : Type 0} (make : A → B) (found : Option A) (made : B) → option_map make found ≡ Some made
    → (value : A) × (found ≡ Some value) × (make value ≡ made)
option_map-Some make None made is = absurd cc
option_map-Some make (Some value) made is = (value, refl, cc)

-- a reference is there where what it points to is
pub is_some-copied : {A : Type 0} (found : Option (Bor A)) → is_some (option_copied found) ≡ is_some found
is_some-copied None = refl
is_some-copied (Some value) = refl

-- where the test for a value fails, there is none
pub None-from_is_some : {A : Type 0} (found : Option A) → is_some found ≡ false → found ≡ None
None-from_is_some None absent = refl
None-from_is_some (Some value) absent = absurd cc
