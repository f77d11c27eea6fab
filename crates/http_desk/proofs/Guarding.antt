-- Texts that begin with a name, and fields that are gone through.
use Rattle.std.proofs.Common.{◌≡◌, ℕ, List, ◌++◌, ap}
use Rattle.std.specs.Str.{bytes_eq}
use Rattle.std.proofs.lemmas.Bool.Decides.{same_from_decides}
use Rattle.std.proofs.lemmas.List.{append_cancel_left}
use Rattle.std.proofs.lemmas.Slice.Eq.{bytes_eq-Decides}

-- texts that begin alike are equal where their rests are
pub bytes_eq-rest : (front rest other : List ℕ) → bytes_eq rest other ≡ bytes_eq (front ++ rest) (front ++ other)
bytes_eq-rest front rest other =
    same_from_decides (bytes_eq rest other) (bytes_eq (front ++ rest) (front ++ other)) (bytes_eq-Decides rest other) (
      λ is. append_cancel_left front rest other ((bytes_eq-Decides (front ++ rest) (front ++ other)).0 is),
      λ same. (bytes_eq-Decides (front ++ rest) (front ++ other)).1 (ap (λ (text : List ℕ). front ++ text) same),
    )
