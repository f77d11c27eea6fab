-- The clerks' own lists that are read one after another from lines.
use Rattle.std.proofs.Common.{◌≡◌, ℕ, suc, ◌+◌, ◌-◌, ◌<◌, List, [], ◌∷◌, ◌++◌, Some}
use Rattle.std.proofs.Common.{sym}
use Rattle.std.proofs.Common.{arith}
use Rattle.desk_packing.specs.Formats.{Format}
use Rattle.desk_packing.specs.Lines.{Line}
use Rattle.desk_packing.specs.Reading.{list_in, lists_in}
use Rattle.desk_packing.proofs.Items.{following, following-following}

-- a clerk's list stands in front of those of the clerks after
pub lists_in-next : {A : Type 0} (format : Format A) (kind clerks clerk : ℕ) (front : List (List A)) (x : List A)
    (lines rest : List Line) → clerk < clerks → list_in format kind clerk 0 lines ≡ Some (x, rest)
    → following (front ++ x ∷ []) (lists_in format kind (clerk + 1) (clerks - (clerk + 1)) rest)
    ≡ following front (lists_in format kind clerk (clerks - clerk) lines)
lists_in-next format kind clerks clerk front x lines rest within found =
    let one : clerks - clerk ≡ suc (clerks - (clerk + 1)) = omega arith in
    rw one (rw found (sym (following-following front x (lists_in format kind (clerk + 1) (clerks - (clerk + 1)) rest))))
