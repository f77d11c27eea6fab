-- What the words of `fixdeskd` ask for.
use Rattle.std.specs.Prelude.{ℕ, ◌&&◌, nat_le, List, [], ◌∷◌, Option, Some, None, if◌then◌else◌}
use Rattle.http_cut.specs.Numbers.{positive}
use Rattle.fixdesk_run.specs.declared.plan.Plan.{Plan}

-- a port is at most 65,535, and a count of links at most 1,000,000
abbrev pub planned : Option ℕ → Option ℕ → Option Plan
planned None count = None
planned (Some port) None = None
planned (Some port) (Some count) =
    if nat_le port 65535 && nat_le count 1000000 then Some (record { port = port; count = count }) else None

-- the words, without the program's name, are a port and a count: decimal digits, the first of them not 0
abbrev pub plan_of : List (List ℕ) → Option Plan
plan_of [] = None
plan_of (port ∷ []) = None
plan_of (port ∷ count ∷ []) = planned (positive 5 port) (positive 7 count)
plan_of (port ∷ count ∷ word ∷ others) = None
