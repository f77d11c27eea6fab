-- What the words of `fixdesk_web` ask for.
use Rattle.std.specs.Prelude.{ℕ, nat_le, List, [], ◌∷◌, Option, Some, None, if◌then◌else◌}
use Rattle.http_cut.specs.Numbers.{positive}
use Rattle.fixdesk_run.specs.declared.plan.Plan.{Plan}
use Rattle.fixdesk_run.specs.Plan.{planned}

-- as many links as a door hands out: 2 ^ 32 - 1
abbrev pub most_links : ℕ
most_links = 4294967295

-- a port is at most 65,535, and as many links are served
abbrev pub endless : Option ℕ → Option Plan
endless None = None
endless (Some port) = if nat_le port 65535 then Some (record { port = port; count = most_links }) else None

-- the words, without the program's name, are a port, or a port and a count: decimal digits, the first of them not 0
abbrev pub web_plan : List (List ℕ) → Option Plan
web_plan [] = None
web_plan (port ∷ []) = endless (positive 5 port)
web_plan (port ∷ count ∷ []) = planned (positive 5 port) (positive 7 count)
web_plan (port ∷ count ∷ word ∷ others) = None
