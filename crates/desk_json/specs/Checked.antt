-- A value, or the first test of a body that fails.
use Rattle.std.specs.Prelude.{Option, Some, None, Result, Ok, Err}
use Rattle.desk_json.specs.declared.fault.JsonFault.{JsonFault}

-- what is read of a body: a value, or why there is none
abbrev pub Checked : Type 0 → Type 0
Checked A = Result A JsonFault

infixl 10 ◌>>=◌
-- what comes of a value, where the tests before it pass; else why the first of them fails
abbrev pub ◌>>=◌ : {E A B : Type 0} → Result A E → (A → Result B E) → Result B E
Ok value >>= next = next value
Err why >>= next = Err why

-- the value, or this fault where there is none
abbrev pub some_or : {A : Type 0} → JsonFault → Option A → Checked A
some_or fault None = Err fault
some_or fault (Some found) = Ok found
