-- What the words of the command line ask for.
use Rattle.std.specs.Prelude.{ℕ, ◌≤◌, ◌<◌, ◌^◌, ◌&&◌, nat_le, nat_lt, ⊤, List, [], ◌∷◌, Option, Some, None}
use Rattle.std.specs.Prelude.{if◌then◌else◌, codes}
use Rattle.std.specs.Str.{bytes_eq}
use Rattle.http_cut.specs.Numbers.{positive}
use Rattle.fixdesk_run.specs.declared.task.Task.{Task}
use Rattle.fixdesk_run.specs.declared.task.Task.TheVariants.{Once, Pipe, Report, Make}

-- after the word stands no other
abbrev pub alone : Task → List (List ℕ) → Option Task
alone task [] = Some task
alone task (word ∷ others) = None

-- a limit is at most 1,000,000
abbrev pub limited : Option ℕ → Option Task
limited None = None
limited (Some limit) = if nat_le limit 1000000 then Some (Pipe limit) else None

-- after `pipe` stands nothing, and the limit is 100,000; or `--limit` with decimal digits that do not begin with 0
abbrev pub pipe_of : List (List ℕ) → Option Task
pipe_of [] = Some (Pipe 100000)
pipe_of (option ∷ []) = None
pipe_of (option ∷ digits ∷ []) = if bytes_eq option (codes "--limit") then limited (positive 7 digits) else None
pipe_of (option ∷ digits ∷ word ∷ others) = None

-- a start: `0`, or decimal digits that do not begin with 0
abbrev pub start_of : List ℕ → Option ℕ
start_of digits = if bytes_eq digits (codes "0") then Some 0 else positive 10 digits

-- at most 5,000 sessions are opened, by draws from a start below 2 ^ 31
abbrev pub made_from : Option ℕ → Option ℕ → Option Task
made_from None start = None
made_from (Some sessions) None = None
made_from (Some sessions) (Some start) =
    if nat_le sessions 5000 && nat_lt start (2 ^ 31) then Some (Make sessions start) else None

-- after `make` stand how many sessions, in decimal digits that do not begin with 0, and a start
abbrev pub make_of : List (List ℕ) → Option Task
make_of [] = None
make_of (sessions ∷ []) = None
make_of (sessions ∷ start ∷ []) = made_from (positive 4 sessions) (start_of start)
make_of (sessions ∷ start ∷ word ∷ others) = None

-- the task of the words, without the program's name: the first says which, and none is where they are no command
abbrev pub task_of : List (List ℕ) → Option Task
task_of [] = None
task_of (word ∷ others) =
    if bytes_eq word (codes "once") then alone Once others
    else if bytes_eq word (codes "pipe") then pipe_of others
    else if bytes_eq word (codes "report") then alone Report others
    else if bytes_eq word (codes "make") then make_of others
    else None

-- a limit is 1 at least; and at most 5,000 sessions are opened, by draws from a start below 2 ^ 31
abbrev pub IsLimited : Option Task → Type 0
IsLimited None = ⊤
IsLimited (Some Once) = ⊤
IsLimited (Some (Pipe limit)) = 1 ≤ limit
IsLimited (Some Report) = ⊤
IsLimited (Some (Make sessions start)) = (sessions ≤ 5000) × (start < 2 ^ 31)
