-- The limit that words say is 1 at least, and the numbers of `make` are within their bounds.
use Rattle.std.proofs.Common.{◌≡◌, ℕ, ◌≤◌, ◌<◌, ◌^◌, Bool, true, false, List, [], ◌∷◌, Option, Some, None, lit≤}
use Rattle.std.proofs.Common.{refl, arith}
use Rattle.std.specs.Prelude.{◌&&◌, nat_le, nat_lt, if◌then◌else◌, codes}
use Rattle.std.specs.Str.{bytes_eq}
use Rattle.std.proofs.lemmas.Bool.Decides.{nat_tests}
use Rattle.http_cut.specs.Numbers.{positive}
use Rattle.http_desk.proofs.Numbered.{positive-bounds}
use Rattle.fixdesk_run.specs.declared.task.Task.{Task}
use Rattle.fixdesk_run.specs.declared.task.Task.TheVariants.{Once, Pipe, Report, Make}
use Rattle.fixdesk_run.specs.Task.{IsLimited, alone, limited, made_from, make_of, pipe_of, start_of, task_of}

-- what holds of both choices holds of the one that is made
either : (test : Bool) (one other : Option Task) → IsLimited one → IsLimited other
    → IsLimited (if test then one else other)
either true one other is also = is
either false one other is also = also

-- a limit from 1 on
of_limit : (found : Option ℕ) → ((limit : ℕ) → found ≡ Some limit → 1 ≤ limit) → IsLimited (limited found)
of_limit None least = tt
of_limit (Some limit) least = either (nat_le limit 1000000) (Some (Pipe limit)) None (least limit refl) tt

-- one that digits write
of_digits : (digits : List ℕ) → IsLimited (limited (positive 7 digits))
of_digits digits = of_limit (positive 7 digits) (λ limit is. (positive-bounds 7 digits limit is).0)

-- the one of the words after `pipe`
of_pipe : (words : List (List ℕ)) → IsLimited (pipe_of words)
of_pipe [] = lit≤ tt
of_pipe (option ∷ []) = tt
of_pipe (option ∷ digits ∷ []) =
    either (bytes_eq option (codes "--limit")) (limited (positive 7 digits)) None (of_digits digits) tt
of_pipe (option ∷ digits ∷ word ∷ others) = tt

-- two numbers that pass their tests
within : (sessions start : ℕ) → (nat_le sessions 5000 && nat_lt start (2 ^ 31)) ≡ true
    → (sessions ≤ 5000) × (start < 2 ^ 31)
within sessions start is = grind (arith, nat_tests)

-- the numbers of `make`
of_both : (sessions start : ℕ) (test : Bool) → (nat_le sessions 5000 && nat_lt start (2 ^ 31)) ≡ test
    → IsLimited (if test then Some (Make sessions start) else None)
of_both sessions start true is = within sessions start is
of_both sessions start false is = tt

of_numbers : (sessions start : Option ℕ) → IsLimited (made_from sessions start)
of_numbers None start = tt
of_numbers (Some sessions) None = tt
of_numbers (Some sessions) (Some start) = of_both sessions start _ refl

-- those of the words after it
of_make : (words : List (List ℕ)) → IsLimited (make_of words)
of_make [] = tt
of_make (sessions ∷ []) = tt
of_make (sessions ∷ start ∷ []) = of_numbers (positive 4 sessions) (start_of start)
of_make (sessions ∷ start ∷ word ∷ others) = tt

-- a task that no further word changes
of_alone : (task : Task) (words : List (List ℕ)) → IsLimited (Some task) → IsLimited (alone task words)
of_alone task [] is = is
of_alone task (word ∷ others) is = tt

-- the one of all words
pub IsLimited-task_of : (words : List (List ℕ)) → IsLimited (task_of words)
IsLimited-task_of [] = tt
IsLimited-task_of (word ∷ others) =
    either (bytes_eq word (codes "once")) (alone Once others) _ (of_alone Once others tt)
    (either (bytes_eq word (codes "pipe")) (pipe_of others) _ (of_pipe others)
    (either (bytes_eq word (codes "report")) (alone Report others) _ (of_alone Report others tt)
    (either (bytes_eq word (codes "make")) (make_of others) None (of_make others) tt)))
