-- The third test of a request: whether its length is said where it has to be.
use Rattle.std.proofs.Common.{◌≡◌, ℕ, Bool, true, false, Option, Some, None, Result, Ok, Err, refl}
use Rattle.std.specs.Prelude.{◌↔◌, IsTrue}
use Rattle.std.specs.Str.{bytes_eq}
use Rattle.std.proofs.lemmas.Bool.{both_ways, false_from_ne_true}
use Rattle.httparse.specs.Grammar.{RequestHead}
use Rattle.http_cut.specs.declared.fields.BadLength.{BadLength}
use Rattle.http_cut.specs.Head.{head_body}
use Rattle.http_cut.specs.Cut.{SaysLength}
use Rattle.http_cut.specs.Routes.{Match, method_of, route_of}
use Rattle.http_desk.specs.declared.refusal.Refused.{Refused}
use Rattle.http_desk.specs.declared.refusal.Refused.TheVariants as refused
use Rattle.http_desk.specs.Refusals.{asked_of, method_name, wants_length, is_said, says_length}

not_said : (body : Result (Option ℕ) BadLength) → is_said body ≡ true → ¬ (body ≡ Ok None)
not_said (Ok None) said e = cc
not_said (Ok (Some count)) said e = cc
not_said (Err wrong) said e = cc

-- where no field says it, none stands
pub says_no_length : (head : RequestHead) (has : Bool) → has ≡ false → (IsTrue has ↔ SaysLength head) → says_length head
    ≡ false
says_no_length head has silent both =
    false_from_ne_true (says_length head) (λ said. both_ways has silent (both.1 (not_said (head_body head) said)))

pub asked_no_length : (head : RequestHead) (found : Match) → route_of head.target ≡ Some found
    → bytes_eq head.method (method_name (method_of found.0)) ≡ true → wants_length (method_of found.0) ≡ true
    → says_length head ≡ false
    → ◌≡◌ {A = Result Match Refused} (Err refused.NoLength) (asked_of head (route_of head.target))
asked_no_length head found route method wants silent = rw (route, method, wants, silent) refl
