-- What is known of sessions is true, and stays so.
use Rattle.std.proofs.Common.{◌≡◌, ℕ, Some}
use Rattle.std.specs.Prelude.{nat_eq}
use Rattle.std.specs.HashMap.{get}
use Rattle.std.proofs.lemmas.Option.{IfSome_then}
use Rattle.desk_words.specs.Tables.{Published}
use Rattle.desk_valid.specs.Bindings.{bound_at}
use Rattle.desk_valid.specs.declared.bound.Bound.{Bound}
use Rattle.fix_model.specs.declared.state.State.{State}
use Rattle.machine_workplace.specs.Upshots.{AreTrue, IsUpshot}
use Rattle.machine_workplace.specs.declared.upshots.Upshot.{Upshot}
use Rattle.machine_workplace.specs.declared.upshots.Upshots.{Upshots}

-- what the rules of an edition make of a state stays where the edition stays what it is
IsUpshot-later : (published later : Published) (edition : ℕ) (state : State) (upshot : Upshot)
    → ((bound : Bound) → bound_at published edition ≡ Some bound → bound_at later edition ≡ Some bound)
    → IsUpshot published edition state upshot → IsUpshot later edition state upshot
IsUpshot-later published later edition state upshot stays is = record {
  bound = is.bound;
  is_bound = stays is.bound is.is_bound;
  answer = is.answer;
  is_answer = is.is_answer;
  verdict = is.verdict;
  cells = is.cells;
  few = is.few;
}

-- and so notes stay true
pub AreTrue-later : (published later : Published) (upshots : Upshots)
    → ((edition : ℕ) (bound : Bound) → bound_at published edition ≡ Some bound
    → bound_at later edition ≡ Some bound) → AreTrue published upshots → AreTrue later upshots
AreTrue-later published later upshots stays are key =
    IfSome_then (get nat_eq upshots.noted key) (are key)
    (λ noted note. IsUpshot-later published later noted.edition _ noted.upshot (stays noted.edition) note)
