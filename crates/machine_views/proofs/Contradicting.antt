-- The contradictions of a rule by names.
use Rattle.std.proofs.Common.{◌≡◌, ◌<◌, ℕ, List, Some, get_or, length}
use Rattle.std.specs.Prelude.{All, Ok, Result}
use Rattle.std.proofs.lemmas.List.Elements.{Contains-get_or}
use Rattle.desk_words.specs.Tables.{Published}
use Rattle.desk_valid.specs.declared.bound.Bound.{Bound}
use Rattle.desk_valid.specs.Bindings.{bound_at}
use Rattle.fix_model.specs.declared.kit.Kit.{Kit}
use Rattle.fix_model.specs.Rules.{rule_at}
use Rattle.rule_contradictions.specs.declared.contradiction.Contradiction.{Contradiction}
use Rattle.rule_contradictions.specs.Contradictions.{AreContradictions}
use Rattle.machine_core.specs.declared.stop.Stop.{Stop}
use Rattle.machine_core.specs.Checked.{Checked, ◌>>=◌, certainly, IsFound}
use Rattle.machine_core.specs.Outcomes.{Answers}
use Rattle.machine_core.proofs.Answering.{Answers-found, Answers-then}
use Rattle.machine_views.specs.Naming.{IsContradictionOf}

-- contradictions of a rule of the kit are of rows of its master
pub contradictions-named : (kit : Kit) (rule : ℕ) (found : List Contradiction) → rule < length kit.rules
    → AreContradictions kit (rule_at kit rule) found → All (IsContradictionOf kit rule) found
contradictions-named kit rule found within are k d inside =
    let it = get_or found k d in
    let agree = ((are.each it).0 (Contains-get_or found k d inside)).contradict.agree in
    record {
      row = (within, agree.usable.row_within);
      other_row = (within, agree.other_usable.row_within);
    }

-- what is answered of an edition, once it is found, is answered by its kit and names
pub edition-given : {A : Type 0} (published : Published) (find : Checked ℕ) (on : Bound → Checked A) (place : ℕ)
    (bound : Bound) (result : Result A Stop) → IsFound find place → bound_at published place ≡ Some bound
    → Answers result (on bound) → Answers result (find >>= (λ one. certainly (bound_at published one) >>= on))
edition-given published find on place bound result found binds answers =
    Answers-then find (λ one. certainly (bound_at published one) >>= on) place result
    (Answers-found find (Ok place) found) (rw binds answers)
