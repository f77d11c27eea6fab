-- How a call over a door begins: with a machine, or with none.
use Rattle.std.proofs.Common.{◌≡◌, ◌⊎◌, ℕ, List, Option, None, Some, inl, inr, refl}
use Rattle.desk_words.specs.Tables.{Rows}
use Rattle.keeper_core.specs.Keeping.{TellsNoMore}
use Rattle.once_run.specs.declared.status.Status.{Status}
use Rattle.once_run.specs.Status.{status_code}
use Rattle.fixdesk_run.specs.declared.plan.Plan.{Plan}
use Rattle.fixdesk_run.specs.declared.serving.ServeEnd.{ServeEnd}
use Rattle.fixdesk_run.specs.Opening.{Begins, StaysShut}
use Rattle.fixdesk_run.specs.Serve.{Leaves, TakesDue, TakesSaid, TakesTally, end_code, serve_usage, served_line}
use Rattle.fixdesk_run.specs.Site.{Later, Site}
use Rattle.fixdesk_run.specs.Standing.{Standing}

-- one of two is one of three
pub one_of_three : (code : ℕ) → (code ≡ 0) ⊎ (code ≡ 5) → (code ≡ 0) ⊎ (code ≡ 5) ⊎ (code ≡ 6)
one_of_three code (inl done) = inl done
one_of_three code (inr short) = inr (inl short)

-- what a call leaves where a machine began, by what serving left
pub Leaves-served : {usage : List ℕ} {holds : Rows → Type 0}
    {leaves : Plan → Standing → Site → Site → ServeEnd → Type 0} {plan : Plan} {begun : Standing} {old new : Site}
    (end : ServeEnd) → Begins holds old.world.told old.world.uses begun → leaves plan begun old new end
    → TellsNoMore begun.told new.world.told → Later old new → Leaves usage holds leaves (Some plan) old new (end_code end)
Leaves-served {begun} end is ends no_more later = record {
  ends = inr (record {
    begun = begun;
    started = is.started;
    held = λ other holding some. is.kept other holding (no_more some);
    called_once = is.called;
    end = end;
    told = refl;
    ends = ends;
  });
  later = later;
}

-- what it leaves where none did: the door is as it was
pub Leaves-shut : {usage : List ℕ} {holds : Rows → Type 0}
    {leaves : Plan → Standing → Site → Site → ServeEnd → Type 0} {plan : Plan} (old new : Site) (status : Status)
    → StaysShut old.world new.world status → new.door ≡ old.door → Later old new
    → Leaves usage holds leaves (Some plan) old new (status_code status)
Leaves-shut old new status stays unbound later = record {
  ends = inl (record { status = status; told = refl; stays = stays; unbound = unbound });
  later = later;
}

-- an output that takes whatever may be said takes what is due
pub TakesDue-said : (takes : ℕ → Type 0) (plan : Option Plan) (old : Site) → TakesSaid takes plan old
    → TakesDue serve_usage (λ room plan. TakesTally room plan.count) takes plan old
TakesDue-said takes None old said = said serve_usage refl
TakesDue-said takes (Some plan) old said = (
  λ early few. said (served_line plan.count early) (inl (early, few, refl)),
  λ text due. said text (inr due),
)
