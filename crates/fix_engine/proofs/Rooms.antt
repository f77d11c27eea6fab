-- The room of the lists in which runs are searched.
use Rattle.std.proofs.Common.{◌≡◌, ◌≤◌, ℕ, List, ap, arith}
use Rattle.std.specs.Prelude.{vec_capacity}
use Rattle.fix_model.specs.declared.state.Step.{Step}
use Rattle.fix_engine.specs.declared.search.Search.{Search}
use Rattle.fix_engine.specs.Runs.{KeepsRunRoom}
use Rattle.fix_engine.specs.Searches.{HasRoom, KeepsRoom}
use Rattle.fix_engine.specs.WorkSeen.{KeepsSize, WorkSeen}

-- where there is room for many, there is room for fewer in lists with room that is at least as great
HasRoom-kept : (attributes rules width count : ℕ) (old new : Search) → KeepsRunRoom old.runs new.runs
    → vec_capacity old.reach ≤ vec_capacity new.reach → vec_capacity old.departures ≤ vec_capacity new.departures
    → vec_capacity old.looks.remembered ≤ vec_capacity new.looks.remembered
    → vec_capacity old.leads.leads ≤ vec_capacity new.leads.leads → HasRoom attributes rules old
    → width ≤ attributes → count ≤ rules → HasRoom width count new
HasRoom-kept attributes rules width count old new runs reach departures looks leads room narrow few = record {
  runs = record {
    first = omega (arith, room.runs.first, runs.first);
    second = omega (arith, room.runs.second, runs.second);
    saved = omega (arith, room.runs.saved, runs.saved);
  };
  reach = omega (arith, room.reach);
  departures = omega (arith, room.departures);
  looks = omega (arith, room.looks);
  leads = omega (arith, room.leads);
}

-- where there is room for many there is room for fewer
pub HasRoom-fewer : (attributes rules width count : ℕ) (search : Search) → HasRoom attributes rules search
    → width ≤ attributes → count ≤ rules → HasRoom width count search
HasRoom-fewer attributes rules width count search =
    HasRoom-kept attributes rules width count search search
    (record { first = omega arith; second = omega arith; saved = omega arith })
    (omega arith) (omega arith) (omega arith) (omega arith)

-- room that stays in each of the lists stays
pub KeepsRoom-each : (old new : Search) → KeepsRunRoom old.runs new.runs
    → vec_capacity old.reach ≤ vec_capacity new.reach → vec_capacity old.departures ≤ vec_capacity new.departures
    → vec_capacity old.looks.remembered ≤ vec_capacity new.looks.remembered
    → vec_capacity old.leads.leads ≤ vec_capacity new.leads.leads → KeepsRoom old new
KeepsRoom-each old new runs reach departures looks leads = λ attributes rules room.
    HasRoom-kept attributes rules attributes rules old new runs reach departures looks leads room
    (omega arith) (omega arith)

-- a work whose runs alone are others is of the same size
pub KeepsSize-runs : (seen old : WorkSeen) (first second : List Step) → seen ≡ old
    → KeepsSize old (record seen { first = first; second = second })
KeepsSize-runs seen old first second same = record {
  width = ap (λ (work : WorkSeen). work.width) same;
  rules = ap (λ (work : WorkSeen). work.rules) same;
}
