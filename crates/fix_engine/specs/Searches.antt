-- The lists in which runs are searched.
use Rattle.std.specs.Prelude.{ℕ, ◌≤◌, vec_capacity}
use Rattle.fix_model.specs.declared.kit.Kit.{Kit}
use Rattle.fix_model.specs.declared.state.State.{State}
use Rattle.fix_engine.specs.declared.search.Search.{Search}
use Rattle.fix_engine.specs.Departures.{AreDepartures}
use Rattle.fix_engine.specs.Leads.{AreLeads}
use Rattle.fix_engine.specs.Runs.{HasRunRoom, IsBegun}

-- there is room for so many attributes and rules in each of them
pub record HasRoom (attributes rules : ℕ) (search : Search) : Type 0 where
  pub runs : HasRunRoom attributes search.runs
  pub reach : attributes ≤ vec_capacity search.reach
  pub departures : attributes ≤ vec_capacity search.departures
  pub looks : rules ≤ vec_capacity search.looks.remembered
  pub leads : rules ≤ vec_capacity search.leads.leads

-- there is still as much room as there was
abbrev pub KeepsRoom : Search → Search → Type 0
KeepsRoom old new = (attributes rules : ℕ) → HasRoom attributes rules old → HasRoom attributes rules new

-- the first run was made from the state, the leads are those of its end, and the flags those of the attributes at which
-- a run can depart from it
pub record IsSurveyed (kit : Kit) (state : State) (search : Search) : Type 0 where
  pub end : State
  pub begun : IsBegun kit state end search.runs
  pub leads : AreLeads kit end search.leads.leads.items
  pub departures : AreDepartures kit end state search.departures.items
