-- What is suggested to the clerk.
use Rattle.std.specs.Prelude.{◌≡◌, ◌⊎◌, Bool, List, [], Option}
use Rattle.fix_model.specs.declared.kit.Kit.{Kit}
use Rattle.fix_model.specs.declared.region.Region.{Region}
use Rattle.fix_model.specs.declared.state.State.{State}
use Rattle.fix_model.specs.declared.state.Step.{Step}
use Rattle.fix_model.specs.Fix.{HasConflict, IsFix}
use Rattle.fix_model.specs.Run.{end_of}
use Rattle.region_suggest.specs.declared.suggestion.Suggestion.{Suggestion}
use Rattle.region_suggest.specs.Gains.{AreGains}
use Rattle.region_suggest.specs.Need.{IsNeed}
use Rattle.region_suggest.specs.Offers.{AreOffers}

-- there is a unique fix, and need and gains are those at the end of its first run
pub record AdvisesAtFix (kit : Kit) (state : State) (suggestion : Suggestion) : Type 0 where
  pub first : List Step
  pub certain : Bool
  pub dissent : Option Step
  pub fix : IsFix kit state first certain dissent
  pub need : IsNeed kit (end_of kit state first) suggestion.need
  pub gains : AreGains kit (end_of kit state first) suggestion.gains

-- there is a conflict, and neither need nor gains
pub record AdvisesNothing (kit : Kit) (state : State) (suggestion : Suggestion) : Type 0 where
  pub conflict : HasConflict kit state
  pub need : suggestion.need ≡ []
  pub gains : suggestion.gains ≡ []

-- the rows that are offered, and what the answer for the state advises
pub record IsSuggestion (kit : Kit) (state : State) (regions : List Region) (suggestion : Suggestion) : Type 0 where
  pub offers : AreOffers kit state regions suggestion.regions
  pub advice : AdvisesAtFix kit state suggestion ⊎ AdvisesNothing kit state suggestion
