-- Which steps the second run can begin with, rule by rule.
use Rattle.std.proofs.Common.{◌≡◌, ◌≢◌, ◌⊎◌, ◌<◌, ◌≤◌, ◌∙◌, ℕ, Bool, true, false, List, [], ◌∷◌, length, get_or, set}
use Rattle.std.proofs.Common.{sym, subst, refl, leb, leb-true, leb-false, inl, inr}
use Rattle.std.specs.Prelude.{◌↔◌, IsTrue}
use Rattle.std.proofs.lemmas.Bool.{cases_Bool}
use Rattle.std.proofs.lemmas.List.{get_or_default}
use Rattle.std.proofs.Math.Nat.{eq-or-lt_of_le}
use Rattle.fix_model.specs.declared.book.Hit.{Hit}
use Rattle.fix_model.specs.declared.kit.Kit.{Kit}
use Rattle.fix_model.specs.declared.rule.Rule.{Rule}
use Rattle.fix_model.specs.declared.state.State.{State}
use Rattle.fix_model.specs.declared.state.Step.{Step}
use Rattle.fix_model.specs.Application.{Fires, IsEnabled, RowAgrees, after}
use Rattle.fix_model.specs.FirstRun.{IsFirstRun}
use Rattle.fix_model.specs.Hit.{IsOtherRow}
use Rattle.fix_model.specs.Order.{IsBefore, IsRunBefore}
use Rattle.fix_model.specs.Rules.{rule_at, from_text}
use Rattle.fix_model.specs.Run.{IsMaximalRun}
use Rattle.fix_model.specs.States.{Fits, IsCovered, value_at}
use Rattle.fix_model.specs.Valid.{IsValid}
use Rattle.fix_model.proofs.Covered.{RowAgrees-values}
use Rattle.fix_model.proofs.States.{Fits-after}
use Rattle.fix_engine.specs.declared.leads.Lead.{Lead}
use Rattle.fix_engine.specs.declared.leads.Lead.TheVariants.{Nothing, Keeps as KeepsThere, Leaves}
use Rattle.fix_engine.specs.declared.second_run.Turn.{Turn}
use Rattle.fix_engine.specs.Departures.{AreDepartures, EndsElsewhere, IsLedTo, Keeps, Supports}
use Rattle.fix_engine.specs.Flags.{IsFlagged}
use Rattle.fix_engine.specs.Leads.{IsLead}
use Rattle.fix_engine.specs.Turns.{CanDepartSomewhere, IsElsewhere, IsLeastElsewhere, IsLeastOf, IsLeastOfAll}
use Rattle.fix_engine.specs.Turns.{IsLeftFrom, IsPassed, IsTurn}
use Rattle.fix_engine.proofs.Departures.{CanDepart-elsewhere, CanDepart-step, IsLedTo-after, elsewhere-following}
use Rattle.fix_engine.proofs.Departures.{elsewhere-exists, stays_there}
use Rattle.fix_engine.proofs.Ends.{IsEnabled-inside, RowAgrees-inside}
use Rattle.fix_engine.proofs.Reach.{AreDepartures-after, head_stays, still_departs}

-- a step of a rule comes first where its row does
least_row : (place row : ℕ) (step : Step) → step.rule ≡ place → row ≤ step.row
    → (record { rule = place; row = row } ≡ step) ⊎ IsBefore (record { rule = place; row = row }) step
least_row place row step is least = elim (eq-or-lt_of_le least) [
  | inl same ↦ inl (rw (← is, same) refl)
  | inr under ↦ inr (inr (sym is, under))
]

-- the rule is enabled, and its head is not covered
pub record IsOpen (kit : Kit) (state : State) (place : ℕ) : Type 0 where
  pub within : place < length kit.rules
  pub enabled : IsEnabled kit state (rule_at kit place)
  pub uncovered : ¬ IsCovered state (rule_at kit place).head

-- the rule that was read is the one at the place
pub read_rule : (kit : Kit) (rules : List Rule) (place at_place : ℕ) (this : Rule) → rules ≡ kit.rules
    → at_place ≡ place
    → place < length kit.rules → this ≡ get_or rules at_place this → this ≡ rule_at kit place
read_rule kit rules place at_place this all same within is =
    let read : this ≡ get_or kit.rules place this = rw (← all, ← same) is in
    read ∙ get_or_default kit.rules place this _ within

-- a rule was read that may have its turn: it is enabled, its head is not covered, and this is its lead at the end
pub record IsReady (kit : Kit) (end state : State) (place : ℕ) (this : Rule) (lead : Lead) : Type 0 where
  pub read : this ≡ rule_at kit place
  pub opened : IsOpen kit state place
  pub led : IsLead kit end place lead

-- so it is where the tests of the rule told so
pub IsReady-read : (kit : Kit) (end state : State) (leads : List Lead) (place at_place : ℕ) (rules : List Rule)
    (this : Rule)
    (covers enabled : Bool) (lead : Lead) → IsLedTo kit state end leads → rules ≡ kit.rules → at_place ≡ place
    → place < length kit.rules → this ≡ get_or rules at_place this → (IsTrue covers ↔ IsCovered state this.head)
    → covers ≡ false → (IsTrue enabled ↔ IsEnabled kit state this) → enabled ≡ true → lead ≡ get_or leads place Nothing
    → IsReady kit end state place this lead
IsReady-read kit end state leads place at_place rules this covers enabled lead led all same within is covers_it unseen
    enables_it on lead_is =
    let read = read_rule kit rules place at_place this all same within is in
    record {
      read = read;
      opened = record {
        within = within;
        enabled = subst (λ (rule : Rule). IsEnabled kit state rule) read (enables_it.0 on);
        uncovered = λ covered.
            let told = covers_it.1 (subst (λ (rule : Rule). IsCovered state rule.head) (sym read) covered) in
            absurd cc;
      };
      led = rw lead_is (led.leads_there.each place within);
    }

-- the turn of a rule by a row
abbrev pub turn_by : ℕ → ℕ → Bool → Turn
turn_by place row departs = record { step = record { rule = place; row = row }; departs = departs }

module _ (kit : Kit) (valid : IsValid kit) (end : State) (leads : List Lead) (state : State) (fits : Fits kit state)
    (led : IsLedTo kit state end leads) where
  -- ---- one rule

  -- the row by which a maximal run begins agrees at the end
  agrees_at_end : (place : ℕ) (step : Step) (rest : List Step) → step.rule ≡ place
      → IsMaximalRun kit state (step ∷ rest) → RowAgrees kit (value_at kit end) (rule_at kit place) step.row
  agrees_at_end place step rest is ((fires, whole), final) =
      subst (λ (p : ℕ). RowAgrees kit (value_at kit end) (rule_at kit p) step.row) is
      (RowAgrees-inside kit state end led.inside (rule_at kit step.rule) step.row fires.enabled.keys fires.agrees)

  -- where no row agrees at the end, no run begins with the rule
  pub IsPassed-nothing : (place : ℕ) → IsLead kit end place Nothing → IsPassed kit end state place
  IsPassed-nothing place nothing step rest is ((fires, whole), final) elsewhere =
      let enabled = subst (λ (p : ℕ). IsEnabled kit state (rule_at kit p)) is fires.enabled in
      nothing (IsEnabled-inside kit state end led.inside (rule_at kit place) enabled) step.row
      (agrees_at_end place step rest is ((fires, whole), final))

  -- a row that agrees at the end fires at the state, where the rule is enabled and its head is not covered
  fires_by : (place row : ℕ) → IsOpen kit state place → RowAgrees kit (value_at kit end) (rule_at kit place) row
      → Fires kit state (record { rule = place; row = row })
  fires_by place row open_there agrees = record {
    rule_within = open_there.within;
    enabled = open_there.enabled;
    uncovered = open_there.uncovered;
    agrees = RowAgrees-values kit (rule_at kit place) (value_at kit end) (value_at kit state)
        (λ k d h. sym (led.inside.value (get_or (rule_at kit place).keys k d).0 (open_there.enabled.keys k d h))) row
        agrees;
  }

  -- a rule whose first row departs has its turn by this row
  pub turn-leaves : (place : ℕ) (hit : Hit) → IsOpen kit state place → IsLead kit end place (Leaves hit)
      → IsTurn kit end state (turn_by place hit.first true)
      × IsLeastOf kit end state place (record { rule = place; row = hit.first })
  turn-leaves place hit open_there leaves = (
    record {
      fires = fires_by place hit.first open_there leaves.0.found.first.agrees;
      leaves = λ is. leaves.1;
      stays = λ is. absurd cc;
    },
    λ step rest is maximal elsewhere. least_row place hit.first step is
        (leaves.0.found.first.least step.row (agrees_at_end place step rest is maximal)),
  )

  -- ---- a rule whose first row keeps to the end

  module _ (flags : List Bool) (departures : AreDepartures kit end state flags) (place : ℕ) (hit : Hit)
      (keeps : IsLead kit end place (KeepsThere hit)) where
    -- such a rule supports the end
    supports_by : Supports kit end place
    supports_by = record { enabled = keeps.0.enabled; row = hit.first; first = keeps.0.found.first; keeps = keeps.1 }

    -- it has its turn by this row, where another attribute than its head can be departed at
    pub turn-keeps : (other : ℕ) → IsOpen kit state place → IsFlagged flags other → other ≢ (rule_at kit place).head
        → IsTurn kit end state (turn_by place hit.first false)
        × IsLeastOf kit end state place (record { rule = place; row = hit.first })
    turn-keeps other open_there flagged apart =
        let step : Step = record { rule = place; row = hit.first } in
        let fires : Fires kit state step = fires_by place hit.first open_there keeps.0.found.first.agrees in (
          record {
            fires = fires;
            leaves = λ is. absurd cc;
            stays = λ is. (
              supports_by,
              keeps.1,
              (
                other,
                still_departs kit valid end leads state step fits led fires
                    supports_by keeps.1 other ((departures.each other).0 flagged) apart,
              ),
            );
          },
          λ step rest is maximal elsewhere. least_row place hit.first step is
              (keeps.0.found.first.least step.row (agrees_at_end place step rest is maximal)),
        )

    module _ (only : (other : ℕ) → IsFlagged flags other → other ≡ (rule_at kit place).head) where
      -- where nothing else can be departed at, no run goes elsewhere after a step that keeps to the end
      departs_now : (step : Step) (rest : List Step) → step.rule ≡ place → IsMaximalRun kit state (step ∷ rest)
          → EndsElsewhere kit end state (step ∷ rest) → ¬ Keeps kit end step
      departs_now step rest is ((fires, whole), final) elsewhere same =
          let supports : Supports kit end step.rule = subst (Supports kit end) (sym is) supports_by in
          let left = CanDepart-elsewhere kit valid end leads (after kit state step) rest
          (Fits-after kit state step fits fires) (IsLedTo-after kit valid end leads state fits led step fires same)
          (whole, final) elsewhere in
          let flagged = (departures.each left.0).1
          (CanDepart-step kit valid end state step left.0 fires supports same left.1) in
          head_stays kit valid end leads state step fits led fires supports same left.0 left.1
          (subst (λ (p : ℕ). left.0 ≡ (rule_at kit p).head) (sym is) (only left.0 flagged))

      -- so it departs by a row that gives another text than the first
      gives_other : (step : Step) (rest : List Step) → step.rule ≡ place → IsMaximalRun kit state (step ∷ rest)
          → EndsElsewhere kit end state (step ∷ rest)
          → from_text kit (rule_at kit place) step.row ≢ from_text kit (rule_at kit place) hit.first
      gives_other step rest is maximal elsewhere same =
          departs_now step rest is maximal elsewhere
          (subst (λ (p : ℕ). from_text kit (rule_at kit p) step.row ≡ value_at kit end (rule_at kit p).head)
          (sym is) (same ∙ keeps.1))

      -- then the rule has its turn by the least such row
      pub turn-other : (row : ℕ) → IsOpen kit state place
          → IsOtherRow kit (value_at kit end) (rule_at kit place) hit.first row
          → IsTurn kit end state (turn_by place row true)
          × IsLeastOf kit end state place (record { rule = place; row = row })
      turn-other row open_there found = (
        record {
          fires = fires_by place row open_there found.agrees;
          leaves = λ is same. found.differs (same ∙ sym keeps.1);
          stays = λ is. absurd cc;
        },
        λ step rest is maximal elsewhere. least_row place row step is
            (found.least step.row (agrees_at_end place step rest is maximal)
            (gives_other step rest is maximal elsewhere)),
      )

      -- and no run begins with the rule where there is none
      pub IsPassed-keeping : ((row : ℕ) → RowAgrees kit (value_at kit end) (rule_at kit place) row
          → from_text kit (rule_at kit place) row ≡ from_text kit (rule_at kit place) hit.first)
          → IsPassed kit end state place
      IsPassed-keeping all step rest is maximal elsewhere =
          gives_other step rest is maximal elsewhere (all step.row (agrees_at_end place step rest is maximal))

  -- ---- all rules

  -- the turn of a rule is the least of all, where the rules before it are passed
  pub IsLeastOfAll-passed : (place : ℕ) (first : Step) → first.rule ≡ place
      → ((other : ℕ) → other < place → IsPassed kit end state other) → IsLeastOf kit end state place first
      → IsLeastOfAll kit end state first
  IsLeastOfAll-passed place first is passed least step rest maximal elsewhere =
      elim (cases_Bool (leb place step.rule)) [
        | inr under ↦ absurd (passed step.rule (leb-false place step.rule under) step rest refl maximal elsewhere)
        | inl past ↦ elim (eq-or-lt_of_le (leb-true place step.rule past)) [
          | inl same ↦ least step rest (sym same) maximal elsewhere
          | inr later ↦ inr (inl (rw is later))
        ]
      ]

  -- where all rules are passed, nothing can be departed at
  pub departs_nowhere : ((place : ℕ) → place < length kit.rules → IsPassed kit end state place)
      → ¬ CanDepartSomewhere kit end state
  departs_nowhere passed depart =
      let (run, (maximal, elsewhere)) = elsewhere-exists kit valid end state depart.0 fits depart.1 in
      ends_nowhere run maximal elsewhere
    where
      -- no maximal run ends elsewhere
      ends_nowhere : (run : List Step) → IsMaximalRun kit state run → ¬ EndsElsewhere kit end state run
      ends_nowhere [] maximal elsewhere = elsewhere (stays_there kit valid end leads state fits led maximal.1)
      ends_nowhere (step ∷ rest) ((fires, whole), final) elsewhere =
          passed step.rule fires.rule_within step rest refl ((fires, whole), final) elsewhere

  -- ---- the run goes on

  -- after the least step the least run from there is the least
  least_following : (step : Step) (rest : List Step) → IsLeastOfAll kit end state step
      → ((other : List Step) → IsElsewhere kit end (after kit state step) other
      → (rest ≡ other) ⊎ IsRunBefore rest other)
      → (other : List Step) → IsElsewhere kit end state other
      → ((step ∷ rest) ≡ other) ⊎ IsRunBefore (step ∷ rest) other
  least_following step rest least then [] is =
      absurd (is.elsewhere (stays_there kit valid end leads state fits led is.maximal.1))
  least_following step rest least then (next ∷ others) is = elim (least next others is.maximal is.elsewhere) [
    | inr before ↦ inr (inl before)
    | inl same ↦
        let ((fires, whole), final) = is.maximal in
        let there : IsMaximalRun kit (after kit state step) others =
        subst (λ (x : Step). IsMaximalRun kit (after kit state x) others) (sym same) (whole, final) in
        let apart : EndsElsewhere kit end (after kit state step) others =
        subst (λ (x : Step). EndsElsewhere kit end (after kit state x) others) (sym same) is.elsewhere in
        elim (then others (record { maximal = there; elsewhere = apart })) [
          | inl equal ↦ inl (rw (same, equal) refl)
          | inr before ↦ inr (inr (same, before))
        ]
  ]

  -- a turn that keeps to the end goes before the least run that ends elsewhere from there
  pub IsLeastElsewhere-keeps : (step : Step) (rest : List Step) → Fires kit state step → IsLeastOfAll kit end state step
      → IsLeastElsewhere kit end (after kit state step) rest → IsLeastElsewhere kit end state (step ∷ rest)
  IsLeastElsewhere-keeps step rest fires least next = record {
    holds = record {
      maximal = ((fires, next.holds.maximal.0), next.holds.maximal.1);
      elsewhere = next.holds.elsewhere;
    };
    least = least_following step rest least next.least;
  }

  -- a turn that departs goes before the first run from there
  pub IsLeastElsewhere-departs : (step : Step) (rest : List Step) → Fires kit state step
      → IsLeastOfAll kit end state step → ¬ Keeps kit end step → IsFirstRun kit (after kit state step) rest
      → IsLeastElsewhere kit end state (step ∷ rest)
  IsLeastElsewhere-departs step rest fires least departs first = record {
    holds = record {
      maximal = ((fires, first.holds.0), first.holds.1);
      elsewhere = elsewhere-following kit valid end state [] rest step fits tt fires departs first.holds.0;
    };
    least = least_following step rest least (λ other is. first.least other is.maximal);
  }

-- it is still one after a turn that keeps to it, which takes the head out of the departures
pub IsLeftFrom-after : (kit : Kit) (valid : IsValid kit) (state end : State) (leads : List Lead) (flags : List Bool)
    (turn : Turn) (head : ℕ) → Fits kit state → IsLeftFrom kit state end leads flags → IsTurn kit end state turn
    → turn.departs ≡ false → head ≡ (rule_at kit turn.step.rule).head
    → IsLeftFrom kit (after kit state turn.step) end leads (set flags head false)
IsLeftFrom-after kit valid state end leads flags turn head fits left is_turn stays same =
    let (supports, keeps, somewhere) = is_turn.stays stays in
    record {
      led = IsLedTo-after kit valid end leads state fits left.led turn.step is_turn.fires keeps;
      departures = rw same (AreDepartures-after kit valid end leads state turn.step fits left.led is_turn.fires supports
          keeps flags left.departures);
      somewhere = somewhere;
    }
