-- A run can end in another record exactly where some attribute can be departed at.
use Rattle.std.proofs.Common.{◌≡◌, ◌≢◌, ◌∙◌, ℕ, List, [], ◌∷◌, ◌++◌, get_or, refl, sym, subst, inl, inr}
use Rattle.std.proofs.lemmas.Bool.{cases_Bool}
use Rattle.fix_model.specs.declared.kit.Kit.{Kit}
use Rattle.fix_model.specs.declared.state.State.{State}
use Rattle.fix_model.specs.declared.state.Step.{Step}
use Rattle.fix_model.specs.Application.{Fires, RowAgrees, after}
use Rattle.fix_model.specs.Rules.{rule_at, step_text}
use Rattle.fix_model.specs.Run.{IsFinal, IsRun, IsMaximalRun, end_of}
use Rattle.fix_model.specs.States.{Fits, IsCovered, cell_at, is_covering, record_of, value_at}
use Rattle.fix_model.specs.Valid.{IsValid}
use Rattle.fix_model.proofs.Covered.{RowAgrees-values, IsCovered-after, value_at-after}
use Rattle.fix_model.proofs.Deciding.{decide_equal}
use Rattle.fix_model.proofs.Lengths.{IsCovered-end_of, Fits-end_of, IsMaximalRun-exists}
use Rattle.fix_model.proofs.Runs.{IsRun-append, end_of-append}
use Rattle.fix_model.proofs.States.{Fits-after}
use Rattle.fix_engine.specs.declared.leads.Lead.{Lead}
use Rattle.fix_engine.specs.declared.leads.Lead.TheVariants.{Nothing, Keeps as KeepsThere, Leaves}
use Rattle.fix_engine.specs.Departures.{CanDepart, EndsElsewhere, IsInside, IsLedTo, IsSupportedRun, Keeps, Supports}
use Rattle.fix_engine.specs.Leads.{IsLead}
use Rattle.fix_engine.proofs.Ends.{IsCovered-head, IsEnabled-inside, IsInside-after, RowAgrees-inside, cell_at-head}
use Rattle.fix_engine.proofs.Ends.{cell_at-other, head-within, same_value, value_at-head}
use Rattle.fix_engine.proofs.Truth.{same_record}

-- ---- inside

-- a state inside one that is inside a third is inside the third
pub IsInside-then : (kit : Kit) (state middle end : State) → IsInside kit state middle → IsInside kit middle end
    → IsInside kit state end
IsInside-then kit state middle end one two = record {
  covered = λ attribute is. two.covered attribute (one.covered attribute is);
  value = λ attribute is. one.value attribute is ∙ two.value attribute (one.covered attribute is);
}

-- a state is inside what a step leaves of it
pub IsInside-step : (kit : Kit) (state : State) (step : Step) → Fires kit state step
    → IsInside kit state (after kit state step)
IsInside-step kit state step fires = record {
  covered = IsCovered-after kit state step fires;
  value = λ attribute is. sym (value_at-after kit state step fires attribute is);
}

module _ (kit : Kit) (valid : IsValid kit) (end : State) where
  module _ (leads : List Lead) (state : State) (fits : Fits kit state) (led : IsLedTo kit state end leads) where
    -- the head of a step that fires is covered at the end
    pub covered_head : (step : Step) → Fires kit state step → IsCovered end (rule_at kit step.rule).head
    covered_head step fires = IsCovered-head kit state end led.inside step led.final fires

    -- a step that keeps to the end leads there
    pub IsLedTo-after : (step : Step) → Fires kit state step → Keeps kit end step
        → IsLedTo kit (after kit state step) end leads
    IsLedTo-after step fires keeps = record {
      final = led.final;
      typed = led.typed;
      inside = IsInside-after kit valid state step fits fires end led.inside (covered_head step fires) keeps;
      only = λ other final there back. led.only other final
          (IsInside-then kit state (after kit state step) other (IsInside-step kit state step fires) there) back;
      leads_there = led.leads_there;
    }

    -- a row that agrees at the end with an enabled rule agrees at the state
    pub fires_there : (step : Step) → (other : ℕ) → Fires kit state step
        → RowAgrees kit (value_at kit end) (rule_at kit step.rule) other
        → Fires kit state (record { rule = step.rule; row = other })
    fires_there step other fires agrees = record {
      rule_within = fires.rule_within;
      enabled = fires.enabled;
      uncovered = fires.uncovered;
      agrees = RowAgrees-values kit (rule_at kit step.rule) (value_at kit end) (value_at kit state)
          (λ k d h. sym (led.inside.value (get_or (rule_at kit step.rule).keys k d).0 (fires.enabled.keys k d h))) other
          agrees;
    }

    -- at the end of its own only the end's record is found
    pub stays_there : IsFinal kit state → record_of kit state ≡ record_of kit end
    stays_there final = same_record kit state state end refl led.typed led.inside
        (led.only state final (record { covered = λ attribute is. is; value = λ attribute is. refl }) led.inside)

  -- a first step that keeps to the end, by a rule that supports it, comes before a departure
  pub CanDepart-step : (state : State) (step : Step) (attribute : ℕ) → Fires kit state step → Supports kit end step.rule
      → Keeps kit end step → CanDepart kit end (after kit state step) attribute → CanDepart kit end state attribute
  CanDepart-step state step attribute fires supports keeps depart = record {
    run = step ∷ depart.run;
    supported = (record { fires = fires; supports = supports; keeps = keeps }, depart.supported);
    step = depart.step;
    fires = depart.fires;
    head = depart.head;
    departs = depart.departs;
  }

  -- a step that departs departs at its head
  pub CanDepart-now : (state : State) (step : Step) → Fires kit state step → ¬ Keeps kit end step
      → CanDepart kit end state (rule_at kit step.rule).head
  CanDepart-now state step fires departs =
      record { run = []; supported = tt; step = step; fires = fires; head = refl; departs = departs }

  -- ---- a run that ends elsewhere departs

  module _ (leads : List Lead) where
    -- some attribute can be departed at
    abbrev Departs : State → Type 0
    Departs state = (attribute : ℕ) × CanDepart kit end state attribute

    -- a step of a rule of this lead departs, or is followed by a departure, or its rule has another row that departs
    departs-by : (state : State) (fits : Fits kit state) (led : IsLedTo kit state end leads) (step : Step) (lead : Lead)
        → Fires kit state step → IsLead kit end step.rule lead
        → (Supports kit end step.rule → Keeps kit end step → Departs (after kit state step)) → Departs state
    departs-by state fits led step Nothing fires nothing later =
        absurd (nothing (IsEnabled-inside kit state end led.inside (rule_at kit step.rule) fires.enabled) step.row
        (RowAgrees-inside kit state end led.inside (rule_at kit step.rule) step.row fires.enabled.keys
        fires.agrees))
    departs-by state fits led step (Leaves hit) fires leaves later =
        let first : Step = record { rule = step.rule; row = hit.first } in (
          (rule_at kit step.rule).head,
          CanDepart-now state first
              (fires_there leads state fits led step hit.first fires leaves.0.found.first.agrees) leaves.1,
        )
    departs-by state fits led step (KeepsThere hit) fires keeps later =
        let supports : Supports kit end step.rule =
        record { enabled = keeps.0.enabled; row = hit.first; first = keeps.0.found.first; keeps = keeps.1 } in
        elim (decide_equal (step_text kit step) (value_at kit end (rule_at kit step.rule).head)) [
          | inl same ↦ let next = later supports same
              in (next.0, CanDepart-step state step next.0 fires supports same next.1)
          | inr other ↦ ((rule_at kit step.rule).head, CanDepart-now state step fires other)
        ]

    -- some attribute can be departed at, where a maximal run ends elsewhere
    pub CanDepart-elsewhere : (state : State) (run : List Step) → Fits kit state → IsLedTo kit state end leads
        → IsMaximalRun kit state run → EndsElsewhere kit end state run → Departs state
    CanDepart-elsewhere state [] fits led maximal elsewhere =
        absurd (elsewhere (stays_there leads state fits led maximal.1))
    CanDepart-elsewhere state (step ∷ rest) fits led ((fires, whole), final) elsewhere =
        departs-by state fits led step (get_or leads step.rule Nothing) fires
        (led.leads_there.each step.rule fires.rule_within) (λ supports keeps.
        CanDepart-elsewhere (after kit state step) rest (Fits-after kit state step fits fires)
        (IsLedTo-after leads state fits led step fires keeps) (whole, final) elsewhere)

  -- ---- and a departure leads elsewhere

  -- a supported run is a run
  pub IsRun-supported : (state : State) (run : List Step) → IsSupportedRun kit end state run → IsRun kit state run
  IsRun-supported state [] supported = tt
  IsRun-supported state (step ∷ rest) supported = (
    supported.0.fires,
    IsRun-supported (after kit state step) rest
        supported.1,
  )

  -- where a step departs at the end of a run, the runs that go on from it end elsewhere
  pub elsewhere-following : (state : State) (run rest : List Step) (step : Step) → Fits kit state → IsRun kit state run
      → Fires kit (end_of kit state run) step → ¬ Keeps kit end step
      → IsRun kit (after kit (end_of kit state run) step) rest
      → record_of kit (end_of kit (after kit (end_of kit state run) step) rest) ≢ record_of kit end
  elsewhere-following state run rest step fits whole fires departs more same =
      let here = end_of kit state run in
      let head = (rule_at kit step.rule).head in
      let fits' = Fits-end_of kit valid state run fits whole in
      let next = after kit here step in
      let covers : IsCovered next head = rw (cell_at-head kit valid here step fits' fires) refl in
      let later = IsCovered-end_of kit next rest head more covers in
      departs (sym (value_at-head kit valid here step fits' fires) ∙ sym later.1
      ∙ same_value kit (end_of kit next rest) end head (head-within kit valid here step fires) same)

  -- so some maximal run ends elsewhere
  pub elsewhere-exists : (state : State) (attribute : ℕ) → Fits kit state → CanDepart kit end state attribute
      → (run : List Step) × (IsMaximalRun kit state run × EndsElsewhere kit end state run)
  elsewhere-exists state attribute fits depart =
      let whole = IsRun-supported state depart.run depart.supported in
      let here = end_of kit state depart.run in
      let fits' = Fits-end_of kit valid state depart.run fits whole in
      let next = after kit here depart.step in
      let (rest, (more, final)) =
      IsMaximalRun-exists kit valid next [] (Fits-after kit here depart.step fits' depart.fires) tt in
      let tail = depart.step ∷ rest in
      let end_is = end_of-append kit state depart.run tail in (
        depart.run ++ tail,
        (
          (IsRun-append kit state depart.run tail whole (depart.fires, more), rw end_is final),
          λ same. elsewhere-following state depart.run rest depart.step fits whole depart.fires depart.departs more
              (rw end_is at same),
        ),
      )

  -- ---- a supported run may be made from a state further on

  module _ (leads : List Lead) where
    -- from a state further on, a supported run covers what is covered after another, and leaves an attribute uncovered
    pub record IsFollowed (following further : State) (left_out : ℕ) : Type 0 where
      pub after_it : List Step
      pub supported : IsSupportedRun kit end further after_it
      pub inside : IsInside kit following (end_of kit further after_it)
      pub led : IsLedTo kit (end_of kit further after_it) end leads
      pub uncovered : ¬ IsCovered (end_of kit further after_it) left_out

    -- the head of a step that keeps to the end has its value wherever it is covered on the way there
    has_value : (state further : State) (step : Step) → IsInside kit further end → Keeps kit end step
        → IsCovered further (rule_at kit step.rule).head
        → step_text kit step ≡ value_at kit further (rule_at kit step.rule).head
    has_value state further step inside keeps covered = keeps ∙ sym (inside.value (rule_at kit step.rule).head covered)

    -- what fires at a state fires further on, where its head is uncovered
    pub fires_further : (state further : State) (step : Step) → IsInside kit state further → Fires kit state step
        → ¬ IsCovered further (rule_at kit step.rule).head → Fires kit further step
    fires_further state further step inside fires uncovered = record {
      rule_within = fires.rule_within;
      enabled = IsEnabled-inside kit state further inside (rule_at kit step.rule) fires.enabled;
      uncovered = uncovered;
      agrees = RowAgrees-inside kit state further inside (rule_at kit step.rule) step.row fires.enabled.keys
          fires.agrees;
    }

    -- what a supported run covers is covered by a supported run from a state further on
    pub follows : (state further : State) (run : List Step) (left_out : ℕ) → Fits kit state → Fits kit further
        → IsInside kit state further → IsLedTo kit further end leads → IsSupportedRun kit end state run
        → ¬ IsCovered (end_of kit state run) left_out → ¬ IsCovered further left_out
        → IsFollowed (end_of kit state run) further left_out
    follows state further [] left_out fits fits' inside led supported uncovered there =
        record { after_it = []; supported = tt; inside = inside; led = led; uncovered = there }
    follows state further (step ∷ rest) left_out fits fits' inside led supported uncovered there =
        let head = (rule_at kit step.rule).head in
        let next = after kit state step in
        let fits-next = Fits-after kit state step fits supported.0.fires in
        elim (cases_Bool (is_covering (cell_at further head))) [
          | inl covers ↦
              let inside' = IsInside-after kit valid state step fits supported.0.fires further inside covers
              (has_value state further step led.inside supported.0.keeps covers) in
              follows next further rest left_out fits-next fits' inside' led supported.1 uncovered there
          | inr none ↦
              let fires : Fires kit further step =
              fires_further state further step inside supported.0.fires (λ covers. absurd cc) in
              let beyond = after kit further step in
              let covers : IsCovered beyond head = rw (cell_at-head kit valid further step fits' fires) refl in
              let shows = sym (value_at-head kit valid further step fits' fires) in
              let inside' = IsInside-after kit valid state step fits supported.0.fires beyond
              (IsInside-then kit state further beyond inside (IsInside-step kit further step fires)) covers shows in
              let apart : left_out ≢ head =
              λ same. uncovered (left_covered state step rest left_out fits supported (sym same)) in
              let still : ¬ IsCovered beyond left_out =
              λ is. there (rw (cell_at-other kit valid further step fits' fires left_out apart) at is) in
              let later = follows next beyond rest left_out fits-next (Fits-after kit further step fits' fires) inside'
              (IsLedTo-after leads further fits' led step fires supported.0.keeps) supported.1 uncovered still in
              record {
                after_it = step ∷ later.after_it;
                supported = (
                  record { fires = fires; supports = supported.0.supports; keeps = supported.0.keeps },
                  later.supported,
                );
                inside = later.inside;
                led = later.led;
                uncovered = later.uncovered;
              }
        ]
      where
        -- the head of a first step is covered at the end of the run
        left_covered : (state : State) (step : Step) (rest : List Step) (left_out : ℕ) → Fits kit state
            → IsSupportedRun kit end state (step ∷ rest) → (rule_at kit step.rule).head ≡ left_out
            → IsCovered (end_of kit state (step ∷ rest)) left_out
        left_covered state step rest left_out fits supported same =
            let next = after kit state step in
            let covers : IsCovered next (rule_at kit step.rule).head =
            rw (cell_at-head kit valid state step fits supported.0.fires) refl in
            let later = (IsCovered-end_of kit next rest (rule_at kit step.rule).head
            (IsRun-supported next rest supported.1) covers).0 in
            subst (λ (attribute : ℕ). IsCovered (end_of kit next rest) attribute) same later
