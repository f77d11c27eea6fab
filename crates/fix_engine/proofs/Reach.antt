-- The flags of what can be covered, and of what can be departed at.
use Rattle.std.proofs.Common.{◌≡◌, ◌≢◌, ◌<◌, ◌∙◌, ℕ, Bool, true, false, List, [], ◌∷◌, ◌++◌, length, length-set}
use Rattle.std.proofs.Common.{get_or, map, replicate, set, refl, sym, ap, subst, eqb, eqb-true, inl, inr, arith}
use Rattle.std.specs.Prelude.{◌↔◌, IsTrue, IsSome, MatchBool, Option, Some, None}
use Rattle.std.proofs.lemmas.Bool.{cases_Bool, eqb-false}
use Rattle.std.proofs.lemmas.List.{get_or-set_same, get_or-set_other, length-replicate, map-set}
use Rattle.std.proofs.Math.ListN.{get_or-map}
use Rattle.fix_model.specs.declared.kit.Kit.{Kit}
use Rattle.fix_model.specs.declared.state.Cell.{Cell}
use Rattle.fix_model.specs.declared.state.Cell.TheVariants.{Uncovered, Fixed}
use Rattle.fix_model.specs.declared.state.State.{State}
use Rattle.fix_model.specs.declared.state.Step.{Step}
use Rattle.fix_model.specs.Application.{Fires, IsEnabled, RowAgrees, after}
use Rattle.fix_model.specs.Fix.{Dissents}
use Rattle.fix_model.specs.Rules.{rule_at}
use Rattle.fix_model.specs.Run.{end_of}
use Rattle.fix_model.specs.States.{Fits, IsCovered, is_covering, value_at}
use Rattle.fix_model.specs.Valid.{IsValid}
use Rattle.fix_model.proofs.Covered.{RowAgrees-values}
use Rattle.fix_model.proofs.Lengths.{IsCovered-end_of, Fits-end_of}
use Rattle.fix_model.proofs.Runs.{end_of-append}
use Rattle.fix_model.proofs.States.{Fits-after}
use Rattle.fix_engine.specs.declared.leads.Lead.{Lead}
use Rattle.fix_engine.specs.declared.leads.Lead.TheVariants.{Nothing, Keeps as KeepsThere, Leaves}
use Rattle.fix_engine.specs.Departures.{AreDepartures, CanDepart, IsClosed, IsLedTo, IsLeft, IsLeftSomehow}
use Rattle.fix_engine.specs.Departures.{IsNextRule, IsReach, IsSupportedRun, Keeps, LeavesBy, Supports}
use Rattle.fix_engine.specs.Flags.{HasFlags, IsFlagged}
use Rattle.fix_engine.specs.Leads.{AreLeads, IsLead, is_keeping, leaving_row}
use Rattle.fix_engine.proofs.Ends.{IsEnabled-inside, RowAgrees-inside, cell_at-head, cell_at-other, head-within}
use Rattle.fix_engine.proofs.Known.{get_or-replicate_self}
use Rattle.fix_engine.proofs.Leaving.{covered-agreeing, leaving_row-leaves, leaving_row-some}
use Rattle.fix_engine.proofs.Truth.{AreMatched-values}
use Rattle.fix_engine.proofs.Departures.{CanDepart-step, IsFollowed, IsLedTo-after, IsInside-step, IsRun-supported}
use Rattle.fix_engine.proofs.Departures.{fires_further, follows}

-- ---- flags

-- the flags of the cells are set where these cover
pub IsFlagged-cells : (cells : List Cell) (attribute : ℕ)
    → get_or (map is_covering cells) attribute false ≡ is_covering (get_or cells attribute Uncovered)
IsFlagged-cells cells attribute = get_or-map is_covering cells attribute Uncovered

module _ (kit : Kit) (valid : IsValid kit) (end : State) where
  -- a supported run goes on by a step
  IsSupportedRun-push : (state : State) (run : List Step) (step : Step) → IsSupportedRun kit end state run
      → Fires kit (end_of kit state run) step → Supports kit end step.rule → Keeps kit end step
      → IsSupportedRun kit end state (run ++ step ∷ [])
  IsSupportedRun-push state [] step supported fires supports keeps =
      (record { fires = fires; supports = supports; keeps = keeps }, tt)
  IsSupportedRun-push state (first ∷ rest) step supported fires supports keeps =
      (supported.0, IsSupportedRun-push (after kit state first) rest step supported.1 fires supports keeps)

  -- it stays on the way to the end
  pub IsLedTo-supported : (leads : List Lead) (state : State) (run : List Step) → Fits kit state
      → IsLedTo kit state end leads → IsSupportedRun kit end state run → IsLedTo kit (end_of kit state run) end leads
  IsLedTo-supported leads state [] fits led supported = led
  IsLedTo-supported leads state (step ∷ rest) fits led supported =
      IsLedTo-supported leads (after kit state step) rest (Fits-after kit state step fits supported.0.fires)
      (IsLedTo-after kit valid end leads state fits led step supported.0.fires supported.0.keeps) supported.1

  -- what is covered before is covered after it
  still_covered : (state : State) (run : List Step) (attribute : ℕ) → IsSupportedRun kit end state run
      → IsCovered state attribute → IsCovered (end_of kit state run) attribute
  still_covered state run attribute supported covered =
      (IsCovered-end_of kit state run attribute (IsRun-supported kit valid end state run supported) covered).0

  -- the head of its first step too
  first_covered : (state : State) (step : Step) (rest : List Step) → Fits kit state
      → IsSupportedRun kit end state (step ∷ rest)
      → IsCovered (end_of kit (after kit state step) rest) (rule_at kit step.rule).head
  first_covered state step rest fits supported =
      still_covered (after kit state step) rest (rule_at kit step.rule).head supported.1
      (rw (cell_at-head kit valid state step fits supported.0.fires) refl)

  -- ---- departures before and after a step

  module _ (leads : List Lead) (state : State) (step : Step) (fits : Fits kit state) (led : IsLedTo kit state end leads)
      (fires : Fires kit state step) (supports : Supports kit end step.rule) (keeps : Keeps kit end step) where
    -- after the step its head cannot be departed at
    pub head_stays : (attribute : ℕ) → CanDepart kit end (after kit state step) attribute
        → attribute ≢ (rule_at kit step.rule).head
    head_stays attribute depart same =
        let covers : IsCovered (after kit state step) (rule_at kit step.rule).head =
        rw (cell_at-head kit valid state step fits fires) refl in
        let later = still_covered (after kit state step) depart.run (rule_at kit step.rule).head depart.supported covers
        in
        depart.fires.uncovered (subst (λ (place : ℕ). IsCovered (end_of kit (after kit state step) depart.run) place)
        (sym same ∙ sym depart.head) later)

    -- each other attribute can be departed at after it, where it could before
    pub still_departs : (attribute : ℕ) → CanDepart kit end state attribute → attribute ≢ (rule_at kit step.rule).head
        → CanDepart kit end (after kit state step) attribute
    still_departs attribute depart apart =
        let next = after kit state step in
        let gone : ¬ IsCovered (end_of kit state depart.run) attribute =
        λ is. depart.fires.uncovered (subst (λ (place : ℕ). IsCovered (end_of kit state depart.run) place)
        (sym depart.head) is) in
        let free : ¬ IsCovered next attribute =
        λ is. gone (still_covered state depart.run attribute depart.supported
        (rw (cell_at-other kit valid state step fits fires attribute apart) at is)) in
        let followed : IsFollowed kit valid end leads (end_of kit state depart.run) next attribute =
        follows kit valid end leads state next depart.run attribute fits (Fits-after kit state step fits fires)
        (IsInside-step kit state step fires) (IsLedTo-after kit valid end leads state fits led step fires keeps)
        depart.supported gone free in
        record {
          run = followed.after_it;
          supported = followed.supported;
          step = depart.step;
          fires = fires_further kit valid end leads (end_of kit state depart.run) (end_of kit next followed.after_it)
              depart.step followed.inside depart.fires
              (λ is. followed.uncovered (subst (λ (place : ℕ). IsCovered (end_of kit next followed.after_it) place)
              depart.head is));
          head = depart.head;
          departs = depart.departs;
        }

    -- so a step takes its head out of the departures, and leaves the others
    pub AreDepartures-after : (flags : List Bool) → AreDepartures kit end state flags
        → AreDepartures kit end (after kit state step) (set flags (rule_at kit step.rule).head false)
    AreDepartures-after flags departures =
        let head = (rule_at kit step.rule).head in
        let within : head < length flags = rw departures.whole (head-within kit valid state step fires) in
        record {
          whole = length-set flags head false ∙ departures.whole;
          each = λ attribute. elim (cases_Bool (eqb attribute head)) [
            | inl same ↦
                let e = eqb-true attribute head same in
                let clear : get_or (set flags head false) attribute false ≡ false =
                rw e (get_or-set_same flags head false false within) in
                ((λ flagged. absurd cc), λ depart. absurd (head_stays attribute depart e))
            | inr other ↦
                let apart = eqb-false attribute head other in
                let stays = get_or-set_other flags head attribute false false apart in (
                  (λ flagged. still_departs attribute ((departures.each attribute).0 (rw stays at flagged)) apart),
                  λ depart. rw stays ((departures.each attribute).1
                      (CanDepart-step kit valid end state step attribute fires supports keeps depart)),
                )
          ];
        }

  -- ---- what can be covered where one attribute is left out

  -- closed flags hold all that a supported run covers that leaves the attribute out
  pub in_closed : (flags : List Bool) (left_out : ℕ) → IsClosed kit end left_out flags
      → (state : State) (run : List Step) → Fits kit state → IsSupportedRun kit end state run
      → ¬ IsCovered (end_of kit state run) left_out
      → ((attribute : ℕ) → IsCovered state attribute → IsFlagged flags attribute) → (attribute : ℕ)
      → IsCovered (end_of kit state run) attribute → IsFlagged flags attribute
  in_closed flags left_out closed state [] fits supported free held attribute covered = held attribute covered
  in_closed flags left_out closed state (step ∷ rest) fits supported free held attribute covered =
      let here = rule_at kit step.rule in
      let apart : here.head ≢ left_out =
      λ same. free (subst (λ (place : ℕ). IsCovered (end_of kit (after kit state step) rest) place) same
      (first_covered state step rest fits supported)) in
      let flags_of : HasFlags flags here = record {
        keys = λ k d h. held (get_or here.keys k d).0 (supported.0.fires.enabled.keys k d h);
        conds = λ k d h. held (get_or here.conds k d).0 (supported.0.fires.enabled.conds k d h);
      } in
      let flagged = closed step.rule supported.0.fires.rule_within supported.0.supports apart flags_of in
      in_closed flags left_out closed (after kit state step) rest (Fits-after kit state step fits supported.0.fires)
      supported.1 free (λ other is. elim (cases_Bool (eqb other here.head)) [
        | inl same ↦ rw (eqb-true other here.head same) flagged
        | inr differs ↦ held other (rw (cell_at-other kit valid state step fits supported.0.fires other
            (eqb-false other here.head differs)) at is)
      ]) attribute covered

  module _ (leads : List Lead) (state : State) (fits : Fits kit state) (led : IsLedTo kit state end leads)
      (left_out : ℕ) (flags : List Bool) (reach : IsReach kit end state left_out flags) where
    -- what is flagged is covered there
    covered_there : (attribute : ℕ) → IsFlagged flags attribute → IsCovered (end_of kit state reach.run) attribute
    covered_there attribute flagged = sym (ap (λ (l : List Bool). get_or l attribute false) reach.covers
        ∙ IsFlagged-cells (end_of kit state reach.run).cells attribute) ∙ flagged

    -- a row that agrees at the end with a rule whose keys and conditions are flagged fires there, where the head is not
    fires_there : (step : Step) → step.rule < length kit.rules → IsEnabled kit end (rule_at kit step.rule)
        → RowAgrees kit (value_at kit end) (rule_at kit step.rule) step.row → HasFlags flags (rule_at kit step.rule)
        → ¬ IsCovered (end_of kit state reach.run) (rule_at kit step.rule).head
        → Fires kit (end_of kit state reach.run) step
    fires_there step within enabled agrees flags_of free =
        let here = rule_at kit step.rule in
        let there = end_of kit state reach.run in
        let inside = (IsLedTo-supported leads state reach.run fits led reach.supported).inside in
        record {
          rule_within = within;
          enabled = record {
            keys = λ k d h. covered_there (get_or here.keys k d).0 (flags_of.keys k d h);
            conds = λ k d h. covered_there (get_or here.conds k d).0 (flags_of.conds k d h);
            matched = AreMatched-values kit here (value_at kit end) (value_at kit there)
                (λ k d h. sym (inside.value (get_or here.conds k d).0
                (covered_there (get_or here.conds k d).0 (flags_of.conds k d h)))) enabled.matched;
          };
          uncovered = free;
          agrees = RowAgrees-values kit here (value_at kit end) (value_at kit there)
              (λ k d h. sym (inside.value (get_or here.keys k d).0
              (covered_there (get_or here.keys k d).0 (flags_of.keys k d h)))) step.row agrees;
        }

    -- what is covered there is flagged
    flagged_there : (attribute : ℕ) → IsCovered (end_of kit state reach.run) attribute → IsFlagged flags attribute
    flagged_there attribute covered = ap (λ (l : List Bool). get_or l attribute false) reach.covers
        ∙ IsFlagged-cells (end_of kit state reach.run).cells attribute ∙ covered

    -- the head of a rule that supports the end may be flagged too
    pub IsReach-set : (place : ℕ) → place < length kit.rules → Supports kit end place
        → (rule_at kit place).head ≢ left_out → ¬ IsFlagged flags (rule_at kit place).head
        → HasFlags flags (rule_at kit place) → IsReach kit end state left_out (set flags (rule_at kit place).head true)
    IsReach-set place within supports apart none flags_of =
        let step : Step = record { rule = place; row = supports.row } in
        let there = end_of kit state reach.run in
        let head = (rule_at kit place).head in
        let fires = fires_there step within supports.enabled supports.first.agrees flags_of
        (λ is. none (flagged_there head is)) in
        let end_is = end_of-append kit state reach.run (step ∷ []) in
        let fits' = Fits-end_of kit valid state reach.run fits
        (IsRun-supported kit valid end state reach.run reach.supported) in
        record {
          run = reach.run ++ step ∷ [];
          supported = IsSupportedRun-push state reach.run step reach.supported fires supports supports.keeps;
          uncovered = rw end_is (λ is. reach.uncovered
              (rw (cell_at-other kit valid there step fits' fires left_out (λ same. apart (sym same))) at is));
          covers = rw end_is (ap (λ (l : List Bool). set l head true) reach.covers
              ∙ sym (map-set is_covering there.cells head (Fixed step)));
        }

    -- a rule with a leaving row departs at its head, where its keys and conditions are flagged
    pub CanDepart-flagged : (place row : ℕ) → place < length kit.rules
        → leaving_row (get_or leads place Nothing) ≡ Some row → (rule_at kit place).head ≡ left_out
        → HasFlags flags (rule_at kit place) → CanDepart kit end state left_out
    CanDepart-flagged place row within is head flags_of =
        let step : Step = record { rule = place; row = row } in
        let (enabled, agrees, departs) = leaving_row-leaves kit end place row (get_or leads place Nothing)
        (led.leads_there.each place within) is in
        record {
          run = reach.run;
          supported = reach.supported;
          step = step;
          fires = fires_there step within enabled agrees flags_of
              (λ covered. reach.uncovered (subst (λ (attribute : ℕ). IsCovered (end_of kit state reach.run) attribute)
              head covered));
          head = head;
          departs = departs;
        }

  -- ---- a departure has a rule with a leaving row

  -- where an attribute can be departed at, a rule with this head has a leaving row, and closed flags hold its keys and
  -- conditions
  pub IsLeft-CanDepart : (leads : List Lead) (state : State) (flags : List Bool) (attribute : ℕ) → Fits kit state
      → IsLedTo kit state end leads → IsClosed kit end attribute flags
      → ((other : ℕ) → IsCovered state other → IsFlagged flags other) → CanDepart kit end state attribute
      → IsLeft kit leads flags attribute
  IsLeft-CanDepart leads state flags attribute fits led closed held depart =
      let there = end_of kit state depart.run in
      let here = rule_at kit depart.step.rule in
      let led' = IsLedTo-supported leads state depart.run fits led depart.supported in
      let free : ¬ IsCovered there attribute =
      λ is. depart.fires.uncovered (subst (λ (place : ℕ). IsCovered there place) (sym depart.head) is) in
      let holds = in_closed flags attribute closed state depart.run fits depart.supported free held in (
        depart.step.rule,
        depart.fires.rule_within,
        (
          record {
            head = depart.head;
            leaves = leaving_row-some kit end depart.step.rule depart.step.row (get_or leads depart.step.rule Nothing)
                (led.leads_there.each depart.step.rule depart.fires.rule_within)
                (IsEnabled-inside kit there end led'.inside here depart.fires.enabled)
                (RowAgrees-inside kit there end led'.inside here depart.step.row depart.fires.enabled.keys
                depart.fires.agrees) depart.departs;
          },
          record {
            keys = λ k d h. holds (get_or here.keys k d).0 (depart.fires.enabled.keys k d h);
            conds = λ k d h. holds (get_or here.conds k d).0 (depart.fires.enabled.conds k d h);
          },
        ),
      )

  -- ---- the leads as the code sees them

  -- a rule that keeps supports the end
  pub Supports-keeping : (place : ℕ) (lead : Lead) → IsLead kit end place lead → is_keeping lead ≡ true
      → Supports kit end place
  Supports-keeping place Nothing nothing keeping = absurd cc
  Supports-keeping place (Leaves hit) leaves keeping = absurd cc
  Supports-keeping place (KeepsThere hit) keeps keeping =
      record { enabled = keeps.0.enabled; row = hit.first; first = keeps.0.found.first; keeps = keeps.1 }

  -- and a rule that supports the end keeps
  keeping-Supports : (place : ℕ) (lead : Lead) → IsLead kit end place lead → Supports kit end place
      → is_keeping lead ≡ true
  keeping-Supports place Nothing nothing supports = absurd (nothing supports.enabled supports.row supports.first.agrees)
  keeping-Supports place (KeepsThere hit) keeps supports = refl
  keeping-Supports place (Leaves hit) leaves supports =
      let there = leaves.0.found.first in
      let one = there.least supports.row supports.first.agrees in
      let two = supports.first.least hit.first there.agrees in
      let same : hit.first ≡ supports.row = omega arith in
      absurd (leaves.1 (rw same supports.keeps))

  -- at first what is covered is flagged
  pub IsReach-start : (state : State) (left_out : ℕ) → ¬ IsCovered state left_out
      → IsReach kit end state left_out (map is_covering state.cells)
  IsReach-start state left_out uncovered = record { run = []; supported = tt; uncovered = uncovered; covers = refl }

  -- where no rule goes on, the flags are closed
  pub IsClosed-none : (leads : List Lead) (left_out : ℕ) (flags : List Bool) → AreLeads kit end leads
      → ((place : ℕ) → place < length kit.rules → ¬ IsNextRule kit leads flags left_out place)
      → IsClosed kit end left_out flags
  IsClosed-none leads left_out flags known none place within supports apart flags_of =
      elim (cases_Bool (get_or flags (rule_at kit place).head false)) [
        | inl flagged ↦ flagged
        | inr unflagged ↦
            absurd (none place within (record {
              keeps = keeping-Supports place (get_or leads place Nothing) (known.each place within) supports;
              goes_on = record { apart = apart; unflagged = λ flagged. absurd cc; flagged = flags_of };
            }))
      ]

  -- so what is found is what can be departed at
  pub CanDepart-left : (leads : List Lead) (state : State) (attribute : ℕ) (flags : List Bool) → Fits kit state
      → IsLedTo kit state end leads → IsReach kit end state attribute flags → IsClosed kit end attribute flags
      → IsLeft kit leads flags attribute ↔ CanDepart kit end state attribute
  CanDepart-left leads state attribute flags fits led reach closed = (
    (λ (place, within, (by, flags_of)).
        let (row, is) = some-row (leaving_row (get_or leads place Nothing)) by.leaves in
        CanDepart-flagged leads state fits led attribute flags reach place row within is by.head flags_of),
    λ depart. IsLeft-CanDepart leads state flags attribute fits led closed
        (λ other is. flagged_there leads state fits led attribute flags reach other
        (still_covered state reach.run other reach.supported is)) depart,
  )
    where
      some-row : (found : Option ℕ) → IsSome found → (row : ℕ) × (found ≡ Some row)
      some-row None some = absurd cc
      some-row (Some row) some = (row, refl)

  -- what is covered cannot be departed at
  pub no_departure-covered : (state : State) (attribute : ℕ) → IsCovered state attribute
      → ¬ CanDepart kit end state attribute
  no_departure-covered state attribute covered depart =
      depart.fires.uncovered (subst (λ (place : ℕ). IsCovered (end_of kit state depart.run) place) (sym depart.head)
      (still_covered state depart.run attribute depart.supported covered))

  -- an attribute that can be departed at is one of the kit
  pub CanDepart-within : (state : State) (attribute : ℕ) → CanDepart kit end state attribute → attribute < kit.width
  CanDepart-within state attribute depart =
      subst (λ (place : ℕ). place < kit.width) depart.head
      (head-within kit valid (end_of kit state depart.run) depart.step depart.fires)

  -- and the head of a rule with a leaving row
  pub IsLeftSomehow-CanDepart : (leads : List Lead) (state : State) (attribute : ℕ) → Fits kit state
      → IsLedTo kit state end leads → CanDepart kit end state attribute → IsLeftSomehow kit leads attribute
  IsLeftSomehow-CanDepart leads state attribute fits led depart =
      let there = end_of kit state depart.run in
      let here = rule_at kit depart.step.rule in
      let inside = (IsLedTo-supported leads state depart.run fits led depart.supported).inside in (
        depart.step.rule,
        depart.fires.rule_within,
        record {
          head = depart.head;
          leaves = leaving_row-some kit end depart.step.rule depart.step.row (get_or leads depart.step.rule Nothing)
              (led.leads_there.each depart.step.rule depart.fires.rule_within)
              (IsEnabled-inside kit there end inside here depart.fires.enabled)
              (RowAgrees-inside kit there end inside here depart.step.row depart.fires.enabled.keys depart.fires.agrees)
              depart.departs;
        },
      )

-- where no step dissents, nothing can be departed at
pub AreDepartures-none : (kit : Kit) (valid : IsValid kit) (end state : State) (leads : List Lead) → Fits kit state
    → IsLedTo kit state end leads → ((step : Step) → ¬ Dissents kit end step)
    → AreDepartures kit end state (replicate kit.width false)
AreDepartures-none kit valid end state leads fits led none = record {
  whole = length-replicate kit.width false;
  each = λ attribute. (
    (λ flagged. absurd (let clear = get_or-replicate_self false kit.width attribute in cc)),
    λ depart. absurd (dissents-somewhere (IsLeftSomehow-CanDepart kit valid end leads state attribute fits led depart)),
  );
}
  where
    dissents-at : (place : ℕ) (found : Option ℕ) → place < length kit.rules
        → leaving_row (get_or leads place Nothing) ≡ found → IsSome found → ⊥
    dissents-at place None within is some = absurd cc
    dissents-at place (Some row) within is some =
        let (enabled, agrees, differs) = leaving_row-leaves kit end place row (get_or leads place Nothing)
        (led.leads_there.each place within) is in
        none (record { rule = place; row = row }) (record {
          rule_within = within;
          enabled = enabled;
          covered = covered-agreeing kit end led.final (record { rule = place; row = row }) within enabled agrees;
          agrees = agrees;
          differs = differs;
        })

    dissents-somewhere : {attribute : ℕ} → IsLeftSomehow kit leads attribute → ⊥
    dissents-somewhere (place, within, by) =
        dissents-at place (leaving_row (get_or leads place Nothing)) within refl by.leaves

-- ---- the heads that are left

-- one of the first rules has this head, and a row that gives it another value than it has at the end
abbrev pub IsLeftBefore : Kit → List Lead → ℕ → ℕ → Type 0
IsLeftBefore kit leads count attribute = (place : ℕ) × (place < count) × LeavesBy kit leads attribute place

-- a test that tells one fact tells another that comes with it
pub tells-same : {P Q : Type 0} (test : Bool) → MatchBool test P (¬ P) → P ↔ Q → IsTrue test ↔ Q
tells-same true told same = ((λ is. same.0 told), λ q. refl)
tells-same false told same = ((λ is. absurd cc), λ q. absurd (told (same.1 q)))

-- a test that fails tells that there is nothing
pub tells-none : {Q : Type 0} → ¬ Q → IsTrue false ↔ Q
tells-none none = ((λ is. absurd cc), λ q. absurd (none q))
