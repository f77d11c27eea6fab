-- Every state of a valid kit has an answer.
use Rattle.std.proofs.Common.{◌≡◌, List, [], ◌++◌, Option, Some, None, inl, inr, refl, true, false}
use Rattle.std.specs.Prelude.{⊤}
use Rattle.fix_model.specs.declared.kit.Kit.{Kit}
use Rattle.fix_model.specs.declared.state.State.{State}
use Rattle.fix_model.specs.declared.state.Step.{Step}
use Rattle.fix_model.specs.FirstRun.{IsFirstRun}
use Rattle.fix_model.specs.Fix.{Dissents, IsDissent, HasFix}
use Rattle.fix_model.specs.Run.{end_of}
use Rattle.fix_model.specs.States.{Fits, record_of}
use Rattle.fix_model.specs.Valid.{IsValid}
use Rattle.fix_model.proofs.Deciding.{opposite, Decided}
use Rattle.fix_model.proofs.Lengths.{IsMaximalRun-exists}
use Rattle.fix_engine.specs.declared.verdict.Verdict.TheVariants.{Fix, Conflict}
use Rattle.fix_engine.specs.Verdicts.{IsAnswer}
use Rattle.machine_core.specs.Checked.{Answer}
use Rattle.machine_laws.proofs.Decisions.{decide_all_covered, decide_dissents, decide_records, told}
use Rattle.machine_laws.proofs.LeastRuns.{FindsRun, finds-run, least_step}
use Rattle.fix_engine.specs.declared.verdict.Verdict.{Verdict}
use Rattle.region_suggest.proofs.Pairs.{certain-only}
use Rattle.fix_model.specs.declared.region.RowVerdict.TheVariants as row

module _ (kit : Kit) (state : State) (valid : IsValid kit) (fits : Fits kit state) where
  -- there is a first run
  first-run : (run : List Step) × IsFirstRun kit state run
  first-run =
      let Each : State → Type 0 = λ end. ⊤ in
      elim (finds-run kit valid Each (λ end. inl tt) state fits) [
        | inl found ↦ (
          found.0,
          record { holds = found.1.maximal; least = λ other maximal. found.1.least other maximal tt },
        )
        | inr none ↦ absurd (let some = IsMaximalRun-exists kit valid state [] fits tt in none ([] ++ some.0) some.1 tt)
      ]

-- there is a dissent, or none
some-dissent : (kit : Kit) (state : State) → (dissent : Option Step) × IsDissent kit state dissent
some-dissent kit state = elim (least_step kit (Dissents kit state) (decide_dissents kit state)
    (λ step dissents. (dissents.rule_within, dissents.agrees.usable.row_within))) [
      | inl least ↦ (Some least.0, least.1)
      | inr none ↦ (None, none)
    ]

-- the end is another record than that of the first run
abbrev Elsewhere : Kit → State → List Step → State → Type 0
Elsewhere kit state first end = ¬ (record_of kit (end_of kit state first) ≡ record_of kit end)

-- by the first run and the least run that ends elsewhere, if there is one, there is an answer
answer-by : (kit : Kit) (state : State) (first : List Step) (dissent : Option Step) → IsFirstRun kit state first
    → IsDissent kit (end_of kit state first) dissent → FindsRun kit (Elsewhere kit state first) state
    → (answer : Answer) × IsAnswer kit state answer.first answer.second answer.verdict
answer-by kit state first dissent is_first is_dissent (inl second) = (
  record { first = first; second = second.0; verdict = Conflict },
  record {
    is_first = is_first;
    is_second = record {
      holds = record { maximal = second.1.maximal; differs = second.1.passes };
      least = λ other apart. second.1.least other apart.maximal apart.differs;
    };
  },
)
answer-by kit state first dissent is_first is_dissent (inr none) =
    let certain = told (decide_all_covered kit (end_of kit state first)) in (
      record { first = first; second = []; verdict = Fix certain.0 dissent },
      (
        record {
          is_first = is_first;
          unique = λ other maximal. elim (decide_records (record_of kit (end_of kit state first))
              (record_of kit (end_of kit state other))) [
                | inl same ↦ same
                | inr differs ↦ absurd (none other maximal differs)
              ];
          is_certain = certain.1;
          is_dissent = is_dissent;
        },
        refl,
      ),
    )

-- what the engine answers for a state is there
pub some-answer : (kit : Kit) (state : State) → IsValid kit → Fits kit state
    → (answer : Answer) × IsAnswer kit state answer.first answer.second answer.verdict
some-answer kit state valid fits =
    let first = first-run kit state valid fits in
    let dissent = some-dissent kit (end_of kit state first.0) in
    answer-by kit state first.0 dissent.0 first.1 dissent.1 (finds-run kit valid (Elsewhere kit state first.0)
    (λ end. opposite (decide_records (record_of kit (end_of kit state first.0)) (record_of kit end))) state fits)

-- whether a state has a certain fix
pub decide_certain : (kit : Kit) (state : State) → IsValid kit → Fits kit state → Decided (HasFix kit state true)
decide_certain kit state valid fits =
    let (answer, is_answer) = some-answer kit state valid fits in
    by_verdict answer.first answer.second answer.verdict is_answer
  where
    by_verdict : (first second : List Step) (verdict : Verdict) → IsAnswer kit state first second verdict
        → Decided (HasFix kit state true)
    by_verdict first second (Fix true dissent) is = inl (first, dissent, is.0)
    by_verdict first second (Fix false dissent) is = inr (λ certain.
        (let same = certain-only kit state row.Partial (first, dissent, is.0) certain in cc))
    by_verdict first second Conflict is = inr (λ certain.
        (let same = certain-only kit state row.Conflict (
          first,
          is.is_first,
          (second, is.is_second.holds),
        ) certain in cc))
