-- Sessions and rows, counted by the verdicts on them.
use Rattle.std.specs.Prelude.{◌≡◌, ℕ, ◌+◌, ◌≤◌, List, count_by, map, Ok, if◌then◌else◌}
use Rattle.desk_words.specs.declared.made.Batched.{Batched}
use Rattle.desk_words.specs.declared.rows.batch.BatchRow.{BatchRow}
use Rattle.desk_words.specs.declared.rows.session.SessionRow.{SessionRow}
use Rattle.desk_words.specs.Tables.{Published}
use Rattle.fix_engine.specs.declared.verdict.Verdict.{Verdict}
use Rattle.fix_engine.specs.declared.verdict.Verdict.TheVariants.{Fix, Conflict}
use Rattle.fix_model.specs.declared.kit.Kit.{Kit}
use Rattle.fix_model.specs.declared.region.RowVerdict.{RowVerdict}
use Rattle.fix_model.specs.Regions.{row_state}
use Rattle.machine_core.specs.Checked.{Answer, Checked, answer_for, each, Gives}
use Rattle.machine_core.specs.DeskLook.Region.{row_verdict}
use Rattle.machine_core.specs.Look.Report.{assessment_of, is_certain_fix, is_conflict, is_partial_fix}
use Rattle.machine_views.specs.declared.counting.Verdicts.{Verdicts}

-- how many have each verdict
abbrev pub verdicts_of : {A : Type 0} → (A → Verdict) → List A → Verdicts
verdicts_of verdict_of items = record {
  certain = count_by (λ item. is_certain_fix (verdict_of item)) items;
  partial = count_by (λ item. is_partial_fix (verdict_of item)) items;
  conflict = count_by (λ item. is_conflict (verdict_of item)) items;
}

-- one more of a verdict
abbrev pub one_more : Verdicts → Verdict → Verdicts
one_more counts (Fix certain dissent) =
    if certain then record counts { certain = counts.certain + 1 } else record counts { partial = counts.partial + 1 }
one_more counts Conflict = record counts { conflict = counts.conflict + 1 }

-- no more than so many have a verdict
pub record AreAtMost (most : ℕ) (verdicts : Verdicts) : Type 0 where
  pub certain : verdicts.certain ≤ most
  pub partial : verdicts.partial ≤ most
  pub conflict : verdicts.conflict ≤ most

-- these are the verdicts in what is found of some items, counted
pub record AreCounted {A B : Type 0} (find : A → Checked B) (verdict_of : B → Verdict) (items : List A)
    (verdicts : Verdicts) : Type 0 where
  pub all : List B
  pub given : Gives (each find items) (Ok all)
  pub counted : verdicts ≡ verdicts_of verdict_of all

-- the verdicts on sessions, counted
abbrev pub AreSessionVerdicts : Published → List SessionRow → Verdicts → Type 0
AreSessionVerdicts published = AreCounted (assessment_of published) (λ one. one.verdict)

-- the verdicts on rows of texts for some attributes, counted
abbrev pub AreRowVerdicts : Kit → List ℕ → List (List (List ℕ)) → Verdicts → Type 0
AreRowVerdicts kit attributes =
    AreCounted (λ texts. answer_for kit (row_state kit.width attributes texts)) (λ one. one.verdict)

-- the verdicts on rows of texts for some attributes, by their names in the rows' order
pub record AreVerdictsOn (kit : Kit) (attributes : List ℕ) (rows : List (List (List ℕ))) (verdicts : List RowVerdict)
    : Type 0 where
  pub all : List Answer
  pub given : Gives (each (λ texts. answer_for kit (row_state kit.width attributes texts)) rows) (Ok all)
  pub named : verdicts ≡ map (λ answer. row_verdict answer.verdict) all

-- what is told of a batch of this number, whose sessions have these verdicts
abbrev pub batched : ℕ → BatchRow → Verdicts → Batched
batched number row verdicts = record {
  batch = number;
  first = row.first;
  rows = row.count;
  certain = verdicts.certain;
  partial = verdicts.partial;
  conflict = verdicts.conflict;
}
