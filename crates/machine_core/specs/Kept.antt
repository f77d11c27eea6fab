-- The kept reply: what the reply of a caller's act is over the tables, one equation an act. It is the reply of an
-- accepted write, over the rows after it, and the reply of its repeat. An act that a caller can't have has no reply:
-- valid tables rule it out.
use Rattle.std.specs.Prelude.{ℕ, ◌+◌, ◌-◌, List, count_by, drop, slice_get, take}
use Rattle.desk_words.specs.declared.made.Made.{Made}
use Rattle.desk_words.specs.declared.made.Made.TheVariants as made
use Rattle.desk_words.specs.declared.reply.Reply.{Reply}
use Rattle.desk_words.specs.declared.reply.Reply.TheVariants as reply
use Rattle.desk_words.specs.declared.rows.act.Act.{Act}
use Rattle.desk_words.specs.declared.rows.act.Act.TheVariants.{Clerk, Schema, Master, Rulebook, Edition, Region, Opened}
use Rattle.desk_words.specs.declared.rows.act.Act.TheVariants.{Changed, Committed, Batched as BatchedAct}
use Rattle.desk_words.specs.declared.rows.batch.BatchRow.{BatchRow}
use Rattle.desk_words.specs.declared.rows.region.RegionRow.{RegionRow}
use Rattle.desk_words.specs.Tables.{Published, Rows, published_of}
use Rattle.desk_valid.specs.Bindings.{bound_at}
use Rattle.fix_model.specs.Regions.{row_state}
use Rattle.machine_core.specs.Checked.{Checked, ◌>>=◌, answer_for, done, each, certainly, never}
use Rattle.machine_core.specs.Look.Report.{Assessment, is_certain_fix, is_conflict, is_partial_fix, assessment_of}
use Rattle.machine_core.specs.Look.View.{view_at}
use Rattle.machine_core.specs.Own.{Own}
use Rattle.machine_core.specs.Steward.AddRegion.{region_count}

-- the region at a place, with the number of its rows of each verdict
abbrev pub region_made : Published → ℕ → RegionRow → Checked Made
region_made published place row = do
  bound ← certainly (bound_at published row.edition)
  answers ← each (λ texts. answer_for bound.kit (row_state bound.kit.width row.region.attrs texts)) row.region.rows
  done (made.Region (region_count (take place published.regions) row.edition + 1)
      (count_by (λ answer. is_certain_fix answer.verdict) answers)
      (count_by (λ answer. is_partial_fix answer.verdict) answers)
      (count_by (λ answer. is_conflict answer.verdict) answers))

-- the reply of the steward's act, whose target is a place from 0
abbrev pub kept_made : Rows → Act → ℕ → Checked Made
kept_made rows Clerk place = do
  row ← certainly (slice_get rows.clerks place)
  done (made.Clerk row.name)
kept_made rows Schema place = do
  row ← certainly (slice_get rows.schemas place)
  done (made.Schema row.name row.version)
kept_made rows Master place = do
  row ← certainly (slice_get rows.masters place)
  done (made.Master row.name row.version)
kept_made rows Rulebook place = do
  row ← certainly (slice_get rows.rulebooks place)
  done (made.Rulebook row.name row.version)
kept_made rows Edition place = do
  row ← certainly (slice_get rows.editions place)
  done (made.Edition row.name row.version)
kept_made rows Region place = do
  row ← certainly (slice_get rows.regions place)
  region_made (published_of rows) place row
kept_made rows _ place = never

-- a batch of this number, with these verdicts on its sessions
abbrev pub batch_with : ℕ → BatchRow → List Assessment → Reply
batch_with number row sessions = reply.Batched (record {
  batch = number;
  first = row.first;
  rows = row.count;
  certain = count_by (λ one. is_certain_fix one.verdict) sessions;
  partial = count_by (λ one. is_partial_fix one.verdict) sessions;
  conflict = count_by (λ one. is_conflict one.verdict) sessions;
})

-- the batch of this number, with its sessions' verdicts
abbrev pub batch_reply : Published → Own → ℕ → BatchRow → Checked Reply
batch_reply published own number row = do
  sessions ← each (assessment_of published) (take row.count (drop (row.first - 1) own.sessions))
  done (batch_with number row sessions)

-- the reply of a clerk's act, whose target is a place from 0
abbrev pub kept_reply : Published → Own → Act → ℕ → Checked Reply
kept_reply published own Opened place = do
  view ← view_at published own (place + 1)
  done (reply.Opened view)
kept_reply published own Changed place = do
  view ← view_at published own (place + 1)
  done (reply.View view)
kept_reply published own Committed place = do
  row ← certainly (slice_get own.records place)
  done (reply.Committed (place + 1) row.session row.certain)
kept_reply published own BatchedAct place = do
  row ← certainly (slice_get own.batches place)
  batch_reply published own (place + 1) row
kept_reply published own _ place = never
