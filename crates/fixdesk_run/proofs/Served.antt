-- What serving a stream leaves, from before the machine began.
use Rattle.std.proofs.Common.{◌≡◌, ℕ, refl, subst}
use Rattle.desk_base.specs.Counts.{risen}
use Rattle.desk_words.specs.Tables.{Rows}
use Rattle.keeper_core.specs.Keeping.{Uses}
use Rattle.http_desk.specs.declared.serving.Ended.{Ended}
use Rattle.http_desk.specs.Fronts.{bare}
use Rattle.http_desk.specs.Streams.{IsFaultless, Streams}
use Rattle.once_run.specs.Status.{status_code}
use Rattle.fixdesk_run.specs.Opening.{Begins}
use Rattle.fixdesk_run.specs.Pipe.{Pipes, PipesFaultless, end_status, scene_over}
use Rattle.fixdesk_run.specs.Standing.{Standing, scene_at}
use Rattle.fixdesk_run.specs.World.{World, failed, loaded}

-- uses of equal counts are equal
uses_equal : {calls also faults others : ℕ} → calls ≡ also → faults ≡ others
    → ◌≡◌ {A = Uses} (record { calls = calls; faults = faults }) (record { calls = also; faults = others })
uses_equal one other = rw (one, other) refl

-- a keeper that was called once, and did not fail, is one from which tables were loaded
pub is_loaded : (old new : Uses) → new.calls ≡ risen old.calls → new.faults ≡ old.faults → new ≡ loaded old
is_loaded old new called same = uses_equal called same

-- and one that failed failed
pub is_failed : (old new : Uses) → new.calls ≡ risen old.calls → new.faults ≡ risen old.faults → new ≡ failed old
is_failed old new called rose = uses_equal called rose

-- the stream was served
pub pipes : (holds : Rows → Type 0) (limit : ℕ) (old new : World) (begun : Standing) (after : Rows) (end : Ended)
    → Begins holds old.told old.uses begun → Streams bare limit (scene_at old.link begun) (scene_over new after) end
    → Pipes holds limit old new (end_status end)
pipes holds limit old new begun after end begins streams = record {
  rows = begun.tables;
  begun = begun.told;
  started = begins.started;
  held = λ other holding some. begins.kept other holding (streams.later.told some);
  after = after;
  end = end;
  streams = subst (λ (used : Uses). Streams bare limit (scene_at old.link (record begun { uses = used }))
      (scene_over new after) end) begins.called streams;
  told = refl;
}

-- it was served without a fault
pub pipes_faultless : (holds : Rows → Type 0) (takes : ℕ → Type 0) (limit : ℕ) (old new : World) (begun : Standing)
    (after : Rows) (end : Ended) → Begins holds old.told old.uses begun
    → IsFaultless bare takes limit (scene_at old.link begun) (scene_over new after) end
    → PipesFaultless takes limit old new (status_code (end_status end))
pipes_faultless holds takes limit old new begun after end begins faultless = record {
  rows = begun.tables;
  begun = begun.told;
  started = begins.started;
  after = after;
  end = end;
  faultless = subst (λ (used : Uses). IsFaultless bare takes limit (scene_at old.link (record begun { uses = used }))
      (scene_over new after) end) begins.called faultless;
  told = refl;
}
