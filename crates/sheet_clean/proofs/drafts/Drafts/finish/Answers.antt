use Rattle.std.proofs.Common.{refl}
use Rattle.sheet_clean.proofs.drafts.Drafts.finish.Goals as goal

pub returns : goal.returns
returns c = λ setting sheets written. rw (
  c.in_ok-clean.ensures setting sheets.clean written.clean,
  c.in_ok-changes.ensures setting sheets.changes written.changes,
  c.in_ok-conflicts.ensures setting sheets.conflicts written.conflicts,
  c.in_ok-dissents.ensures setting sheets.dissents written.dissents,
) refl
