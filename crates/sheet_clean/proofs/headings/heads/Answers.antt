use Rattle.std.proofs.Common.{[]}
use Rattle.sheet_clean.specs.Sheets.{heads}
use Rattle.sheet_clean.proofs.headings.heads.Goals as goal

pub returns : goal.returns
returns c =
    let setting = c.args.setting.now in
    let begun = c.new-drafts.ensures in
    let clean = rw (c.as_slice.ensures.value, c.in_ok-clean.ensures)
    at (c.in_ok-write.ensures setting [] begun.clean) in
    c.in_ok-texts.ensures setting (heads setting c.args.header.now) (record {
      clean = clean;
      changes = c.in_ok-write_change_header.ensures setting [] begun.changes;
      conflicts = c.in_ok-write_conflict_header.ensures setting [] begun.conflicts;
      dissents = c.in_ok-write_dissent_header.ensures setting [] begun.dissents;
    })
