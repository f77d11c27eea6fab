use Rattle.desk_packing.specs.RowFormats.{batch, clerk, committed, edition, old_edition, region, rulebook, text_row}
use Rattle.desk_packing.specs.RowFormats.{session}
use Rattle.desk_packing.proofs.Exact.{apart}
use Rattle.desk_packing.proofs.Fields.{batch-exact, clerk-exact, committed-exact, edition-exact, text_row-exact}
use Rattle.desk_packing.proofs.Fields.{old_edition-exact, region-exact, rulebook-exact, session-exact}
use Rattle.desk_packing.proofs.laws.equal_bytes_are_of_one_row.Goals as goal

pub returns : goal.returns
returns c = record {
  clerks = apart clerk clerk-exact;
  texts = apart text_row text_row-exact;
  rulebooks = apart rulebook rulebook-exact;
  editions = apart edition edition-exact;
  old_editions = apart old_edition old_edition-exact;
  regions = apart region region-exact;
  sessions = apart session session-exact;
  records = apart committed committed-exact;
  batches = apart batch batch-exact;
}
