use Rattle.desk_packing.proofs.Fields.{batch-exact, clerk-exact, committed-exact, edition-exact, text_row-exact}
use Rattle.desk_packing.proofs.Fields.{old_edition-exact, region-exact, rulebook-exact, session-exact}
use Rattle.desk_packing.proofs.laws.packed_rows_are_read_back.Goals as goal

pub returns : goal.returns
returns c = record {
  clerks = clerk-exact;
  texts = text_row-exact;
  rulebooks = rulebook-exact;
  editions = edition-exact;
  old_editions = old_edition-exact;
  regions = region-exact;
  sessions = session-exact;
  records = committed-exact;
  batches = batch-exact;
}
