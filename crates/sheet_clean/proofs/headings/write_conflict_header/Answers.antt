use Rattle.sheet_clean.proofs.headings.write_conflict_header.Goals as goal

pub returns : goal.returns
returns c = λ setting text has. rw c.as_slice.ensures at (c.in_ok-write.ensures setting text has)
