use Rattle.file_desk.proofs.restoring.restore_over.Goals as goal

-- the keeper held at first what the files stood for
pub returns : goal.returns
returns g c = rw c.over-keeper.ensures at c.restore_desk-end.ensures.leaves
