use Rattle.file_desk.proofs.running.run_over.Goals as goal

-- the keeper held at first what the files stood for
pub returns : goal.returns
returns g c = rw c.over-keeper.ensures at c.run-code.ensures.leaves
