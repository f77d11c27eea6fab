use Rattle.file_desk.proofs.paging.pages_over.Goals as goal

-- no link is open at first
pub serve_pages-code-requires : goal.serve_pages-code-requires
serve_pages-code-requires g c = c.requires

-- the keeper held at first what the files stood for
pub returns-clause-serves : goal.returns-clause-serves
returns-clause-serves g c = rw c.over-keeper.ensures at c.serve_pages-code.ensures.leaves

-- and none in the end
pub returns-clause-idle : goal.returns-clause-idle
returns-clause-idle g c = c.serve_pages-code.ensures.idle
