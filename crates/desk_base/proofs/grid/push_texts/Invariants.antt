use Rattle.std.proofs.Common.{◌≡◌, ◌++◌, take}
use Rattle.desk_base.specs.Texts.{bytes_of}
use Rattle.desk_base.proofs.grid.push_texts.Given as goal

-- the texts so far were added
abbrev pub invariant-texts : goal.invariant-texts
invariant-texts l = l.cells ≡ l.fn.cells ++ take l.text-index (bytes_of l.texts)
