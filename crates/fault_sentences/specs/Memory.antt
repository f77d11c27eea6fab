-- The sentence on want of memory, which is no fault of what was read.
use Rattle.std.specs.Prelude.{ℕ, List, codes}

abbrev pub no_memory : List ℕ
no_memory = codes "there was no memory; try it again"
