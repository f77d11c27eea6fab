-- Files under names.
use Rattle.std.specs.Prelude.{ℕ, List, Option}

-- what stands under each name: the bytes of a file, or none where there is no file that can be read
abbrev pub Folder : Type 0
Folder = List ℕ → Option (List ℕ)
