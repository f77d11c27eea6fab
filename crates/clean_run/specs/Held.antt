-- What files in memory hold.
use Rattle.std.specs.Prelude.{ℕ, List, Option, option_map, find, string_bytes}
use Rattle.std.specs.Str.{bytes_eq}
use Rattle.clean_run.specs.declared.mem_files.MemFile.{MemFile}

-- the bytes of the first file of this name, if there is one
abbrev pub held : List MemFile → List ℕ → Option (List ℕ)
held files name = option_map (λ file. file.bytes.items) (find (λ file. bytes_eq name (string_bytes file.name)) files)
