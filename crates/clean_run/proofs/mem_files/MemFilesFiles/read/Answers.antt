use Rattle.std.proofs.Common.{rules, ◌≡◌, ◌∙◌, ap, sym, Some, option_map, find, string_bytes}
use Rattle.std.specs.List.{each_same}
use Rattle.std.specs.Str.{bytes_eq}
use Rattle.clean_run.proofs.mem_files.MemFilesFiles.read.Goals as goal

pub returns-in-Ok-clause-bytes : goal.returns-in-Ok-clause-bytes
returns-in-Ok-clause-bytes c = λ folder tells.
    let copied : c.in-Ok.bytes.items ≡ c.in-Some.file.now.bytes.items = each_same _ _ c.in-Ok.ensures.cases.0 in
    let found : find (λ file. bytes_eq c.args.name.now (string_bytes file.name)) c.args.self.now.files.items
    ≡ Some c.in-Some.file.now = search rules in
    tells c.args.name.now ∙ ap (option_map (λ file. file.bytes.items)) found ∙ ap Some (sym copied)
