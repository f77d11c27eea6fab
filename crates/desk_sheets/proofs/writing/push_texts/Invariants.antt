use Rattle.std.proofs.Common.{◌≡◌, ◌++◌, take}
use Rattle.desk_base.specs.Texts.{bytes_of}
use Rattle.desk_sheets.proofs.writing.push_texts.Given as goal

abbrev pub invariant-texts : goal.invariant-texts
invariant-texts l = bytes_of l.fields.items ≡ bytes_of l.fn.fields.items ++ take l.text-index l.texts
