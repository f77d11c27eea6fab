use Rattle.std.proofs.Common.{◌≡◌, [], rules}
use Rattle.std.proofs.lemmas.List.{nil_from_length}
use Rattle.restore_run.specs.Dumped.{IfLeft}
use Rattle.restore_run.proofs.Lefts.{IfLeft-whole}
use Rattle.restore_run.proofs.top.restore_desk.Goals as goal

-- there are no words, and the text that was read is what the source had left
pub returns-clause-complete : goal.returns-clause-complete
returns-clause-complete g c steady takes =
    let none : c.args.words.now ≡ [] = nil_from_length c.args.words.now (search rules) in
    let devices = rw none at steady in
    let room = rw none at takes in
    let left : IfLeft (g.S.Source.left c.args.link.now.source) c.as_slice.result.now =
    rw c.as_slice.ensures.value (IfLeft-whole _ _ _ c.in-Ok.ensures.taken) in
    rw none (c.restore_text.ensures.complete devices.1 (room c.as_slice.result.now left))
