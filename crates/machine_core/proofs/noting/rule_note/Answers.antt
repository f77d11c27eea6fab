use Rattle.std.proofs.Common.{◌≡◌, ◌∙◌, None, Some, ap, sym}
use Rattle.std.specs.Prelude.{slice_get}
use Rattle.std.proofs.lemmas.Option.{slice_get-get_or}
use Rattle.machine_core.specs.Finding.{newest_master}
use Rattle.machine_core.proofs.noting.rule_note.Goals as goal

pub returns-in-Some : goal.returns-in-Some
returns-in-Some c =
    let masters = c.args.masters.now in
    let place = c.in-Some.place in
    let row = c.index-masters-place.result in
    let newest : newest_master masters c.args.line.now.master ≡ Some place =
    sym (rw c.as_str.ensures.text at c.newest_of.ensures.place) ∙ c.in-Some.is in
    let stands : slice_get masters place ≡ Some row =
    slice_get-get_or masters place row c.in-Some.ensures.within ∙ ap Some (sym c.index-masters-place.is) in
    rw (newest, stands) (rw c.as_slice.ensures at c.column_note.ensures)

pub returns-in_ok-absent_note-in-None : goal.returns-in_ok-absent_note-in-None
returns-in_ok-absent_note-in-None c =
    let newest : newest_master c.args.masters.now c.args.line.now.master ≡ None =
    sym (rw c.as_str.ensures.text at c.newest_of.ensures.place) ∙ c.in-None.is in
    rw newest (ap Some c.in_ok-absent_note-in-None.ensures)
