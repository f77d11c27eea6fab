use Rattle.std.proofs.Common.{◌≡◌, ◌-◌, [], arith, drop, length, refl, take}
use Rattle.std.proofs.lemmas.List.{get_or_default, length-drop, take_all}
use Rattle.desk_words.specs.Tables.{new_clerk}
use Rattle.machine_views.proofs.looks.published.catalogue.Goals as goal

pub returns : goal.returns
returns c =
    let clerks = c.args.tables.now.clerks.items in
    let later : take (length clerks - 1) (drop 1 clerks) ≡ drop 1 clerks =
    take_all (length clerks - 1) (drop 1 clerks) (omega (arith, length-drop 1 clerks)) in
    let first = get_or_default clerks 0 c.index-callers-0.result (new_clerk []) c.requires.tables.steward in
    rw (
      c.in_ok-last_writes.ensures,
      c.in_ok-versions.ensures,
      c.in_ok-versions-2.ensures,
      c.in_ok-versions-3.ensures,
      c.in_ok-versions-4.ensures,
      c.as_slice-callers.ensures,
      c.as_slice.ensures,
      c.as_slice-2.ensures,
      c.as_slice-3.ensures,
      c.as_slice-4.ensures,
      later,
      first,
    ) refl
