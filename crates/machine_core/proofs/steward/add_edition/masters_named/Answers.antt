use Rattle.std.proofs.Common.{◌∙◌, arith, refl, subst, sym}
use Rattle.std.specs.Prelude.{Ok}
use Rattle.std.proofs.lemmas.List.{length-append}
use Rattle.desk_words.specs.Tables.{published_of, rows_of}
use Rattle.machine_core.specs.Checked.{Gives}
use Rattle.machine_core.specs.Steward.AddEdition.{AreOthers, another_master}
use Rattle.machine_core.proofs.Joined.{following-step}
use Rattle.machine_core.proofs.Masters.{another-master}
use Rattle.machine_core.proofs.Stopping.{Finds-following}
use Rattle.machine_core.proofs.steward.add_edition.masters_named.Goals as goal

pub returns-in_err-place-clause-finds : goal.returns-in_err-place-clause-finds
returns-in_err-place-clause-finds c =
    let finds = rw c.as_slice.ensures at c.in_err-place.ensures.finds in
    Finds-following (another_master c.args.tables.now.masters.items) c.args.masters.now c.masters.master-index
    c.master-item.result c.masters.places c.in_err-place.field-0.0 _ c.from_residual.result c.from_residual.ensures.1
    c.masters-test.true c.master-item.is c.masters.invariant.found finds

pub masters-preserved : goal.masters-preserved
masters-preserved c =
    let rows = published_of (rows_of c.args.tables.now) in
    let finds = rw c.as_slice.ensures at c.in_ok-place.ensures.finds in
    let given : Gives (another_master rows.masters c.masters.places c.master-item.result) (Ok c.in_ok-place.place)
    = rw finds refl in
    let others = another-master rows c.masters.places c.master-item.result c.in_ok-place.place
    c.masters.invariant.others
    given in
    record {
      found = c.masters.invariant.found ∙ following-step (another_master rows.masters) c.args.masters.now
          c.masters.master-index c.master-item.result c.masters.places c.push.new.self c.in_ok-place.place
          c.masters-test.true c.master-item.is finds c.in_ok-push.ensures.pushed;
      others = subst (AreOthers rows) (sym c.in_ok-push.ensures.pushed) others;
      each = rw (c.in_ok-push.ensures.pushed, length-append) (omega (arith, c.masters.invariant.each));
    }
