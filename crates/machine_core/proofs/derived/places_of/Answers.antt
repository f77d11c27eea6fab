use Rattle.std.proofs.Common.{◌∙◌, [], arith, refl}
use Rattle.std.specs.Prelude.{Err, zip}
use Rattle.std.proofs.lemmas.List.{drop_all, length-append}
use Rattle.std.proofs.lemmas.Slice.Zip.{firsts-zip, seconds-zip}
use Rattle.machine_core.specs.Checked.{run, each_following}
use Rattle.machine_core.specs.Deriving.{another_pair}
use Rattle.machine_core.proofs.Joined.{following-step}
use Rattle.machine_core.proofs.Pairs.{no-attribute, no-column, pair-found, zip-push}
use Rattle.machine_core.proofs.Stopping.{EndsWith-stopped, Finds-following}
use Rattle.machine_core.proofs.derived.places_of.Goals as goal

pub returns-in_err-attribute : goal.returns-in_err-attribute
returns-in_err-attribute c =
    let words = c.args.words.now in
    let names = c.args.names.now in
    let pairs = c.args.pairs.now in
    let before = zip c.pairs.attributes c.pairs.columns in
    let stop = c.in_err-attribute.field-0.0 in
    let first = rw c.as_slice.ensures at c.in_err-attribute.ensures.finds in
    let none = no-attribute words names c.pairs.attributes c.pairs.columns c.pairs.invariant.each c.pair-item.result
    stop first in
    EndsWith-stopped (run (each_following [] (another_pair words names) pairs)) _ stop c.from_residual.result
    c.from_residual.ensures.1 (Finds-following (another_pair words names) pairs c.pairs.pair-index c.pair-item.result
    before stop (run (each_following [] (another_pair words names) pairs))
    (Err stop) refl c.pairs-test.true c.pair-item.is
    c.pairs.invariant.found none)

pub returns-in_err-column : goal.returns-in_err-column
returns-in_err-column c =
    let words = c.args.words.now in
    let names = c.args.names.now in
    let pairs = c.args.pairs.now in
    let before = zip c.pairs.attributes c.pairs.columns in
    let stop = c.in_err-column.field-0.0 in
    let first = rw c.as_slice.ensures at c.in_ok-attribute.ensures.finds in
    let second = rw c.as_slice-in-pairs.ensures at c.in_err-column.ensures in
    let none = no-column words names c.pairs.attributes c.pairs.columns c.pairs.invariant.each c.pair-item.result
    c.in_ok-attribute.attribute stop first second in
    EndsWith-stopped (run (each_following [] (another_pair words names) pairs)) _ stop
    c.from_residual-in_err-column.result
    c.from_residual-in_err-column.ensures.1 (Finds-following (another_pair words names) pairs c.pairs.pair-index
    c.pair-item.result before stop (run (each_following [] (another_pair words names) pairs)) (Err stop) refl
    c.pairs-test.true
    c.pair-item.is c.pairs.invariant.found none)

pub pairs-preserved : goal.pairs-preserved
pairs-preserved c =
    let words = c.args.words.now in
    let names = c.args.names.now in
    let before = zip c.pairs.attributes c.pairs.columns in
    let attribute = c.in_ok-attribute.attribute in
    let column = c.in_ok-column.column in
    let first = rw c.as_slice.ensures at c.in_ok-attribute.ensures.finds in
    let second = rw c.as_slice-in-pairs.ensures at c.in_ok-column.ensures in
    let found = pair-found words names c.pairs.attributes c.pairs.columns c.pairs.invariant.each c.pair-item.result
    attribute column first second in
    record {
      found = c.pairs.invariant.found ∙ following-step (another_pair words names) c.args.pairs.now c.pairs.pair-index
          c.pair-item.result before (zip c.push.new.self c.push-in-pairs.new.self) (attribute, column) c.pairs-test.true
          c.pair-item.is found (rw (c.in_ok-push.ensures.pushed, c.in_ok-push-2.ensures.pushed)
          (zip-push c.pairs.attributes c.pairs.columns attribute column c.pairs.invariant.each));
      each = rw (c.in_ok-push.ensures.pushed, c.in_ok-push-2.ensures.pushed, length-append, length-append)
          (omega (arith, c.pairs.invariant.each));
    }

pub returns : goal.returns
returns c =
    let same = c.pairs.invariant.found in
    let each = c.pairs.invariant.each in
    rw (
      same,
      drop_all c.pairs.pair-index c.args.pairs.now c.pairs-test.false,
      firsts-zip c.pairs.attributes c.pairs.columns each,
      seconds-zip c.pairs.attributes c.pairs.columns each,
    ) refl
