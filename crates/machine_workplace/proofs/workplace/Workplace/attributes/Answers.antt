use Rattle.std.proofs.Common.{ap, arith, length}
use Rattle.desk_words.specs.Tables.{published_of}
use Rattle.machine_core.specs.Shelves.{bound_on}
use Rattle.machine_core.proofs.Widths.{few-attributes}
use Rattle.machine_workplace.proofs.workplace.Workplace.attributes.Goals as goal

pub returns : goal.returns
returns c rows ready =
    let is = c.shelved.ensures.bound (published_of rows) ready.held in
    record {
      bound = bound_on c.shelved.result.now;
      is_bound = is;
      are = c.as_slice.ensures;
      few = omega (
        arith,
        ap length c.as_slice.ensures,
        few-attributes rows c.args.edition (bound_on c.shelved.result.now) ready.valid is,
      );
    }
