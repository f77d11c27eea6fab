use Rattle.std.proofs.Common.{sym}
use Rattle.desk_words.specs.Tables.{published_of, rows_of}
use Rattle.machine_core.proofs.EditionWords.{words-bound}
use Rattle.machine_views.proofs.Recording.{records-given}
use Rattle.machine_views.proofs.looks.records.records_of.Goals as goal

pub returns : goal.returns
returns c =
    let published = published_of (rows_of c.args.tables.now) in
    let place = c.in_ok-place.place in
    let words = c.in_ok-attributes.attributes in
    let bound = words-bound published place words c.in_ok-attributes.ensures.words in
    record {
      records = records-given published c.args.own.now c.args.edition.now c.args.version place bound.0 words
          c.in_ok-lines.lines (rw c.as_slice.ensures at c.in_ok-place.ensures.finds) bound.1 (sym bound.2)
          c.in_ok-lines.ensures;
    }
