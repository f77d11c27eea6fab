use Rattle.desk_words.specs.Tables.{published_of, rows_of}
use Rattle.machine_views.proofs.Books.{IsBookFor-bound}
use Rattle.machine_views.proofs.answers.book_for.Goals as goal

pub returns : goal.returns
returns c =
    let rows = rows_of c.args.tables.now in
    IsBookFor-bound rows c.args.session.now c.shelved.result.now
    (c.shelved.ensures.bound (published_of rows) c.requires.held) c.requires.valid c.requires.session
