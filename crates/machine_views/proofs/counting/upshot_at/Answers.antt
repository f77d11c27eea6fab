use Rattle.std.proofs.Common.{arith}
use Rattle.desk_words.specs.Tables.{published_of, rows_of}
use Rattle.machine_views.proofs.Known.{upshot-given}
use Rattle.machine_views.proofs.counting.upshot_at.Goals as goal

pub upshot-upshot-requires : goal.upshot-upshot-requires
upshot-upshot-requires c =
    let is = c.in_ok-answered.ensures.answered in
    omega (arith, is.fits.cells, c.book_for-shelved.ensures.suits.book.named.valid.narrow)

pub returns-clause-upshot : goal.returns-clause-upshot
returns-clause-upshot c =
    upshot-given (published_of (rows_of c.args.tables.now)) c.args.session.now c.book_for-shelved.result.now
    c.answer_to.new.work c.in_ok-answered.answered c.upshot-upshot.result c.book_for-shelved.ensures.bound
    c.in_ok-answered.ensures.answered c.upshot-upshot.ensures.verdict c.upshot-upshot.ensures.cells
    c.upshot-upshot.ensures.few

pub returns-clause-ready : goal.returns-clause-ready
returns-clause-ready c = record {
  valid = c.requires.ready.valid;
  held = c.in_ok-hold.ensures.ready.held;
  room = c.in_ok-answered.ensures.room;
  known = c.note.ensures (published_of (rows_of c.args.tables.now)) c.in_ok-hold.ensures.ready.known
      (returns-clause-upshot c);
}
