use Rattle.std.proofs.Common.{rules}
use Rattle.http_desk.specs.Answered.{text_bytes}
use Rattle.http_desk.proofs.LogLines.{answer-long, parts-short}
use Rattle.http_desk.proofs.answering.respond.Goals as goal

-- method and target stand in the head
pub tell-requires-clause-head : goal.tell-requires-clause-head
tell-requires-clause-head g c =
    let (head, shows) = c.requires.shows in
    let short = parts-short c.args.intake.now head shows.stands in
    rw (c.of.ensures, c.of-2.ensures, c.bytes-bytes.ensures, shows.method, shows.target) short

-- a response is long enough
pub tell-requires-clause-response : goal.tell-requires-clause-response
tell-requires-clause-response g c =
    let (head, shows) = c.requires.shows in
    let answered = c.answer-text.ensures.answered head shows in
    rw c.bytes.ensures (answer-long _ _ _ _ _ answered.outcome _ answered.answers)

-- it was answered so, written, and this is its line
pub returns-clause-responds : goal.returns-clause-responds
returns-clause-responds g c = λ head shows. (
  record {
    text = text_bytes c.answer-text.result;
    answered = c.answer-text.ensures.answered head shows;
    written = rw c.bytes-2.ensures at c.write_all.ensures.written;
    part = rw c.bytes-2.ensures at c.write_all.ensures.part;
    full = search rules;
    room = search rules;
  },
  rw (c.of.ensures, c.of-2.ensures, c.bytes-bytes.ensures, shows.method, shows.target, c.bytes.ensures)
      at c.tell.ensures,
)
