use Rattle.std.proofs.Common.{◌≤◌, length, arith}
use Rattle.once_run.specs.Once.{IsReplyTo, IsDue, IsTold}
use Rattle.once_run.proofs.Replies.{IsReplyTo-text}
use Rattle.once_run.proofs.answering.once.Goals as goal

-- a part of the reply was written
pub returns-clause-ended : goal.returns-clause-ended
returns-clause-ended g c =
    let reply = c.in-Ok-reply_to.reply in
    let is : IsReplyTo c.in-Ok.bytes.items reply = rw c.as_slice.ensures.value at c.in-Ok-reply_to.ensures in
    record {
      text = c.text.result.now;
      due = record {
        bytes = c.in-Ok.bytes.items;
        taken = c.in-Ok.ensures.taken;
        answer = rw c.text.ensures (IsReplyTo-text _ reply is);
      };
      written = c.in-Err-write_all.ensures.part;
      failed = c.in-Err-write_all.ensures.cause.failed;
    }

-- a sink that takes the reply does not fail
pub returns-clause-complete : goal.returns-clause-complete
returns-clause-complete g c steady takes =
    let reply = c.in-Ok-reply_to.reply in
    let is : IsReplyTo c.in-Ok.bytes.items reply = rw c.as_slice.ensures.value at c.in-Ok-reply_to.ensures in
    let due : IsDue IsTold (g.S.Source.left c.args.link.now.source) (g.S.Source.left c.input_of.new.input)
    c.text.result.now = record {
      bytes = c.in-Ok.bytes.items;
      taken = c.in-Ok.ensures.taken;
      answer = rw c.text.ensures (IsReplyTo-text _ reply is);
    } in
    let enough : length c.text.result.now ≤ length c.text.result.now = omega arith in
    let ok = (c.in-Err-write_all.ensures.takes (length c.text.result.now) (takes c.text.result.now (_, due)) enough).0
    in
    absurd cc
