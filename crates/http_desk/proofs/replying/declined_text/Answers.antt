use Rattle.http_desk.specs.declared.declined.Declined.TheVariants.{BadBody, BadProposal, Shown}
use Rattle.http_desk.specs.Replies.{declined_text}
use Rattle.http_desk.proofs.replying.declined_text.Goals as goal

-- a page was shown
pub returns-in-Shown : goal.returns-in-Shown
returns-in-Shown c =
    rw c.in-Shown.is (c.or_no_memory.ensures.made
    (declined_text (Shown c.in-Shown.page) c.args.closing c.args.asks_head) c.page_text.ensures)

-- the body was not read
pub returns-in-BadBody : goal.returns-in-BadBody
returns-in-BadBody c =
    rw c.in-BadBody.is (c.or_no_memory-in-BadBody.ensures.made
    (declined_text (BadBody c.in-BadBody.fault) c.args.closing c.args.asks_head) c.unread_text.ensures)

-- nor was that of a check
pub returns-in-BadProposal : goal.returns-in-BadProposal
returns-in-BadProposal c =
    rw c.in-BadProposal.is (c.or_no_memory-in-BadProposal.ensures.made
    (declined_text (BadProposal c.in-BadProposal.fault) c.args.closing c.args.asks_head)
    c.bad_proposal_text.ensures)
