-- What a reply tells.
use Rattle.std.proofs.Common.{List, ℕ, inl, inr, refl}
use Rattle.once_run.specs.declared.reply.CaseReply.{CaseReply}
use Rattle.once_run.specs.declared.reply.CaseReply.TheVariants.{Answered, Refused}
use Rattle.once_run.specs.Once.{IsReplyTo, IsTold, reply_text}

-- the text of a reply is told to its bytes
pub IsReplyTo-text : (bytes : List ℕ) (reply : CaseReply) → IsReplyTo bytes reply → IsTold bytes (reply_text reply)
IsReplyTo-text bytes (Answered text) is = inl is
IsReplyTo-text bytes (Refused refusal) is = inr (refusal, is, refl)
