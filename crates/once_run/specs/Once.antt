-- What `once` leaves of the link.
use Rattle.std.specs.Prelude.{◌≡◌, ◌⊎◌, ℕ, ◌<◌, List, length, Option, codes}
use Rattle.std.specs.Io.KnownBytes.{Appends}
use Rattle.desk_base.specs.Faults.{AppendsPart, Rose}
use Rattle.desk_links.specs.Doors.{LinkSeen}
use Rattle.case_json.specs.declared.case.Case.{Case}
use Rattle.once_run.specs.declared.reply.CaseReply.{CaseReply}
use Rattle.once_run.specs.declared.reply.CaseReply.TheVariants as replies
use Rattle.once_run.specs.declared.reply.CaseReply.TheVariants.{Answered}
use Rattle.once_run.specs.declared.reply.InputRefusal.{InputRefusal}
use Rattle.once_run.specs.declared.reply.InputRefusal.TheVariants.{TooLong, NotJson, NotACase}
use Rattle.once_run.specs.declared.status.Status.{Status}
use Rattle.once_run.specs.declared.status.Status.TheVariants.{Done, NoCommand, ReadFault, WriteFault, Unavailable}
use Rattle.once_run.specs.declared.status.Status.TheVariants.{NoMemory, Damaged, Refused, Limit}
use Rattle.case_json.specs.Answer.{IsAnswer}
use Rattle.json_parts.specs.Shapes.{line}
use Rattle.case_json.specs.Cases.{IsCaseIn, IsNoCase, IsNotJson}
use Rattle.once_run.specs.Input.{most, Takes, TakesPart}

-- why these bytes are refused
abbrev pub IsRefusalOf : List ℕ → InputRefusal → Type 0
IsRefusalOf bytes TooLong = length bytes ≡ most
IsRefusalOf bytes NotJson = (length bytes < most) × IsNotJson bytes
IsRefusalOf bytes NotACase = (length bytes < most) × IsNoCase bytes

-- the line that says so
abbrev pub refusal_line : InputRefusal → List ℕ
refusal_line TooLong = line (codes "too long")
refusal_line NotJson = line (codes "not json")
refusal_line NotACase = line (codes "not a case")

-- the bytes are a case, which the text answers
abbrev pub IsAnswered : List ℕ → List ℕ → Type 0
IsAnswered bytes text = (length bytes < most) × ((case : Case) × IsCaseIn bytes case × IsAnswer case text)

-- the bytes are refused, and the text says why
abbrev pub IsRefused : List ℕ → List ℕ → Type 0
IsRefused bytes text = (refusal : InputRefusal) × IsRefusalOf bytes refusal × (text ≡ refusal_line refusal)

-- the one or the other
abbrev pub IsTold : List ℕ → List ℕ → Type 0
IsTold bytes text = IsAnswered bytes text ⊎ IsRefused bytes text

-- what these bytes are answered with
abbrev pub IsReplyTo : List ℕ → CaseReply → Type 0
IsReplyTo bytes (Answered text) = IsAnswered bytes text
IsReplyTo bytes (replies.Refused refusal) = IsRefusalOf bytes refusal

-- the text of a reply
abbrev pub reply_text : CaseReply → List ℕ
reply_text (Answered text) = text
reply_text (replies.Refused refusal) = refusal_line refusal

-- the status that it is told with
abbrev pub reply_status : CaseReply → Status
reply_status (Answered text) = Done
reply_status (replies.Refused refusal) = Refused

-- the input is taken, and this text is due to it
pub record IsDue (IsText : List ℕ → List ℕ → Type 0) (old new : Option (List ℕ)) (text : List ℕ) : Type 0 where
  pub bytes : List ℕ
  pub taken : Takes most old new bytes
  pub answer : IsText bytes text

-- the text that is due was written
pub record Tells (IsText : List ℕ → List ℕ → Type 0) (old new : LinkSeen) : Type 0 where
  pub text : List ℕ
  pub due : IsDue IsText old.left new.left text
  pub written : Appends old.written new.written text

-- a part of the text that is due was written, as the link failed
pub record TellsPart (old new : LinkSeen) : Type 0 where
  pub text : List ℕ
  pub due : IsDue IsTold old.left new.left text
  pub written : AppendsPart old.written new.written text
  pub failed : Rose old.write_faults new.write_faults

-- nothing was written, and no more bytes were taken than may be
pub record IsUnanswered (old new : LinkSeen) : Type 0 where
  pub taken : TakesPart most old.left new.left
  pub written : new.written ≡ old.written
  pub write_faults : new.write_faults ≡ old.write_faults

-- what is left, by the status
abbrev pub EndsOnce : LinkSeen → LinkSeen → Status → Type 0
EndsOnce old new Done = Tells IsAnswered old new
EndsOnce old new NoCommand = ⊥
EndsOnce old new ReadFault = IsUnanswered old new × Rose old.read_faults new.read_faults
EndsOnce old new WriteFault = TellsPart old new
EndsOnce old new Unavailable = ⊥
EndsOnce old new NoMemory = IsUnanswered old new
EndsOnce old new Damaged = ⊥
EndsOnce old new Refused = Tells IsRefused old new
EndsOnce old new Limit = ⊥

-- ---- steady devices

-- a text that may be due, where this is left to read
abbrev pub MayBeTold : Option (List ℕ) → List ℕ → Type 0
MayBeTold left text = (after : Option (List ℕ)) × IsDue IsTold left after text

-- a sink that takes so many bytes takes whatever text may be due. One over memory does, where no call is to fail and
-- there is room for the longest: a refusal's line has at most 11 bytes, and an answer shows at most 48 cells, each of a
-- word, a text of at most 200 bytes and a step, and 96 steps. 65,536 bytes are enough
abbrev pub TakesTold : (ℕ → Type 0) → Option (List ℕ) → Type 0
TakesTold takes left = (text : List ℕ) → MayBeTold left text → takes (length text)

-- the codes where no device fails
abbrev pub IsOnceCode : ℕ → Type 0
IsOnceCode code = (code ≡ 0) ⊎ (code ≡ 5) ⊎ (code ≡ 7)
