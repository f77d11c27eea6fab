-- What a check is told, and what publishing the same next is answered.
use Rattle.std.specs.Prelude.{◌≡◌, ◌+◌, List}
use Rattle.desk_words.specs.declared.change.Change.{Change}
use Rattle.desk_words.specs.declared.command.Command.{Command}
use Rattle.desk_words.specs.declared.command.Command.TheVariants.{Steward, Desk}
use Rattle.desk_words.specs.declared.desk_look.DeskLook.TheVariants.{Check}
use Rattle.desk_words.specs.declared.fits.Fits.{Fits}
use Rattle.desk_words.specs.declared.fits.Fits.TheVariants as fits
use Rattle.desk_words.specs.declared.made.Made.{Made}
use Rattle.desk_words.specs.declared.made.Made.TheVariants as made
use Rattle.desk_words.specs.declared.proposal.Proposal.{Proposal}
use Rattle.desk_words.specs.declared.reply.Reply.{Reply}
use Rattle.desk_words.specs.declared.reply.Reply.TheVariants as reply
use Rattle.desk_words.specs.declared.rows.clerk.Digest.{Digest}
use Rattle.desk_words.specs.declared.steward_work.StewardWork.TheVariants.{Publish}
use Rattle.desk_words.specs.Tables.{Rows}
use Rattle.machine_core.specs.Machine.{IsStep}
use Rattle.machine_core.specs.Own.{own_of}

-- the steward's next write, which publishes a proposal
abbrev pub publishing_next : Rows → Digest → Proposal → Command
publishing_next rows digest proposal =
    Steward (record { number = (own_of rows 0).row.last + 1; digest = digest }) (Publish proposal)

-- what the steward is told of what was made, by what would be
abbrev pub made_for : Fits → Made
made_for (fits.Schema name version attributes) = made.Schema name version
made_for (fits.Master name version columns rows) = made.Master name version
made_for (fits.Rulebook name version rules) = made.Rulebook name version
made_for (fits.Edition name version entries) = made.Edition name version

-- what publishing is answered, by what its check was
abbrev pub IsToldBy : Reply → Reply → Type 0
IsToldBy (reply.Fits found notes) answer = answer ≡ reply.Made (made_for found)
IsToldBy (reply.Unfit refusal says) answer = answer ≡ reply.Refused refusal
IsToldBy told answer = ⊥

-- a check is told that a proposal fits, or is refused so, exactly where publishing it next over these tables is
-- answered by what was made, or is refused so
abbrev pub TellsPublishing : Rows → Type 0
TellsPublishing rows =
    (proposal : Proposal) (digest : Digest) (told answer : Reply) (unchanged changes : List Change)
    → IsStep rows (Desk (Check proposal)) told unchanged
    → IsStep rows (publishing_next rows digest proposal) answer changes → IsToldBy told answer
