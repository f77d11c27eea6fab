-- What a reply has that others speak of: a view of a session, a suggestion for one, sheets, or a refusal.
use Rattle.desk_words.specs.declared.refusal.Refusal.{Refusal}
use Rattle.desk_words.specs.declared.reply.DerivedSheet.{DerivedSheet}
use Rattle.desk_words.specs.declared.reply.Reply.{Reply}
use Rattle.desk_words.specs.declared.reply.Reply.TheVariants as reply
use Rattle.desk_words.specs.declared.report.RecordSheet.{RecordSheet}
use Rattle.desk_words.specs.declared.view.View.{View}

-- what a reply has
pub data Content : Type 0 where
  shows : View → Content
  advises : Content
  records : RecordSheet → Content
  derives : DerivedSheet → Content
  refuses : Refusal → Content
  plain : Content

-- the content of a reply
abbrev pub content_of : Reply → Content
content_of (reply.Opened view) = shows view
content_of (reply.View view) = shows view
content_of (reply.Suggested suggested) = advises
content_of (reply.Records sheet) = records sheet
content_of (reply.Derived sheet) = derives sheet
content_of (reply.Refused refusal) = refuses refusal
content_of answer = plain
