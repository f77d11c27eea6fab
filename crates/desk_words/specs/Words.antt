-- The words of acts and stages.
use Rattle.std.specs.Prelude.{ℕ, List, codes}
use Rattle.desk_words.specs.declared.rows.act.Act.{Act}
use Rattle.desk_words.specs.declared.rows.act.Act.TheVariants as act
use Rattle.desk_words.specs.declared.rows.session.Stage.{Stage}
use Rattle.desk_words.specs.declared.rows.session.Stage.TheVariants.{Active, Committed, Abandoned}

-- what a caller's last accepted request did
abbrev pub act_word : Act → List ℕ
act_word act.Nothing = codes "nothing"
act_word act.Clerk = codes "clerk"
act_word act.Schema = codes "schema"
act_word act.Master = codes "master"
act_word act.Rulebook = codes "rulebook"
act_word act.Edition = codes "edition"
act_word act.Region = codes "region"
act_word act.Opened = codes "opened"
act_word act.Changed = codes "changed"
act_word act.Committed = codes "committed"
act_word act.Batched = codes "batched"

-- the stage of a session
abbrev pub stage_word : Stage → List ℕ
stage_word Active = codes "active"
stage_word Committed = codes "committed"
stage_word Abandoned = codes "abandoned"
