use Rattle.std.proofs.Common.{ap, refl}
use Rattle.desk_words.specs.declared.steward_work.StewardWork.TheVariants.{Publish}
use Rattle.session_machine.proofs.MakingTold.{Answers-made}
use Rattle.session_machine.proofs.steward.versions.publish.Goals as goal

pub returns-in-Master : goal.returns-in-Master
returns-in-Master c = Answers-made c.add_master.result refl (ap Publish c.in-Master.is) c.add_master.ensures

pub returns-in-Rulebook : goal.returns-in-Rulebook
returns-in-Rulebook c = Answers-made c.add_rulebook.result refl (ap Publish c.in-Rulebook.is) c.add_rulebook.ensures

pub returns-in-Edition : goal.returns-in-Edition
returns-in-Edition c = Answers-made c.add_edition.result refl (ap Publish c.in-Edition.is) c.add_edition.ensures
