-- A new edition, once its parts are found.
use Rattle.std.proofs.Common.{◌≡◌, ◌+◌, ℕ, List, [], Some, length, refl}
use Rattle.desk_valid.specs.declared.reading.Rules.{Rules}
use Rattle.desk_valid.specs.Readings.{rules_at}
use Rattle.desk_words.specs.declared.limit.Which.TheVariants as which
use Rattle.desk_words.specs.declared.refusal.Kind.TheVariants as kind
use Rattle.desk_words.specs.declared.refusal.Refusal.TheVariants.{NoSuch}
use Rattle.desk_words.specs.Tables.{Published}
use Rattle.machine_core.specs.Checked.{IsFound, each_following, run, some_or}
use Rattle.machine_core.specs.Finding.{rulebook_named}
use Rattle.machine_core.specs.Limits.{within}
use Rattle.machine_core.specs.Steward.AddEdition.{another_master, bound_row, edition_row, in_order, next_edition}
use Rattle.machine_core.specs.Tests as tests

-- once the tests before it passed, whether the parts bind is what is left
pub edition-tested : (published : Published) (name : List ℕ) (rulebook : List ℕ × ℕ) (masters : List (List ℕ × ℕ))
    (folded : List (List ℕ)) (book : ℕ) (rules : Rules) (attributes places : List ℕ)
    → IsFound (tests.proper_name name) tt
    → IsFound (some_or (rulebook_named published.rulebooks rulebook.0 rulebook.1) (NoSuch kind.Rulebook)) book
    → rules_at published book ≡ Some rules
    → IsFound (each_following [] (tests.another_attribute rules.schema.attributes) folded) attributes
    → IsFound (within which.EditionMasters (length masters)) tt
    → IsFound (each_following [] (another_master published.masters) masters) places
    → IsFound (within which.Editions (length published.editions + 1)) tt
    → let row = next_edition published.editions name book places (in_order attributes (length rules.schema.attributes))
    in run (edition_row published name rulebook masters folded) ≡ run (bound_row published row)
edition-tested published name rulebook masters folded book rules attributes places named there read are few found fit =
    rw (named, there, read, are, few, found, fit) refl
