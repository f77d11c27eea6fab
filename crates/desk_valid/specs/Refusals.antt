-- Why tables are not found to be valid.
use Rattle.std.specs.Prelude.{⊤}
use Rattle.desk_words.specs.Tables.{Rows}
use Rattle.desk_valid.specs.declared.damage.Bad.{Bad}
use Rattle.desk_valid.specs.declared.damage.Bad.TheVariants.{Damaged, NoMemory}
use Rattle.desk_valid.specs.Damage.{IsFirstDamage}

-- a damage is named only where it is the first; want of memory is free
abbrev pub NamesFirstDamage : Rows → Bad → Type 0
NamesFirstDamage rows (Damaged damage) = IsFirstDamage rows damage
NamesFirstDamage rows NoMemory = ⊤
