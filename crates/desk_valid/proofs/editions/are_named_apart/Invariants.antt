use Rattle.desk_base.proofs.Distinct.{DifferBefore}
use Rattle.desk_words.specs.Tables.{published_of, rows_of}
use Rattle.desk_valid.specs.NamedParts.{name_at}
use Rattle.desk_valid.proofs.editions.are_named_apart.Given as goal

-- each master so far has another name than all after it
abbrev pub invariant-places : goal.invariant-places
invariant-places l = DifferBefore (name_at (published_of (rows_of l.tables))) l.places l.index
