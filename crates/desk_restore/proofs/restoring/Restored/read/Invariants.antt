use Rattle.std.proofs.Common.{◌≡◌, ◌++◌, drop, option_map}
use Rattle.desk_base.specs.Texts.{bytes_of}
use Rattle.desk_restore.specs.Made.{IsMade}
use Rattle.desk_restore.specs.Reading.{changes_in}
use Rattle.desk_restore.proofs.restoring.Restored.read.Given as goal

-- the changes so far, with those of the lines that are left, are those of all lines
abbrev pub invariant-lines : goal.invariant-lines
invariant-lines l = record {
  made : IsMade l.self;
  changes : option_map (λ more. l.self.changes ++ more) (changes_in (drop l.line-index (bytes_of l.line-items)))
      ≡ changes_in (bytes_of l.line-items);
}
