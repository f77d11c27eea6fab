use Rattle.std.proofs.Common.{◌≡◌, [], drop, take}
use Rattle.sheet_clean.specs.Header.{columns_fault}
use Rattle.sheet_clean.proofs.header.columns_fault.Given as goal

-- the first fault is that of the columns that are left
abbrev pub invariant-columns : goal.invariant-columns
invariant-columns l =
    columns_fault l.setting [] l.header ≡ columns_fault l.setting (take l.place l.header) (drop l.place l.header)
