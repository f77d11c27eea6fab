use Rattle.std.proofs.Common.{◌≡◌, ◌<◌, ℕ, false}
use Rattle.sheet_clean.specs.Header.{lacks_column}
use Rattle.sheet_clean.proofs.header.known_fault.Given as goal

abbrev pub invariant-attributes : goal.invariant-attributes
invariant-attributes l = (before : ℕ) → before < l.attribute → lacks_column l.setting l.header before ≡ false
