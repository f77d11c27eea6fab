use Rattle.rule_contradictions.proofs.Told.{AreToldBefore}
use Rattle.rule_contradictions.proofs.listing.gathered.Given as goal

-- what the entries so far tell
abbrev pub invariant-entries : goal.invariant-entries
invariant-entries l = AreToldBefore l.entry-items l.entry-index l.found.items
