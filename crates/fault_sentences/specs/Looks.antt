-- What a look at a text of rules gives.
use Rattle.fault_sentences.specs.declared.sight.Seen.{Seen as Look}
use Rattle.fault_sentences.specs.Sights.{Seen}

-- what is seen, by what its slices hold
abbrev pub as_seen : Look → Seen
as_seen look = record { expected = look.expected; rule = look.rule.now; rest = look.rest.now }
