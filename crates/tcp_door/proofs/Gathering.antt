-- Bytes that come of a peer in several steps.
use Rattle.std.proofs.Common.{◌≡◌, ◌∙◌, ◌++◌, ap, refl, List, ℕ}
use Rattle.std.proofs.lemmas.List.{append_assoc}
use Rattle.tcp_door.specs.Time.{TimeSeen}
use Rattle.tcp_door.specs.declared.held.Side.{Side}
use Rattle.tcp_door.specs.Turns.{PeerSeen, Gathers}

-- a piece came after the other bytes
pub gathers_piece : (bytes piece all : List ℕ) (side : Side) (time : TimeSeen) → all ≡ bytes ++ piece
    → Gathers (record { bytes = bytes; side = side; time = time }) (record { bytes = all; side = side; time = time })
gathers_piece bytes piece all side time added = record {
  more = piece;
  added = added;
  time = record { seconds = refl; until = λ _. refl };
}

-- what came in two steps came
pub gathers_then : (old mid new : PeerSeen) → Gathers old mid → Gathers mid new → Gathers old new
gathers_then old mid new first second = record {
  more = first.more ++ second.more;
  added = second.added ∙ ap (λ bytes. bytes ++ second.more) first.added ∙ append_assoc old.bytes first.more second.more;
  time = record {
    seconds = second.time.seconds ∙ first.time.seconds;
    until = λ some. second.time.until (rw (first.time.until some) some) ∙ first.time.until some;
  };
}
