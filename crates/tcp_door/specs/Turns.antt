-- What a clause sees of the peers of a door that reads them in turns, and of the ends of their links.
use Rattle.std.specs.Prelude.{◌≡◌, ◌++◌, ℕ, Bool, true, List, Result, IfOk}
use Rattle.desk_base.specs.declared.error.Failed.{Failed}
use Rattle.desk_base.specs.Faults.{CountsFaults}
use Rattle.tcp_door.specs.declared.held.Side.{Side}
use Rattle.tcp_door.specs.declared.held.Side.TheVariants.{Open, Closed, Lost}
use Rattle.tcp_door.specs.Time.{TimeSeen, KeepsTime}

-- ---- a peer that is held

-- what has come of a peer, whether more may come, and the time that it has
pub record PeerSeen : Type 0 where
  pub bytes : List ℕ
  pub side : Side
  pub time : TimeSeen

-- bytes may have come after the others, and the peer got no more time
pub record Gathers (old new : PeerSeen) : Type 0 where
  pub more : List ℕ
  pub added : new.bytes ≡ old.bytes ++ more
  pub time : KeepsTime old.time new.time

-- what is said of whether a peer is to be handed out: where it may send more a test tells, and else it is
abbrev pub IsJudged : (List ℕ → Bool → Type 0) → List ℕ → Side → Bool → Type 0
IsJudged tells bytes Open result = tells bytes result
IsJudged tells bytes Closed result = result ≡ true
IsJudged tells bytes Lost result = result ≡ true

-- a peer that is to be handed out
abbrev pub IsDue : (List ℕ → Bool → Type 0) → PeerSeen → Type 0
IsDue tells peer = IsJudged tells peer.bytes peer.side true

-- ---- the source of its link

-- the bytes that are left to read, what may come after them, and how often a read has failed
pub record GivenSeen : Type 0 where
  pub left : List ℕ
  pub side : Side
  pub faults : ℕ

-- all that has come of a peer that was to be handed out
pub record IsFreshGiven (tells : List ℕ → Bool → Type 0) (source : GivenSeen) : Type 0 where
  pub due : IsJudged tells source.left source.side true
  pub faults : source.faults ≡ 0

-- a read counts its failure alone, and tells the end only where the peer has closed its side
pub record ReadsGiven (old new : GivenSeen) (result : Result ℕ Failed) : Type 0 where
  pub counted : CountsFaults old.faults new.faults result
  pub side : new.side ≡ old.side
  pub ended : IfOk result (λ count. count ≡ 0 → old.side ≡ Closed)

-- ---- a peer that was answered

-- the times that it has to take its response, and then to close its side
pub record LeavingSeen : Type 0 where
  pub taking : TimeSeen
  pub closing : TimeSeen

-- it got no more of either
pub record KeepsTimes (old new : LeavingSeen) : Type 0 where
  pub taking : KeepsTime old.taking new.taking
  pub closing : KeepsTime old.closing new.closing
