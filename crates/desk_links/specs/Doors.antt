-- What a clause sees of a door's links, and what a door's calls do to what it tells.
use Rattle.std.specs.Prelude.{◌≡◌, ℕ, ◌+◌, ◌-◌, ◌^◌, ◌<◌, List, [], ◌∷◌, ◌++◌, Option, Some, None, ⊤}
use Rattle.desk_base.specs.declared.both.Both.{Both}
use Rattle.desk_base.specs.declared.sink.Sink.{Ghosts as SinkTells}
use Rattle.desk_base.specs.declared.source.Source.{Ghosts as SourceTells}

-- a link: the bytes that it has left and those that were written to it, where it tells them, and its counts of faults
pub record LinkSeen : Type 0 where
  pub left : Option (List ℕ)
  pub written : Option (List ℕ)
  pub read_faults : ℕ
  pub write_faults : ℕ

-- a link as its two ends tell it
abbrev pub link_seen : {S W : Type 0} → SourceTells S → SinkTells W → Both S W → LinkSeen
link_seen source sink link = record {
  left = source.left link.source;
  written = sink.written link.sink;
  read_faults = source.read_faults link.source;
  write_faults = sink.write_faults link.sink;
}

-- how often a door has failed, which stands at 2^64 - 1; the port and how many links were handed out since it was
-- bound, none before it is bound; how many were handed out and are not closed; and, where it tells these, the bytes of
-- each link that is still to come, the next one first, and the links that were closed, the first one first, as each
-- was then
pub record Door : Type 0 where
  pub faults : ℕ
  pub port : Option ℕ
  pub accepted : Option ℕ
  pub live : ℕ
  pub waiting : Option (List (List ℕ))
  pub closed : Option (List LinkSeen)

-- one more link may be handed out: the door is bound, and the count of its links is below its last value
abbrev pub MayAccept : Option ℕ → Type 0
MayAccept None = ⊥
MayAccept (Some count) = count < 2 ^ 32 - 1

-- the count of links of a door that is bound, with one link more
abbrev pub one_more : Option ℕ → Option ℕ
one_more None = None
one_more (Some count) = Some (count + 1)

-- no bytes, where they are told
abbrev pub IfNone : Option (List ℕ) → Type 0
IfNone None = ⊤
IfNone (Some bytes) = bytes ≡ []

-- nothing was written to a link, where it tells this, and neither of its ends has failed
pub record IsFresh (link : LinkSeen) : Type 0 where
  pub written : IfNone link.written
  pub read_faults : link.read_faults ≡ 0
  pub write_faults : link.write_faults ≡ 0

-- the first of these links that wait is handed out: what it has left is told, and that nothing was written
pub record TakesFirst (waiting : List (List ℕ)) (new : Option (List (List ℕ))) (link : LinkSeen) : Type 0 where
  pub bytes : List ℕ
  pub rest : List (List ℕ)
  pub first : waiting ≡ bytes ∷ rest
  pub others : new ≡ Some rest
  pub left : link.left ≡ Some bytes
  pub written : link.written ≡ Some []

-- a link is handed out, the first of those that wait where the door tells these; what was not told is not told then
abbrev pub HandsOut : Option (List (List ℕ)) → Option (List (List ℕ)) → LinkSeen → Type 0
HandsOut None new link = new ≡ None
HandsOut (Some waiting) new link = TakesFirst waiting new link

-- a link is closed, and stands after those that were closed before, where the door tells these
abbrev pub Closes : Option (List LinkSeen) → Option (List LinkSeen) → LinkSeen → Type 0
Closes None new link = new ≡ None
Closes (Some closed) new link = new ≡ Some (closed ++ link ∷ [])
