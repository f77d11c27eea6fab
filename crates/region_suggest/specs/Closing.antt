-- One step of a closure: an attribute is taken off the left sides on which it stands.
use Rattle.std.specs.Prelude.{◌≡◌, ℕ, ◌+◌, ◌≤◌, List, ◌++◌, length, sum, Contains, slice_index_or}
use Rattle.region_suggest.specs.declared.dependencies.Dependencies.{Dependencies}
use Rattle.region_suggest.specs.Dependencies.{occurrences}

-- each dependency misses at least as many attributes as it is among these
abbrev pub IsEnough : List ℕ → List ℕ → Type 0
IsEnough ones missing = (dependency : ℕ) → occurrences dependency ones ≤ slice_index_or missing dependency 0

-- a dependency among these misses nothing more, and this is its head
pub record IsMet (made : Dependencies) (ones missing : List ℕ) (head : ℕ) : Type 0 where
  pub dependency : ℕ
  pub used : Contains ones dependency
  pub met : slice_index_or missing dependency 0 ≡ 0
  pub is_head : head ≡ slice_index_or made.heads.items dependency 0

-- the dependencies among these miss one attribute less each time, and the heads of those that miss nothing more are
-- found
pub record TakesOff (made : Dependencies) (ones before after found later : List ℕ) : Type 0 where
  pub whole : length after ≡ length before
  pub missing : (dependency : ℕ)
      → slice_index_or after dependency 0 + occurrences dependency ones ≡ slice_index_or before dependency 0
  pub new : List ℕ
  pub appended : later ≡ found ++ new
  pub met : (head : ℕ) → Contains new head → IsMet made ones after head
  pub all : (dependency : ℕ) → Contains ones dependency → slice_index_or after dependency 0 ≡ 0
      → Contains new (slice_index_or made.heads.items dependency 0)
  pub less : sum after + length later ≤ sum before + length found
