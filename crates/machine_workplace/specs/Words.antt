-- The names of the attributes of an edition.
use Rattle.std.specs.Prelude.{◌≡◌, ◌≤◌, ℕ, List, Some, length}
use Rattle.desk_base.specs.declared.limits.TheConstants.{MAX_ATTRIBUTES}
use Rattle.desk_words.specs.Tables.{Rows, published_of}
use Rattle.desk_valid.specs.Bindings.{bound_at}
use Rattle.desk_valid.specs.declared.bound.Bound.{Bound}

-- these are the words that the rules of an edition name attributes by, no more than may stand
pub record AreWordsOf (rows : Rows) (edition : ℕ) (words : List (List ℕ)) : Type 0 where
  pub bound : Bound
  pub is_bound : bound_at (published_of rows) edition ≡ Some bound
  pub are : words ≡ bound.names.attributes
  pub few : length words ≤ MAX_ATTRIBUTES
