-- Pairs of an attribute and a column, found one after another.
use Rattle.std.proofs.Common.{◌≡◌, ℕ, List, [], ◌∷◌, ◌++◌, length, ap, refl, arith}
use Rattle.std.specs.Prelude.{Err, zip}
use Rattle.std.proofs.lemmas.Slice.Zip.{firsts-zip, seconds-zip}
use Rattle.machine_core.specs.Checked.{IsFound, run}
use Rattle.machine_core.specs.Deriving.{another_master_column, another_pair}
use Rattle.machine_core.specs.Outcomes.{Finds}
use Rattle.machine_core.specs.Tests.{another_attribute}
use Rattle.machine_core.specs.declared.stop.Stop.{Stop}
use Rattle.machine_core.proofs.Stopping.{EndsWith-stopped}

-- one pair more
pub zip-push : (ones others : List ℕ) (one other : ℕ) → length others ≡ length ones
    → zip (ones ++ one ∷ []) (others ++ other ∷ []) ≡ zip ones others ++ (one, other) ∷ []
zip-push [] [] one other each = refl
zip-push [] (second ∷ others) one other each = absurd (omega arith)
zip-push (first ∷ ones) [] one other each = absurd (omega arith)
zip-push (first ∷ ones) (second ∷ others) one other each =
    ap (λ rest. (first, second) ∷ rest) (zip-push ones others one other (omega arith))

module _ (words names : List (List ℕ)) (attributes columns : List ℕ) (each : length columns ≡ length attributes)
    (pair : List ℕ × List ℕ) where
  -- a pair is found as its attribute and its column are
  pub pair-found : (attribute column : ℕ) → IsFound (another_attribute words attributes pair.0) attribute
      → IsFound (another_master_column names columns pair.1) column
      → IsFound (another_pair words names (zip attributes columns) pair) (attribute, column)
  pair-found attribute column first second =
      rw (firsts-zip attributes columns each, seconds-zip attributes columns each, first, second) refl

  -- it stops where its attribute does
  pub no-attribute : (stop : Stop) → Finds {A = ℕ} (Err stop) (another_attribute words attributes pair.0)
      → Finds {A = ℕ × ℕ} (Err stop) (another_pair words names (zip attributes columns) pair)
  no-attribute stop finds =
      rw (firsts-zip attributes columns each)
      (EndsWith-stopped (run (another_attribute words attributes pair.0)) _ stop (Err stop) refl finds)

  -- or its column
  pub no-column : (attribute : ℕ) (stop : Stop) → IsFound (another_attribute words attributes pair.0) attribute
      → Finds {A = ℕ} (Err stop) (another_master_column names columns pair.1)
      → Finds {A = ℕ × ℕ} (Err stop) (another_pair words names (zip attributes columns) pair)
  no-column attribute stop first finds =
      rw (firsts-zip attributes columns each, seconds-zip attributes columns each, first)
      (EndsWith-stopped (run (another_master_column names columns pair.1)) _ stop (Err stop) refl finds)
