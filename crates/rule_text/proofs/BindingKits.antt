-- What is bound is a valid kit.
use Rattle.std.proofs.Common.{◌≡◌, ◌≢◌, ℕ, suc, ◌+◌, ◌<◌, ◌≤◌, ◌==◌, Bool, false, List, [], ◌∷◌, length}
use Rattle.std.proofs.Common.{map, position, Option, Some, None, refl, sym, arith}
use Rattle.std.specs.Prelude.{All, AllPairs, slice_index_or, unwrap_or}
use Rattle.std.specs.List.{AllByRecursion}
use Rattle.std.specs.Option.{option_map_or}
use Rattle.std.proofs.lemmas.Bool.{eqb-false, or_parts}
use Rattle.std.proofs.lemmas.List.{length-map, get_or-map}
use Rattle.std.proofs.lemmas.List.Elements.{All-from_recursion, All-map}
use Rattle.std.proofs.lemmas.List.FromFn.{length-map-range_with_len}
use Rattle.std.proofs.lemmas.List.Kept.{AllPairs-cons}
use Rattle.std.proofs.lemmas.List.Quantifiers.{position-Some}
use Rattle.desk_base.proofs.Options.{option_or-None}
use Rattle.fix_model.specs.declared.pattern.Pat.{Pat}
use Rattle.fix_model.specs.Valid.{AreValidKeys, AreValidConds, IsValidRule, IsValid}
use Rattle.schema_core.specs.declared.schema.Schema.{Schema}
use Rattle.schema_core.specs.Schemas.{IsSchema}
use Rattle.master_rows.specs.declared.master.Master.{Master}
use Rattle.rule_text.specs.declared.binding.BindFault.{BindFault}
use Rattle.rule_text.specs.declared.binding.BindFault.TheVariants.{NoMaster, NoColumn}
use Rattle.rule_text.specs.declared.rulebook.RuleLine.{RuleLine}
use Rattle.rule_text.specs.declared.rulebook.Rulebook.{Rulebook}
use Rattle.rule_text.specs.Reading.{has_attribute}
use Rattle.rule_text.specs.Rulebooks.{IsPlain, IsPattern, AreDistinct, ArePairs, IsLine, IsRulebook}
use Rattle.rule_text.specs.Binding.{AreMasters, master_of, master_at, column_of, column_fault, keys_fault}
use Rattle.rule_text.specs.Binding.{columns_fault, line_fault, first_fault, bound_key, rule_of, kit_of}

-- what is found stands within the list
within-found : {A : Type 0} (test : A → Bool) (xs : List A) (d : A) (found : Option ℕ) (fault : BindFault)
    → position test xs ≡ found → option_map_or (λ place. None) found (Some fault) ≡ None
    → unwrap_or found 0 < length xs
within-found test xs d None fault is none = absurd (cc)
within-found test xs d (Some place) fault is none = (position-Some test xs place d is).0

-- a list's pairs, each with another attribute than this one
All-other : {A : Type 0} (pairs : List (ℕ × A)) (attribute : ℕ) → has_attribute pairs attribute ≡ false
    → AllByRecursion (λ pair. pair.0 ≢ attribute) pairs
All-other [] attribute none = tt
All-other (pair ∷ rest) attribute none =
    let parts = or_parts (attribute == pair.0) (has_attribute rest attribute) none in
    (λ same. eqb-false attribute pair.0 parts.0 (sym same), All-other rest attribute parts.1)

-- pairs with distinct attributes
AllPairs-from_AreDistinct : {A : Type 0} (pairs : List (ℕ × A)) → AreDistinct pairs
    → AllPairs (λ pair later. pair.0 ≢ later.0) pairs
AllPairs-from_AreDistinct [] distinct = λ i j d before within. absurd (omega arith)
AllPairs-from_AreDistinct (pair ∷ rest) distinct =
    let apart : All (λ later. pair.0 ≢ later.0) rest =
    λ i d within same. All-from_recursion (λ later. later.0 ≢ pair.0) rest (All-other rest pair.0 distinct.0) i d
    within (sym same) in
    AllPairs-cons (λ one later. one.0 ≢ later.0) pair rest apart (AllPairs-from_AreDistinct rest distinct.1)

-- pairs of images
AllPairs-map : {A B : Type 0} (R : B → B → Type 0) (f : A → B) (xs : List A)
    → AllPairs (λ one other. R (f one) (f other)) xs → AllPairs R (map f xs)
AllPairs-map R f [] pairs = λ i j d before within. absurd (omega arith)
AllPairs-map R f (x ∷ xs) pairs = AllPairs-cons R (f x) (map f xs)
    (All-map (R (f x)) f xs (λ i d within. pairs 0 (suc i) d (omega arith) (omega arith)))
    (AllPairs-map R f xs (λ i j d before within. pairs (suc i) (suc j) d (omega arith) (omega arith)))

-- the columns of keys without a fault stand in the master
All-keys_fault : (number : ℕ) (master : Master) (place : ℕ) (keys : List (ℕ × List ℕ))
    → keys_fault number master place keys ≡ None
    → AllByRecursion (λ key. (bound_key master key).1 < length master.columns) keys
All-keys_fault number master place [] none = tt
All-keys_fault number master place (key ∷ rest) none =
    let parts = option_or-None (column_fault number master place key.1)
    (keys_fault number master (place + 1) rest) none in (
      within-found _ master.columns [] (column_of master key.1) (NoColumn number place) refl parts.0,
      All-keys_fault
          number master (place + 1) rest parts.1,
    )

-- keys without a fault are valid
AreValidKeys-map : (schema : Schema) (master : Master) (number head : ℕ) (keys : List (ℕ × List ℕ)) → 1 ≤ length keys
    → ArePairs IsPlain schema keys → has_attribute keys head ≡ false → keys_fault number master 1 keys ≡ None
    → AreValidKeys (length schema.attributes) (length master.columns) head (map (bound_key master) keys)
AreValidKeys-map schema master number head keys some pairs no_key none = record {
  some = rw length-map some;
  few = rw length-map pairs.fits;
  attributes = All-map (λ key. key.0 < length schema.attributes) (bound_key master) keys
      (λ i d within. (All-from_recursion _ keys pairs.good i d within).0);
  not_head = All-map (λ key. key.0 ≢ head) (bound_key master) keys
      (All-from_recursion _ keys (All-other keys head no_key));
  columns_within = All-map (λ key. key.1 < length master.columns) (bound_key master) keys
      (All-from_recursion _ keys (All-keys_fault number master 1 keys none));
  distinct = AllPairs-map (λ key later. key.0 ≢ later.0) (bound_key master) keys
      (AllPairs-from_AreDistinct keys pairs.distinct);
}

-- conditions of a rulebook are valid
AreValidConds-from_pairs : (schema : Schema) (head : ℕ) (conds : List (ℕ × Pat)) → ArePairs IsPattern schema conds
    → has_attribute conds head ≡ false → AreValidConds (length schema.attributes) head conds
AreValidConds-from_pairs schema head conds pairs no_cond = record {
  few = pairs.fits;
  attributes = λ i d within. (All-from_recursion _ conds pairs.good i d within).0;
  not_head = All-from_recursion _ conds (All-other conds head no_cond);
  sets = λ i d within. (All-from_recursion _ conds pairs.good i d within).1.sized;
  distinct = AllPairs-from_AreDistinct conds pairs.distinct;
}

-- the master of a line without a fault is there, and so are its columns
line_fault-parts : (masters : List (List ℕ × Master)) (number : ℕ) (line : RuleLine) (found : Option ℕ)
    → master_of masters line.master ≡ found
    → option_map_or (λ place. columns_fault number (master_at masters place) line) found (Some (NoMaster number)) ≡ None
    → (unwrap_or found 0 < length masters) × (columns_fault number (master_at masters (unwrap_or found 0)) line ≡ None)
line_fault-parts masters number line None is none = absurd (cc)
line_fault-parts masters number line (Some place) is
    none = (
      (position-Some _ masters place ([], record { columns = []; grid = record { columns = 0; rows = [] } })
          is).0,
      none,
    )

-- a grid of the kit has as many columns as its master
columns-map : (masters : List (List ℕ × Master)) (place : ℕ) → AreMasters masters → place < length masters
    → (slice_index_or (map (λ master. master.1.grid) masters) place (record { columns = 0; rows = [] })).columns
    ≡ length (master_at masters place).columns
columns-map masters place are within = rw (get_or-map (λ master. master.1.grid) masters place
    ([], record { columns = []; grid = record { columns = 0; rows = [] } }) _ within) (are.each place _ within).width

module _ (rulebook : Rulebook) (schema : Schema) (masters : List (List ℕ × Master)) (folded : List ℕ)
    (are : AreMasters masters) where
  -- the rule of a line without a fault is valid
  IsValidRule-rule_of : (number : ℕ) (line : RuleLine) → IsLine schema line → line_fault masters number line ≡ None
      → IsValidRule (kit_of rulebook schema masters folded) (rule_of masters line)
  IsValidRule-rule_of number line is none =
      let place : ℕ = unwrap_or (master_of masters line.master) 0 in
      let parts = line_fault-parts masters number line (master_of masters line.master) refl none in
      let faults = option_or-None (keys_fault number (master_at masters place) 1 line.keys)
      (column_fault number (master_at masters place) 0 line.from) parts.1 in
      let columns = columns-map masters place are parts.0 in
      record {
        head = is.head;
        master = rw length-map parts.0;
        from = rw columns (within-found _ (master_at masters place).columns []
            (column_of (master_at masters place) line.from) (NoColumn number 0) refl faults.1);
        keys = rw columns (AreValidKeys-map schema (master_at masters place) number line.head line.keys is.some
            is.keys is.no_key faults.0);
        conds = AreValidConds-from_pairs schema line.head line.conds is.conds is.no_cond;
      }

  -- and so are the rules of lines without a fault
  All-rule_of : (number : ℕ) (lines : List RuleLine) → AllByRecursion (IsLine schema) lines
      → first_fault masters number lines ≡ None
      → AllByRecursion (λ line. IsValidRule (kit_of rulebook schema masters folded) (rule_of masters line)) lines
  All-rule_of number [] are_lines none = tt
  All-rule_of number (line ∷ rest) are_lines none =
      let parts = option_or-None (line_fault masters number line) (first_fault masters (number + 1) rest) none in
      (IsValidRule-rule_of number line are_lines.0 parts.0, All-rule_of (number + 1) rest are_lines.1 parts.1)

  -- the kit of a rulebook without a fault is valid
  pub IsValid-kit_of : IsSchema schema → IsRulebook schema rulebook → first_fault masters 1 rulebook.lines ≡ None
      → IsValid (kit_of rulebook schema masters folded)
  IsValid-kit_of is_schema is_rulebook none = record {
    wide = is_schema.some;
    narrow = is_schema.fits;
    few_rules = rw length-map is_rulebook.fits;
    few_masters = rw length-map are.few;
    folded = length-map-range_with_len _ 0 _;
    rules = All-map (IsValidRule (kit_of rulebook schema masters folded)) (rule_of masters) rulebook.lines
        (All-from_recursion _ rulebook.lines (All-rule_of 1 rulebook.lines is_rulebook.lines none));
  }
