-- Rules bind over masters without rows as over the masters themselves, and the entries of an index follow from the
-- row counts.
use Rattle.std.proofs.Common.{◌≡◌, ℕ, zero, suc, ◌+◌, ◌≤◌, Bool, List, [], ◌∷◌, length, get_or, map, Option, Some}
use Rattle.std.proofs.Common.{None, sym, ap, ◌∙◌, refl, arith}
use Rattle.std.specs.Prelude.{cond, not, position, slice_index_or, unwrap_or, Result, Ok, Err}
use Rattle.std.specs.List.{fold, position_or_len}
use Rattle.std.specs.Option.{option_or, option_map_or}
use Rattle.std.specs.Str.{bytes_eq}
use Rattle.std.proofs.lemmas.List.{length-map}
use Rattle.fix_model.specs.declared.kit.Kit.{Kit}
use Rattle.fix_model.specs.declared.rule.Rule.{Rule}
use Rattle.fix_model.specs.Entries.{entries, places_of_triples, row_count}
use Rattle.fix_model.specs.Rules.{rule_at}
use Rattle.schema_core.specs.declared.schema.Schema.{Schema}
use Rattle.master_rows.specs.declared.master.Master.{Master}
use Rattle.rule_text.specs.declared.binding.BindFault.{BindFault}
use Rattle.rule_text.specs.declared.binding.BindFault.TheVariants.{NoMaster}
use Rattle.rule_text.specs.declared.rulebook.RuleLine.{RuleLine}
use Rattle.rule_text.specs.declared.rulebook.Rulebook.{Rulebook}
use Rattle.desk_base.specs.Places.{flags_of}
use Rattle.rule_text.specs.Binding.{bound, column_fault, columns_fault, first_fault, keys_fault, kit_of}
use Rattle.rule_text.specs.Binding.{line_fault, master_at, master_of, rule_of, rule_over}
use Rattle.desk_valid.specs.Bare.{bare_pair, count_of, counted, entries_over}
use Rattle.desk_valid.specs.ReadTables.{bare_master}

-- a test that an image passes as its origin does finds the same place
position_or_len-map : {A B : Type 0} (f : A → B) (p : B → Bool) (xs : List A)
    → position_or_len p (map f xs) ≡ position_or_len (λ x. p (f x)) xs
position_or_len-map f p [] = refl
position_or_len-map f p (x ∷ xs) = ap (λ n. cond (not (p (f x))) (1 + n) 0) (position_or_len-map f p xs)

-- the same of the place itself
position-map : {A B : Type 0} (f : A → B) (p : B → Bool) (xs : List A)
    → position p (map f xs) ≡ position (λ x. p (f x)) xs
position-map f p xs = rw (position_or_len-map f p xs, length-map) refl

-- the same masters are found
master_of-bare : (masters : List (List ℕ × Master)) (name : List ℕ)
    → master_of (map bare_pair masters) name ≡ master_of masters name
master_of-bare masters name = position-map bare_pair (λ master. bytes_eq name master.0) masters

-- the master at a place is there without its rows
master_at-bare : (masters : List (List ℕ × Master)) (place : ℕ)
    → master_at (map bare_pair masters) place ≡ bare_master (master_at masters place)
master_at-bare [] place = refl
master_at-bare (master ∷ masters) zero = refl
master_at-bare (master ∷ masters) (suc place) = master_at-bare masters place

-- with the same faults
keys_fault-bare : (number : ℕ) (master : Master) (place : ℕ) (keys : List (ℕ × List ℕ))
    → keys_fault number (bare_master master) place keys ≡ keys_fault number master place keys
keys_fault-bare number master place [] = refl
keys_fault-bare number master place (key ∷ rest) =
    ap (option_or (column_fault number master place key.1)) (keys_fault-bare number master (place + 1) rest)

-- the same of all columns of a rule
columns_fault-bare : (number : ℕ) (masters : List (List ℕ × Master)) (place : ℕ) (line : RuleLine)
    → columns_fault number (master_at (map bare_pair masters) place) line ≡ columns_fault number
    (master_at masters place) line
columns_fault-bare number masters place line =
    ap (λ (master : Master). columns_fault number master line) (master_at-bare masters place)
    ∙ ap (λ fault. option_or fault (column_fault number (master_at masters place) 0 line.from))
    (keys_fault-bare number (master_at masters place) 1 line.keys)

-- the same where the master may not be there
found-bare : (number : ℕ) (masters : List (List ℕ × Master)) (line : RuleLine) (found : Option ℕ)
    → option_map_or (λ place. columns_fault number (master_at (map bare_pair masters) place) line) found
    (Some (NoMaster number))
    ≡ option_map_or (λ place. columns_fault number (master_at masters place) line) found (Some (NoMaster number))
found-bare number masters line None = refl
found-bare number masters line (Some place) = columns_fault-bare number masters place line

-- the same of a rule
line_fault-bare : (masters : List (List ℕ × Master)) (number : ℕ) (line : RuleLine)
    → line_fault (map bare_pair masters) number line ≡ line_fault masters number line
line_fault-bare masters number line =
    ap (λ found. option_map_or (λ place. columns_fault number (master_at (map bare_pair masters) place) line) found
    (Some (NoMaster number))) (master_of-bare masters line.master)
    ∙ found-bare number masters line (master_of masters line.master)

-- the same of all rules
first_fault-bare : (masters : List (List ℕ × Master)) (number : ℕ) (lines : List RuleLine)
    → first_fault (map bare_pair masters) number lines ≡ first_fault masters number lines
first_fault-bare masters number [] = refl
first_fault-bare masters number (line ∷ rest) =
    ap (λ fault. option_or fault (first_fault (map bare_pair masters) (number + 1) rest))
    (line_fault-bare masters number line)
    ∙ ap (option_or (line_fault masters number line)) (first_fault-bare masters (number + 1) rest)

-- and the same rules
rule_of-bare : (masters : List (List ℕ × Master)) (line : RuleLine)
    → rule_of (map bare_pair masters) line ≡ rule_of masters line
rule_of-bare masters line =
    ap (λ found. let place = unwrap_or found 0 in rule_over (master_at (map bare_pair masters) place) place line)
    (master_of-bare masters line.master)
    ∙ (let place : ℕ = unwrap_or (master_of masters line.master) 0 in ap
    (λ (master : Master). rule_over master place line) (master_at-bare masters place))

-- so are the rules of all lines
rules-bare : (masters : List (List ℕ × Master)) (lines : List RuleLine)
    → map (rule_of (map bare_pair masters)) lines ≡ map (rule_of masters) lines
rules-bare masters [] = refl
rules-bare masters (line ∷ rest) =
    ap (λ (rule : Rule). rule ∷ map (rule_of (map bare_pair masters)) rest) (rule_of-bare masters line)
    ∙ ap (λ (rules : List Rule). rule_of masters line ∷ rules) (rules-bare masters rest)

-- a master has as many rows as are counted
count-at : (masters : List (List ℕ × Master)) (place : ℕ)
    → get_or (map count_of masters) place 0 ≡ length (slice_index_or (map (λ master. master.1.grid) masters) place
    (record { columns = 0; rows = [] })).rows
count-at [] place = refl
count-at (master ∷ masters) zero = refl
count-at (master ∷ masters) (suc place) = count-at masters place

-- sums of the same terms
fold-same : (f g : ℕ → ℕ) → ((n : ℕ) → f n ≡ g n) → (start : ℕ) (places : List ℕ)
    → fold (λ a n. a + f n) start places ≡ fold (λ a n. a + g n) start places
fold-same f g same start [] = refl
fold-same f g same start (place ∷ places) =
    ap (λ n. fold (λ a n. a + f n) (start + n) places) (same place) ∙ fold-same f g same (start + g place) places

-- the kit with the rows of the masters, and without
module _ (book : Rulebook) (schema : Schema) (masters : List (List ℕ × Master)) (folded : List ℕ) where
  pub entries-bare : entries_over (map count_of masters) (kit_of book schema (map bare_pair masters) folded) ≡ entries
      (kit_of book schema masters folded)
  entries-bare =
      let over : List Rule → Kit = λ rules. record {
        width = length schema.attributes;
        rules = rules;
        masters = map (λ master. master.1.grid) (map bare_pair masters);
        folded = flags_of (length schema.attributes) folded;
      } in
      let kit : Kit = kit_of book schema masters folded in
      ap (λ (rules : List Rule). entries_over (map count_of masters) (over rules)) (rules-bare masters book.lines)
      ∙ fold-same (counted (map count_of masters) kit) (row_count kit)
      (λ place. count-at masters (rule_at kit place).master) 0 (places_of_triples kit)

-- what is bound is the kit, and there is no fault
Ok-parts : (fault : Option BindFault) (kit made : Kit) → option_map_or Err fault (Ok kit) ≡ Ok made
    → (fault ≡ None) × (kit ≡ made)
Ok-parts None kit made is = (refl, cc)
Ok-parts (Some fault) kit made is = absurd (cc)

-- what is bound has no fault, and is the kit
pub bound-parts : (book : Rulebook) (schema : Schema) (masters : List (List ℕ × Master)) (folded : List ℕ) (kit : Kit)
    → bound book schema masters folded ≡ Ok kit
    → (first_fault masters 1 book.lines ≡ None) × (kit_of book schema masters folded ≡ kit)
unfolding bound
bound-parts book schema masters folded kit is =
    Ok-parts (first_fault masters 1 book.lines) (kit_of book schema masters folded) kit is

-- where there is no fault the kit is bound
bound-from : (book : Rulebook) (schema : Schema) (masters : List (List ℕ × Master)) (folded : List ℕ)
    → first_fault masters 1 book.lines ≡ None
    → bound book schema masters folded ≡ Ok (kit_of book schema masters folded)
unfolding bound
bound-from book schema masters folded none =
    ap (λ fault. let made : Result Kit BindFault = option_map_or Err fault (Ok (kit_of book schema masters folded)) in
    made) none

-- a kit has as many masters as were named
pub masters-bound : (book : Rulebook) (schema : Schema) (masters : List (List ℕ × Master)) (folded : List ℕ)
    (kit : Kit) → bound book schema masters folded ≡ Ok kit
    → length kit.masters ≡ length masters
masters-bound book schema masters folded kit is =
    ap (λ (one : Kit). length one.masters) (sym (bound-parts book schema masters folded kit is).1)
    ∙ (rw length-map refl)

-- rules that bind over the masters bind without their rows, and have as many entries
pub narrow-bare : (book : Rulebook) (schema : Schema) (masters : List (List ℕ × Master)) (folded : List ℕ) (kit : Kit)
    → bound book schema masters folded ≡ Ok kit → entries kit ≤ 2000000
    → (bare : Kit) × (bound book schema (map bare_pair masters) folded ≡ Ok bare) ×
    (entries_over (map count_of masters) bare ≤ 2000000)
narrow-bare book schema masters folded kit is narrow =
    let parts = bound-parts book schema masters folded kit is in (
      kit_of book schema (map bare_pair masters) folded,
      bound-from book schema (map bare_pair masters) folded (first_fault-bare masters 1 book.lines ∙ parts.0),
      omega (arith, entries-bare book schema masters folded, ap entries parts.1),
    )

-- and the other way
pub narrow-whole : (book : Rulebook) (schema : Schema) (masters : List (List ℕ × Master)) (folded : List ℕ)
    (bare : Kit) → bound book schema (map bare_pair masters) folded ≡ Ok bare
    → entries_over (map count_of masters) bare ≤ 2000000
    → (kit : Kit) × (bound book schema masters folded ≡ Ok kit) × (entries kit ≤ 2000000)
narrow-whole book schema masters folded bare is narrow =
    let parts = bound-parts book schema (map bare_pair masters) folded bare is in (
      kit_of book schema masters folded,
      bound-from book schema masters folded (sym (first_fault-bare masters 1 book.lines) ∙ parts.0),
      omega (arith, entries-bare book schema masters folded, ap (entries_over (map count_of masters)) parts.1),
    )
