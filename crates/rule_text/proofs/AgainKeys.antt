-- Attributes, marks and keys are read again as they are printed.
use Rattle.std.proofs.Common.{◌≡◌, ◌∙◌, ℕ, zero, suc, ◌+◌, ◌<◌, ◌≤◌, ◌==◌, nat_lt, nat_le, Bool, true, false, not}
use Rattle.std.proofs.Common.{◌||◌, List, [], ◌∷◌, ◌++◌, length, get_or, map, Some, refl, sym, ap}
use Rattle.std.proofs.Common.{subst, append_assoc, arith, inl, inr}
use Rattle.std.specs.Prelude.{codes}
use Rattle.std.specs.Str.{bytes_eq}
use Rattle.std.specs.List.{prefix_len, AllByRecursion}
use Rattle.std.proofs.lemmas.Bool.{cases_Bool, or_parts}
use Rattle.std.proofs.lemmas.Bool.Decides.{nat_tests}
use Rattle.std.proofs.lemmas.List.{length-append}
use Rattle.std.proofs.lemmas.List.Folds.{list_any-append}
use Rattle.std.proofs.lemmas.Option.{unwrap_or-slice_get}
use Rattle.std.proofs.lemmas.Slice.Eq.{bytes_eq-Decides}
use Rattle.desk_base.specs.Words.{is_word}
use Rattle.fix_model.specs.declared.pattern.Pat.{Pat}
use Rattle.schema_core.specs.declared.schema.Schema.{Schema}
use Rattle.schema_core.specs.Schemas.{IsSchema}
use Rattle.rule_text.specs.declared.grammar.Expected.{Expected}
use Rattle.rule_text.specs.declared.grammar.Expected.TheVariants as expected
use Rattle.rule_text.specs.declared.token.Mark.TheVariants as mark
use Rattle.rule_text.specs.declared.token.Token.TheVariants.{Sign}
use Rattle.rule_text.specs.declared.rulebook.RuleLine.{RuleLine}
use Rattle.rule_text.specs.declared.draft.Draft.{Draft}
use Rattle.rule_text.specs.Tokens.{piece_at}
use Rattle.rule_text.specs.Grammar.{next}
use Rattle.rule_text.specs.Reading.{attribute_of, is_long, has_attribute, with_token}
use Rattle.rule_text.specs.Rulebooks.{IsPlain, AreDistinct, ArePairs}
use Rattle.rule_text.specs.Printing.{column_text, attribute_text, listed, pair_text}
use Rattle.rule_text.proofs.Parts.{nat_eq-other}
use Rattle.rule_text.proofs.Spelled.{Stops}
use Rattle.rule_text.proofs.Steps.{Reads, ◌▸◌, reads-of, reads-gap, reads-token, reads-word}
use Rattle.rule_text.proofs.Steps.{reads-column}

-- ---- attributes

-- as many items stand before the first that passes as come before its place
pub prefix_len-first : (test : List ℕ → Bool) (xs : List (List ℕ)) (i : ℕ) → i < length xs
    → test (get_or xs i []) ≡ true → ((k : ℕ) → k < i → test (get_or xs k []) ≡ false)
    → prefix_len (λ x. not (test x)) xs ≡ i
prefix_len-first test [] i within here before = absurd (omega arith)
prefix_len-first test (x ∷ xs) zero within here before = rw here refl
prefix_len-first test (x ∷ xs) (suc i) within here before =
    let first : test x ≡ false = before 0 (omega arith) in
    let more = prefix_len-first test xs i (omega arith) here (λ k below. before (suc k) (omega arith)) in
    rw (first, more) (omega arith)

module _ (schema : Schema) (is : IsSchema schema) (attribute : ℕ) (known : attribute < length schema.attributes) where
  -- an attribute's text is its word
  pub attribute_text-word : is_word (attribute_text schema attribute) ≡ true
  attribute_text-word = rw (unwrap_or-slice_get schema.attributes attribute []) (is.words attribute [] known)

  -- by which it is found again
  pub attribute_of-text : attribute_of schema (attribute_text schema attribute) ≡ Some attribute
  attribute_of-text =
      let word = get_or schema.attributes attribute [] in
      let here : bytes_eq word word ≡ true = (bytes_eq-Decides word word).1 refl in
      let before : (k : ℕ) → k < attribute → bytes_eq word (get_or schema.attributes k []) ≡ false = λ k below.
      elim (cases_Bool (bytes_eq word (get_or schema.attributes k []))) [
        | inl same ↦ absurd (is.distinct k attribute [] below known
            (sym ((bytes_eq-Decides word (get_or schema.attributes k [])).0 same)))
        | inr other ↦ other
      ] in
      let first = prefix_len-first (bytes_eq word) schema.attributes attribute known here before in
      let within : nat_lt attribute (length schema.attributes) ≡ true = grind (arith, nat_tests) in
      rw (unwrap_or-slice_get schema.attributes attribute [], first, within) refl

-- ---- drafts

-- a rule of these parts
abbrev pub ruled : List ℕ → List ℕ → List (ℕ × List ℕ) → ℕ → List ℕ → List (ℕ × Pat) → RuleLine
ruled name master keys head column conds = record {
  name = name;
  master = master;
  keys = keys;
  head = head;
  from = column;
  conds = conds;
}

-- a draft of these parts, with nothing asked yet
abbrev pub drafted : List RuleLine → RuleLine → ℕ → Bool → List (List ℕ) → Draft
drafted lines line attribute negated texts = record {
  lines = lines;
  line = line;
  attribute = attribute;
  negated = negated;
  texts = texts;
}

-- where one more is among at most 8, there are not 8 before it
pub not_eight : {A : Type 0} (front : List A) (x : A) (others all : List A) → front ++ x ∷ others ≡ all → length all ≤ 8
    → nat_le 8 (length front) ≡ false
not_eight front x others all is fits =
    let long : length front + suc (length others) ≡ length all =
    sym (length-append front (x ∷ others)) ∙ ap length is in
    grind (arith, nat_tests)

-- where one more is among at most 64, there are not 64 before it
pub not_sixty_four : (front : List (List ℕ)) (x : List ℕ) (others all : List (List ℕ)) → front ++ x ∷ others ≡ all
    → length all ≤ 64 → nat_le 64 (length front) ≡ false
not_sixty_four front x others all is fits =
    let long : length front + suc (length others) ≡ length all =
    sym (length-append front (x ∷ others)) ∙ ap length is in
    grind (arith, nat_tests)

-- a text of at most 200 bytes is not too long
pub is_long-fits : (text : List ℕ) → length text ≤ 200 → is_long text ≡ false
is_long-fits text fits = grind (arith, nat_tests)

-- among distinct attributes none of those before has that of a pair
pub free-before : {A : Type 0} (front : List (ℕ × A)) (pair : ℕ × A) (others : List (ℕ × A))
    → AreDistinct (front ++ pair ∷ others) → has_attribute front pair.0 ≡ false
free-before [] pair others distinct = refl
free-before (first ∷ front) pair others distinct =
    let apart : has_attribute (front ++ pair ∷ others) first.0 ≡ false = distinct.0 in
    let parts : (has_attribute front first.0 || (first.0 == pair.0 || has_attribute others first.0)) ≡ false =
    sym (list_any-append (λ q. first.0 == q.0) front (pair ∷ others)) ∙ apart in
    let (free, following) =
    or_parts (has_attribute front first.0) (first.0 == pair.0 || has_attribute others first.0) parts in
    let (other, further) = or_parts (first.0 == pair.0) (has_attribute others first.0) following in
    rw (nat_eq-other first.0 pair.0 other) (free-before front pair others distinct.1)

-- an item moves from the front of what follows to the end of what is done
pub append-shift : {A : Type 0} (front : List A) (x : A) (others all : List A) → front ++ x ∷ others ≡ all
    → (front ++ x ∷ []) ++ others ≡ all
append-shift front x others all is = append_assoc front (x ∷ []) others ∙ is

-- ---- blanks and marks

module _ (schema : Schema) (before : Expected) (draft : Draft) (rest : List ℕ) where
  -- a space is passed over
  pub space : Reads schema before draft (32 ∷ rest) before draft rest 0
  unfolding piece_at
  space = reads-gap schema before draft 32 rest refl

  -- and so is a line end
  pub newline : Reads schema before draft (10 ∷ rest) before draft rest 0
  unfolding piece_at
  newline = reads-gap schema before draft 10 rest refl

-- no word and no string goes on at a space
pub stops-space : (rest : List ℕ) → Stops (32 ∷ rest)
stops-space rest = record { word = refl; string = refl }

-- nor at a comma
pub stops-comma : (rest : List ℕ) → Stops (44 ∷ rest)
stops-comma rest = record { word = refl; string = refl }

-- nor at a closing parenthesis
pub stops-closing : (rest : List ℕ) → Stops (41 ∷ rest)
stops-closing rest = record { word = refl; string = refl }

-- nor at a semicolon
pub stops-semicolon : (rest : List ℕ) → Stops (59 ∷ rest)
stops-semicolon rest = record { word = refl; string = refl }

-- nor at a colon
pub stops-colon : (rest : List ℕ) → Stops (58 ∷ rest)
stops-colon rest = record { word = refl; string = refl }

-- ---- keys

module _ (schema : Schema) (is : IsSchema schema) (lines : List RuleLine) (name master : List ℕ)
    (keys : List (ℕ × List ℕ)) (are : ArePairs IsPlain schema keys) where
  -- one key
  pub reads-key : (front : List (ℕ × List ℕ)) (key : ℕ × List ℕ) (others : List (ℕ × List ℕ)) (attribute : ℕ)
      (negated : Bool) (rest : List ℕ)
      → front ++ key ∷ others ≡ keys → (key.0 < length schema.attributes) × IsPlain key.1 → Stops rest
      → Reads schema expected.Key (drafted lines (ruled name master front 0 [] []) attribute negated [])
      (pair_text schema key ++ rest) expected.AfterKey (drafted lines
      (ruled name master (front ++ key ∷ []) 0 [] []) key.0 negated []) rest 0
  unfolding next with_token piece_at
  reads-key front key others attribute negated rest whole good stops =
      let word = attribute_text-word schema is key.0 good.0 in
      let found = attribute_of-text schema is key.0 good.0 in
      let room = not_eight front key others keys whole are.fits in
      let free = free-before front key others (subst AreDistinct (sym whole) are.distinct) in
      let fits = is_long-fits key.1 good.1.fits in
      let begun = drafted lines (ruled name master front 0 [] []) attribute negated [] in
      let named = drafted lines (ruled name master front 0 [] []) key.0 negated [] in
      let held = drafted lines (ruled name master (front ++ key ∷ []) 0 [] []) key.0 negated [] in
      let column = column_text key.1 ++ rest in
      reads-of (pair_text schema key ++ rest) (attribute_text schema key.0 ++ (codes " = " ++ column))
      (simp append_assoc)
      (reads-word schema expected.Key expected.KeyEquals begun named (attribute_text schema key.0)
      (codes " = " ++ column) 0 word (stops-space _) (rw word refl) (λ place. rw (room, found, free) refl) refl
      ▸ space schema expected.KeyEquals named (codes "= " ++ column)
      ▸ reads-token schema expected.KeyEquals expected.KeyColumn named named 61 (32 ∷ column) (32 ∷ column)
      (Sign mark.Equals) 0 0 refl refl refl (λ place. refl) refl
      ▸ space schema expected.KeyColumn named column
      ▸ reads-column schema expected.KeyColumn expected.AfterKey named held key.1 rest 0 good.1 stops refl refl
      (λ place. rw fits refl) (λ place. rw fits refl) refl)

  -- the keys
  pub reads-keys : (front : List (ℕ × List ℕ)) (key : ℕ × List ℕ) (others : List (ℕ × List ℕ)) (attribute : ℕ)
      (negated : Bool) (rest : List ℕ)
      → front ++ key ∷ others ≡ keys
      → AllByRecursion (λ k. (k.0 < length schema.attributes) × IsPlain k.1) (key ∷ others) → Stops rest
      → (last : ℕ)
      × Reads schema expected.Key (drafted lines (ruled name master front 0 [] []) attribute negated [])
      (listed (map (pair_text schema) (key ∷ others)) ++ rest) expected.AfterKey
      (drafted lines (ruled name master keys 0 [] []) last negated []) rest 0
  unfolding next with_token piece_at
  reads-keys front key [] attribute negated rest whole good stops = (
    key.0,
    subst (λ (all : List (ℕ × List ℕ)). Reads schema expected.Key
        (drafted lines (ruled name master front 0 [] []) attribute negated []) (pair_text schema key ++ rest)
        expected.AfterKey (drafted lines (ruled name master all 0 [] []) key.0 negated []) rest 0) whole
        (reads-key front key [] attribute negated rest whole good.0 stops),
  )
  reads-keys front key (second ∷ others) attribute negated rest whole good stops =
      let tail = listed (map (pair_text schema) (second ∷ others)) ++ rest in
      let (last, further) =
      reads-keys (front ++ key ∷ []) second others key.0 negated rest
      (append-shift front key (second ∷ others) keys whole) good.1 stops in
      let between = drafted lines (ruled name master (front ++ key ∷ []) 0 [] []) key.0 negated [] in (
        last,
        reads-of (listed (map (pair_text schema) (key ∷ second ∷ others)) ++ rest)
            (pair_text schema key ++ (codes ", " ++ tail)) (simp append_assoc)
            (reads-key front key (second ∷ others) attribute negated (codes ", " ++ tail) whole good.0 (stops-comma _)
            ▸ reads-token schema expected.AfterKey expected.Key between between 44 (32 ∷ tail) (32 ∷ tail)
            (Sign mark.Comma) 0 0 refl refl refl (λ place. refl) refl
            ▸ space schema expected.Key between tail
            ▸ further),
      )
