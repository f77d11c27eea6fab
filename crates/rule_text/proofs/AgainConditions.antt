-- Conditions are read again as they are printed.
use Rattle.std.proofs.Common.{◌≡◌, ℕ, ◌<◌, ◌≤◌, ◌==◌, Bool, true, false}
use Rattle.std.proofs.Common.{List, [], ◌∷◌, ◌++◌, length, map, refl, sym}
use Rattle.std.proofs.Common.{subst, append_assoc, arith, Some, Ok}
use Rattle.std.specs.Prelude.{codes}
use Rattle.std.specs.List.{AllByRecursion}
use Rattle.std.proofs.lemmas.Bool.{or_parts}
use Rattle.fix_model.specs.declared.pattern.Pat.{Pat}
use Rattle.fix_model.specs.declared.pattern.Pat.TheVariants.{Is, IsNot, OneOf, NoneOf, Any}
use Rattle.schema_core.specs.declared.schema.Schema.{Schema}
use Rattle.schema_core.specs.Schemas.{IsSchema}
use Rattle.desk_base.specs.Words.{is_word}
use Rattle.rule_text.specs.declared.grammar.Expected.{Expected}
use Rattle.rule_text.specs.declared.grammar.Expected.TheVariants as expected
use Rattle.rule_text.specs.declared.place.Place.{Place}
use Rattle.rule_text.specs.declared.token.Mark.TheVariants as mark
use Rattle.rule_text.specs.declared.token.Token.TheVariants.{Word, Sign}
use Rattle.rule_text.specs.declared.rulebook.RuleLine.{RuleLine}
use Rattle.rule_text.specs.Tokens.{piece_at}
use Rattle.rule_text.specs.Grammar.{next}
use Rattle.rule_text.specs.Tokenizer.{is_between_rules}
use Rattle.rule_text.specs.Reading.{has_attribute, with_token}
use Rattle.rule_text.specs.Patterns.{set_of}
use Rattle.rule_text.specs.Rulebooks.{IsPlain, IsPattern, AreDistinct, ArePairs}
use Rattle.rule_text.specs.Printing.{string_text, attribute_text, listed, set_text}
use Rattle.rule_text.specs.Printing.{pattern_text, cond_text}
use Rattle.rule_text.proofs.Parts.{nat_eq-other}
use Rattle.rule_text.proofs.Spelled.{Stops}
use Rattle.rule_text.proofs.Steps.{Reads, ◌▸◌, reads-of, reads-token, reads-word, reads-string}
use Rattle.rule_text.proofs.AgainKeys.{attribute_text-word, attribute_of-text, ruled, drafted, not_eight}
use Rattle.rule_text.proofs.AgainKeys.{not_sixty_four, is_long-fits, free-before, append-shift, space, stops-space}
use Rattle.rule_text.proofs.AgainKeys.{stops-comma, stops-closing}

-- ---- conditions

module _ (schema : Schema) (lines : List RuleLine) (line : RuleLine) (attribute : ℕ) (negated : Bool) where
  -- the texts of a set
  pub reads-texts : (all : List (List ℕ)) → length all ≤ 64
      → (front : List (List ℕ)) (text : List ℕ) (others : List (List ℕ)) (rest : List ℕ)
      → front ++ text ∷ others ≡ all → AllByRecursion IsPlain (text ∷ others) → Stops rest
      → Reads schema expected.Item (drafted lines line attribute negated front)
      (listed (map string_text (text ∷ others)) ++ rest) expected.AfterItem
      (drafted lines line attribute negated all) rest 0
  unfolding next with_token piece_at
  reads-texts all fits front text [] rest whole plain stops =
      let room = not_sixty_four front text [] all whole fits in
      let below = is_long-fits text plain.0.fits in
      subst (λ (texts : List (List ℕ)). Reads schema expected.Item (drafted lines line attribute negated front)
      (string_text text ++ rest) expected.AfterItem (drafted lines line attribute negated texts) rest 0) whole
      (reads-string schema expected.Item expected.AfterItem (drafted lines line attribute negated front)
      (drafted lines line attribute negated (front ++ text ∷ [])) text rest 0 plain.0 stops refl
      (λ place. rw (room, below) refl) refl)
  reads-texts all fits front text (second ∷ others) rest whole plain stops =
      let room = not_sixty_four front text (second ∷ others) all whole fits in
      let below = is_long-fits text plain.0.fits in
      let tail = listed (map string_text (second ∷ others)) ++ rest in
      let between = drafted lines line attribute negated (front ++ text ∷ []) in
      reads-of (listed (map string_text (text ∷ second ∷ others)) ++ rest) (string_text text ++ (codes ", " ++ tail))
      (simp append_assoc)
      (reads-string schema expected.Item expected.AfterItem (drafted lines line attribute negated front) between text
      (codes ", " ++ tail) 0 plain.0 (stops-comma _) refl (λ place. rw (room, below) refl) refl
      ▸ reads-token schema expected.AfterItem expected.Item between between 44 (32 ∷ tail) (32 ∷ tail)
      (Sign mark.Comma) 0 0 refl refl refl (λ place. refl) refl
      ▸ space schema expected.Item between tail
      ▸ reads-texts all fits (front ++ text ∷ []) second others rest
      (append-shift front text (second ∷ others) all whole) plain.1 stops)

  -- a rule with one more condition
  abbrev pub longer : Pat → RuleLine
  longer pat = record line { conds = line.conds ++ (attribute, pat) ∷ [] }

  -- a set, after `in`
  pub reads-set : (texts : List (List ℕ)) (rest : List ℕ) → (1 ≤ length texts) × (length texts ≤ 64)
      → AllByRecursion IsPlain texts
      → Reads schema expected.Open (drafted lines line attribute negated []) (set_text texts ++ rest)
      expected.AfterCond (drafted lines (longer (set_of negated texts)) attribute negated []) rest 0
  unfolding next with_token piece_at
  reads-set [] rest sized plain = let some = sized.0 in absurd (omega arith)
  reads-set (text ∷ others) rest sized plain =
      let texts = text ∷ others in
      let tail = listed (map string_text texts) ++ (41 ∷ rest) in
      let start = drafted lines line attribute negated [] in
      let full = drafted lines line attribute negated texts in
      reads-of (set_text texts ++ rest) (40 ∷ tail) (simp append_assoc)
      (reads-token schema expected.Open expected.Item start start 40 tail tail (Sign mark.Opening) 0 0 refl refl refl
      (λ place. refl) refl
      ▸ reads-texts texts sized.1 [] text others (41 ∷ rest) refl plain (stops-closing rest)
      ▸ reads-token schema expected.AfterItem expected.AfterCond full
      (drafted lines (longer (set_of negated texts)) attribute negated []) 41 rest rest (Sign mark.Closing) 0 0 refl
      refl refl (λ place. refl) refl)

-- a word after a space, by which no more is told than whether texts are excluded
reads-sense : (schema : Schema) (lines : List RuleLine) (line : RuleLine) (attribute : ℕ) (before after : Expected)
    (negated now : Bool) (word tail : List ℕ)
    → is_word word ≡ true → next before (Word word) ≡ Some after
    → ((place : Place) → with_token schema before (Word word) place (drafted lines line attribute negated [])
    ≡ Ok (drafted lines line attribute now []))
    → is_between_rules before ≡ false
    → Reads schema before (drafted lines line attribute negated []) (32 ∷ (word ++ 32 ∷ tail)) after
    (drafted lines line attribute now []) (32 ∷ tail) 0
reads-sense schema lines line attribute before after negated now word tail is goes made within =
    let start = drafted lines line attribute negated [] in
    space schema before start (word ++ 32 ∷ tail)
    ▸ reads-word schema before after start (drafted lines line attribute now []) word (32 ∷ tail) 0 is
    (stops-space tail) goes made (rw within refl)

-- what is asked of an attribute
pub reads-pattern : (schema : Schema) (lines : List RuleLine) (line : RuleLine) (attribute : ℕ) (negated : Bool)
    (pat : Pat) (rest : List ℕ)
    → IsPattern pat → Stops rest
    → (now : Bool)
    × Reads schema expected.Test (drafted lines line attribute negated []) (pattern_text pat ++ rest)
    expected.AfterCond (drafted lines (record line { conds = line.conds ++ (attribute, pat) ∷ [] }) attribute now
    []) rest 0
unfolding next with_token piece_at
reads-pattern schema lines line attribute negated (Is constant) rest good stops =
    let open' = drafted lines line attribute false [] in
    let tail = string_text constant ++ rest in (
      false,
      reads-sense schema lines line attribute expected.Test expected.Const negated false (codes "is") tail refl refl
          (λ place. refl) refl
          ▸ space schema expected.Const open' tail
          ▸ reads-string schema expected.Const expected.AfterCond open'
          (drafted lines (record line { conds = line.conds ++ (attribute, Is constant) ∷ [] }) attribute false [])
          constant rest 0 good.plain.0 stops refl (λ place. rw (is_long-fits constant good.plain.0.fits) refl) refl,
    )
reads-pattern schema lines line attribute negated (IsNot constant) rest good stops =
    let open' = drafted lines line attribute false [] in
    let tail = string_text constant ++ rest in (
      false,
      reads-sense schema lines line attribute expected.Test expected.Negated negated false (codes "not") tail refl refl
          (λ place. refl) refl
          ▸ space schema expected.Negated open' tail
          ▸ reads-string schema expected.Negated expected.AfterCond open'
          (drafted lines (record line { conds = line.conds ++ (attribute, IsNot constant) ∷ [] }) attribute false
          []) constant rest 0 good.plain.0 stops refl (λ place. rw (is_long-fits constant good.plain.0.fits) refl)
          refl,
    )
reads-pattern schema lines line attribute negated (OneOf texts) rest good stops =
    let tail = set_text texts ++ rest in (
      false,
      reads-of (pattern_text (OneOf texts) ++ rest) (codes " in " ++ tail) (simp append_assoc)
          (reads-sense schema lines line attribute expected.Test expected.Open negated false (codes "in") tail refl
          refl (λ place. refl) refl
          ▸ space schema expected.Open (drafted lines line attribute false []) tail
          ▸ reads-set schema lines line attribute false texts rest (good.sized refl) good.plain),
    )
reads-pattern schema lines line attribute negated (NoneOf texts) rest good stops =
    let tail = set_text texts ++ rest in (
      true,
      reads-of (pattern_text (NoneOf texts) ++ rest) (codes " not in " ++ tail) (simp append_assoc)
          (reads-sense schema lines line attribute expected.Test expected.Negated negated false (codes "not")
          (codes "in " ++ tail) refl refl (λ place. refl) refl
          ▸ reads-sense schema lines line attribute expected.Negated expected.Open false true (codes "in") tail refl
          refl (λ place. refl) refl
          ▸ space schema expected.Open (drafted lines line attribute true []) tail
          ▸ reads-set schema lines line attribute true texts rest (good.sized refl) good.plain),
    )
reads-pattern schema lines line attribute negated Any rest good stops =
    let start = drafted lines line attribute negated [] in (
      negated,
      space schema expected.Test start (codes "any" ++ rest)
          ▸ reads-word schema expected.Test expected.AfterCond start
          (drafted lines (record line { conds = line.conds ++ (attribute, Any) ∷ [] }) attribute negated [])
          (codes "any") rest 0 refl stops refl (λ place. refl) refl,
    )

-- a condition's attribute is not the head, where no condition has it
pub other-head : (head : ℕ) (front : List (ℕ × Pat)) (cond : ℕ × Pat) (others : List (ℕ × Pat))
    → has_attribute (front ++ cond ∷ others) head ≡ false → (cond.0 == head) ≡ false
other-head head [] cond others none = nat_eq-other head cond.0
    (or_parts (head == cond.0) (has_attribute others head) none).0
other-head head (first ∷ front) cond others none = other-head head front cond others
    (or_parts (head == first.0) (has_attribute (front ++ cond ∷ others) head) none).1

-- what is asked stands after a space
pub stops-pattern : (pat : Pat) (rest : List ℕ) → Stops (pattern_text pat ++ rest)
stops-pattern (Is constant) rest = record { word = refl; string = refl }
stops-pattern (IsNot constant) rest = record { word = refl; string = refl }
stops-pattern (OneOf texts) rest = record { word = refl; string = refl }
stops-pattern (NoneOf texts) rest = record { word = refl; string = refl }
stops-pattern Any rest = record { word = refl; string = refl }

module _ (schema : Schema) (is : IsSchema schema) (lines : List RuleLine) (name master : List ℕ)
    (keys : List (ℕ × List ℕ)) (head : ℕ) (column : List ℕ) (conds : List (ℕ × Pat))
    (are : ArePairs IsPattern schema conds) (no_cond : has_attribute conds head ≡ false) where
  -- one condition
  pub reads-cond : (front : List (ℕ × Pat)) (cond : ℕ × Pat) (others : List (ℕ × Pat)) (attribute : ℕ) (negated : Bool)
      (rest : List ℕ)
      → front ++ cond ∷ others ≡ conds → (cond.0 < length schema.attributes) × IsPattern cond.1 → Stops rest
      → (now : Bool)
      × Reads schema expected.Cond (drafted lines (ruled name master keys head column front) attribute negated [])
      (cond_text schema cond ++ rest) expected.AfterCond (drafted lines
      (ruled name master keys head column (front ++ cond ∷ [])) cond.0 now []) rest 0
  unfolding next with_token piece_at
  reads-cond front cond others attribute negated rest whole good stops =
      let word = attribute_text-word schema is cond.0 good.0 in
      let found = attribute_of-text schema is cond.0 good.0 in
      let room = not_eight front cond others conds whole are.fits in
      let free = free-before front cond others (subst AreDistinct (sym whole) are.distinct) in
      let other = other-head head front cond others (subst (λ (all : List (ℕ × Pat)). has_attribute all head ≡ false)
      (sym whole) no_cond) in
      let begun = drafted lines (ruled name master keys head column front) attribute negated [] in
      let asked = drafted lines (ruled name master keys head column front) cond.0 negated [] in
      let (now, further) =
      reads-pattern schema lines (ruled name master keys head column front) cond.0 negated cond.1 rest good.1 stops in
      let after = pattern_text cond.1 ++ rest in (
        now,
        reads-of (cond_text schema cond ++ rest) (attribute_text schema cond.0 ++ after) (simp append_assoc)
            (reads-word schema expected.Cond expected.Test begun asked (attribute_text schema cond.0) after 0 word
            (stops-pattern cond.1 rest) (rw word refl) (λ place. rw (room, found, free, other) refl) refl
            ▸ further),
      )

  -- the conditions
  pub reads-conds : (front : List (ℕ × Pat)) (cond : ℕ × Pat) (others : List (ℕ × Pat)) (attribute : ℕ) (negated : Bool)
      (rest : List ℕ)
      → front ++ cond ∷ others ≡ conds
      → AllByRecursion (λ q. (q.0 < length schema.attributes) × IsPattern q.1) (cond ∷ others) → Stops rest
      → (last : ℕ)
      × ((now : Bool) × Reads schema expected.Cond (drafted lines (ruled name master keys head column front) attribute
      negated []) (listed (map (cond_text schema) (cond ∷ others)) ++ rest) expected.AfterCond
      (drafted lines (ruled name master keys head column conds) last now []) rest 0)
  unfolding next with_token piece_at
  reads-conds front cond [] attribute negated rest whole good stops =
      let (now, one) = reads-cond front cond [] attribute negated rest whole good.0 stops in (
        cond.0,
        (
          now,
          subst (λ (all : List (ℕ × Pat)). Reads schema expected.Cond
              (drafted lines (ruled name master keys head column front) attribute negated [])
              (cond_text schema cond ++ rest) expected.AfterCond (drafted lines (ruled name master keys head column all)
              cond.0 now []) rest 0) whole one,
        ),
      )
  reads-conds front cond (second ∷ others) attribute negated rest whole good stops =
      let tail = listed (map (cond_text schema) (second ∷ others)) ++ rest in
      let (now, one) =
      reads-cond front cond (second ∷ others) attribute negated (codes ", " ++ tail) whole good.0 (stops-comma _) in
      let between = drafted lines (ruled name master keys head column (front ++ cond ∷ [])) cond.0 now [] in
      let (last, (then', further)) =
      reads-conds (front ++ cond ∷ []) second others cond.0 now rest
      (append-shift front cond (second ∷ others) conds whole) good.1 stops in (
        last,
        (
          then',
          reads-of (listed (map (cond_text schema) (cond ∷ second ∷ others)) ++ rest)
              (cond_text schema cond ++ (codes ", " ++ tail)) (simp append_assoc)
              (one
              ▸ reads-token schema expected.AfterCond expected.Cond between between 44 (32 ∷ tail) (32 ∷ tail)
              (Sign mark.Comma) 0 0 refl refl refl (λ place. refl) refl
              ▸ space schema expected.Cond between tail
              ▸ further),
        ),
      )
