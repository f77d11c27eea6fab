-- What is read of a text is a rulebook.
use Rattle.std.proofs.Common.{◌≡◌, ℕ, ◌≤◌, List, []}
use Rattle.std.proofs.Common.{length, Option, Some, None, Ok, refl, subst, arith, inl}
use Rattle.std.proofs.Common.{inr}
use Rattle.std.specs.Prelude.{filter, slice_get}
use Rattle.std.proofs.lemmas.Option.{slice_get_cases}
use Rattle.schema_core.specs.declared.schema.Schema.{Schema}
use Rattle.rule_text.specs.declared.grammar.Expected.TheVariants as expected
use Rattle.rule_text.specs.declared.grammar.Taken.{Taken}
use Rattle.rule_text.specs.declared.rulebook.Rulebook.{Rulebook}
use Rattle.rule_text.specs.declared.draft.Draft.{Draft}
use Rattle.rule_text.specs.Tokenizer.{tokens_of}
use Rattle.rule_text.specs.Reading.{draft_following}
use Rattle.rule_text.specs.Reading.{with_tokens, begins_rule, extra_rule, book_of}
use Rattle.rule_text.specs.Reading.{book_unless, read_rules}
use Rattle.rule_text.specs.Rulebooks.{IsRulebook}
use Rattle.rule_text.proofs.Walk.{IsChain-from_text}
use Rattle.rule_text.proofs.Led.{and_then-Ok}
use Rattle.rule_text.proofs.Held.{AtRule}
use Rattle.rule_text.proofs.Following.{hold-tokens}
use Rattle.rule_text.proofs.Counting.{count-tokens}

-- there are at most 200 where there is none after them
few : {A : Type 0} (xs : List A) → slice_get xs 200 ≡ None → length xs ≤ 200
few xs none = elim (slice_get_cases xs 200).1 [ inl (x, within, is, at) ↦ absurd cc | inr (past, is) ↦ past ]

-- what is read as a rulebook has at most 200 rules, and was made token by token
pub extra-none : (schema : Schema) (tokens : List Taken) (extra : Option Taken) (rulebook : Rulebook)
    → extra_rule tokens ≡ extra → book_unless extra schema tokens ≡ Ok rulebook
    → (length (filter begins_rule tokens) ≤ 200)
    × ((draft : Draft) × (with_tokens schema tokens (draft_following []) ≡ Ok draft) × (book_of draft ≡ rulebook))
extra-none schema tokens (Some extra) rulebook is read = absurd cc
extra-none schema tokens None rulebook is read =
    let (draft, walked, whole) =
    and_then-Ok (with_tokens schema tokens (draft_following [])) (λ draft. Ok (book_of draft)) rulebook read in
    (few (filter begins_rule tokens) is, (draft, walked, cc))

-- what a text reads as is a rulebook
pub IsRulebook-from_text : (text : List ℕ) (schema : Schema) (rulebook : Rulebook)
    → read_rules text schema ≡ Ok rulebook → IsRulebook schema rulebook
unfolding read_rules
IsRulebook-from_text text schema rulebook read =
    let (tokens, spelled, others) =
    and_then-Ok (tokens_of text) (λ tokens. book_unless (extra_rule tokens) schema tokens) rulebook read in
    let chain = IsChain-from_text expected.Rule _ 0 text tokens spelled in
    let (fits, (draft, walked, is)) = extra-none schema tokens (extra_rule tokens) rulebook refl others in
    let nothing : AtRule schema (draft_following []) =
    record { closed = record { lines = tt; apart = tt }; no_keys = refl; no_conds = refl; no_texts = refl } in
    let whole = hold-tokens schema expected.Rule tokens (draft_following []) draft chain walked nothing in
    let counted = count-tokens schema expected.Rule tokens (draft_following []) draft chain walked in
    subst (IsRulebook schema) is (record {
      fits = omega arith;
      lines = whole.closed.lines;
      named_apart = whole.closed.apart;
    })
