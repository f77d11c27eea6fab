-- What is printed is read again.
use Rattle.std.proofs.Common.{◌≡◌, ◌∙◌, ℕ, ◌+◌, ◌<◌, Bool, true, false}
use Rattle.std.proofs.Common.{◌||◌, List, [], ◌∷◌, ◌++◌, length, map, filter, Ok, None, refl, sym, ap}
use Rattle.std.proofs.Common.{subst, append_assoc, append-nil, arith}
use Rattle.std.specs.Prelude.{codes}
use Rattle.std.specs.Str.{bytes_eq}
use Rattle.std.specs.List.{flat_map, AllByRecursion}
use Rattle.std.proofs.lemmas.Bool.{or_parts}
use Rattle.std.proofs.lemmas.List.Folds.{list_any-append}
use Rattle.std.proofs.lemmas.List.Concat.{flat_map-cons}
use Rattle.std.proofs.lemmas.Option.{slice_get_past}
use Rattle.desk_base.specs.Words.{is_word}
use Rattle.fix_model.specs.declared.pattern.Pat.{Pat}
use Rattle.schema_core.specs.declared.schema.Schema.{Schema}
use Rattle.schema_core.specs.Schemas.{IsSchema}
use Rattle.rule_text.specs.declared.grammar.Expected.{Expected}
use Rattle.rule_text.specs.declared.grammar.Expected.TheVariants as expected
use Rattle.rule_text.specs.declared.grammar.Taken.{Taken}
use Rattle.rule_text.specs.declared.token.Mark.TheVariants as mark
use Rattle.rule_text.specs.declared.token.Token.TheVariants.{Sign}
use Rattle.rule_text.specs.declared.rulebook.RuleLine.{RuleLine}
use Rattle.rule_text.specs.declared.rulebook.Rulebook.{Rulebook}
use Rattle.rule_text.specs.declared.draft.Draft.{Draft}
use Rattle.rule_text.specs.Tokens.{piece_at}
use Rattle.rule_text.specs.Grammar.{next}
use Rattle.rule_text.specs.Tokenizer.{taken_from, tokens_of}
use Rattle.rule_text.specs.Reading.{draft_following, has_name, has_attribute, with_token}
use Rattle.rule_text.specs.Reading.{begins_rule, extra_rule, read_rules}
use Rattle.rule_text.specs.Rulebooks.{IsPlain, IsPattern, ArePairs, IsLine, AreNamedApart}
use Rattle.rule_text.specs.Rulebooks.{IsRulebook}
use Rattle.rule_text.specs.Printing.{column_text, attribute_text, listed, pair_text}
use Rattle.rule_text.specs.Printing.{cond_text, conds_text, line_text, printed}
use Rattle.rule_text.proofs.Parts.{bytes_eq-other}
use Rattle.rule_text.proofs.Spelled.{Stops}
use Rattle.rule_text.proofs.Steps.{Reads, ◌▸◌, reads-of, reads-token, reads-word}
use Rattle.rule_text.proofs.Steps.{reads-column, with_front-none}
use Rattle.rule_text.proofs.AgainKeys.{attribute_text-word, attribute_of-text, ruled, drafted, is_long-fits}
use Rattle.rule_text.proofs.AgainKeys.{append-shift, space, newline, stops-space, stops-semicolon, stops-colon}
use Rattle.rule_text.proofs.AgainKeys.{reads-keys}
use Rattle.rule_text.proofs.AgainConditions.{reads-conds}

-- ---- rules

-- the conditions, where there are some, and the end of the rule
reads-end : (schema : Schema) (is : IsSchema schema) (lines : List RuleLine) (name master : List ℕ)
    (keys : List (ℕ × List ℕ)) (head : ℕ) (column : List ℕ) (conds : List (ℕ × Pat)) (attribute : ℕ) (negated : Bool)
    (rest : List ℕ)
    → ArePairs IsPattern schema conds → has_attribute conds head ≡ false
    → Reads schema expected.AfterHead (drafted lines (ruled name master keys head column []) attribute negated [])
    (conds_text schema conds ++ (codes ";\n" ++ rest)) expected.Rule
    (draft_following (lines ++ ruled name master keys head column conds ∷ [])) rest 0
unfolding next with_token piece_at
reads-end schema is lines name master keys head column [] attribute negated rest are no_cond =
    let whole = drafted lines (ruled name master keys head column []) attribute negated [] in
    let held = draft_following (lines ++ ruled name master keys head column [] ∷ []) in
    reads-token schema expected.AfterHead expected.Rule whole held 59 (10 ∷ rest) (10 ∷ rest) (Sign mark.Semicolon) 0
    0 refl refl refl (λ place. refl) refl
    ▸ newline schema expected.Rule held rest
reads-end schema is lines name master keys head column (cond ∷ others) attribute negated rest are no_cond =
    let conds = cond ∷ others in
    let start = drafted lines (ruled name master keys head column []) attribute negated [] in
    let tail = listed (map (cond_text schema) conds) ++ (codes ";\n" ++ rest) in
    let held = draft_following (lines ++ ruled name master keys head column conds ∷ []) in
    let (last, (now, further)) =
    reads-conds schema is lines name master keys head column conds are no_cond [] cond others attribute negated
    (codes ";\n" ++ rest) refl are.good (stops-semicolon _) in
    let whole = drafted lines (ruled name master keys head column conds) last now [] in
    reads-of (conds_text schema conds ++ (codes ";\n" ++ rest)) (codes " when " ++ tail) (simp append_assoc)
    (space schema expected.AfterHead start (codes "when " ++ tail)
    ▸ reads-word schema expected.AfterHead expected.Cond start start (codes "when") (32 ∷ tail) 0 refl
    (stops-space tail) refl (λ place. refl) refl
    ▸ space schema expected.Cond start tail
    ▸ further
    ▸ reads-token schema expected.AfterCond expected.Rule whole held 59 (10 ∷ rest) (10 ∷ rest) (Sign mark.Semicolon)
    0 0 refl refl refl (λ place. refl) refl
    ▸ newline schema expected.Rule held rest)

-- the head and its column
reads-head : (schema : Schema) (is : IsSchema schema) (lines : List RuleLine) (name master : List ℕ)
    (keys : List (ℕ × List ℕ)) (head : ℕ) (column : List ℕ) (attribute : ℕ) (negated : Bool) (rest : List ℕ)
    → head < length schema.attributes → has_attribute keys head ≡ false → IsPlain column → Stops rest
    → Reads schema expected.Head (drafted lines (ruled name master keys 0 [] []) attribute negated [])
    (pair_text schema (head, column) ++ rest) expected.AfterHead
    (drafted lines (ruled name master keys head column []) attribute negated []) rest 0
unfolding next with_token piece_at
reads-head schema is lines name master keys head column attribute negated rest known free plain stops =
    let word = attribute_text-word schema is head known in
    let found = attribute_of-text schema is head known in
    let fits = is_long-fits column plain.fits in
    let start = drafted lines (ruled name master keys 0 [] []) attribute negated [] in
    let headed = drafted lines (ruled name master keys head [] []) attribute negated [] in
    let held = drafted lines (ruled name master keys head column []) attribute negated [] in
    let tail = column_text column ++ rest in
    reads-of (pair_text schema (head, column) ++ rest) (attribute_text schema head ++ (codes " = " ++ tail))
    (simp append_assoc)
    (reads-word schema expected.Head expected.HeadEquals start headed (attribute_text schema head)
    (codes " = " ++ tail) 0 word (stops-space _) (rw word refl) (λ place. rw (found, free) refl) refl
    ▸ space schema expected.HeadEquals headed (codes "= " ++ tail)
    ▸ reads-token schema expected.HeadEquals expected.HeadColumn headed headed 61 (32 ∷ tail) (32 ∷ tail)
    (Sign mark.Equals) 0 0 refl refl refl (λ place. refl) refl
    ▸ space schema expected.HeadColumn headed tail
    ▸ reads-column schema expected.HeadColumn expected.AfterHead headed held column rest 0 plain stops refl refl
    (λ place. rw fits refl) (λ place. rw fits refl) refl)

-- nor where conditions, or the end of the rule, follow
stops-conds : (schema : Schema) (conds : List (ℕ × Pat)) (rest : List ℕ)
    → Stops (conds_text schema conds ++ (codes ";\n" ++ rest))
stops-conds schema [] rest = record { word = refl; string = refl }
stops-conds schema (cond ∷ others) rest = record { word = refl; string = refl }

-- the keys and what follows
reads-body : (schema : Schema) (is : IsSchema schema) (lines : List RuleLine) (name master : List ℕ)
    (keys : List (ℕ × List ℕ)) (head : ℕ) (column : List ℕ) (conds : List (ℕ × Pat)) (rest : List ℕ)
    → IsLine schema (ruled name master keys head column conds)
    → Reads schema expected.Key (drafted lines (ruled name master [] 0 [] []) 0 false [])
    (listed (map (pair_text schema) keys) ++
    (codes " -> " ++ (pair_text schema (head, column) ++ (conds_text schema conds ++ (codes ";\n" ++ rest)))))
    expected.Rule (draft_following (lines ++ ruled name master keys head column conds ∷ [])) rest 0
unfolding next with_token piece_at
reads-body schema is lines name master [] head column conds rest line = let some = line.some in absurd (omega arith)
reads-body schema is lines name master (key ∷ others) head column conds rest line =
    let keys = key ∷ others in
    let ends = conds_text schema conds ++ (codes ";\n" ++ rest) in
    let tail = pair_text schema (head, column) ++ ends in
    let (last, first) =
    reads-keys schema is lines name master keys line.keys [] key others 0 false (codes " -> " ++ tail) refl
    line.keys.good (stops-space _) in
    let keyed = drafted lines (ruled name master keys 0 [] []) last false [] in
    first
    ▸ space schema expected.AfterKey keyed (codes "-> " ++ tail)
    ▸ reads-token schema expected.AfterKey expected.Head keyed keyed 45 (codes "> " ++ tail) (32 ∷ tail)
    (Sign mark.Arrow) 1 0 refl refl refl (λ place. refl) refl
    ▸ space schema expected.Head keyed tail
    ▸ reads-head schema is lines name master keys head column last false ends line.head line.no_key line.from
    (stops-conds schema conds rest)
    ▸ reads-end schema is lines name master keys head column conds last false rest line.conds line.no_cond

-- ten texts and what is after them, from the left or from the right
ten-append : (a b c d e f g h i j rest : List ℕ)
    → (a ++ b ++ c ++ d ++ e ++ f ++ g ++ h ++ i ++ j) ++ rest
    ≡ a ++ (b ++ (c ++ (d ++ (e ++ (f ++ (g ++ (h ++ (i ++ (j ++ rest)))))))))
ten-append a b c d e f g h i j rest = simp append_assoc

-- a rule
reads-line : (schema : Schema) (is : IsSchema schema) (lines : List RuleLine) (line : RuleLine) (rest : List ℕ)
    → IsLine schema line → has_name lines line.name ≡ false
    → Reads schema expected.Rule (draft_following lines) (line_text schema line ++ rest) expected.Rule
    (draft_following (lines ++ line ∷ [])) rest 1
unfolding next with_token piece_at line_text
reads-line schema is lines line rest good free =
    let start = draft_following lines in
    let named = drafted lines (ruled line.name [] [] 0 [] []) 0 false [] in
    let mastered = drafted lines (ruled line.name line.master [] 0 [] []) 0 false [] in
    let keys = listed (map (pair_text schema) line.keys) ++ (codes " -> " ++
    (pair_text schema (line.head, line.from) ++ (conds_text schema line.conds ++ (codes ";\n" ++ rest)))) in
    let of_master = line.master ++ (codes ": " ++ keys) in
    let of_name = line.name ++ (codes " from " ++ of_master) in
    let name : is_word line.name ≡ true = good.name in
    let master : is_word line.master ≡ true = good.master in
    reads-of (line_text schema line ++ rest) (codes "rule " ++ of_name)
    (ten-append (codes "rule ") line.name (codes " from ") line.master (codes ": ")
    (listed (map (pair_text schema) line.keys)) (codes " -> ") (pair_text schema (line.head, line.from))
    (conds_text schema line.conds) (codes ";\n") rest)
    (reads-word schema expected.Rule expected.Name start start (codes "rule") (32 ∷ of_name) 1 refl (stops-space _)
    refl (λ place. refl) refl
    ▸ space schema expected.Name start of_name
    ▸ reads-word schema expected.Name expected.From start named line.name (codes " from " ++ of_master) 0 name
    (stops-space _) (rw name refl) (λ place. rw free refl) refl
    ▸ space schema expected.From named (codes "from " ++ of_master)
    ▸ reads-word schema expected.From expected.Master named named (codes "from") (32 ∷ of_master) 0 refl
    (stops-space _) refl (λ place. refl) refl
    ▸ space schema expected.Master named of_master
    ▸ reads-word schema expected.Master expected.Colon named mastered line.master (codes ": " ++ keys) 0 master
    (stops-colon _) (rw master refl) (λ place. refl) refl
    ▸ reads-token schema expected.Colon expected.Key mastered mastered 58 (32 ∷ keys) (32 ∷ keys) (Sign mark.Colon) 0
    0 refl refl refl (λ place. refl) refl
    ▸ space schema expected.Key mastered keys
    ▸ reads-body schema is lines line.name line.master line.keys line.head line.from line.conds rest good)

-- among rules with distinct names none of those before has that of a rule
free-name : (front : List RuleLine) (line : RuleLine) (others : List RuleLine)
    → AreNamedApart (front ++ line ∷ others) → has_name front line.name ≡ false
free-name [] line others apart = refl
free-name (first ∷ front) line others apart =
    let parts : (has_name front first.name || (bytes_eq first.name line.name || has_name others first.name)) ≡ false =
    sym (list_any-append (λ l. bytes_eq first.name l.name) front (line ∷ others)) ∙ apart.0 in
    let (free, following) =
    or_parts (has_name front first.name) (bytes_eq first.name line.name || has_name others first.name) parts in
    let (other, further) = or_parts (bytes_eq first.name line.name) (has_name others first.name) following in
    rw (bytes_eq-other first.name line.name other) (free-name front line others apart.1)

-- nothing is read of no bytes
reads-nothing : (schema : Schema) (before : Expected) (draft : Draft) (rest : List ℕ)
    → Reads schema before draft rest before draft rest 0
reads-nothing schema before draft
    rest = record { walk = λ place. ([], (place, (with_front-none (taken_from before place 0 rest), (refl, refl)))) }

-- all rules
reads-lines : (schema : Schema) (is : IsSchema schema) (all front others : List RuleLine) → front ++ others ≡ all
    → AllByRecursion (IsLine schema) others → AreNamedApart all
    → Reads schema expected.Rule (draft_following front) (flat_map (line_text schema) others) expected.Rule
    (draft_following all) [] (length others)
reads-lines schema is all front [] whole good apart =
    subst (λ (lines : List RuleLine). Reads schema expected.Rule (draft_following front) [] expected.Rule
    (draft_following lines) [] 0) (sym (append-nil front) ∙ whole)
    (reads-nothing schema expected.Rule (draft_following front) [])
reads-lines schema is all front (line ∷ others) whole good apart =
    let free = free-name front line others (subst AreNamedApart (sym whole) apart) in
    let further =
    reads-lines schema is all (front ++ line ∷ []) others (append-shift front line others all whole) good.1 apart in
    let one = reads-line schema is front line (flat_map (line_text schema) others) good.0 free ▸ further in
    let counted : 1 + length others ≡ length (line ∷ others) = omega arith in
    rw flat_map-cons (subst (λ (n : ℕ). Reads schema expected.Rule (draft_following front)
    (line_text schema line ++ flat_map (line_text schema) others) expected.Rule (draft_following all) [] n) counted
    one)

-- a printed rulebook reads as itself
pub read_rules-printed : (rulebook : Rulebook) (schema : Schema) → IsSchema schema → IsRulebook schema rulebook
    → read_rules (printed rulebook schema) schema ≡ Ok rulebook
unfolding read_rules
read_rules-printed rulebook schema is good =
    let (tokens, (following, (to, (made, counted)))) =
    (reads-lines schema is rulebook.lines [] rulebook.lines refl good.lines good.named_apart).walk
    (record { line = 1; column = 1 }) in
    let text : tokens_of (printed rulebook schema) ≡ Ok tokens =
    to ∙ ap (λ (all : List Taken). Ok all) (append-nil tokens) in
    let few : extra_rule tokens ≡ None = slice_get_past (filter begins_rule tokens) 200 (omega (arith, good.fits)) in
    rw (text, few, made) refl
