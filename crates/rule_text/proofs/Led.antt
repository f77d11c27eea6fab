-- What is told where a test refused nothing, and by the grammar of a token that leads somewhere.
use Rattle.std.proofs.Common.{◌≡◌, ◌∙◌, ℕ, ◌==◌, Bool, true, false, List}
use Rattle.std.proofs.Common.{Option, Some, Result, Ok, Err, refl, sym, ap, inl}
use Rattle.std.proofs.Common.{inr, eqb-true}
use Rattle.std.specs.Prelude.{◌⊎◌, if◌then◌else◌}
use Rattle.std.proofs.lemmas.Slice.Eq.{bytes_eq-Decides}
use Rattle.rule_text.specs.declared.fault.RuleFault.{RuleFault}
use Rattle.rule_text.specs.declared.token.Mark.{Mark}
use Rattle.rule_text.specs.declared.token.Mark.TheVariants as mark
use Rattle.rule_text.specs.declared.token.Token.{Token}
use Rattle.rule_text.specs.declared.token.Token.TheVariants.{Word, Quoted, Sign}
use Rattle.rule_text.specs.declared.grammar.Expected.{Expected}
use Rattle.rule_text.specs.declared.draft.Draft.{Draft}
use Rattle.rule_text.specs.Grammar.{leads}
use Rattle.rule_text.specs.Tokens.{is_keyword, is_sign, mark_number}
use Rattle.rule_text.specs.Reading.{and_then}

-- ---- tests that refused nothing

-- a value is answered only where the test in front of it refused nothing
pub unless-Ok : {A : Type 0} (test : Bool) (fault : RuleFault) (others : Result A RuleFault) (value : A)
    → (if test then Err fault else others) ≡ Ok value → (test ≡ false) × (others ≡ Ok value)
unless-Ok true fault others value is = absurd cc
unless-Ok false fault others value is = (refl, is)

-- what is read of an answer that is given is that answer
pub same-draft : (draft after : Draft) → (let read : Result Draft RuleFault = Ok draft in read) ≡ Ok after
    → draft ≡ after
same-draft draft after is = cc

-- ---- what the grammar tells of a token

-- a token that leads somewhere passed its test
pub led : (test : Bool) (to after : Expected) → leads test to ≡ Some after → (test ≡ true) × (to ≡ after)
led true to after is = (refl, cc)
led false to after is = absurd cc

-- a token that leads somewhere passed the first test, or failed it and leads there by the others
pub led_either : (test : Bool) (to after : Expected) (others : Option Expected)
    → (if test then Some to else others) ≡ Some after
    → ((test ≡ true) × (to ≡ after)) ⊎ ((test ≡ false) × (others ≡ Some after))
led_either true to after others is = inl (refl, cc)
led_either false to after others is = inr (refl, is)

-- a keyword is the word that it is
pub keyword-word : (word : List ℕ) (token : Token) → is_keyword word token ≡ true → token ≡ Word word
keyword-word word (Word bytes) is = ap Word ((bytes_eq-Decides bytes word).0 is)
keyword-word word (Quoted bytes) is = absurd cc
keyword-word word (Sign own) is = absurd cc

-- the mark of a number
abbrev pub mark_of : ℕ → Mark
mark_of n = if n == 0 then mark.Colon else if n == 1 then mark.Comma else if n == 2 then mark.Equals else if n == 3
    then mark.Arrow else if n == 4 then mark.Semicolon else if n == 5 then mark.Opening else mark.Closing

-- a mark is that of its number
pub mark_of-number : (own : Mark) → mark_of (mark_number own) ≡ own
mark_of-number mark.Colon = refl
mark_of-number mark.Comma = refl
mark_of-number mark.Equals = refl
mark_of-number mark.Arrow = refl
mark_of-number mark.Semicolon = refl
mark_of-number mark.Opening = refl
mark_of-number mark.Closing = refl

-- a token that is a mark is that mark
pub sign-mark : (wanted : Mark) (token : Token) → is_sign wanted token ≡ true → token ≡ Sign wanted
sign-mark wanted (Word bytes) is = absurd cc
sign-mark wanted (Quoted bytes) is = absurd cc
sign-mark wanted (Sign own) is = ap Sign (sym (mark_of-number own) ∙ ap mark_of (eqb-true _ _ is) ∙ mark_of-number
    wanted)

-- where one answer follows from another, both were given
pub and_then-Ok : {A B : Type 0} (first : Result A RuleFault) (others : A → Result B RuleFault) (value : B)
    → and_then first others ≡ Ok value → (x : A) × (first ≡ Ok x) × (others x ≡ Ok value)
and_then-Ok (Ok x) others value is = (x, refl, is)
and_then-Ok (Err fault) others value is = absurd cc
